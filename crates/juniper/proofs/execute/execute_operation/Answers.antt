use Rattle.std.proofs.Common.{option_map, refl, sym, ap, ◌∙◌}
use Rattle.std.proofs.lemmas.Result.{err_from_is_err_and}
use Rattle.graphql_spec.specs.Requests as spec
use Rattle.graphql_spec.specs.Shown.{Name}
use Rattle.juniper_syntax.specs.DocumentView.{view_document, view_kind, view_operation}
use Rattle.juniper_syntax.specs.InputView.{view_variables}
use Rattle.juniper_schema.specs.SchemaView.{view_schema}
use Rattle.juniper.specs.Answering.{outcome_of}
use Rattle.juniper.specs.Services.{service_at}
use Rattle.juniper.specs.WalkedOutcomes.{IsWalkedOutcome}
use Rattle.juniper.specs.Budgets.{IsRunOver}
use Rattle.juniper.proofs.Bounded.{stop-refuses, stop-runs}
use Rattle.juniper.proofs.Composing.{subscription-ends, mutation-answers, mutation-ends, mutation-left, mutation-lists, mutation-over, query-ends, query-lists}
use Rattle.juniper.proofs.Composing.{query-over}
use Rattle.juniper.proofs.execute.execute_operation.Goals as goal

pub returns-in-Subscription-clause-answers : goal.returns-in-Subscription-clause-answers
returns-in-Subscription-clause-answers g c = λ disabled.
    let shown = g.S.ScalarValue.shown in
    let root = c.args.served.now in
    let s = view_schema shown root.schema.now in
    let m = g.M.MutationSteps.steps c.args.steps.now in
    let S = service_at (g.R.NodeTypes.meaning root.resolver.now) m c.args.root.now s disabled in (
      spec.is_subscription,
      refl,
      (
        subscription-ends S s (view_document shown c.args.document.now) (view_operation shown c.args.operation.now)
            (view_variables shown c.args.variables.now) c.args.context.now (ap view_kind c.in-Subscription.is),
        tt,
        tt,
      ),
    )

pub returns-in_default-clause-answers : goal.returns-in_default-clause-answers
returns-in_default-clause-answers g c = λ disabled.
    let shown = g.S.ScalarValue.shown in
    let root = c.args.served.now in
    let s = view_schema shown root.schema.now in
    let m = g.M.MutationSteps.steps c.args.steps.now in
    let S = service_at (g.R.NodeTypes.meaning root.resolver.now) m c.args.root.now s disabled in
    let d = view_document shown c.args.document.now in
    let o = view_operation shown c.args.operation.now in
    let given = view_variables shown c.args.variables.now in (
      spec.no_mutation_type,
      refl,
      (
        mutation-ends S s d o given c.args.context.now (ap view_kind c.in-Mutation.is)
            (sym c.mutation_name.ensures ∙ ap (option_map (λ n. n.now)) c.in_default.is),
        tt,
        tt,
      ),
    )

pub returns-in-Err-clause-answers : goal.returns-in-Err-clause-answers
returns-in-Err-clause-answers g c = λ disabled.
    let shown = g.S.ScalarValue.shown in
    let root = c.args.served.now in
    let s = view_schema shown root.schema.now in
    let m = g.M.MutationSteps.steps c.args.steps.now in
    let S = service_at (g.R.NodeTypes.meaning root.resolver.now) m c.args.root.now s disabled in
    let d = view_document shown c.args.document.now in
    let o = view_operation shown c.args.operation.now in
    let given = view_variables shown c.args.variables.now in
    let T = c.in-Some.concrete.now in
    let is = sym c.mutation_name.ensures ∙ ap (option_map (λ n. n.now)) c.in-Some.is in
    stop-refuses (λ r. IsWalkedOutcome S root.walking (outcome_of s d o given) c.args.context.now r c.execute_mutation.new.context) c.in-Err.stop _
    c.from.ensures (
      mutation-left S s d o given c.args.context.now (ap view_kind c.in-Mutation.is) T is m
          (ap (option_map (λ (n : Name). m)) is, is) _ c.in_ok-values-in-Mutation.ensures
          c.execute_mutation.new.context c.in-Err.ensures.walked,
      tt,
      tt,
    )

pub returns-in-Mutation-clause-answers : goal.returns-in-Mutation-clause-answers
returns-in-Mutation-clause-answers g c = λ disabled.
    let shown = g.S.ScalarValue.shown in
    let root = c.args.served.now in
    let s = view_schema shown root.schema.now in
    let m = g.M.MutationSteps.steps c.args.steps.now in
    let S = service_at (g.R.NodeTypes.meaning root.resolver.now) m c.args.root.now s disabled in
    let d = view_document shown c.args.document.now in
    let o = view_operation shown c.args.operation.now in
    let given = view_variables shown c.args.variables.now in
    let T = c.in-Some.concrete.now in
    let is = sym c.mutation_name.ensures ∙ ap (option_map (λ n. n.now)) c.in-Some.is in (
      mutation-answers S s d o given c.args.context.now (ap view_kind c.in-Mutation.is) T is m
          (ap (option_map (λ (n : Name). m)) is, is) _ c.in_ok-values-in-Mutation.ensures
          c.execute_mutation.new.context _ _ c.in-Ok.ensures.walked.0,
      c.in-Ok.ensures.walked.1,
      mutation-lists S s d o given c.args.context.now (ap view_kind c.in-Mutation.is) T is m
          (ap (option_map (λ (n : Name). m)) is, is) _ c.in_ok-values-in-Mutation.ensures
          c.execute_mutation.new.context root.walking _ _ c.in-Ok.ensures.walked.2,
    )

pub returns-clause-answers : goal.returns-clause-answers
returns-clause-answers g c = λ disabled.
    let shown = g.S.ScalarValue.shown in
    let root = c.args.served.now in
    let s = view_schema shown root.schema.now in
    let m = g.M.MutationSteps.steps c.args.steps.now in
    let S = service_at (g.R.NodeTypes.meaning root.resolver.now) m c.args.root.now s disabled in (
      query-ends S s (view_document shown c.args.document.now) (view_operation shown c.args.operation.now)
          (view_variables shown c.args.variables.now) c.args.context.now
          (ap view_kind c.in-Query.is) _ c.in_ok-values-in-Query.ensures _ _ c.in_ok-answered-in-Query.ensures.walked.0,
      c.in_ok-answered-in-Query.ensures.walked.1,
      query-lists S s (view_document shown c.args.document.now) (view_operation shown c.args.operation.now)
          (view_variables shown c.args.variables.now) c.args.context.now
          (ap view_kind c.in-Query.is) _ c.in_ok-values-in-Query.ensures root.walking _ _ c.in_ok-answered-in-Query.ensures.walked.2,
    )

pub returns-in-Err-clause-spent : goal.returns-in-Err-clause-spent
returns-in-Err-clause-spent g c = λ disabled.
    let shown = g.S.ScalarValue.shown in
    let root = c.args.served.now in
    let s = view_schema shown root.schema.now in
    let m = g.M.MutationSteps.steps c.args.steps.now in
    let S = service_at (g.R.NodeTypes.meaning root.resolver.now) m c.args.root.now s disabled in
    let d = view_document shown c.args.document.now in
    let o = view_operation shown c.args.operation.now in
    let given = view_variables shown c.args.variables.now in
    let T = c.in-Some.concrete.now in
    let is = sym c.mutation_name.ensures ∙ ap (option_map (λ n. n.now)) c.in-Some.is in
    stop-runs (Unit {0}) (IsRunOver S (outcome_of s d o given) c.args.context.now) c.args.fields _ c.in-Err.stop _ c.from.ensures c.in-Err.ensures.spent
    (mutation-over S s d o given c.args.context.now (ap view_kind c.in-Mutation.is) T is m
    (ap (option_map (λ (n : Name). m)) is, is) _ c.in_ok-values-in-Mutation.ensures c.execute_mutation.new.context)

pub returns-in_err-answered-in-Query-clause-spent : goal.returns-in_err-answered-in-Query-clause-spent
returns-in_err-answered-in-Query-clause-spent g c = λ disabled.
    let shown = g.S.ScalarValue.shown in
    let root = c.args.served.now in
    let s = view_schema shown root.schema.now in
    let S = service_at (g.R.NodeTypes.meaning root.resolver.now) (g.M.MutationSteps.steps c.args.steps.now) c.args.root.now s disabled in
    let d = view_document shown c.args.document.now in
    let o = view_operation shown c.args.operation.now in
    let given = view_variables shown c.args.variables.now in
    let p = err_from_is_err_and c.from_residual-in_err-answered-in-Query.result c.from_residual-in_err-answered-in-Query.ensures.1 in
    rw p.1 (stop-runs (Unit {0}) (IsRunOver S (outcome_of s d o given) c.args.context.now) c.args.fields _ _ _ p.2 c.in_err-answered-in-Query.ensures.spent
    (query-over S s d o given c.args.context.now (ap view_kind c.in-Query.is) _ c.in_ok-values-in-Query.ensures))
