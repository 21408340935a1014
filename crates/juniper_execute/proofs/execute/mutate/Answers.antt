use Rattle.std.proofs.Common.{◌<◌, ◌≤◌, ◌+◌, ℕ, Err, map, refl, ap, ◌∙◌, subst}
use Rattle.graphql_spec.specs.Documents.{fragments}
use Rattle.graphql_spec.specs.Directives.{passes}
use Rattle.graphql_spec.specs.Fields.{is_possible}
use Rattle.graphql_spec.specs.Fragments.{expand}
use Rattle.graphql_spec.specs.Mutation.{root_fields}
use Rattle.graphql_spec.specs.Requests.{selected}
use Rattle.graphql_spec.specs.Resolvers.{world_of}
use Rattle.graphql_spec.specs.Selections.{keys}
use Rattle.juniper_syntax.specs.DocumentView.{view_definition, view_document, view_operation, view_selections}
use Rattle.juniper_syntax.specs.InputView.{view_variables}
use Rattle.juniper_schema.specs.SchemaView.{view_schema}
use Rattle.juniper_walk.proofs.Entering.{through-spends}
use Rattle.juniper_execute.specs.Entered.{entered_run}
use Rattle.juniper_execute.specs.Meanings.{mutation_at}
use Rattle.juniper_execute.specs.Walkings.{starts_by}
use Rattle.juniper_execute.proofs.Executing.{left-moves, mutation-agrees, no-cycle, run-is-answer, run-left, walked-err}
use Rattle.juniper_execute.proofs.RootPlans.{left-same}
use Rattle.juniper_execute.proofs.execute.mutate.Goals as goal

pub returns-in_err-fragments-clause-walked : goal.returns-in_err-fragments-clause-walked
returns-in_err-fragments-clause-walked g c =
    let shown = g.S.ScalarValue.shown in
    let root = c.args.served.now in
    let s = view_schema shown root.schema.now in
    let vars = view_variables shown c.args.variables.now in
    let M = mutation_at (g.R.NodeTypes.meaning root.resolver.now) s vars (g.M.MutationSteps.steps c.args.steps.now) in
    let T = c.args.concrete.now in
    let d = view_document shown c.args.document.now in
    let o = view_operation shown c.args.operation.now in
    let start = c.args.context.now in
    let all = selected d o vars in
    walked-err shown root.walking M T all start _ _ c.from_residual.ensures.0
    (left-same M T (keys (root_fields M T all start)) (root_fields M T all start) start)

pub returns-in_err-path-clause-walked : goal.returns-in_err-path-clause-walked
returns-in_err-path-clause-walked g c =
    let shown = g.S.ScalarValue.shown in
    let root = c.args.served.now in
    let s = view_schema shown root.schema.now in
    let vars = view_variables shown c.args.variables.now in
    let M = mutation_at (g.R.NodeTypes.meaning root.resolver.now) s vars (g.M.MutationSteps.steps c.args.steps.now) in
    let T = c.args.concrete.now in
    let d = view_document shown c.args.document.now in
    let o = view_operation shown c.args.operation.now in
    let start = c.args.context.now in
    let all = selected d o vars in
    walked-err shown root.walking M T all start _ _ c.from_residual-in_err-path.ensures.0
    (left-same M T (keys (root_fields M T all start)) (root_fields M T all start) start)

pub run_groups-requires-clause-ready : goal.run_groups-requires-clause-ready
run_groups-requires-clause-ready g c =
    let shown = g.S.ScalarValue.shown in
    let s = view_schema shown c.args.served.now.schema.now in
    let d = view_document shown c.args.document.now in
    let is = c.in_ok-fragments.ensures.is ∙ ap (λ ds. fragments (map (view_definition shown) ds)) c.as_slice.ensures.value in
    record {
      made = c.in_ok-fragments.ensures.made;
      acyclic = no-cycle s c.requires.valid.0 d c.requires.valid.1 _ is;
      at_root = c.in_ok-path.ensures;
    }

pub run_groups-requires-clause-agree : goal.run_groups-requires-clause-agree
run_groups-requires-clause-agree g c = λ now.
    let shown = g.S.ScalarValue.shown in
    let root = c.args.served.now in
    let s = view_schema shown root.schema.now in
    let d = view_document shown c.args.document.now in
    let o = view_operation shown c.args.operation.now in
    let is = c.in_ok-fragments.ensures.is ∙ ap (λ ds. fragments (map (view_definition shown) ds)) c.as_slice.ensures.value in
    mutation-agrees s c.requires.valid.0 root.executable d c.requires.valid.1 o c.requires.member c.requires.mutation c.args.concrete.now
    c.requires.root
    (view_variables shown c.args.variables.now)
    ((g.R.NodeTypes.meaning root.resolver.now).concrete now) ((g.R.NodeTypes.meaning root.resolver.now).answer now) _ is _
    (ap (view_selections shown) c.as_slice-2.ensures.value)

pub returns-in-Err-clause-walked : goal.returns-in-Err-clause-walked
unfolding selected world_of
returns-in-Err-clause-walked g c =
    let shown = g.S.ScalarValue.shown in
    let root = c.args.served.now in
    let s = view_schema shown root.schema.now in
    let vars = view_variables shown c.args.variables.now in
    let M = mutation_at (g.R.NodeTypes.meaning root.resolver.now) s vars (g.M.MutationSteps.steps c.args.steps.now) in
    let T = c.args.concrete.now in
    let d = view_document shown c.args.document.now in
    let o = view_operation shown c.args.operation.now in
    let start = c.args.context.now in
    let all = selected d o vars in
    let is = c.in_ok-fragments.ensures.is ∙ ap (λ ds. fragments (map (view_definition shown) ds)) c.as_slice.ensures.value in
    let same = ap (λ fs. expand (passes vars) fs (view_selections shown c.as_slice-2.result.now)) is
    ∙ ap (λ ss. expand (passes vars) (fragments d) (view_selections shown ss)) c.as_slice-2.ensures.value in
    left-moves M T start c.run_groups.new.context (is_possible s) refl _ all same c.in-Err.ensures.ran

pub returns-in_err-sort_errors-in-Ok-clause-walked : goal.returns-in_err-sort_errors-in-Ok-clause-walked
unfolding selected world_of
returns-in_err-sort_errors-in-Ok-clause-walked g c =
    let shown = g.S.ScalarValue.shown in
    let root = c.args.served.now in
    let s = view_schema shown root.schema.now in
    let vars = view_variables shown c.args.variables.now in
    let M = mutation_at (g.R.NodeTypes.meaning root.resolver.now) s vars (g.M.MutationSteps.steps c.args.steps.now) in
    let T = c.args.concrete.now in
    let d = view_document shown c.args.document.now in
    let o = view_operation shown c.args.operation.now in
    let start = c.args.context.now in
    let all = selected d o vars in
    let is = c.in_ok-fragments.ensures.is ∙ ap (λ ds. fragments (map (view_definition shown) ds)) c.as_slice.ensures.value in
    let same = ap (λ fs. expand (passes vars) fs (view_selections shown c.as_slice-2.result.now)) is
    ∙ ap (λ ss. expand (passes vars) (fragments d) (view_selections shown ss)) c.as_slice-2.ensures.value in
    walked-err shown root.walking M T all start _ _ c.from_residual-in_err-sort_errors-in-Ok.ensures.0
    (run-left M T start c.run_groups.new.context (is_possible s) refl _ all same (starts_by root.walking) _ _ c.in-Ok.ensures.ran)

pub returns-clause-walked : goal.returns-clause-walked
unfolding selected world_of
returns-clause-walked g c =
    let shown = g.S.ScalarValue.shown in
    let root = c.args.served.now in
    let s = view_schema shown root.schema.now in
    let vars = view_variables shown c.args.variables.now in
    let M = mutation_at (g.R.NodeTypes.meaning root.resolver.now) s vars (g.M.MutationSteps.steps c.args.steps.now) in
    let T = c.args.concrete.now in
    let d = view_document shown c.args.document.now in
    let o = view_operation shown c.args.operation.now in
    let start = c.args.context.now in
    let all = selected d o vars in
    let is = c.in_ok-fragments.ensures.is ∙ ap (λ ds. fragments (map (view_definition shown) ds)) c.as_slice.ensures.value in
    let same = ap (λ fs. expand (passes vars) fs (view_selections shown c.as_slice-2.result.now)) is
    ∙ ap (λ ss. expand (passes vars) (fragments d) (view_selections shown ss)) c.as_slice-2.ensures.value in
    run-is-answer M T start c.run_groups.new.context
    (is_possible s) refl _ all same root.walking _ _ _ c.in-Ok.ensures.ran c.in_ok-sort_errors-in-Ok.ensures.counted c.in_ok-sort_errors-in-Ok.ensures.sorted

pub returns-clause-entered : goal.returns-clause-entered
unfolding selected world_of
returns-clause-entered g c =
    let shown = g.S.ScalarValue.shown in
    let root = c.args.served.now in
    let s = view_schema shown root.schema.now in
    let vars = view_variables shown c.args.variables.now in
    let M = mutation_at (g.R.NodeTypes.meaning root.resolver.now) s vars (g.M.MutationSteps.steps c.args.steps.now) in
    let T = c.args.concrete.now in
    let d = view_document shown c.args.document.now in
    let o = view_operation shown c.args.operation.now in
    let start = c.args.context.now in
    let all = selected d o vars in
    let is = c.in_ok-fragments.ensures.is ∙ ap (λ ds. fragments (map (view_definition shown) ds)) c.as_slice.ensures.value in
    let same = ap (λ fs. expand (passes vars) fs (view_selections shown c.as_slice-2.result.now)) is
    ∙ ap (λ ss. expand (passes vars) (fragments d) (view_selections shown ss)) c.as_slice-2.ensures.value in
    subst (λ (n : ℕ). c.args.plan.now.left ≤ c.run_groups.new.plan.left + n) (ap (λ f. entered_run M T f start) same) c.in-Ok.ensures.entered

pub returns-in-Err-clause-entered : goal.returns-in-Err-clause-entered
unfolding selected world_of
returns-in-Err-clause-entered g c =
    let shown = g.S.ScalarValue.shown in
    let root = c.args.served.now in
    let s = view_schema shown root.schema.now in
    let vars = view_variables shown c.args.variables.now in
    let M = mutation_at (g.R.NodeTypes.meaning root.resolver.now) s vars (g.M.MutationSteps.steps c.args.steps.now) in
    let T = c.args.concrete.now in
    let d = view_document shown c.args.document.now in
    let o = view_operation shown c.args.operation.now in
    let start = c.args.context.now in
    let all = selected d o vars in
    let is = c.in_ok-fragments.ensures.is ∙ ap (λ ds. fragments (map (view_definition shown) ds)) c.as_slice.ensures.value in
    let same = ap (λ fs. expand (passes vars) fs (view_selections shown c.as_slice-2.result.now)) is
    ∙ ap (λ ss. expand (passes vars) (fragments d) (view_selections shown ss)) c.as_slice-2.ensures.value in
    through-spends (Unit {0}) (Unit {0}) _ 0 _ _ 0 _ c.in-Err.stop (Err c.in-Err.stop) refl c.in-Err.ensures.entered
    (subst (λ (n : ℕ). c.args.plan.now.left < n) (ap (λ f. entered_run M T f start) same))
