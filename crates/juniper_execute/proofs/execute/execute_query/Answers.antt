use Rattle.std.proofs.Common.{map, refl, ap, ◌∙◌}
use Rattle.graphql_spec.specs.Documents.{fragments}
use Rattle.graphql_spec.specs.Directives.{passes}
use Rattle.graphql_spec.specs.Fragments.{expand}
use Rattle.graphql_spec.specs.Requests.{selected}
use Rattle.juniper_syntax.specs.DocumentView.{view_definition, view_document, view_operation, view_selections}
use Rattle.juniper_syntax.specs.InputView.{view_variables}
use Rattle.juniper_schema.specs.SchemaView.{view_schema}
use Rattle.juniper_lookahead.specs.Collected.{expansion}
use Rattle.juniper_execute.proofs.Entering.{entered-moves, spends-through}
use Rattle.juniper_execute.specs.Meanings.{world_at}
use Rattle.juniper_execute.proofs.Executing.{answer-moves, no-cycle, query-agrees, tells-move}
use Rattle.juniper_execute.proofs.execute.execute_query.Goals as goal

pub invariant_of-service : goal.invariant_of-service
invariant_of-service g c = record { executable = c.args.served.now.executable; unnamed = c.args.served.now.unnamed }

pub answer-requires-clause-ready : goal.answer-requires-clause-ready
answer-requires-clause-ready g c =
    let shown = g.S.ScalarValue.shown in
    let s = view_schema shown c.args.served.now.schema.now in
    let d = view_document shown c.args.document.now in
    let is = c.in-Ok.ensures.is ∙ ap (λ ds. fragments (map (view_definition shown) ds)) c.as_slice.ensures.value in
    record {
      made = c.in-Ok.ensures.made;
      acyclic = no-cycle s c.requires.valid.0 d c.requires.valid.1 _ is;
    }

pub answer-requires-clause-agree : goal.answer-requires-clause-agree
unfolding expansion
answer-requires-clause-agree g c =
    let shown = g.S.ScalarValue.shown in
    let root = c.args.served.now in
    let s = view_schema shown root.schema.now in
    let d = view_document shown c.args.document.now in
    let o = view_operation shown c.args.operation.now in
    let is = c.in-Ok.ensures.is ∙ ap (λ ds. fragments (map (view_definition shown) ds)) c.as_slice.ensures.value in
    query-agrees s c.requires.valid.0 root.executable d c.requires.valid.1 o c.requires.member c.requires.query
    (view_variables shown c.args.variables.now)
    ((g.R.NodeTypes.meaning root.resolver.now).concrete c.args.context.now) ((g.R.NodeTypes.meaning root.resolver.now).answer c.args.context.now)
    c.query_name.result.now c.query_name.ensures _ is (view_selections shown c.as_slice-2.result.now) (ap (view_selections shown) c.as_slice-2.ensures.value)

pub returns-clause-walked : goal.returns-clause-walked
unfolding expansion selected
returns-clause-walked g c =
    let shown = g.S.ScalarValue.shown in
    let root = c.args.served.now in
    let s = view_schema shown root.schema.now in
    let vars = view_variables shown c.args.variables.now in
    let d = view_document shown c.args.document.now in
    let o = view_operation shown c.args.operation.now in
    let W = world_at (g.R.NodeTypes.meaning root.resolver.now) s vars c.args.context.now in
    let is = c.in-Ok.ensures.is ∙ ap (λ ds. fragments (map (view_definition shown) ds)) c.as_slice.ensures.value in
    let same = ap (λ fs. expand (passes vars) fs (view_selections shown c.as_slice-2.result.now)) is
    ∙ ap (λ ss. expand (passes vars) (fragments d) (view_selections shown ss)) c.as_slice-2.ensures.value in (
      answer-moves W _ _ _ _ _ _ _ _ c.query_name.ensures refl same c.in_ok-walked.ensures.answers,
      c.in_ok-walked.ensures.lists,
      tells-move root.walking W _ _ _ _ _ _ _ c.query_name.ensures refl same c.in_ok-walked.ensures.firsts,
    )

pub returns-in_err-walked-clause-spent : goal.returns-in_err-walked-clause-spent
unfolding expansion selected
returns-in_err-walked-clause-spent g c =
    let shown = g.S.ScalarValue.shown in
    let root = c.args.served.now in
    let s = view_schema shown root.schema.now in
    let vars = view_variables shown c.args.variables.now in
    let d = view_document shown c.args.document.now in
    let o = view_operation shown c.args.operation.now in
    let W = world_at (g.R.NodeTypes.meaning root.resolver.now) s vars c.args.context.now in
    let is = c.in-Ok.ensures.is ∙ ap (λ ds. fragments (map (view_definition shown) ds)) c.as_slice.ensures.value in
    let same = ap (λ fs. expand (passes vars) fs (view_selections shown c.as_slice-2.result.now)) is
    ∙ ap (λ ss. expand (passes vars) (fragments d) (view_selections shown ss)) c.as_slice-2.ensures.value in
    spends-through (Unit {0}) _ c.args.fields _ _ _ c.from_residual.result c.from_residual.ensures.1
    (entered-moves W c.args.root.now _ _ _ _ c.query_name.ensures same) c.in_err-walked.ensures.spent
