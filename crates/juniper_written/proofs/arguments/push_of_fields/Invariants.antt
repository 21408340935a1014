use Rattle.graphql_spec.specs.Documents.{written}
use Rattle.juniper_syntax.specs.DocumentView.{view_field}
use Rattle.juniper_written.specs.WrittenView.{view_list}
use Rattle.juniper_written.proofs.Lists.{IsSeenSoFar}
use Rattle.juniper_written.proofs.arguments.push_of_fields.Given as goal

abbrev pub invariant-loop-index : goal.invariant-loop-index
invariant-loop-index g l =
    let shown = g.S.ScalarValue.shown in
    IsSeenSoFar (λ x. written (view_field shown x.now).arguments) l.fields.items (view_list shown l.initial.lists.items) l.index (view_list shown l.lists.items)
