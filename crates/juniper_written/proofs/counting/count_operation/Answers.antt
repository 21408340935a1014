use Rattle.std.proofs.Common.{◌-◌, ◌^◌, map, min, ap, ◌∙◌}
use Rattle.graphql_spec.specs.Documents.{fragments}
use Rattle.juniper_syntax.specs.DocumentView.{view_definition, view_selections}
use Rattle.juniper_written.specs.Kept.{kept_at, number_by, weight_at}
use Rattle.juniper_written.specs.Measures.{number}
use Rattle.juniper_written.proofs.Turns.{total-is}
use Rattle.juniper_written.proofs.counting.count_operation.Goals as goal

pub returns : goal.returns
returns g c = λ m.
    let shown = g.S.ScalarValue.shown in
    let d = map (view_definition shown) c.args.document.now in
    let at = weight_at (2 ^ 64 - 1) (fragments d) (kept_at m c.in_ok-kept.kept) in
    let s = view_selections shown c.args.operation.now.item.selection_set.items in
    total-is m (2 ^ 64 - 1) (fragments d) at s (c.in_ok-kept.ensures m d c.in_ok-fragments.ensures) (number m c.counts_of.result)
    (c.counts_of.ensures m d c.in_ok-fragments.ensures ∙ ap (λ l. min (2 ^ 64 - 1) (number_by m at (view_selections shown l))) c.as_slice.ensures.value)
