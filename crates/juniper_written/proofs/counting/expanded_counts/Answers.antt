use Rattle.std.proofs.Common.{◌-◌, ◌^◌, map, ◌∙◌}
use Rattle.graphql_spec.specs.Documents.{fragments, operations}
use Rattle.juniper_syntax.specs.DocumentView.{view_definition}
use Rattle.juniper_written.specs.Kept.{kept_at, weight_at}
use Rattle.juniper_written.specs.Measures.{number, of_fields, of_levels}
use Rattle.juniper_written.proofs.Measuring.{fields-expanded, levels-expanded}
use Rattle.juniper_written.proofs.Operations.{map-same}
use Rattle.juniper_written.proofs.Turns.{number-total}
use Rattle.juniper_written.proofs.counting.expanded_counts.Goals as goal

pub returns-clause-fields : goal.returns-clause-fields
unfolding number
returns-clause-fields g c =
    let d = map (view_definition g.S.ScalarValue.shown) c.args.document.now in
    let at = weight_at (2 ^ 64 - 1) (fragments d) (kept_at of_fields c.in_ok-kept.kept) in
    c.in_ok-counts.ensures of_fields d c.in_ok-fragments.ensures
    ∙ map-same (λ o. number-total of_fields (2 ^ 64 - 1) (fragments d) at o.selections (c.in_ok-kept.ensures of_fields d c.in_ok-fragments.ensures)
    ∙ fields-expanded (2 ^ 64 - 1) (fragments d) o.selections) (operations d)

pub returns-clause-levels : goal.returns-clause-levels
unfolding number
returns-clause-levels g c =
    let d = map (view_definition g.S.ScalarValue.shown) c.args.document.now in
    let at = weight_at (2 ^ 64 - 1) (fragments d) (kept_at of_levels c.in_ok-kept.kept) in
    c.in_ok-counts.ensures of_levels d c.in_ok-fragments.ensures
    ∙ map-same (λ o. number-total of_levels (2 ^ 64 - 1) (fragments d) at o.selections (c.in_ok-kept.ensures of_levels d c.in_ok-fragments.ensures)
    ∙ levels-expanded (2 ^ 64 - 1) (fragments d) o.selections) (operations d)
