use Rattle.std.proofs.Common.{◌-◌, ◌^◌, map, ◌∙◌}
use Rattle.graphql_spec.specs.Documents.{fragments}
use Rattle.juniper_syntax.specs.DocumentView.{view_definition, view_selections}
use Rattle.juniper_written.specs.Measures.{number, of_fields}
use Rattle.juniper_written.proofs.Measuring.{fields-expanded}
use Rattle.juniper_written.proofs.counting.expanded_fields.Goals as goal

pub returns : goal.returns
unfolding number
returns g c =
    let shown = g.S.ScalarValue.shown in
    c.in_ok-counts.ensures of_fields ∙ fields-expanded (2 ^ 64 - 1) (fragments (map (view_definition shown) c.args.document.now))
    (view_selections shown c.args.operation.now.item.selection_set.items)
