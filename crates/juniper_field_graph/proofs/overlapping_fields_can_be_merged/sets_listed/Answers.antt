use Rattle.std.proofs.Common.{Some, ap, sym, ◌∙◌}
use Rattle.juniper_syntax.specs.DocumentView.{view_definition, view_fragment}
use Rattle.juniper_field_graph.proofs.Holding.{list-some}
use Rattle.juniper_field_graph.proofs.overlapping_fields_can_be_merged.sets_listed.Goals as goal

pub returns-in-Some : goal.returns-in-Some
returns-in-Some g c =
    let shown = g.S.ScalarValue.shown in
    let f = c.in-Fragment.fragment in (
      view_fragment shown f,
      ap (view_definition shown) c.in-Fragment.is,
      list-some c.args.listed.now f.item.name.item.now c.in-Some.sets c.in-Some.ensures.value ∙ ap Some (sym c.as_slice.ensures.value),
    )
