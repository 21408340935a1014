use Rattle.std.proofs.Common.{map}
use Rattle.juniper_meta.specs.MetaView.{view_argument, view_type}
use Rattle.juniper_schema.specs.SchemaView.{view_schema}
use Rattle.juniper_written.proofs.Lists.{IsFlatSoFar}
use Rattle.juniper_type_rules.specs.UsesView.{view_places}
use Rattle.juniper_type_rules.proofs.PlacesIn.{places_of_item, places_of_field}
use Rattle.juniper_type_rules.proofs.places.+placing.Given as goal

abbrev pub invariant-push_of_items-loop-item : goal.invariant-push_of_items-loop-item
invariant-push_of_items-loop-item g l =
    let shown = g.S.ScalarValue.shown in
    IsFlatSoFar (places_of_item shown (view_schema shown l.schema) (view_type l.expected)) l.items (view_places l.initial.places.items) l.item-index
    (view_places l.places.items)

abbrev pub invariant-push_of_fields-loop-field : goal.invariant-push_of_fields-loop-field
invariant-push_of_fields-loop-field g l =
    let shown = g.S.ScalarValue.shown in
    IsFlatSoFar (places_of_field shown (view_schema shown l.schema) (map (view_argument shown) l.declared)) l.fields
    (view_places l.initial.places.items) l.field-index (view_places l.places.items)
