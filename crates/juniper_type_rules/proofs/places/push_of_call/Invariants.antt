use Rattle.std.proofs.Common.{map}
use Rattle.juniper_syntax.specs.DocumentView as code
use Rattle.juniper_meta.specs.MetaView.{view_argument}
use Rattle.juniper_schema.specs.SchemaView.{view_schema}
use Rattle.juniper_written.proofs.Lists.{IsFlatSoFar}
use Rattle.juniper_type_rules.specs.UsesView.{view_places}
use Rattle.juniper_type_rules.proofs.PlacesIn.{places_given}
use Rattle.juniper_type_rules.proofs.places.push_of_call.Given as goal

abbrev pub invariant-loop-argument : goal.invariant-loop-argument
invariant-loop-argument g l =
    let shown = g.S.ScalarValue.shown in
    IsFlatSoFar (λ a. places_given (view_schema shown l.schema) (map (view_argument shown) l.declared) (code.view_argument shown a)) l.argument-items
    (view_places l.initial.places.items) l.argument-index (view_places l.places.items)
