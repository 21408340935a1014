use Rattle.std.specs.Option.{is_none}
use Rattle.juniper_type_rules.specs.PlacedView.{view_placed}
use Rattle.juniper_written.proofs.Deciding.{IsOpen}
use Rattle.juniper_type_rules.proofs.fields_on_correct_type.has_unknown_field.Given as goal

abbrev pub invariant-loop-placed : goal.invariant-loop-placed
invariant-loop-placed g l =
    let shown = g.S.ScalarValue.shown in
    IsOpen (view_placed shown) (λ p. is_none p.declared) l.placed-items l.placed-index
