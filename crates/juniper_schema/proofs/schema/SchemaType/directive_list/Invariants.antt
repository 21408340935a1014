use Rattle.std.proofs.Common.{◌≡◌, map, take}
use Rattle.juniper_meta.specs.MetaView.{view_directive}
use Rattle.juniper_schema.proofs.schema.SchemaType.directive_list.Given as goal

-- what is put in is what stood before
abbrev pub invariant-loop-directive : goal.invariant-loop-directive
invariant-loop-directive g l =
    let shown = g.S.ScalarValue.shown in
    map (λ d. view_directive shown d.now) l.listed.items ≡ map (view_directive shown) (take l.directive-index l.directive-items)
