use Rattle.std.proofs.Common.{◌≡◌, map, take}
use Rattle.juniper_schema.specs.ListedTypes.{view_named}
use Rattle.juniper_schema.specs.MadeTypes.{concrete, view_made}
use Rattle.juniper_schema.specs.SchemaView.{meta_of}
use Rattle.juniper_schema.proofs.lists.concrete_types.Given as goal

-- what is put in is what stood before
abbrev pub invariant-loop-one : goal.invariant-loop-one
invariant-loop-one g l =
    let shown = g.S.ScalarValue.shown in
    map (view_made shown) l.types.items ≡ map (λ e. concrete (meta_of e)) (map (view_named shown) (take l.one-index l.one-items))
