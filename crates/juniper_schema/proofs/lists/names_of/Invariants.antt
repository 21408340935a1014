use Rattle.std.proofs.Common.{◌≡◌, map, take}
use Rattle.juniper_schema.specs.ListedTypes.{view_named}
use Rattle.juniper_schema.proofs.lists.names_of.Given as goal

-- what is put in are the names of what stood before
abbrev pub invariant-loop-one : goal.invariant-loop-one
invariant-loop-one g l =
    let shown = g.S.ScalarValue.shown in
    map (λ n. n.now) l.names.items ≡ map (λ e. e.key) (map (view_named shown) (take l.one-index l.one-items))
