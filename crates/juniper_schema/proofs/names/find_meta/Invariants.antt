use Rattle.std.proofs.Common.{◌≡◌, map, drop}
use Rattle.graphql_spec.specs.Fields.{entry_in}
use Rattle.juniper_meta.specs.MetaView.{own_entry}
use Rattle.juniper_schema.proofs.names.find_meta.Given as goal

-- what is left decides
abbrev pub invariant-loop-meta : goal.invariant-loop-meta
invariant-loop-meta g l =
    entry_in (map (own_entry g.S.ScalarValue.shown) l.metas) l.name ≡ entry_in (map (own_entry g.S.ScalarValue.shown) (drop l.meta-index l.metas)) l.name
