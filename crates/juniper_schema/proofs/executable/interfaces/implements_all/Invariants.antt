use Rattle.std.proofs.Common.{◌≡◌, drop, map, string_bytes}
use Rattle.std.specs.List.{list_all}
use Rattle.graphql_spec.specs.Executable.{implements}
use Rattle.juniper_meta.specs.MetaView.{view_meta}
use Rattle.juniper_schema.specs.SchemaView.{view_schema}
use Rattle.juniper_schema.proofs.executable.interfaces.implements_all.Given as goal

-- what is left decides
abbrev pub invariant-loop-interface : goal.invariant-loop-interface
invariant-loop-interface g l =
    let shown = g.S.ScalarValue.shown in
    list_all (implements (view_schema shown l.schema) l.key (view_meta shown l.meta).shape) (map (λ n. string_bytes n) (drop l.interface-index l.interfaces))
    ≡ list_all (implements (view_schema shown l.schema) l.key (view_meta shown l.meta).shape) (map (λ n. string_bytes n) l.interfaces)
