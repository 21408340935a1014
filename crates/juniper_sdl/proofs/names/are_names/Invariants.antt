use Rattle.std.proofs.Common.{◌≡◌, drop}
use Rattle.std.specs.List.{list_all}
use Rattle.graphql_spec.specs.Tokens.{is_name}
use Rattle.juniper_meta.specs.MetaView.{view_names}
use Rattle.juniper_sdl.proofs.names.are_names.Given as goal

-- what is left decides
abbrev pub invariant-loop-name : goal.invariant-loop-name
invariant-loop-name l = list_all is_name (view_names (drop l.name-index l.names)) ≡ list_all is_name (view_names l.names)
