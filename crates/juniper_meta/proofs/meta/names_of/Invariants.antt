use Rattle.std.proofs.Common.{◌≡◌, ◌++◌, drop}
use Rattle.juniper_meta.specs.MetaView.{view_names, innermost_names}
use Rattle.juniper_meta.proofs.meta.names_of.Given as goal

-- what is made, before what is still to be made, is the whole
abbrev pub invariant-loop-of_type : goal.invariant-loop-of_type
invariant-loop-of_type l = view_names l.names.items ++ innermost_names (drop l.of_type-index l.types) ≡ innermost_names l.types
