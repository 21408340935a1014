use Rattle.std.proofs.Common.{◌≡◌, ◌++◌, drop, map}
use Rattle.juniper_meta.specs.MetaView.{view_enum_value}
use Rattle.juniper_words.specs.Data.{names, value_of}
use Rattle.juniper_words.proofs.parts.values_of.Given as goal

-- what is made, before what is still to be made, is the whole
abbrev pub invariant-loop-name : goal.invariant-loop-name
invariant-loop-name l = map view_enum_value l.made.items ++ map (value_of l.notes) (names (drop l.name-index l.texts)) ≡ map (value_of l.notes) (names l.texts)
