use Rattle.std.proofs.Common.{◌≡◌, ◌++◌, drop, map}
use Rattle.juniper_meta.specs.MetaView.{view_field}
use Rattle.juniper_words.specs.Data.{field_of}
use Rattle.juniper_words.proofs.parts.fields_of.Given as goal

-- what is made, before what is still to be made, is the whole
abbrev pub invariant-loop-field : goal.invariant-loop-field
invariant-loop-field g l =
    map (view_field g.S.ScalarValue.shown) l.made.items ++ map (field_of l.notes) (drop l.field-index l.fields) ≡ map (field_of l.notes) l.fields
