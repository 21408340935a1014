use Rattle.std.proofs.Common.{◌≡◌, ◌++◌, drop, map}
use Rattle.juniper_meta.specs.MetaView.{view_argument}
use Rattle.juniper_words.specs.Data.{input_field_of}
use Rattle.juniper_words.proofs.parts.inputs_of.Given as goal

-- what is made, before what is still to be made, is the whole
abbrev pub invariant-loop-input : goal.invariant-loop-input
invariant-loop-input g l =
    map (view_argument g.S.ScalarValue.shown) l.made.items ++ map (input_field_of l.notes) (drop l.input-index l.inputs) ≡ map (input_field_of l.notes) l.inputs
