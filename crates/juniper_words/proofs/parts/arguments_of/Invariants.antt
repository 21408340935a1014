use Rattle.std.proofs.Common.{◌≡◌, ◌++◌, drop, map}
use Rattle.juniper_meta.specs.MetaView.{view_argument}
use Rattle.juniper_words.specs.Data.{argument_of}
use Rattle.juniper_words.proofs.parts.arguments_of.Given as goal

-- what is made, before what is still to be made, is the whole
abbrev pub invariant-loop-input : goal.invariant-loop-input
invariant-loop-input g l =
    map (view_argument g.S.ScalarValue.shown) l.made.items ++ map (argument_of l.notes l.field) (drop l.input-index l.inputs)
    ≡ map (argument_of l.notes l.field) l.inputs
