use Rattle.std.proofs.Common.{◌≡◌, drop}
use Rattle.juniper_words.specs.InputsRead.{named_among}
use Rattle.juniper_words.proofs.enums.named.Given as goal

-- what is left decides
abbrev pub invariant-loop-value : goal.invariant-loop-value
invariant-loop-value g l =
    named_among g.E.EnumType.name_of (drop l.value-index l.value-items) l.name ≡ named_among g.E.EnumType.name_of g.E.EnumType.values l.name
