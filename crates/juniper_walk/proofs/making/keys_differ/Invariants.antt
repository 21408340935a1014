use Rattle.std.proofs.Common.{◌≡◌, map, take}
use Rattle.graphql_spec.specs.Documents.{response_key}
use Rattle.juniper_walk.specs.FieldWords.{head_of}
use Rattle.juniper_syntax.specs.NameNumbers.{name_number}
use Rattle.juniper_walk.proofs.making.keys_differ.Given as goal

-- the numbers of the keys so far, in order
abbrev pub invariant-loop-occurrence : goal.invariant-loop-occurrence
invariant-loop-occurrence g l = l.numbers.items
    ≡ map (λ o. name_number (response_key (head_of g.S.ScalarValue.shown o.field.now))) (take l.occurrence-index l.fields)
