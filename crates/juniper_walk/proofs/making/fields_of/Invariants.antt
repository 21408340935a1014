use Rattle.std.proofs.Common.{◌≡◌, take}
use Rattle.std.specs.List.{filter}
use Rattle.std.specs.Str.{bytes_eq}
use Rattle.graphql_spec.specs.Documents.{response_key}
use Rattle.juniper_walk.specs.FieldWords.{head_of}
use Rattle.juniper_walk.proofs.making.fields_of.Given as goal

-- those before this one are looked at
abbrev pub invariant-loop-occurrence : goal.invariant-loop-occurrence
invariant-loop-occurrence g l =
    l.members.items ≡ filter (λ o. bytes_eq l.key (response_key (head_of g.S.ScalarValue.shown o.field.now))) (take l.occurrence-index l.fields)
