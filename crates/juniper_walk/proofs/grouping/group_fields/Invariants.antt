use Rattle.std.proofs.Common.{◌≡◌, take}
use Rattle.std.specs.List.{filter}
use Rattle.std.specs.Str.{bytes_eq}
use Rattle.graphql_spec.specs.Documents.{response_key}
use Rattle.graphql_spec.specs.Shown.{Name}
use Rattle.juniper_walk.specs.FieldWords.{fields_at, head_of}
use Rattle.juniper_walk.proofs.grouping.group_fields.Given as goal

-- the fields so far, by their keys
abbrev pub invariant-loop-occurrence : goal.invariant-loop-occurrence
invariant-loop-occurrence g l =
    (q : Name) → fields_at l.groups q ≡ filter (λ o. bytes_eq q (response_key (head_of g.S.ScalarValue.shown o.field.now))) (take l.occurrence-index l.fields)
