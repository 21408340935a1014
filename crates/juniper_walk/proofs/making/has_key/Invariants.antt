use Rattle.std.proofs.Common.{◌≡◌, drop, map}
use Rattle.std.specs.List.{list_any}
use Rattle.std.specs.Str.{bytes_eq}
use Rattle.graphql_spec.specs.Documents.{response_key}
use Rattle.juniper_walk.specs.FieldWords.{head_of}
use Rattle.juniper_walk.proofs.making.has_key.Given as goal

-- what is left decides
abbrev pub invariant-loop-occurrence : goal.invariant-loop-occurrence
invariant-loop-occurrence g l =
    list_any (bytes_eq l.key) (map (λ o. response_key (head_of g.S.ScalarValue.shown o.field.now)) l.fields)
    ≡ list_any (bytes_eq l.key) (map (λ o. response_key (head_of g.S.ScalarValue.shown o.field.now)) (drop l.occurrence-index l.fields))
