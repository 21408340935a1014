use Rattle.std.proofs.Common.{◌∙◌, ◌-◌, sym, ap, subst, take, drop, length, map, arith}
use Rattle.std.specs.List.{IsDistinct, list_any}
use Rattle.std.specs.Str.{bytes_eq}
use Rattle.graphql_spec.specs.Documents.{response_key}
use Rattle.juniper_lookahead.specs.declared.occurrences.Occurrence.{Occurrence}
use Rattle.juniper_walk.specs.FieldWords.{head_of}
use Rattle.juniper_walk.proofs.Few.{first-differs, none-differ, rest-is}
use Rattle.juniper_walk.proofs.making.+few_differ.Goals as goal

pub returns-in-empty : goal.returns-in-empty
returns-in-empty g t c = λ _.
    none-differ (λ (o : Occurrence g.row.S.Denot). response_key (head_of g.S.ScalarValue.shown o.field.now)) c.args.fields.now
    (omega (arith, c.in-empty.len_below))

pub returns-then-not-has_key : goal.returns-then-not-has_key
returns-then-not-has_key g t c = λ differ.
    let key = λ (o : Occurrence g.row.S.Denot). response_key (head_of g.S.ScalarValue.shown o.field.now) in
    let fields = c.args.fields.now in
    let rest = rest-is key fields in
    first-differs key fields c.first-item.result c.in-len1-up.len_at_least c.first-item.is
    (ap (λ l. list_any (bytes_eq (key c.first-item.result)) (map key l)) (sym rest)
    ∙ (ap (λ n. list_any (bytes_eq n) (map key (take (length fields - 1) (drop 1 fields)))) (sym c.response_key.ensures)
    ∙ (sym c.has_key.ensures ∙ c.if-not-has_key.true)))
    (subst (λ l. IsDistinct bytes_eq (map key l)) rest (c.few_differ.ensures differ))
