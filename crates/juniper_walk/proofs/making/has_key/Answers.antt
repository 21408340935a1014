use Rattle.std.proofs.Common.{◌∙◌, sym, ap, refl}
use Rattle.std.specs.Str.{bytes_eq}
use Rattle.graphql_spec.specs.Documents.{response_key}
use Rattle.juniper_lookahead.specs.declared.occurrences.Occurrence.{Occurrence}
use Rattle.juniper_walk.specs.FieldWords.{head_of}
use Rattle.juniper_walk.proofs.Few.{key-absent, key-found, key-passed}
use Rattle.juniper_walk.proofs.making.has_key.Goals as goal

pub loop-occurrence-init : goal.loop-occurrence-init
loop-occurrence-init g c = refl

pub loop-occurrence-preserved : goal.loop-occurrence-preserved
loop-occurrence-preserved g c =
    let key = λ (o : Occurrence g.row.S.Denot). response_key (head_of g.S.ScalarValue.shown o.field.now) in
    key-passed key c.args.key.now c.args.fields.now c.loop-occurrence.occurrence-index c.occurrence-item.result c.loop-occurrence-test.true
    c.occurrence-item.is (ap (bytes_eq c.args.key.now) (sym c.response_key.ensures) ∙ (sym c.eq.ensures ∙ c.if-eq.false)) c.loop-occurrence.invariant

pub returns-then-eq : goal.returns-then-eq
returns-then-eq g c =
    let key = λ (o : Occurrence g.row.S.Denot). response_key (head_of g.S.ScalarValue.shown o.field.now) in
    key-found key c.args.key.now c.args.fields.now c.loop-occurrence.occurrence-index c.occurrence-item.result c.loop-occurrence-test.true
    c.occurrence-item.is (ap (bytes_eq c.args.key.now) (sym c.response_key.ensures) ∙ (sym c.eq.ensures ∙ c.if-eq.true)) c.loop-occurrence.invariant

pub returns : goal.returns
returns g c =
    let key = λ (o : Occurrence g.row.S.Denot). response_key (head_of g.S.ScalarValue.shown o.field.now) in
    key-absent key c.args.key.now c.args.fields.now c.loop-occurrence.occurrence-index c.loop-occurrence-test.false c.loop-occurrence.invariant
