use Rattle.std.proofs.Common.{◌≡◌, ◌∙◌, sym, ap}
use Rattle.std.proofs.lemmas.List.{take_all}
use Rattle.std.specs.List.{filter}
use Rattle.std.specs.Str.{bytes_eq}
use Rattle.graphql_spec.specs.Documents.{response_key}
use Rattle.juniper_lookahead.specs.declared.occurrences.Occurrence.{Occurrence}
use Rattle.juniper_walk.specs.FieldWords.{head_of}
use Rattle.juniper_walk.proofs.Unmet.{one-fails, one-passes}
use Rattle.juniper_walk.proofs.making.fields_of.Goals as goal
use Rattle.juniper_walk.proofs.making.fields_of.Goals.{then-eq+in_ok-push, else-eq}

pub loop-occurrence-preserved : goal.loop-occurrence-preserved
loop-occurrence-preserved g c =
    let l = c.loop-occurrence in
    let test = λ (o : Occurrence g.row.S.Denot). bytes_eq c.args.key.now (response_key (head_of g.S.ScalarValue.shown o.field.now)) in
    let same : bytes_eq c.args.key.now (response_key (head_of g.S.ScalarValue.shown c.occurrence-item.result.field.now)) ≡ c.eq.result =
    ap (bytes_eq c.args.key.now) (sym c.response_key.ensures) ∙ sym c.eq.ensures in
    elim c.if-eq.branch [
      | then-eq+in_ok-push w ↦
          one-passes test c.args.fields.now l.occurrence-index c.occurrence-item.result c.loop-occurrence-test.true c.occurrence-item.is l.members.items
          c.if-eq.members.items l.invariant (same ∙ w.if-eq.true) (ap (λ v. v.items) w.members-is ∙ w.in_ok-push.ensures.items)
      | else-eq w ↦
          one-fails test c.args.fields.now l.occurrence-index c.occurrence-item.result c.loop-occurrence-test.true c.occurrence-item.is l.members.items
          c.if-eq.members.items l.invariant (same ∙ w.if-eq.false) (ap (λ v. v.items) w.members-is)
    ]

pub returns : goal.returns
returns g c =
    let test = λ (o : Occurrence g.row.S.Denot). bytes_eq c.args.key.now (response_key (head_of g.S.ScalarValue.shown o.field.now)) in
    c.loop-occurrence.invariant ∙ ap (filter test) (take_all c.loop-occurrence.occurrence-index c.args.fields.now c.loop-occurrence-test.false)
