use Rattle.std.proofs.Common.{◌≡◌, ◌+◌, ◌∙◌, ap, refl, sym}
use Rattle.graphql_spec.specs.Documents.{response_key}
use Rattle.juniper_lookahead.specs.declared.occurrences.Occurrence.{Occurrence}
use Rattle.juniper_walk.specs.FieldWords.{head_of}
use Rattle.juniper_walk.proofs.Gathering.{all-added, one-added, start-adding}
use Rattle.juniper_walk.proofs.Unmet.{unmet, unmet-more}
use Rattle.juniper_walk.proofs.making.add_few.Goals as goal

pub loop-place-init : goal.loop-place-init
loop-place-init g c =
    let key = λ (o : Occurrence g.row.S.Denot). response_key (head_of g.S.ScalarValue.shown o.field.now) in
    start-adding g.S.ScalarValue.shown c.args.collector.now (g.R.Resolver.asks c.args.collector.now.possible)
    (g.R.Conditions.possible c.args.collector.now.possible) c.args.concrete.now c.args.fields.now c.args.plan.now (unmet key c.args.fields.now 0) c.requires
    (λ k. refl)

pub loop-place-preserved : goal.loop-place-preserved
loop-place-preserved g c =
    let key = λ (o : Occurrence g.row.S.Denot). response_key (head_of g.S.ScalarValue.shown o.field.now) in
    let l = c.loop-place in
    let o = c.index-fields-place.result in
    let named : c.response_key-key.result.now ≡ key o = c.response_key-key.ensures ∙ sym (ap key c.index-fields-place.is) in
    one-added g.S.ScalarValue.shown c.args.collector.now (g.R.Resolver.asks c.args.collector.now.possible)
    (g.R.Conditions.possible c.args.collector.now.possible) c.args.concrete.now c.args.fields.now l.place c.args.plan.now l.plan c.add_members.new.plan
    (unmet key c.args.fields.now l.place) (unmet key c.args.fields.now (l.place + 1)) l.invariant o c.loop-place-test.true c.index-fields-place.is
    c.response_key-key.result.now named c.in_ok-members.members.items c.in_ok-members.ensures
    (unmet-more key c.args.fields.now l.place o c.loop-place-test.true c.index-fields-place.is c.response_key-key.result.now named)
    c.in_ok-add_members.ensures

pub returns : goal.returns
returns g c =
    let key = λ (o : Occurrence g.row.S.Denot). response_key (head_of g.S.ScalarValue.shown o.field.now) in
    all-added g.S.ScalarValue.shown c.args.collector.now (g.R.Resolver.asks c.args.collector.now.possible)
    (g.R.Conditions.possible c.args.collector.now.possible) c.args.concrete.now c.args.fields.now c.loop-place.place c.args.plan.now c.loop-place.plan
    (unmet key c.args.fields.now c.loop-place.place) c.loop-place.invariant c.loop-place-test.false
