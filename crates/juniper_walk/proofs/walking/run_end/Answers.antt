use Rattle.std.proofs.Common.{◌<◌, ◌+◌, length, refl, sym, ap, ◌∙◌, arith}
use Rattle.std.proofs.lemmas.Bool.{not-false}
use Rattle.graphql_spec.proofs.Lists.{same_true}
use Rattle.juniper_walk.proofs.Waiting.{typed-more}
use Rattle.juniper_walk.proofs.walking.run_end.Goals as goal

pub loop-place-preserved : goal.loop-place-preserved
loop-place-preserved g c =
    let low = c.loop-place.auto.place in
    let here = c.loop-place-test.true in
    let most = c.latest_end-last.ensures.inside in
    let below : c.loop-place.place < length c.args.nodes.now = omega (arith, here, most) in
    let same = same_true c.concrete_type_name-named.result.now c.args.concrete.now (not-false _ (sym c.ne.ensures ∙ c.if-ne.false)) in
    typed-more (g.R.Completer.world c.args.walk.now.collector.possible) c.args.concrete.now c.args.nodes.now c.args.start c.loop-place.place
    (c.loop-place.place + 1) c.index-nodes-place.result (omega (arith, low)) below c.index-nodes-place.is refl c.loop-place.invariant
    (sym same ∙ (c.concrete_type_name-named.ensures ∙ ap (λ n. (g.R.Completer.world c.args.walk.now.collector.possible).concrete n.what)
    (sym c.index-nodes-place.is)))
