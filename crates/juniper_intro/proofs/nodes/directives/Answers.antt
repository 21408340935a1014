use Rattle.std.proofs.Common.{◌≡◌, arith, ap, ◌∙◌, length, map}
use Rattle.std.proofs.lemmas.List.{length-map}
use Rattle.graphql_spec.specs.Resolvers.{answered, node}
use Rattle.juniper_values.proofs.Resolutions.{view-Node}
use Rattle.juniper_intro.specs.HandleView.{of_handle}
use Rattle.juniper_meta.specs.MetaView.{view_directive}
use Rattle.juniper_intro.specs.Handles.{directive_handle}
use Rattle.juniper_intro.proofs.Collected.{nodes-more, turn-all, turn-more}
use Rattle.juniper_intro.proofs.nodes.directives.Goals as goal

pub loop-number-preserved : goal.loop-number-preserved
loop-number-preserved g c =
    let shown = g.S.ScalarValue.shown in
    nodes-more shown _ _ _ _ _ c.in_ok-push.ensures.items c.loop-number.invariant (view-Node shown _)
    ∙ turn-more (λ k. node (of_handle (directive_handle k))) c.loop-number.number

pub returns : goal.returns
returns g c =
    let shown = g.S.ScalarValue.shown in
    let ended : length c.args.directives.now ≡ c.loop-number.number = omega arith in
    ap answered (turn-all shown (λ k. directive_handle k) (map (view_directive shown) c.args.directives.now) c.loop-number.nodes c.loop-number.number
    (length-map c.args.directives.now (view_directive shown) ∙ ended) c.loop-number.invariant)
