use Rattle.std.proofs.Common.{◌≡◌, arith, ap, ◌∙◌, length, map}
use Rattle.std.proofs.lemmas.List.{length-map}
use Rattle.graphql_spec.specs.Resolvers.{answered, node}
use Rattle.juniper_values.proofs.Resolutions.{view-Node}
use Rattle.juniper_intro.specs.HandleView.{of_handle}
use Rattle.juniper_meta.specs.MetaView.{view_argument}
use Rattle.juniper_intro.specs.Collected.{place_in}
use Rattle.juniper_intro.specs.Handles.{input_handle, inputs_at}
use Rattle.juniper_intro.proofs.Collected.{nodes-more, turn-all, turn-more}
use Rattle.juniper_intro.specs.declared.handle.Handle.TheVariants as handle
use Rattle.juniper_intro.specs.declared.node.RootedNode.TheVariants as rooted
use Rattle.juniper_intro.proofs.nodes.inputs.Goals as goal

pub loop-number-preserved : goal.loop-number-preserved
loop-number-preserved g c =
    let shown = g.S.ScalarValue.shown in
    nodes-more shown _ _ _ _ _ c.in_ok-push.ensures.items c.loop-number.invariant
    (view-Node shown _ ∙ ap (λ p. node (rooted.Introspected (handle.Input p))) c.place.ensures)
    ∙ turn-more (λ k. node (of_handle (input_handle (place_in c.args.owner k)))) c.loop-number.number

pub returns : goal.returns
unfolding inputs_at
returns g c =
    let shown = g.S.ScalarValue.shown in
    let ended : length c.args.inputs.now ≡ c.loop-number.number = omega arith in
    ap answered (turn-all shown (λ k. input_handle (place_in c.args.owner k))
    (map (view_argument shown) c.args.inputs.now) c.loop-number.nodes c.loop-number.number
    (length-map c.args.inputs.now (view_argument shown) ∙ ended) c.loop-number.invariant)
