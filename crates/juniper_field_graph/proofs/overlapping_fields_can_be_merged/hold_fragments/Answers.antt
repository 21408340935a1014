use Rattle.std.proofs.Common.{◌<◌, ◌≤◌, length, arith}
use Rattle.juniper_schema.specs.SchemaView.{view_schema}
use Rattle.juniper_field_graph.specs.Gathering.{list_named, set_named}
use Rattle.juniper_field_graph.proofs.HoldingSteps.{held-so-far-all, held-so-far-next, held-so-far-none, next-ready}
use Rattle.juniper_field_graph.proofs.overlapping_fields_can_be_merged.hold_fragments.Goals as goal

pub loop-index-init : goal.loop-index-init
loop-index-init g c fs ends unknown once in_order none listless is =
    let shown = g.S.ScalarValue.shown in
    held-so-far-none shown (view_schema shown c.args.schema.now) fs c.args.gathered.now.graph
    (set_named c.args.held.now) (list_named c.args.listed.now) c.args.order.now.items is none listless in_order

pub loop-index-preserved : goal.loop-index-preserved
loop-index-preserved g c fs ends unknown once in_order none listless is =
    let shown = g.S.ScalarValue.shown in
    let s = view_schema shown c.args.schema.now in
    let before = c.loop-index.invariant fs ends unknown once in_order none listless is in
    let below : c.loop-index.index < length c.args.order.now.items = omega (arith, c.loop-index-test.true, c.len-index-end.ensures, c.args.order.now.ok.0) in
    let item = c.index-fragment.ensures in
    held-so-far-next shown s fs c.args.gathered.now.graph c.loop-index.gathered.graph
    (set_named c.loop-index.held) (list_named c.loop-index.listed) c.args.order.now.items c.loop-index.index c.index-fragment.result.now below item before
    c.hold_fragment.new.gathered.graph (set_named c.hold_fragment.new.held) (list_named c.hold_fragment.new.listed)
    (c.in_ok-hold_fragment.ensures fs ends unknown before.grown.graph
    (next-ready shown s fs c.args.gathered.now.graph c.loop-index.gathered.graph
    (set_named c.loop-index.held) (list_named c.loop-index.listed) c.args.order.now.items c.loop-index.index c.index-fragment.result.now below item before
    once))

pub returns : goal.returns
returns g c fs ends unknown once in_order none listless is =
    let shown = g.S.ScalarValue.shown in
    let past : length c.args.order.now.items ≤ c.loop-index.index = omega (arith, c.loop-index-test.false, c.len-index-end.ensures, c.args.order.now.ok.0) in
    held-so-far-all shown (view_schema shown c.args.schema.now) fs c.args.gathered.now.graph c.loop-index.gathered.graph
    (set_named c.loop-index.held) (list_named c.loop-index.listed) c.args.order.now.items c.loop-index.index
    past ends in_order (c.loop-index.invariant fs ends unknown once in_order none listless is)
