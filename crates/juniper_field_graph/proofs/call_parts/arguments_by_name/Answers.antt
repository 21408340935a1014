use Rattle.std.proofs.Common.{◌++◌, ap, ◌∙◌}
use Rattle.graphql_spec.specs.Constants.{meaning}
use Rattle.juniper_syntax.specs.InputView.{view_input}
use Rattle.juniper_field_graph.specs.CallParts.{value_parts, view_parts}
use Rattle.juniper_field_graph.proofs.CallMembers.{members-all, members-more, members-none}
use Rattle.juniper_field_graph.proofs.call_parts.arguments_by_name.Goals as goal

pub loop-turn-init : goal.loop-turn-init
loop-turn-init g c = members-none (λ n. n.now) g.S.ScalarValue.shown c.args.arguments.now c.new-by_name.result.entries c.new-by_name.ensures.empty

pub loop-turn-preserved : goal.loop-turn-preserved
loop-turn-preserved g c =
    let shown = g.S.ScalarValue.shown in
    let x = c.index-arguments-arguments.result in
    members-more (λ n. n.now) shown c.args.arguments.now c.loop-turn.turn x c.loop-turn.by_name.entries c.put_member.new.by_name.entries
    (view_parts c.put_value.new.parts.items) c.loop-turn-test.true c.index-arguments-arguments.is
    (c.in_ok-put_value.ensures ∙ ap (λ ps. view_parts ps ++ value_parts (meaning (view_input shown x.1.item))) c.new-value.ensures.items)
    c.in_ok-put_member.ensures c.loop-turn.invariant

pub returns : goal.returns
returns g c =
    members-all (λ n. n.now) g.S.ScalarValue.shown c.args.arguments.now c.loop-turn.turn c.loop-turn.by_name.entries c.loop-turn-test.false
    c.loop-turn.invariant
