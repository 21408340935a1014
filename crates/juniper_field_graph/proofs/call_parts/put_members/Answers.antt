use Rattle.std.proofs.Common.{◌++◌, ap, ◌∙◌}
use Rattle.juniper_field_graph.specs.CallParts.{joined_parts, view_members, view_parts}
use Rattle.juniper_field_graph.proofs.CallMembers.{joined-done, joined-more}
use Rattle.juniper_field_graph.proofs.call_parts.put_members.Goals as goal

pub loop-name-init : goal.loop-name-init
loop-name-init c =
    ap (λ es. view_parts c.args.parts.now.items ++ joined_parts (view_members es)) c.into_iter-name-iterator.ensures.into_iter_gives.0

pub loop-name-preserved : goal.loop-name-preserved
loop-name-preserved c =
    joined-more c.loop-name.parts.items c.extend_from_slice.new.self.items c.in-Some.name.now c.in-Some.value.now c.loop-name.name-iterator
    c.next.new.self _
    (c.in_ok-extend_from_slice.ensures.items ∙ (λ i. c.in_ok-push.ensures.items i ++ c.as_slice.ensures.value i))
    c.in-Some.ensures.steps c.loop-name.invariant

pub returns : goal.returns
returns c =
    joined-done c.loop-name.parts.items c.push-2.new.self.items c.loop-name.name-iterator _ c.in_ok-push-2.ensures.items c.in-None.ensures.steps.0
    c.loop-name.invariant
