use Rattle.std.proofs.Common.{ap, ◌∙◌}
use Rattle.juniper_field_graph.specs.CallParts.{view_members}
use Rattle.juniper_field_graph.proofs.CallMembers.{view-insert}
use Rattle.juniper_field_graph.proofs.call_parts.put_member.Goals as goal

pub returns : goal.returns
returns c = ap view_members c.in_ok-insert.ensures.entries ∙ view-insert c.args.by_name.now.entries c.args.name c.args.value
