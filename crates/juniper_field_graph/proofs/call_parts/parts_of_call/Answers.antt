use Rattle.std.proofs.Common.{◌++◌, refl, ap, ◌∙◌}
use Rattle.graphql_spec.specs.Constants.{members}
use Rattle.juniper_syntax.specs.DocumentView.{view_field}
use Rattle.juniper_field_graph.specs.CallParts.{joined_parts, view_parts}
use Rattle.juniper_field_graph.specs.NamedValues.{as_fields, view_named}
use Rattle.juniper_field_graph.proofs.CallMembers.{call-put, joined-listed}
use Rattle.juniper_field_graph.proofs.NamedValues.{named-arguments}
use Rattle.juniper_field_graph.proofs.call_parts.parts_of_call.Goals as goal

pub returns : goal.returns
returns g c =
    let shown = g.S.ScalarValue.shown in
    let fs = view_named (λ n. n.now) shown c.written-arguments.result.now in
    call-put c.args.key (view_field shown c.args.field.now) fs c.new-parts.result.items c.push.new.self.items c.push-2.new.self.items
    (view_parts c.put_members.new.parts.items) c.args.field.now.item.name.item c.new-parts.ensures.items refl
    c.in_ok-push.ensures.items c.in_ok-push-2.ensures.items
    (named-arguments shown c.written-arguments.result.now ∙ ap as_fields c.written-arguments.ensures)
    (c.in_ok-put_members.ensures ∙ ap (λ ps. view_parts c.push-2.new.self.items ++ ps)
    (ap joined_parts c.in_ok-by_name.ensures ∙ joined-listed (members fs)))
