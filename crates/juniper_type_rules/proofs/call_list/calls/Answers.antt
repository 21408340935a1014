use Rattle.std.proofs.Common.{ap}
use Rattle.juniper_schema.specs.SchemaView.{view_schema}
use Rattle.juniper_type_rules.specs.CallView.{view_calls}
use Rattle.juniper_type_rules.specs.PlacedView.{view_parts}
use Rattle.juniper_type_rules.proofs.Calling.{all-calls}
use Rattle.juniper_type_rules.proofs.call_list.calls.Goals as goal

pub returns : goal.returns
returns g c =
    let shown = g.S.ScalarValue.shown in
    all-calls (view_schema shown c.args.schema.now) (view_parts shown c.args.parts.now) _ _ _
    (ap (view_calls shown) c.in_ok-calls.ensures.items) c.in_ok-push_of_fields.ensures c.in_ok-push_of_directives.ensures
