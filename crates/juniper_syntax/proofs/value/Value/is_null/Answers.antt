use Rattle.std.proofs.Common.{sym, ap, ◌∙◌}
use Rattle.graphql_spec.specs.Values.{is_null}
use Rattle.juniper_syntax.specs.ValueView.{view_value}
use Rattle.juniper_syntax.proofs.Values.{view-Object}
use Rattle.juniper_syntax.proofs.value.Value.is_null.Goals as goal

pub returns-in-Object : goal.returns-in-Object
unfolding is_null
returns-in-Object g c =
    let shown = g.S.ScalarValue.shown in
    sym (ap is_null (ap (view_value shown) c.in-Object.is ∙ view-Object shown c.in-Object.field-0))
