use Rattle.std.proofs.Common.{◌∙◌}
use Rattle.juniper_syntax.specs.ValueView.{view_value, view_object}
use Rattle.juniper_syntax.proofs.Values.{found_some}
use Rattle.juniper_syntax.proofs.value.Object.contains_field.Goals as goal

pub returns : goal.returns
returns g c =
    let shown = g.S.ScalarValue.shown in
    c.is_some.ensures ∙ found_some (λ v. view_value shown v.now) c.get_field_value.result c.args.key.now
    (view_object shown c.args.self.now) c.get_field_value.ensures
