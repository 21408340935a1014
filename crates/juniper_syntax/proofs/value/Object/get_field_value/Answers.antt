use Rattle.std.proofs.Common.{option_map, sym, ap, ◌∙◌}
use Rattle.graphql_spec.specs.Values.{look_up}
use Rattle.juniper_syntax.specs.ValueView.{view_value}
use Rattle.juniper_syntax.specs.declared.value.Object.{out-Object}
use Rattle.juniper_syntax.proofs.Values.{view-out, look_up-view, option_map-copied}
use Rattle.juniper_syntax.proofs.value.Object.get_field_value.Goals as goal

pub returns : goal.returns
returns g c =
    let shown = g.S.ScalarValue.shown in
    let key = c.args.key.now in
    option_map-copied (view_value shown) c.get.result ∙ ap (option_map (view_value shown)) c.get.ensures
    ∙ sym (ap (look_up key) (view-out shown c.args.self.now) ∙ look_up-view shown key (out-Object g.row.S.Denot c.args.self.now).fields)
