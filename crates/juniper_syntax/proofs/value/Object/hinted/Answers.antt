use Rattle.std.proofs.Common.{ap, ◌∙◌}
use Rattle.juniper_syntax.specs.ValueView.{view_entries}
use Rattle.juniper_syntax.proofs.Values.{view-roll}
use Rattle.juniper_syntax.proofs.value.Object.hinted.Goals as goal

pub returns : goal.returns
returns g c =
    let shown = g.S.ScalarValue.shown in
    view-roll shown c.in_ok-hinted.field-0 ∙ ap (view_entries shown) c.in_ok-hinted.ensures
