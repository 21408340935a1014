use Rattle.std.proofs.Common.{sym, ap, ◌∙◌}
use Rattle.juniper_syntax.proofs.Values.{view-Null, view-Object}
use Rattle.juniper_walk.specs.Rows.{so_far}
use Rattle.juniper_walk.proofs.Waiting.{so-far-none, so-far-some}
use Rattle.juniper_walk.proofs.rows.value_of.Goals as goal

pub returns-in-Some : goal.returns-in-Some
returns-in-Some g c =
    let shown = g.S.ScalarValue.shown in
    view-Object shown _ ∙ (sym (so-far-some shown c.in-Some.entries) ∙ ap (so_far shown) (sym c.in-Some.is))

pub returns-in-None : goal.returns-in-None
returns-in-None g c =
    let shown = g.S.ScalarValue.shown in
    view-Null shown ∙ (sym (so-far-none shown) ∙ ap (so_far shown) (sym c.in-None.is))
