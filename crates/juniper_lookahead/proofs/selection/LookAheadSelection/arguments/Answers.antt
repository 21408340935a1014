use Rattle.std.proofs.Common.{map, ap, ◌∙◌}
use Rattle.juniper_syntax.specs.InputView.{view_variables}
use Rattle.juniper_syntax.specs.DocumentView.{view_argument}
use Rattle.juniper_lookahead.specs.Expansion.{child_at}
use Rattle.juniper_lookahead.specs.ShownValues.{shown_argument}
use Rattle.juniper_lookahead.specs.SelectionView.{view_selection}
use Rattle.juniper_lookahead.proofs.ShownValues.{map-twice}
use Rattle.juniper_lookahead.proofs.selection.LookAheadSelection.arguments.Goals as goal

pub returns : goal.returns
unfolding view_selection child_at
returns g c =
    let shown = g.S.ScalarValue.shown in
    let show = shown_argument (view_variables shown c.args.self.now.variables.now) in
    map-twice show (view_argument shown) c.iter.result.rest.now ∙ ap (λ as'. map show (map (view_argument shown) as')) c.iter.ensures.rest
    ∙ ap (map show) c.written.ensures
