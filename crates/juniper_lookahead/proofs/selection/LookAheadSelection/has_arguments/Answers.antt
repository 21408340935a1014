use Rattle.juniper_syntax.specs.DocumentView.{view_argument}
use Rattle.juniper_lookahead.specs.Expansion.{child_at}
use Rattle.juniper_lookahead.specs.SelectionView.{view_selection}
use Rattle.juniper_lookahead.proofs.ShownValues.{empty-seen}
use Rattle.juniper_lookahead.proofs.selection.LookAheadSelection.has_arguments.Goals as goal

pub returns : goal.returns
unfolding view_selection child_at
returns g c = empty-seen (view_argument g.S.ScalarValue.shown) c.written.result.now c.is_empty.ensures c.written.ensures
