use Rattle.std.proofs.Common.{◌≡◌, map}
use Rattle.std.specs.Slice.Iter.{iter_rest}
use Rattle.graphql_spec.specs.Documents.{written}
use Rattle.juniper_syntax.specs.InputView.{view_variables}
use Rattle.juniper_lookahead.specs.ShownValues.{first_named, shown_argument}
use Rattle.juniper_lookahead.specs.SelectionView.{view_selection}
use Rattle.juniper_lookahead.specs.ValueView.{arguments_shown}
use Rattle.juniper_lookahead.proofs.selection.LookAheadSelection.argument.Given as goal

-- what is left decides
abbrev pub invariant-loop-argument : goal.invariant-loop-argument
invariant-loop-argument g l =
    let shown = g.S.ScalarValue.shown in
    (goal.iterator-loop-argument g).can_next l.argument-iterator × (goal.iterator-loop-argument g).is_finite l.argument-iterator
    × (first_named l.name (arguments_shown shown l.argument-iterator.variables.now (iter_rest l.argument-iterator.left))
    ≡ first_named l.name (map (shown_argument (view_variables shown l.self.variables.now)) (written (view_selection l.self).head.arguments)))
