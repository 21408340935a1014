use Rattle.std.proofs.Common.{◌≡◌, ◌++◌, drop, map}
use Rattle.juniper_syntax.specs.DocumentView.{view_selections}
use Rattle.juniper_lookahead.specs.Choices.{IsWithin, found}
use Rattle.juniper_lookahead.specs.Expansion.{unplaced}
use Rattle.juniper_lookahead.specs.SelectionView.{view_all, view_applies}
use Rattle.juniper_lookahead.specs.Choosing.{choice_of, source_deepest}
use Rattle.juniper_lookahead.specs.Nesting.{nesting, work_left}
use Rattle.juniper_lookahead.proofs.children_below.+add_children.Given as goal

abbrev pub decreases-add_children : goal.decreases-add_children
decreases-add_children g l = work_left (source_deepest l.choosing.now.fragments) l.spreads_left (nesting l.selections.now)

-- what is left still holds what is missing
abbrev pub invariant-loop-selection : goal.invariant-loop-selection
invariant-loop-selection g l =
    let shown = g.S.ScalarValue.shown in
    let h = choice_of shown g.M.Meets.met l.choosing in
    record {
      within : IsWithin h l.spreads_left (view_selections shown (drop l.selection-index l.selections));
      so_far : view_all l.children.items ++ map unplaced (found h (view_applies l.applies_for) (view_selections shown (drop l.selection-index l.selections)))
          ≡ view_all l.initial.children.items ++ map unplaced (found h (view_applies l.applies_for) (view_selections shown l.selections));
    }
