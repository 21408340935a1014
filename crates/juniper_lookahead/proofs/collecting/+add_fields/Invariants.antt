use Rattle.std.proofs.Common.{◌≡◌, ◌++◌, drop}
use Rattle.juniper_syntax.specs.DocumentView.{view_selections}
use Rattle.juniper_lookahead.specs.Choices.{IsWithin}
use Rattle.juniper_lookahead.specs.Choosing.{choice_of, source_deepest}
use Rattle.juniper_lookahead.specs.Collected.{all_found, view_all_found}
use Rattle.juniper_lookahead.specs.Nesting.{nesting, work_left}
use Rattle.juniper_lookahead.proofs.collecting.+add_fields.Given as goal

abbrev pub decreases-add_fields : goal.decreases-add_fields
decreases-add_fields g l = work_left (source_deepest l.choosing.now.fragments) l.spreads_left (nesting l.selections.now)

-- what is left still holds what is missing
abbrev pub invariant-loop-selection : goal.invariant-loop-selection
invariant-loop-selection g l =
    let shown = g.S.ScalarValue.shown in
    let h = choice_of shown g.M.Meets.met l.choosing in
    record {
      within : IsWithin h l.spreads_left (view_selections shown (drop l.selection-index l.selections));
      so_far : view_all_found shown h l.fields.items ++ all_found h (view_selections shown (drop l.selection-index l.selections))
          ≡ view_all_found shown h l.initial.fields.items ++ all_found h (view_selections shown l.selections);
    }
