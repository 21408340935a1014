use Rattle.std.proofs.Common.{◌∙◌, None, ap, ◌++◌, refl, arith, rules}
use Rattle.graphql_spec.specs.Selections.{Occurrence}
use Rattle.juniper_lookahead.specs.Choosing.{choice_of}
use Rattle.juniper_lookahead.specs.Collected.{placed, view_found}
use Rattle.juniper_lookahead.specs.Singles.{AreFoundAlone, view_found_singles}
use Rattle.juniper_lookahead.proofs.Alone.{one-more-alone}
use Rattle.juniper_lookahead.proofs.Chosen.{whatever-around}
use Rattle.juniper_lookahead.proofs.Gathering.{all-added, descends, field-added, nothing-added, selections-added, turned}
use Rattle.juniper_lookahead.proofs.singles.+add_singles.Goals as goal
use Rattle.juniper_lookahead.proofs.singles.+add_singles.Goals.{in-Nothing, in-Field+in_ok-push-in-Field, in-Selections+in_ok-add_singles-in-Selections}

pub add_singles-requires : goal.add_singles-requires
add_singles-requires g t c κs within =
    let shown = g.S.ScalarValue.shown in
    let h = choice_of shown g.M.Meets.met c.args.choosing.now in
    let alone : AreFoundAlone shown h c.loop-number.fields.items = c.loop-number.invariant.alone in
    let less = descends shown h None c.args.selections.now c.loop-number.number c.args.spreads_left c.index-selections-number.result _ _ _
    c.loop-number-test.true c.index-selections-number.is c.in-Selections.ensures c.loop-number.invariant.within in
    (omega (arith, less.0), search (rules, less.1, alone))

pub loop-number-preserved : goal.loop-number-preserved
loop-number-preserved g t c =
    let shown = g.S.ScalarValue.shown in
    let h = choice_of shown g.M.Meets.met c.args.choosing.now in
    let ss = c.args.selections.now in
    let i = c.loop-number.number in
    let x = c.index-selections-number.result in
    let n = c.args.spreads_left in
    let old = view_found_singles shown h c.loop-number.fields.items in
    elim c.match-part_of.branch [
      | in-Nothing w ↦ let next = turned shown h None ss Occurrence placed i n _ x _ old old _
          c.loop-number-test.true c.index-selections-number.is w.in-Nothing.ensures c.loop-number.invariant.within c.loop-number.invariant.so_far
          (nothing-added shown h None ss Occurrence placed old) in
          record { within = next.0; so_far = rw w.fields-is next.1; alone = rw w.fields-is c.loop-number.invariant.alone }
      | in-Field+in_ok-push-in-Field w ↦ let next = turned shown h None ss Occurrence placed i n _ x _ old _ _
          c.loop-number-test.true c.index-selections-number.is w.in-Field.ensures c.loop-number.invariant.within c.loop-number.invariant.so_far
          (field-added shown h None ss Occurrence placed _ (λ s. view_found shown h s.field.now) w.in-Field.field
          c.loop-number.fields.items _ (record { field = w.in-Field.field; alone = w.selection_alone.result }) w.in_ok-push-in-Field.ensures.items
          refl) in
          let alone = one-more-alone shown h ss w.in-Field.field w.selection_alone.result c.loop-number.fields.items _
          w.in_ok-push-in-Field.ensures.items i n _ x c.loop-number-test.true c.index-selections-number.is w.in-Field.ensures
          w.selection_alone.ensures c.loop-number.invariant.alone in
          record { within = next.0; so_far = rw w.fields-is next.1; alone = rw w.fields-is alone }
      | in-Selections+in_ok-add_singles-in-Selections w ↦ let next = turned shown h None ss Occurrence placed i n _ x _ old _ _
          c.loop-number-test.true c.index-selections-number.is w.in-Selections.ensures c.loop-number.invariant.within c.loop-number.invariant.so_far
          (selections-added shown h None ss Occurrence placed w.in-Selections.inner _ w.in-Selections.left old _
          (w.in_ok-add_singles-in-Selections.ensures.fields ∙ ap (λ l. old ++ l) (whatever-around h _ _))) in
          record { within = next.0; so_far = rw w.fields-is next.1; alone = rw w.fields-is w.in_ok-add_singles-in-Selections.ensures.alone }
    ]

pub returns-clause-fields : goal.returns-clause-fields
returns-clause-fields g t c =
    all-added g.S.ScalarValue.shown (choice_of g.S.ScalarValue.shown g.M.Meets.met c.args.choosing.now) None c.args.selections.now Occurrence placed
    c.loop-number.number _ _ c.loop-number-test.false c.loop-number.invariant.so_far
