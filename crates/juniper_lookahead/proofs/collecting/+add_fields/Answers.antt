use Rattle.std.proofs.Common.{◌∙◌, None, ap, ◌++◌, refl, arith, rules}
use Rattle.graphql_spec.specs.Selections.{Occurrence}
use Rattle.juniper_lookahead.specs.Choosing.{choice_of}
use Rattle.juniper_lookahead.specs.Collected.{placed, view_all_found, view_found}
use Rattle.juniper_lookahead.proofs.Chosen.{whatever-around}
use Rattle.juniper_lookahead.proofs.Gathering.{all-added, descends, field-added, nothing-added, selections-added, turned}
use Rattle.juniper_lookahead.proofs.collecting.+add_fields.Goals as goal
use Rattle.juniper_lookahead.proofs.collecting.+add_fields.Goals.{in-Nothing, in-Field+in_ok-push-in-Field, in-Selections+in_ok-add_fields-in-Selections}

pub add_fields-requires : goal.add_fields-requires
add_fields-requires g t c κs within =
    let shown = g.S.ScalarValue.shown in
    let h = choice_of shown g.M.Meets.met c.args.choosing.now in
    let less = descends shown h None c.args.selections.now c.loop-selection.selection-index c.args.spreads_left c.selection-item.result _ _ _
    c.loop-selection-test.true c.selection-item.is c.in-Selections.ensures c.loop-selection.invariant.within in
    (omega (arith, less.0), search (rules, less.1))

pub loop-selection-preserved : goal.loop-selection-preserved
loop-selection-preserved g t c =
    let shown = g.S.ScalarValue.shown in
    let h = choice_of shown g.M.Meets.met c.args.choosing.now in
    let ss = c.args.selections.now in
    let i = c.loop-selection.selection-index in
    let n = c.args.spreads_left in
    let x = c.selection-item.result in
    let old = view_all_found shown h c.loop-selection.fields.items in
    elim c.match-part_of.branch [
      | in-Nothing w ↦ let next = turned shown h None ss Occurrence placed i n _ x _ old old _
          c.loop-selection-test.true c.selection-item.is w.in-Nothing.ensures c.loop-selection.invariant.within c.loop-selection.invariant.so_far
          (nothing-added shown h None ss Occurrence placed old) in
          record { within = next.0; so_far = rw w.fields-is next.1 }
      | in-Field+in_ok-push-in-Field w ↦ let next = turned shown h None ss Occurrence placed i n _ x _ old _ _
          c.loop-selection-test.true c.selection-item.is w.in-Field.ensures c.loop-selection.invariant.within c.loop-selection.invariant.so_far
          (field-added shown h None ss Occurrence placed _ (λ o. view_found shown h o.field.now) w.in-Field.field
          c.loop-selection.fields.items _ (record { field = w.in-Field.field }) w.in_ok-push-in-Field.ensures.items
          refl) in
          record { within = next.0; so_far = rw w.fields-is next.1 }
      | in-Selections+in_ok-add_fields-in-Selections w ↦ let next = turned shown h None ss Occurrence placed i n _ x _ old _ _
          c.loop-selection-test.true c.selection-item.is w.in-Selections.ensures c.loop-selection.invariant.within c.loop-selection.invariant.so_far
          (selections-added shown h None ss Occurrence placed w.in-Selections.inner _ w.in-Selections.left old _
          (w.in_ok-add_fields-in-Selections.ensures ∙ ap (λ l. old ++ l) (whatever-around h _ _))) in
          record { within = next.0; so_far = rw w.fields-is next.1 }
    ]

pub returns : goal.returns
returns g t c =
    all-added g.S.ScalarValue.shown (choice_of g.S.ScalarValue.shown g.M.Meets.met c.args.choosing.now) None c.args.selections.now Occurrence placed
    c.loop-selection.selection-index _ _ c.loop-selection-test.false c.loop-selection.invariant.so_far
