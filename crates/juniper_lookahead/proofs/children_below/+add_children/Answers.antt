use Rattle.std.proofs.Common.{◌∙◌, sym, arith, rules}
use Rattle.graphql_spec.specs.Selections.{Child}
use Rattle.juniper_lookahead.specs.Expansion.{unplaced}
use Rattle.juniper_lookahead.specs.SelectionView.{view_all, view_applies, view_selection}
use Rattle.juniper_lookahead.specs.Choosing.{choice_of}
use Rattle.juniper_lookahead.proofs.Below.{child-unplaced}
use Rattle.juniper_lookahead.proofs.Gathering.{all-added, descends, field-added, nothing-added, selections-added, turned}
use Rattle.juniper_lookahead.proofs.children_below.+add_children.Goals as goal
use Rattle.juniper_lookahead.proofs.children_below.+add_children.Goals.{in-Nothing, in-Field+in_ok-push-in-Field, in-Selections+in_ok-add_children-in-Selections}

pub add_children-requires : goal.add_children-requires
add_children-requires g t c κs within =
    let shown = g.S.ScalarValue.shown in
    let h = choice_of shown g.M.Meets.met c.args.choosing.now in
    let any = c.requires.any in
    let less = descends shown h (view_applies c.args.applies_for) c.args.selections.now c.loop-selection.selection-index c.args.spreads_left c.selection-item.result _ _ _
    c.loop-selection-test.true c.selection-item.is c.in-Selections.ensures c.loop-selection.invariant.within in
    (omega (arith, less.0), search (rules, less.1))

pub loop-selection-preserved : goal.loop-selection-preserved
loop-selection-preserved g t c =
    let shown = g.S.ScalarValue.shown in
    let h = choice_of shown g.M.Meets.met c.args.choosing.now in
    let on = view_applies c.args.applies_for in
    let ss = c.args.selections.now in
    let i = c.loop-selection.selection-index in
    let n = c.args.spreads_left in
    let x = c.selection-item.result in
    let old = view_all c.loop-selection.children.items in
    elim c.match-part_of.branch [
      | in-Nothing w ↦ let next = turned shown h on ss Child unplaced i n _ x _ old old _
          c.loop-selection-test.true c.selection-item.is w.in-Nothing.ensures c.loop-selection.invariant.within c.loop-selection.invariant.so_far
          (nothing-added shown h on ss Child unplaced old) in
          record { within = next.0; so_far = rw w.children-is next.1 }
      | in-Field+in_ok-push-in-Field w ↦ let next = turned shown h on ss Child unplaced i n _ x _ old _ _
          c.loop-selection-test.true c.selection-item.is w.in-Field.ensures c.loop-selection.invariant.within c.loop-selection.invariant.so_far
          (field-added shown h on ss Child unplaced _ view_selection w.in-Field.field c.loop-selection.children.items _ w.child_of.result
          w.in_ok-push-in-Field.ensures.items (w.child_of.ensures ∙ child-unplaced shown _ _ h (sym c.requires.any) w.in-Field.field.now on)) in
          record { within = next.0; so_far = rw w.children-is next.1 }
      | in-Selections+in_ok-add_children-in-Selections w ↦ let next = turned shown h on ss Child unplaced i n _ x _ old _ _
          c.loop-selection-test.true c.selection-item.is w.in-Selections.ensures c.loop-selection.invariant.within c.loop-selection.invariant.so_far
          (selections-added shown h on ss Child unplaced w.in-Selections.inner w.in-Selections.within w.in-Selections.left old _
          w.in_ok-add_children-in-Selections.ensures) in
          record { within = next.0; so_far = rw w.children-is next.1 }
    ]

pub returns : goal.returns
returns g t c =
    all-added g.S.ScalarValue.shown (choice_of g.S.ScalarValue.shown g.M.Meets.met c.args.choosing.now) (view_applies c.args.applies_for) c.args.selections.now Child unplaced c.loop-selection.selection-index _ _
    c.loop-selection-test.false c.loop-selection.invariant.so_far
