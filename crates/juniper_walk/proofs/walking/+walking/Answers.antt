use Rattle.std.proofs.Common.{◌≡◌, ◌<◌, ◌≤◌, ◌+◌, ◌-◌, ◌*◌, [], ◌∷◌, false, length, map, slice_range, take, refl, sym, ap, ◌∙◌, subst, arith, rules}
use Rattle.std.proofs.lemmas.List.{length-map}
use Rattle.std.specs.Vec.Iter.{into_iter_items}
use Rattle.graphql_spec.specs.ExactAnswers.{whole}
use Rattle.graphql_spec.specs.GroupLaws.{first_start}
use Rattle.graphql_spec.specs.Selections.{all_below, depth, keys, occurrences}
use Rattle.juniper_syntax.specs.ValueView.{view_object}
use Rattle.juniper_syntax.proofs.Values.{view-Null, view-Object}
use Rattle.juniper_conversions.specs.ErrorView.{view_listed}
use Rattle.juniper_assemble.specs.SpotView.{view_nodes, view_spot}
use Rattle.juniper_lookahead.specs.Collected.{view_all}
use Rattle.graphql_spec.specs.NodeLaws.{AreWalkedOnce}
use Rattle.juniper_walk.proofs.Slices.{taken-all, taken-one}
use Rattle.juniper_walk.specs.Plans.{IsStanding, IsStep, StandsFor, all_expanded, fields_at, key_at}
use Rattle.juniper_walk.specs.Leaves.{IsTaken}
use Rattle.juniper_walk.specs.Budget.{fields_in_all}
use Rattle.juniper_walk.specs.Entered.{entered_at, entered_in, entered_nodes, own_fields}
use Rattle.juniper_walk.proofs.Entering.{at-more, at-taken, column-fits, enter-spends, in-append, in-one, in-taken, key-fits, nodes-taken, rows-taken}
use Rattle.juniper_walk.proofs.Entering.{run-adds, run-fits, through-spends, walk-spends}
use Rattle.juniper_walk.specs.Rows.{AreAdded, AreOfType, AreRows, listed_of, row_fields, values_of}
use Rattle.juniper_walk.proofs.Budget.{all-counted, append-fields, column-counted, leaf-counted, more-counted, no-fields, null-fields}
use Rattle.juniper_walk.proofs.Budget.{object-fields, put-counted, run-counted, run-length, turn-counted}
use Rattle.juniper_walk.proofs.Counted.{added-one, fresh-fields, none-done}
use Rattle.juniper_walk.proofs.Leaves.{leaf-put}
use Rattle.juniper_walk.proofs.Nodes.{none-yet}
use Rattle.juniper_walk.proofs.Rounds.{all-keys, group-asked, group-bound, group-falls, group-is, group-next, group-stops, group-walked, groups-walked}
use Rattle.juniper_walk.proofs.Rounds.{more-steps}
use Rattle.juniper_walk.proofs.Rounds.{next-keys, no-step, node-falls, run-walked, step-made, still-selected, still-stands, take-none}
use Rattle.juniper_walk.proofs.Turns.{start-walking}
use Rattle.juniper_walk.proofs.Holes.{prepared-holes}
use Rattle.juniper_walk.proofs.Waiting.{added-more, none-added, objects-handed, rows-counted, rows-end, rows-fresh, seen-slice, typed-at, typed-one}
use Rattle.juniper_walk.specs.Walking.{IsReadyWalk}
use Rattle.juniper_walk.proofs.walking.+walking.Goals as goal
use Rattle.juniper_walk.proofs.walking.+walking.Goals.{execute_selection_set-in-Leaf+in_ok-put_leaf-in-Leaf}
use Rattle.juniper_walk.proofs.walking.+walking.Goals.{execute_selection_set-in-Apart+in_ok-objects_of-in-Apart+in_ok-rises-in-Apart+else-rises}

pub execute_selection_set-loop-number-init : goal.execute_selection_set-loop-number-init
execute_selection_set-loop-number-init g t c =
    let shown = g.S.ScalarValue.shown in
    let collector = c.args.walk.now.collector in
    let asks = g.R.Resolver.asks c.args.walk.now.collector.possible in
    let possible = g.R.Conditions.possible c.args.walk.now.collector.possible in
    let W = g.R.Completer.world c.args.walk.now.collector.possible in
    let standing : IsStanding shown collector asks possible c.args.plan.now = c.requires.1.1.1.1.1.1.1.0 in
    record {
      step = no-step shown collector asks possible c.args.plan.now standing;
      walked = start-walking W _ c.args.concrete.now c.args.node.now _ _ _ _ (take-none _ (c.args.groups.first.0 - c.args.groups.first.0) (omega arith))
          c.in_ok-entries.ensures (ap (map (view_listed shown)) c.new-errors.ensures.items);
      counted = omega (arith, no-fields (view_object shown c.in_ok-entries.entries) c.in_ok-entries.ensures);
      entered = omega arith;
    }

pub execute_selection_set-execute_field-requires-clause-bound : goal.execute_selection_set-execute_field-requires-clause-bound
execute_selection_set-execute_field-requires-clause-bound g t c =
    let shown = g.S.ScalarValue.shown in
    let collector = c.args.walk.now.collector in
    let asks = g.R.Resolver.asks c.args.walk.now.collector.possible in
    let possible = g.R.Conditions.possible c.args.walk.now.collector.possible in
    let s = all_expanded shown collector c.args.enclosing.now in
    let standing : IsStanding shown collector asks possible c.args.plan.now = c.requires.1.1.1.1.1.1.1.0 in
    let stands : StandsFor shown collector asks c.args.concrete.now c.args.plan.now c.args.groups (occurrences possible c.args.concrete.now s)
    = c.requires.1.1.1.1.1.1.1.1 in
    group-bound shown collector asks possible c.args.plan.now c.loop-number.plan c.args.groups c.args.concrete.now s standing stands
    c.loop-number.invariant.step
    c.loop-number.number c.loop-number.auto.number c.loop-number-test.true

pub execute_selection_set-execute_field-requires-clause-whole : goal.execute_selection_set-execute_field-requires-clause-whole
execute_selection_set-execute_field-requires-clause-whole g t c =
    let shown = g.S.ScalarValue.shown in
    let collector = c.args.walk.now.collector in
    let asks = g.R.Resolver.asks c.args.walk.now.collector.possible in
    let possible = g.R.Conditions.possible c.args.walk.now.collector.possible in
    let s = all_expanded shown collector c.args.enclosing.now in
    let standing : IsStanding shown collector asks possible c.args.plan.now = c.requires.1.1.1.1.1.1.1.0 in
    let stands : StandsFor shown collector asks c.args.concrete.now c.args.plan.now c.args.groups (occurrences possible c.args.concrete.now s)
    = c.requires.1.1.1.1.1.1.1.1 in
    group-is shown collector asks possible c.args.plan.now c.loop-number.plan c.args.groups c.args.concrete.now s standing stands c.loop-number.invariant.step
    c.loop-number.number c.loop-number.auto.number c.loop-number-test.true

pub execute_selection_set-execute_field-requires-clause-asked : goal.execute_selection_set-execute_field-requires-clause-asked
execute_selection_set-execute_field-requires-clause-asked g t c =
    let shown = g.S.ScalarValue.shown in
    let collector = c.args.walk.now.collector in
    let asks = g.R.Resolver.asks c.args.walk.now.collector.possible in
    let possible = g.R.Conditions.possible c.args.walk.now.collector.possible in
    let s = all_expanded shown collector c.args.enclosing.now in
    let standing : IsStanding shown collector asks possible c.args.plan.now = c.requires.1.1.1.1.1.1.1.0 in
    let stands : StandsFor shown collector asks c.args.concrete.now c.args.plan.now c.args.groups (occurrences possible c.args.concrete.now s) =
    c.requires.1.1.1.1.1.1.1.1 in
    group-asked shown collector asks possible c.args.plan.now c.loop-number.plan c.args.groups c.args.concrete.now s standing stands
    c.loop-number.invariant.step c.loop-number.number c.loop-number.auto.number c.loop-number-test.true

pub execute_selection_set-objects_of-requires : goal.execute_selection_set-objects_of-requires
execute_selection_set-objects_of-requires g t c κs within =
    let shown = g.S.ScalarValue.shown in
    let collector = c.args.walk.now.collector in
    let asks = g.R.Resolver.asks c.args.walk.now.collector.possible in
    let possible = g.R.Conditions.possible c.args.walk.now.collector.possible in
    let s = all_expanded shown collector c.args.enclosing.now in
    let standing : IsStanding shown collector asks possible c.args.plan.now = c.requires.1.1.1.1.1.1.1.0 in
    let stands : StandsFor shown collector asks c.args.concrete.now c.args.plan.now c.args.groups (occurrences possible c.args.concrete.now s)
    = c.requires.1.1.1.1.1.1.1.1 in
    let bound : c.loop-number.number < length c.loop-number.plan.groups.items =
    group-bound shown collector asks possible c.args.plan.now c.loop-number.plan c.args.groups c.args.concrete.now s standing stands
    c.loop-number.invariant.step
    c.loop-number.number c.loop-number.auto.number c.loop-number-test.true in
    let falls : 3 * depth (all_below (view_all shown collector (fields_at c.loop-number.plan c.loop-number.number))) + 2 < 3 * depth s =
    group-falls shown collector asks possible c.args.plan.now c.loop-number.plan c.args.groups c.args.concrete.now s standing stands
    c.loop-number.invariant.step
    c.loop-number.number c.loop-number.auto.number c.loop-number-test.true in
    let still : IsStanding shown collector asks possible c.loop-number.plan = c.loop-number.invariant.step.standing in
    (omega (arith, falls), search (rules, bound, still))

pub execute_selection_set-loop-number-preserved : goal.execute_selection_set-loop-number-preserved
execute_selection_set-loop-number-preserved g t c =
    let shown = g.S.ScalarValue.shown in
    let collector = c.args.walk.now.collector in
    let asks = g.R.Resolver.asks c.args.walk.now.collector.possible in
    let possible = g.R.Conditions.possible c.args.walk.now.collector.possible in
    let W = g.R.Completer.world c.args.walk.now.collector.possible in
    let s = all_expanded shown collector c.args.enclosing.now in
    let standing : IsStanding shown collector asks possible c.args.plan.now = c.requires.1.1.1.1.1.1.1.0 in
    let stands : StandsFor shown collector asks c.args.concrete.now c.args.plan.now c.args.groups (occurrences possible c.args.concrete.now s)
    = c.requires.1.1.1.1.1.1.1.1 in
    let ready : IsReadyWalk shown g.R.Conditions.possible g.R.Resolver.values W c.args.walk.now = c.requires.1.1.1.1.1.1.0 in
    let same : possible ≡ W.possible = ready.same in
    let m = c.args.node.now in
    let T = c.args.concrete.now in
    let next = next-keys shown collector asks possible c.args.plan.now c.loop-number.plan c.args.groups T s standing stands c.loop-number.invariant.step
    c.loop-number.number c.loop-number.auto.number c.loop-number-test.true W same in
    let falls = group-falls shown collector asks possible c.args.plan.now c.loop-number.plan c.args.groups T s standing stands c.loop-number.invariant.step
    c.loop-number.number c.loop-number.auto.number c.loop-number-test.true in
    elim c.match-taken.branch [
      | execute_selection_set-in-Leaf+in_ok-put_leaf-in-Leaf w ↦
          let leaf = subst (IsTaken W shown _ c.args.concrete.now c.args.node.now _ _) w.in-Leaf.is c.in_ok-taken.ensures in
          record {
            step = subst (IsStep shown collector asks possible c.args.plan.now) (sym w.plan-is) c.loop-number.invariant.step;
            walked = group-walked shown collector asks possible c.args.plan.now c.loop-number.plan c.args.groups c.args.concrete.now s standing stands
                c.loop-number.invariant.step c.loop-number.number c.loop-number.auto.number c.loop-number-test.true W same _ c.args.node.now _ _ _ _
                c.loop-number.invariant.walked _ _ _ [] [] [] [] [] leaf refl (none-yet W _ [] [] [] refl refl refl) false
                (leaf-put _ _ _ _ _ _ _ (ap (view_object shown) w.entries-is ∙ w.in_ok-put_leaf-in-Leaf.ensures)
                (ap (λ l. map (view_listed shown) l.items) w.errors-is)) refl;
            counted = rw (w.plan-is, w.entries-is) (omega (
              arith,
              c.loop-number.invariant.counted,
              c.loop-number-test.true,
              leaf-counted _ _ (view_object shown c.loop-number.entries) _ w.in_ok-put_leaf-in-Leaf.ensures,
            ));
            entered =
                let more = ap (entered_at W T m s) next ∙ at-more W T m s
                (take (c.loop-number.number - c.args.groups.first.0) (keys (occurrences W.possible T s)))
                (key_at c.loop-number.plan c.loop-number.number) in
                rw w.plan-is (omega (arith, c.loop-number.invariant.entered, more));
          }
      | execute_selection_set-in-Apart+in_ok-objects_of-in-Apart+in_ok-rises-in-Apart+else-rises w ↦
          let apart = subst (IsTaken W shown _ c.args.concrete.now c.args.node.now _ _) w.in-Apart.is c.in_ok-taken.ensures in
          let same_nodes = ap view_nodes w.deref.ensures.value in
          let nodes = objects-handed W _ _ (view_nodes w.deref.result.now) shown w.in_ok-objects_of-in-Apart.field-0.items
          (into_iter_items w.into_iter-below.result) _ _ w.into_iter-below.ensures.rest w.in_ok-objects_of-in-Apart.ensures.walked
          (prepared-holes W _ c.args.concrete.now c.args.node.now _ _ _ _ _ _ _ apart ∙ ap length (sym same_nodes)) refl refl in
          rw (w.plan-is, w.entries-is, w.errors-is) (record {
            step = more-steps shown collector asks possible c.args.plan.now c.loop-number.plan w.objects_of.new.plan c.loop-number.invariant.step
                w.in_ok-objects_of-in-Apart.ensures.plan;
            walked = group-walked shown collector asks possible c.args.plan.now c.loop-number.plan c.args.groups c.args.concrete.now s standing stands
                c.loop-number.invariant.step c.loop-number.number c.loop-number.auto.number c.loop-number-test.true W same _ c.args.node.now _ _ _ _
                c.loop-number.invariant.walked _ _ _ _ _ _ _ _ apart same_nodes nodes _
                w.in_ok-rises-in-Apart.ensures.put_in w.if-rises.false;
            counted =
                let put = put-counted _ _ _ (values_of shown (into_iter_items w.into_iter-below.result)) (view_object shown c.loop-number.entries) _
                (w.in_ok-rises-in-Apart.ensures.put_in.puts w.if-rises.false) in
                let handed = ap (λ l. fields_in_all (values_of shown l)) w.into_iter-below.ensures.rest in
                omega (arith, c.loop-number.invariant.counted, c.loop-number-test.true, put, handed, w.in_ok-objects_of-in-Apart.ensures.counted);
            entered =
                let fits = key-fits W T m s _ _ _ _ _ (view_nodes w.deref.result.now) (same_nodes ∙ apart.nodes)
                (group-next shown collector asks possible c.args.plan.now c.loop-number.plan c.args.groups T s standing stands c.loop-number.invariant.step
                c.loop-number.number c.loop-number.auto.number c.loop-number-test.true W same).whole (omega (arith, falls)) next in
                omega (arith, c.loop-number.invariant.entered, w.in_ok-objects_of-in-Apart.ensures.entered, fits);
          })
    ]

pub execute_selection_set-returns-then-rises : goal.execute_selection_set-returns-then-rises
execute_selection_set-returns-then-rises g t c =
    let shown = g.S.ScalarValue.shown in
    let collector = c.args.walk.now.collector in
    let asks = g.R.Resolver.asks c.args.walk.now.collector.possible in
    let possible = g.R.Conditions.possible c.args.walk.now.collector.possible in
    let W = g.R.Completer.world c.args.walk.now.collector.possible in
    let s = all_expanded shown collector c.args.enclosing.now in
    let standing : IsStanding shown collector asks possible c.args.plan.now = c.requires.1.1.1.1.1.1.1.0 in
    let stands : StandsFor shown collector asks c.args.concrete.now c.args.plan.now c.args.groups (occurrences possible c.args.concrete.now s)
    = c.requires.1.1.1.1.1.1.1.1 in
    let ready : IsReadyWalk shown g.R.Conditions.possible g.R.Resolver.values W c.args.walk.now = c.requires.1.1.1.1.1.1.0 in
    let same : possible ≡ W.possible = ready.same in
    let apart = subst (IsTaken W shown _ c.args.concrete.now c.args.node.now _ _) c.in-Apart.is c.in_ok-taken.ensures in
    let same_nodes = ap view_nodes c.deref.ensures.value in
    let nodes = objects-handed W _ _ (view_nodes c.deref.result.now) shown c.in_ok-objects_of-in-Apart.field-0.items
    (into_iter_items c.into_iter-below.result) _ _ c.into_iter-below.ensures.rest c.in_ok-objects_of-in-Apart.ensures.walked
    (prepared-holes W _ c.args.concrete.now c.args.node.now _ _ _ _ _ _ _ apart ∙ ap length (sym same_nodes)) refl refl in
    record {
      plan = more-steps shown collector asks possible c.args.plan.now c.loop-number.plan c.objects_of.new.plan c.loop-number.invariant.step
          c.in_ok-objects_of-in-Apart.ensures.plan;
      walked = group-stops shown collector asks possible c.args.plan.now c.loop-number.plan c.args.groups c.args.concrete.now s standing stands
          c.loop-number.invariant.step c.loop-number.number c.loop-number.auto.number c.loop-number-test.true W same _ c.args.node.now _ _ _ _
          c.loop-number.invariant.walked _ _ _ _ _ _ _ _ apart same_nodes nodes _
          c.in_ok-rises-in-Apart.ensures.put_in _ (view-Null shown) c.if-rises.true;
      counted = omega (arith, null-fields _ (view-Null shown), c.loop-number.invariant.step.grown.left, c.in_ok-objects_of-in-Apart.ensures.counted);
      entered =
          let m = c.args.node.now in
          let T = c.args.concrete.now in
          let next = next-keys shown collector asks possible c.args.plan.now c.loop-number.plan c.args.groups T s standing stands c.loop-number.invariant.step
          c.loop-number.number c.loop-number.auto.number c.loop-number-test.true W same in
          let falls = group-falls shown collector asks possible c.args.plan.now c.loop-number.plan c.args.groups T s standing stands
          c.loop-number.invariant.step c.loop-number.number c.loop-number.auto.number c.loop-number-test.true in
          let fits = key-fits W T m s _ _ _ _ _ (view_nodes c.deref.result.now) (same_nodes ∙ apart.nodes)
          (group-next shown collector asks possible c.args.plan.now c.loop-number.plan c.args.groups T s standing stands c.loop-number.invariant.step
          c.loop-number.number c.loop-number.auto.number c.loop-number-test.true W same).whole (omega (arith, falls)) next in
          let within = at-taken W T m s (c.loop-number.number + 1 - c.args.groups.first.0) in
          omega (arith, c.loop-number.invariant.entered, c.in_ok-objects_of-in-Apart.ensures.entered, fits, within);
    }

pub execute_selection_set-returns-in_err-objects_of-in-Apart-clause-entered : goal.execute_selection_set-returns-in_err-objects_of-in-Apart-clause-entered
execute_selection_set-returns-in_err-objects_of-in-Apart-clause-entered g t c =
    let shown = g.S.ScalarValue.shown in
    let collector = c.args.walk.now.collector in
    let asks = g.R.Resolver.asks c.args.walk.now.collector.possible in
    let possible = g.R.Conditions.possible c.args.walk.now.collector.possible in
    let W = g.R.Completer.world c.args.walk.now.collector.possible in
    let s = all_expanded shown collector c.args.enclosing.now in
    let standing : IsStanding shown collector asks possible c.args.plan.now = c.requires.1.1.1.1.1.1.1.0 in
    let stands : StandsFor shown collector asks c.args.concrete.now c.args.plan.now c.args.groups (occurrences possible c.args.concrete.now s)
    = c.requires.1.1.1.1.1.1.1.1 in
    let ready : IsReadyWalk shown g.R.Conditions.possible g.R.Resolver.values W c.args.walk.now = c.requires.1.1.1.1.1.1.0 in
    let same : possible ≡ W.possible = ready.same in
    let apart = subst (IsTaken W shown _ c.args.concrete.now c.args.node.now _ _) c.in-Apart.is c.in_ok-taken.ensures in
    let m = c.args.node.now in
    let T = c.args.concrete.now in
    let next = next-keys shown collector asks possible c.args.plan.now c.loop-number.plan c.args.groups T s standing stands c.loop-number.invariant.step
    c.loop-number.number c.loop-number.auto.number c.loop-number-test.true W same in
    let falls = group-falls shown collector asks possible c.args.plan.now c.loop-number.plan c.args.groups T s standing stands
    c.loop-number.invariant.step c.loop-number.number c.loop-number.auto.number c.loop-number-test.true in
    let fits = key-fits W T m s _ _ _ _ _ (view_nodes c.deref.result.now) (ap view_nodes c.deref.ensures.value ∙ apart.nodes)
    (group-next shown collector asks possible c.args.plan.now c.loop-number.plan c.args.groups T s standing stands c.loop-number.invariant.step
    c.loop-number.number c.loop-number.auto.number c.loop-number-test.true W same).whole (omega (arith, falls)) next in
    let within = at-taken W T m s (c.loop-number.number + 1 - c.args.groups.first.0) in
    through-spends (Unit {0}) _ _ 0 _ _ _ _ _ c.from_residual-in_err-objects_of-in-Apart.result c.from_residual-in_err-objects_of-in-Apart.ensures.1
    c.in_err-objects_of-in-Apart.ensures.entered (λ less. omega (arith, c.loop-number.invariant.entered, fits, within, less))

pub execute_selection_set-returns : goal.execute_selection_set-returns
execute_selection_set-returns g t c =
    let shown = g.S.ScalarValue.shown in
    let collector = c.args.walk.now.collector in
    let asks = g.R.Resolver.asks c.args.walk.now.collector.possible in
    let possible = g.R.Conditions.possible c.args.walk.now.collector.possible in
    let W = g.R.Completer.world c.args.walk.now.collector.possible in
    let s = all_expanded shown collector c.args.enclosing.now in
    let stands : StandsFor shown collector asks c.args.concrete.now c.args.plan.now c.args.groups (occurrences possible c.args.concrete.now s)
    = c.requires.1.1.1.1.1.1.1.1 in
    let ready : IsReadyWalk shown g.R.Conditions.possible g.R.Resolver.values W c.args.walk.now = c.requires.1.1.1.1.1.1.0 in
    let same : possible ≡ W.possible = ready.same in
    record {
      plan = c.loop-number.invariant.step;
      walked = groups-walked shown collector asks possible c.args.plan.now c.args.groups c.args.concrete.now s stands c.loop-number.number
          c.loop-number-test.false W same _ c.args.node.now _ _ _ (view-Object shown c.loop-number.entries) c.loop-number.invariant.walked;
      counted = omega (arith, object-fields _ _ (view-Object shown c.loop-number.entries), c.loop-number.invariant.counted);
      entered = omega (
        arith,
        c.loop-number.invariant.entered,
        at-taken W c.args.concrete.now c.args.node.now s (c.loop-number.number - c.args.groups.first.0),
      );
    }

pub objects_of-returns-then-is_empty-clause-plan : goal.objects_of-returns-then-is_empty-clause-plan
objects_of-returns-then-is_empty-clause-plan g t c =
    no-step g.S.ScalarValue.shown c.args.walk.now.collector (g.R.Resolver.asks c.args.walk.now.collector.possible)
    (g.R.Conditions.possible c.args.walk.now.collector.possible) c.args.plan.now c.requires.standing

pub objects_of-returns-then-is_empty-clause-counted : goal.objects_of-returns-then-is_empty-clause-counted
objects_of-returns-then-is_empty-clause-counted g t c = omega (arith, none-done g.S.ScalarValue.shown c.in_ok-done.done.items c.in_ok-done.ensures.items)

pub objects_of-loop-start-init : goal.objects_of-loop-start-init
objects_of-loop-start-init g t c =
    let shown = g.S.ScalarValue.shown in
    let collector = c.args.walk.now.collector in
    let asks = g.R.Resolver.asks c.args.walk.now.collector.possible in
    let possible = g.R.Conditions.possible c.args.walk.now.collector.possible in
    let W = g.R.Completer.world c.args.walk.now.collector.possible in
    record {
      step = no-step shown collector asks possible c.args.plan.now c.requires.standing;
      inside = omega arith;
      walked = subst (λ l. AreWalkedOnce whole first_start W (all_below (view_all shown collector (fields_at c.args.plan.now c.args.group.0))) []
          (values_of shown l) (listed_of shown l)) (sym c.in_ok-done.ensures.items) tt;
      counted = omega (arith, none-done shown c.in_ok-done.done.items c.in_ok-done.ensures.items);
      entered = omega arith;
    }

pub objects_of-enter_below-requires-clause-selected : goal.objects_of-enter_below-requires-clause-selected
objects_of-enter_below-requires-clause-selected g t c =
    let shown = g.S.ScalarValue.shown in
    let collector = c.args.walk.now.collector in
    let asks = g.R.Resolver.asks c.args.walk.now.collector.possible in
    let possible = g.R.Conditions.possible c.args.walk.now.collector.possible in
    let selected = ap (all_expanded shown collector) c.deref.ensures.value ∙ (c.in_ok-enclosing.ensures
    ∙ ap (λ l. all_below (view_all shown collector l)) c.fields.ensures) in
    still-selected shown collector asks possible c.args.plan.now c.loop-start.plan c.args.group.0 c.requires.standing c.requires.bound
    c.loop-start.invariant.step _ selected

pub objects_of-run_end-end-requires-clause-first : goal.objects_of-run_end-end-requires-clause-first
objects_of-run_end-end-requires-clause-first g t c =
    let W = g.R.Completer.world c.args.walk.now.collector.possible in
    typed-one W c.concrete_type_name-concrete.result.now c.args.nodes.now c.loop-start.start c.index-nodes-start.result c.loop-start-test.true
    c.index-nodes-start.is (c.concrete_type_name-concrete.ensures ∙ ap (λ n. W.concrete n.what) (sym c.index-nodes-start.is))

pub objects_of-one_by_one-requires : goal.objects_of-one_by_one-requires
objects_of-one_by_one-requires g t c κs within =
    let shown = g.S.ScalarValue.shown in
    let collector = c.args.walk.now.collector in
    let asks = g.R.Resolver.asks c.args.walk.now.collector.possible in
    let possible = g.R.Conditions.possible c.args.walk.now.collector.possible in
    let W = g.R.Completer.world c.args.walk.now.collector.possible in
    let T = c.concrete_type_name-concrete.result.now in
    let selected = ap (all_expanded shown collector) c.deref-else-is_column.ensures.value ∙ (c.in_ok-enclosing.ensures
    ∙ ap (λ l. all_below (view_all shown collector l)) c.fields.ensures) in
    let falls : 3 * depth (all_expanded shown collector c.deref-else-is_column.result.now) + 1
    < 3 * depth (all_below (view_all shown collector (fields_at c.args.plan.now c.args.group.0))) + 2 =
    node-falls shown collector asks possible c.args.plan.now c.loop-start.plan c.args.group.0 c.requires.standing c.requires.bound c.loop-start.invariant.step _
    selected in
    let same : all_expanded shown collector c.deref.result.now ≡ all_expanded shown collector c.deref-else-is_column.result.now =
    ap (all_expanded shown collector) (c.deref.ensures.value ∙ sym c.deref-else-is_column.ensures.value) in
    let standing : IsStanding shown collector asks possible c.enter_below.new.plan = c.in_ok-groups.ensures.made.standing in
    let groups : StandsFor shown collector asks T c.enter_below.new.plan c.in_ok-groups.groups
    (occurrences possible T (all_expanded shown collector c.deref-else-is_column.result.now)) =
    subst (λ s. StandsFor shown collector asks T c.enter_below.new.plan c.in_ok-groups.groups (occurrences possible T s)) same
    c.in_ok-groups.ensures.made.stands in
    let typed = c.run_end-end.ensures.typed in
    (omega (arith, c.decreases, falls), search (rules, standing, groups, typed))

pub objects_of-rows_of-requires : goal.objects_of-rows_of-requires
objects_of-rows_of-requires g t c κs within =
    let shown = g.S.ScalarValue.shown in
    let collector = c.args.walk.now.collector in
    let asks = g.R.Resolver.asks c.args.walk.now.collector.possible in
    let possible = g.R.Conditions.possible c.args.walk.now.collector.possible in
    let W = g.R.Completer.world c.args.walk.now.collector.possible in
    let T = c.concrete_type_name-concrete.result.now in
    let selected = ap (all_expanded shown collector) c.deref-then-is_column.ensures.value ∙ (c.in_ok-enclosing.ensures
    ∙ ap (λ l. all_below (view_all shown collector l)) c.fields.ensures) in
    let falls : 3 * depth (all_expanded shown collector c.deref-then-is_column.result.now) + 1
    < 3 * depth (all_below (view_all shown collector (fields_at c.args.plan.now c.args.group.0))) + 2 =
    node-falls shown collector asks possible c.args.plan.now c.loop-start.plan c.args.group.0 c.requires.standing c.requires.bound c.loop-start.invariant.step _
    selected in
    let same : all_expanded shown collector c.deref.result.now ≡ all_expanded shown collector c.deref-then-is_column.result.now =
    ap (all_expanded shown collector) (c.deref.ensures.value ∙ sym c.deref-then-is_column.ensures.value) in
    let standing : IsStanding shown collector asks possible c.enter_below.new.plan = c.in_ok-groups.ensures.made.standing in
    let groups : StandsFor shown collector asks T c.enter_below.new.plan c.in_ok-groups.groups
    (occurrences possible T (all_expanded shown collector c.deref-then-is_column.result.now)) =
    subst (λ s. StandsFor shown collector asks T c.enter_below.new.plan c.in_ok-groups.groups (occurrences possible T s)) same
    c.in_ok-groups.ensures.made.stands in
    (omega (arith, c.decreases, falls), search (rules, standing, groups))

pub objects_of-loop-start-preserved-in_ok-end_rows : goal.objects_of-loop-start-preserved-in_ok-end_rows
objects_of-loop-start-preserved-in_ok-end_rows g t c =
    let shown = g.S.ScalarValue.shown in
    let collector = c.args.walk.now.collector in
    let asks = g.R.Resolver.asks c.args.walk.now.collector.possible in
    let possible = g.R.Conditions.possible c.args.walk.now.collector.possible in
    let W = g.R.Completer.world c.args.walk.now.collector.possible in
    let T = c.concrete_type_name-concrete.result.now in
    let selected = ap (all_expanded shown collector) c.deref-then-is_column.ensures.value ∙ (c.in_ok-enclosing.ensures
    ∙ ap (λ l. all_below (view_all shown collector l)) c.fields.ensures) in
    let some = c.run_end-end.ensures.some in
    let low : c.loop-start.start ≤ c.run_end-end.result = omega (arith, some) in
    let run = rows-end W _ T shown _ (ap (λ f. keys (occurrences f T (all_expanded shown collector c.deref-then-is_column.result.now))) c.requires.ready.same) _
    c.in_ok-rows.rows.items c.in_ok-rows.ensures.rows c.run_end-end.ensures.typed in
    record {
      step = more-steps shown collector asks possible c.args.plan.now c.enter_below.new.plan c.rows_of.new.plan
          (step-made shown collector asks possible c.args.plan.now c.loop-start.plan c.args.group.0 c.requires.standing c.requires.bound
          c.loop-start.invariant.step _ selected c.enter_below.new.plan _ _ _ c.in_ok-groups.ensures.made) c.in_ok-rows.ensures.plan;
      inside = c.run_end-end.ensures.inside;
      walked = run-walked shown collector asks possible c.args.plan.now c.loop-start.plan c.args.group.0 c.requires.standing c.requires.bound
          c.loop-start.invariant.step _ selected W _ _ _ _ _ _ _ _ _ c.loop-start.invariant.walked run
          (seen-slice (view_spot (λ n. n)) c.args.nodes.now c.loop-start.start c.run_end-end.result low) c.in_ok-end_rows.ensures.values
          c.in_ok-end_rows.ensures.listed;
      counted = run-counted _ _ (row_fields shown c.in_ok-rows.rows.items) _ _ _ _ _ _ _
          (ap fields_in_all c.in_ok-end_rows.ensures.values ∙ append-fields _ _)
          (run-length c.args.nodes.now c.loop-start.start c.run_end-end.result some c.run_end-end.ensures.inside)
          c.loop-start.invariant.counted c.in_ok-groups.ensures.counted c.in_ok-rows.ensures.counted;
      entered =
          let below = all_below (view_all shown collector (fields_at c.args.plan.now c.args.group.0)) in
          let T = c.concrete_type_name-concrete.result.now in
          let run = view_nodes (slice_range c.args.nodes.now c.loop-start.start c.run_end-end.result) in
          let fits = run-fits W T below (view_nodes (take c.loop-start.start c.args.nodes.now)) run (view_nodes (take c.run_end-end.result c.args.nodes.now))
          c.run_end-end.ensures.typed (seen-slice (view_spot (λ n. n)) c.args.nodes.now c.loop-start.start c.run_end-end.result low) in
          let size = length-map (slice_range c.args.nodes.now c.loop-start.start c.run_end-end.result) (view_spot (λ n. n))
          ∙ run-length c.args.nodes.now c.loop-start.start c.run_end-end.result some c.run_end-end.ensures.inside in
          let own = ap (λ f. own_fields f T below) c.requires.ready.same in
          let charged = subst
          (λ x. c.loop-start.plan.left ≤ c.enter_below.new.plan.left + (c.run_end-end.result - c.loop-start.start) * own_fields possible T x)
          (ap (all_expanded shown collector) (c.deref.ensures.value ∙ sym c.deref-then-is_column.ensures.value) ∙ selected) c.in_ok-groups.ensures.entered in
          let counted = subst (λ n. c.loop-start.plan.left ≤ c.enter_below.new.plan.left + (c.run_end-end.result - c.loop-start.start) * n) own charged in
          let walked = subst (λ x. c.enter_below.new.plan.left ≤ c.rows_of.new.plan.left + entered_in W T x run) selected c.in_ok-rows.ensures.entered in
          run-adds _ _ _ _ _ _ _ _ _ _ fits size c.loop-start.invariant.entered counted walked;
    }

pub objects_of-loop-start-preserved : goal.objects_of-loop-start-preserved
objects_of-loop-start-preserved g t c =
    let shown = g.S.ScalarValue.shown in
    let collector = c.args.walk.now.collector in
    let asks = g.R.Resolver.asks c.args.walk.now.collector.possible in
    let possible = g.R.Conditions.possible c.args.walk.now.collector.possible in
    let W = g.R.Completer.world c.args.walk.now.collector.possible in
    let selected = ap (all_expanded shown collector) c.deref-else-is_column.ensures.value ∙ (c.in_ok-enclosing.ensures
    ∙ ap (λ l. all_below (view_all shown collector l)) c.fields.ensures) in
    let some = c.run_end-end.ensures.some in
    let low : c.loop-start.start ≤ c.run_end-end.result = omega (arith, some) in
    let added = c.in_ok-one_by_one.ensures.walked in
    record {
      step = more-steps shown collector asks possible c.args.plan.now c.enter_below.new.plan c.one_by_one.new.plan
          (step-made shown collector asks possible c.args.plan.now c.loop-start.plan c.args.group.0 c.requires.standing c.requires.bound
          c.loop-start.invariant.step _ selected c.enter_below.new.plan _ _ _ c.in_ok-groups.ensures.made) c.in_ok-one_by_one.ensures.plan;
      inside = c.run_end-end.ensures.inside;
      walked = run-walked shown collector asks possible c.args.plan.now c.loop-start.plan c.args.group.0 c.requires.standing c.requires.bound
          c.loop-start.invariant.step _ selected W _ _ _ _ _ _ _ _ _ c.loop-start.invariant.walked added.walked
          (seen-slice (view_spot (λ n. n)) c.args.nodes.now c.loop-start.start c.run_end-end.result low) added.all_values added.all_errors;
      counted = more-counted _ _ _ _ _ _ _ _ _ (run-length c.args.nodes.now c.loop-start.start c.run_end-end.result some c.run_end-end.ensures.inside)
          c.loop-start.invariant.counted c.in_ok-groups.ensures.counted c.in_ok-one_by_one.ensures.counted;
      entered =
          let below = all_below (view_all shown collector (fields_at c.args.plan.now c.args.group.0)) in
          let T = c.concrete_type_name-concrete.result.now in
          let run = view_nodes (slice_range c.args.nodes.now c.loop-start.start c.run_end-end.result) in
          let fits = run-fits W T below (view_nodes (take c.loop-start.start c.args.nodes.now)) run (view_nodes (take c.run_end-end.result c.args.nodes.now))
          c.run_end-end.ensures.typed (seen-slice (view_spot (λ n. n)) c.args.nodes.now c.loop-start.start c.run_end-end.result low) in
          let size = length-map (slice_range c.args.nodes.now c.loop-start.start c.run_end-end.result) (view_spot (λ n. n))
          ∙ run-length c.args.nodes.now c.loop-start.start c.run_end-end.result some c.run_end-end.ensures.inside in
          let own = ap (λ f. own_fields f T below) c.requires.ready.same in
          let charged = subst
          (λ x. c.loop-start.plan.left ≤ c.enter_below.new.plan.left + (c.run_end-end.result - c.loop-start.start) * own_fields possible T x)
          (ap (all_expanded shown collector) (c.deref.ensures.value ∙ sym c.deref-else-is_column.ensures.value) ∙ selected) c.in_ok-groups.ensures.entered in
          let counted = subst (λ n. c.loop-start.plan.left ≤ c.enter_below.new.plan.left + (c.run_end-end.result - c.loop-start.start) * n) own charged in
          let walked = subst (λ x. c.enter_below.new.plan.left ≤ c.one_by_one.new.plan.left + entered_in W T x run) selected
          c.in_ok-one_by_one.ensures.entered in
          run-adds _ _ _ _ _ _ _ _ _ _ fits size c.loop-start.invariant.entered counted walked;
    }

pub objects_of-returns-clause-walked : goal.objects_of-returns-clause-walked
objects_of-returns-clause-walked g t c =
    let shown = g.S.ScalarValue.shown in
    let collector = c.args.walk.now.collector in
    let asks = g.R.Resolver.asks c.args.walk.now.collector.possible in
    let possible = g.R.Conditions.possible c.args.walk.now.collector.possible in
    let W = g.R.Completer.world c.args.walk.now.collector.possible in
    subst (λ ns. AreWalkedOnce whole first_start W (all_below (view_all shown collector (fields_at c.args.plan.now c.args.group.0))) ns
    (values_of shown c.loop-start.done.items) (listed_of shown c.loop-start.done.items))
    (taken-all (view_spot (λ n. n)) c.args.nodes.now c.loop-start.start c.loop-start-test.false) c.loop-start.invariant.walked

pub objects_of-returns-in_err-groups-clause-entered : goal.objects_of-returns-in_err-groups-clause-entered
objects_of-returns-in_err-groups-clause-entered g t c =
    let shown = g.S.ScalarValue.shown in
    let collector = c.args.walk.now.collector in
    let asks = g.R.Resolver.asks c.args.walk.now.collector.possible in
    let possible = g.R.Conditions.possible c.args.walk.now.collector.possible in
    let W = g.R.Completer.world c.args.walk.now.collector.possible in
    let T = c.concrete_type_name-concrete.result.now in
    let below = all_below (view_all shown collector (fields_at c.args.plan.now c.args.group.0)) in
    let selected : all_expanded shown collector c.deref.result.now ≡ below = ap (all_expanded shown collector) c.deref.ensures.value
    ∙ (c.in_ok-enclosing.ensures
    ∙ ap (λ l. all_below (view_all shown collector l)) c.fields.ensures) in
    let some = c.run_end-end.ensures.some in
    let low : c.loop-start.start ≤ c.run_end-end.result = omega (arith, some) in
    let run = view_nodes (slice_range c.args.nodes.now c.loop-start.start c.run_end-end.result) in
    let fits = run-fits W T below (view_nodes (take c.loop-start.start c.args.nodes.now)) run (view_nodes (take c.run_end-end.result c.args.nodes.now))
    c.run_end-end.ensures.typed (seen-slice (view_spot (λ n. n)) c.args.nodes.now c.loop-start.start c.run_end-end.result low) in
    let size = length-map (slice_range c.args.nodes.now c.loop-start.start c.run_end-end.result) (view_spot (λ n. n))
    ∙ run-length c.args.nodes.now c.loop-start.start c.run_end-end.result some c.run_end-end.ensures.inside in
    let own = ap (λ s. own_fields possible T s) selected ∙ ap (λ f. own_fields f T below) c.requires.ready.same in
    let within = nodes-taken W (view_spot (λ n. n)) below c.run_end-end.result c.args.nodes.now in
    through-spends (Unit {0}) _ _ 0 _ _ _ _ _ c.from_residual-in_err-groups.result c.from_residual-in_err-groups.ensures.1 c.in_err-groups.ensures.entered
    (λ less. enter-spends _ _ _ _ _ _ _ _ _ fits size c.loop-start.invariant.entered
    (subst (λ n. c.loop-start.plan.left < (c.run_end-end.result - c.loop-start.start) * n) own less) within)

pub objects_of-returns-in_err-rows-clause-entered : goal.objects_of-returns-in_err-rows-clause-entered
objects_of-returns-in_err-rows-clause-entered g t c =
    let shown = g.S.ScalarValue.shown in
    let collector = c.args.walk.now.collector in
    let asks = g.R.Resolver.asks c.args.walk.now.collector.possible in
    let possible = g.R.Conditions.possible c.args.walk.now.collector.possible in
    let W = g.R.Completer.world c.args.walk.now.collector.possible in
    let T = c.concrete_type_name-concrete.result.now in
    let below = all_below (view_all shown collector (fields_at c.args.plan.now c.args.group.0)) in
    let selected : all_expanded shown collector c.deref.result.now ≡ below = ap (all_expanded shown collector) c.deref.ensures.value
    ∙ (c.in_ok-enclosing.ensures
    ∙ ap (λ l. all_below (view_all shown collector l)) c.fields.ensures) in
    let some = c.run_end-end.ensures.some in
    let low : c.loop-start.start ≤ c.run_end-end.result = omega (arith, some) in
    let run = view_nodes (slice_range c.args.nodes.now c.loop-start.start c.run_end-end.result) in
    let fits = run-fits W T below (view_nodes (take c.loop-start.start c.args.nodes.now)) run (view_nodes (take c.run_end-end.result c.args.nodes.now))
    c.run_end-end.ensures.typed (seen-slice (view_spot (λ n. n)) c.args.nodes.now c.loop-start.start c.run_end-end.result low) in
    let size = length-map (slice_range c.args.nodes.now c.loop-start.start c.run_end-end.result) (view_spot (λ n. n))
    ∙ run-length c.args.nodes.now c.loop-start.start c.run_end-end.result some c.run_end-end.ensures.inside in
    let own = ap (λ s. own_fields possible T s) selected ∙ ap (λ f. own_fields f T below) c.requires.ready.same in
    let within = nodes-taken W (view_spot (λ n. n)) below c.run_end-end.result c.args.nodes.now in
    let charged = subst (λ n. c.loop-start.plan.left ≤ c.enter_below.new.plan.left + (c.run_end-end.result - c.loop-start.start) * n) own
    c.in_ok-groups.ensures.entered in
    let selected_there = ap (all_expanded shown collector) (c.deref-then-is_column.ensures.value ∙ sym c.deref.ensures.value) ∙ selected in
    through-spends (Unit {0}) _ _ 0 _ _ _ _ _ c.from_residual-in_err-rows.result c.from_residual-in_err-rows.ensures.1 c.in_err-rows.ensures.entered
    (λ less. walk-spends _ _ _ _ _ _ _ _ _ _ fits size c.loop-start.invariant.entered charged
    (subst (λ x. c.enter_below.new.plan.left < entered_in W T x run) selected_there less) within)

pub objects_of-returns-in_err-one_by_one-clause-entered : goal.objects_of-returns-in_err-one_by_one-clause-entered
objects_of-returns-in_err-one_by_one-clause-entered g t c =
    let shown = g.S.ScalarValue.shown in
    let collector = c.args.walk.now.collector in
    let asks = g.R.Resolver.asks c.args.walk.now.collector.possible in
    let possible = g.R.Conditions.possible c.args.walk.now.collector.possible in
    let W = g.R.Completer.world c.args.walk.now.collector.possible in
    let T = c.concrete_type_name-concrete.result.now in
    let below = all_below (view_all shown collector (fields_at c.args.plan.now c.args.group.0)) in
    let selected : all_expanded shown collector c.deref.result.now ≡ below = ap (all_expanded shown collector) c.deref.ensures.value
    ∙ (c.in_ok-enclosing.ensures
    ∙ ap (λ l. all_below (view_all shown collector l)) c.fields.ensures) in
    let some = c.run_end-end.ensures.some in
    let low : c.loop-start.start ≤ c.run_end-end.result = omega (arith, some) in
    let run = view_nodes (slice_range c.args.nodes.now c.loop-start.start c.run_end-end.result) in
    let fits = run-fits W T below (view_nodes (take c.loop-start.start c.args.nodes.now)) run (view_nodes (take c.run_end-end.result c.args.nodes.now))
    c.run_end-end.ensures.typed (seen-slice (view_spot (λ n. n)) c.args.nodes.now c.loop-start.start c.run_end-end.result low) in
    let size = length-map (slice_range c.args.nodes.now c.loop-start.start c.run_end-end.result) (view_spot (λ n. n))
    ∙ run-length c.args.nodes.now c.loop-start.start c.run_end-end.result some c.run_end-end.ensures.inside in
    let own = ap (λ s. own_fields possible T s) selected ∙ ap (λ f. own_fields f T below) c.requires.ready.same in
    let within = nodes-taken W (view_spot (λ n. n)) below c.run_end-end.result c.args.nodes.now in
    let charged = subst (λ n. c.loop-start.plan.left ≤ c.enter_below.new.plan.left + (c.run_end-end.result - c.loop-start.start) * n) own
    c.in_ok-groups.ensures.entered in
    let selected_there = ap (all_expanded shown collector) (c.deref-else-is_column.ensures.value ∙ sym c.deref.ensures.value) ∙ selected in
    through-spends (Unit {0}) _ _ 0 _ _ _ _ _ c.from_residual-in_err-one_by_one.result c.from_residual-in_err-one_by_one.ensures.1
    c.in_err-one_by_one.ensures.entered
    (λ less. walk-spends _ _ _ _ _ _ _ _ _ _ fits size c.loop-start.invariant.entered charged
    (subst (λ x. c.enter_below.new.plan.left < entered_in W T x run) selected_there less) within)

pub one_by_one-loop-spot-init : goal.one_by_one-loop-spot-init
one_by_one-loop-spot-init g t c =
    let shown = g.S.ScalarValue.shown in
    let collector = c.args.walk.now.collector in
    let asks = g.R.Resolver.asks c.args.walk.now.collector.possible in
    let possible = g.R.Conditions.possible c.args.walk.now.collector.possible in
    let standing : IsStanding shown collector asks possible c.args.plan.now = c.requires.1.1.1.1.1.1.1.0 in
    record {
      step = no-step shown collector asks possible c.args.plan.now standing;
      added = none-added (g.R.Completer.world c.args.walk.now.collector.possible) _ shown c.args.done.now.items;
      inside = omega arith;
      counted = omega arith;
      entered = omega arith;
    }

pub one_by_one-execute_selection_set-requires : goal.one_by_one-execute_selection_set-requires
one_by_one-execute_selection_set-requires g t c κs within =
    let shown = g.S.ScalarValue.shown in
    let collector = c.args.walk.now.collector in
    let asks = g.R.Resolver.asks c.args.walk.now.collector.possible in
    let possible = g.R.Conditions.possible c.args.walk.now.collector.possible in
    let T = c.args.concrete.now in
    let s = all_expanded shown collector c.args.enclosing.now in
    let standing : IsStanding shown collector asks possible c.args.plan.now = c.requires.1.1.1.1.1.1.1.0 in
    let stands : StandsFor shown collector asks T c.args.plan.now c.args.groups (occurrences possible T s) = c.requires.1.1.1.1.1.1.1.1.0 in
    let now : IsStanding shown collector asks possible c.loop-spot.plan = c.loop-spot.invariant.step.standing in
    let groups : StandsFor shown collector asks T c.loop-spot.plan c.args.groups (occurrences possible T s) =
    still-stands shown collector asks possible c.args.plan.now c.loop-spot.plan c.args.groups T s standing stands c.loop-spot.invariant.step in
    (omega arith, search (rules, now, groups))

pub one_by_one-loop-spot-preserved : goal.one_by_one-loop-spot-preserved
one_by_one-loop-spot-preserved g t c =
    let shown = g.S.ScalarValue.shown in
    let collector = c.args.walk.now.collector in
    let asks = g.R.Resolver.asks c.args.walk.now.collector.possible in
    let possible = g.R.Conditions.possible c.args.walk.now.collector.possible in
    let W = g.R.Completer.world c.args.walk.now.collector.possible in
    let T = c.args.concrete.now in
    let nodes = c.args.nodes.now in
    let i = c.loop-spot.spot-index in
    let x = c.spot-item.result in
    let below = c.loop-spot-test.true in
    let is = c.spot-item.is in
    let typed : AreOfType W T (view_nodes nodes) = c.requires.1.1.1.1.1.1.1.1.1 in
    record {
      step = more-steps shown collector asks possible c.args.plan.now c.loop-spot.plan c.execute_selection_set.new.plan c.loop-spot.invariant.step
          c.in_ok-walked.ensures.plan;
      added = added-more W _ shown _ _ _ _ _ (view_spot (λ n. n) x) T _ c.loop-spot.invariant.added (typed-at W T nodes i x below is typed)
          c.in_ok-walked.ensures.walked (taken-one (view_spot (λ n. n)) nodes i x below is) c.in_ok-push.ensures.items;
      inside = omega (arith, below);
      counted = turn-counted _ _ _ _ _ _ i _ (added-one shown c.loop-spot.done.items _ _ c.in_ok-push.ensures.items) c.loop-spot.invariant.counted
          c.in_ok-walked.ensures.counted;
      entered =
          let s = all_expanded shown collector c.args.enclosing.now in
          let one = ap (entered_in W T s) (taken-one (view_spot (λ n. n)) nodes i x below is)
          ∙ in-append W T s (view_nodes (take i nodes)) (view_spot (λ n. n) x ∷ []) in
          omega (arith, c.loop-spot.invariant.entered, c.in_ok-walked.ensures.entered, one, in-one W T s (view_spot (λ n. n) x));
    }

pub one_by_one-returns-in_err-walked-clause-entered : goal.one_by_one-returns-in_err-walked-clause-entered
one_by_one-returns-in_err-walked-clause-entered g t c =
    let collector = c.args.walk.now.collector in
    let W = g.R.Completer.world collector.possible in
    let T = c.args.concrete.now in
    let s = all_expanded g.S.ScalarValue.shown collector c.args.enclosing.now in
    let nodes = c.args.nodes.now in
    let i = c.loop-spot.spot-index in
    let x = c.spot-item.result in
    let one = ap (entered_in W T s) (taken-one (view_spot (λ n. n)) nodes i x c.loop-spot-test.true c.spot-item.is)
    ∙ in-append W T s (view_nodes (take i nodes)) (view_spot (λ n. n) x ∷ []) in
    let within = in-taken W (view_spot (λ n. n)) T s (i + 1) nodes in
    through-spends (Unit {0}) _ _ 0 _ _ _ _ _ c.from_residual.result c.from_residual.ensures.1 c.in_err-walked.ensures.entered
    (λ less. omega (arith, c.loop-spot.invariant.entered, one, in-one W T s (view_spot (λ n. n) x), within, less))

pub one_by_one-returns : goal.one_by_one-returns
one_by_one-returns g t c =
    let shown = g.S.ScalarValue.shown in
    let W = g.R.Completer.world c.args.walk.now.collector.possible in
    record {
      plan = c.loop-spot.invariant.step;
      walked = subst (λ ns. AreAdded W (all_expanded shown c.args.walk.now.collector c.args.enclosing.now) shown ns c.args.done.now.items
          c.loop-spot.done.items)
          (taken-all (view_spot (λ n. n)) c.args.nodes.now c.loop-spot.spot-index c.loop-spot-test.false) c.loop-spot.invariant.added;
      counted = all-counted _ _ _ _ _ c.loop-spot.invariant.counted (omega (arith, c.loop-spot.invariant.inside, c.loop-spot-test.false));
      entered = omega (
        arith,
        c.loop-spot.invariant.entered,
        in-taken W (view_spot (λ n. n)) c.args.concrete.now (all_expanded shown c.args.walk.now.collector c.args.enclosing.now) c.loop-spot.spot-index
            c.args.nodes.now,
      );
    }

pub rows_of-loop-number-init : goal.rows_of-loop-number-init
rows_of-loop-number-init g t c =
    let shown = g.S.ScalarValue.shown in
    let collector = c.args.walk.now.collector in
    let asks = g.R.Resolver.asks c.args.walk.now.collector.possible in
    let possible = g.R.Conditions.possible c.args.walk.now.collector.possible in
    let W = g.R.Completer.world c.args.walk.now.collector.possible in
    let T = c.args.concrete.now in
    let s = all_expanded shown collector c.args.enclosing.now in
    let ready : IsReadyWalk shown g.R.Conditions.possible g.R.Resolver.values W c.args.walk.now = c.requires.1.1.1.1.1.1.0 in
    let standing : IsStanding shown collector asks possible c.args.plan.now = c.requires.1.1.1.1.1.1.1.0 in
    let stands : StandsFor shown collector asks T c.args.plan.now c.args.groups (occurrences possible T s) = c.requires.1.1.1.1.1.1.1.1.0 in
    let nodes = c.args.nodes.now in
    let ks = take (c.args.groups.first.0 - c.args.groups.first.0) (keys (occurrences W.possible T s)) in
    let rows : AreRows W s T shown ks (view_nodes nodes) c.in_ok-rows.rows.items =
    rows-fresh W s T shown (view_nodes nodes) c.in_ok-rows.rows.items ks (take-none _ (c.args.groups.first.0 - c.args.groups.first.0) (omega arith))
    (length nodes) (sym (length-map nodes (view_spot (λ n. n)))) c.in_ok-rows.ensures in
    record {
      step = no-step shown collector asks possible c.args.plan.now standing;
      counted = rows-counted W s T shown ks (view_nodes nodes) c.in_ok-rows.rows.items rows ∙ length-map nodes (view_spot (λ n. n));
      walked = rows;
      fields = omega (arith, fresh-fields shown (length nodes) c.in_ok-rows.rows.items c.in_ok-rows.ensures);
      entered = omega arith;
    }

pub rows_of-ask_column-requires-clause-whole : goal.rows_of-ask_column-requires-clause-whole
rows_of-ask_column-requires-clause-whole g t c =
    let shown = g.S.ScalarValue.shown in
    let collector = c.args.walk.now.collector in
    let asks = g.R.Resolver.asks c.args.walk.now.collector.possible in
    let possible = g.R.Conditions.possible c.args.walk.now.collector.possible in
    let W = g.R.Completer.world c.args.walk.now.collector.possible in
    let T = c.args.concrete.now in
    let s = all_expanded shown collector c.args.enclosing.now in
    let ready : IsReadyWalk shown g.R.Conditions.possible g.R.Resolver.values W c.args.walk.now = c.requires.1.1.1.1.1.1.0 in
    let standing : IsStanding shown collector asks possible c.args.plan.now = c.requires.1.1.1.1.1.1.1.0 in
    let stands : StandsFor shown collector asks T c.args.plan.now c.args.groups (occurrences possible T s) = c.requires.1.1.1.1.1.1.1.1.0 in
    group-is shown collector asks possible c.args.plan.now c.loop-number.plan c.args.groups T s standing stands
    c.loop-number.invariant.step c.loop-number.number c.loop-number.auto.number c.loop-number-test.true

pub rows_of-ask_column-requires-clause-asked : goal.rows_of-ask_column-requires-clause-asked
rows_of-ask_column-requires-clause-asked g t c =
    let shown = g.S.ScalarValue.shown in
    let collector = c.args.walk.now.collector in
    let asks = g.R.Resolver.asks c.args.walk.now.collector.possible in
    let possible = g.R.Conditions.possible c.args.walk.now.collector.possible in
    let W = g.R.Completer.world c.args.walk.now.collector.possible in
    let T = c.args.concrete.now in
    let s = all_expanded shown collector c.args.enclosing.now in
    let ready : IsReadyWalk shown g.R.Conditions.possible g.R.Resolver.values W c.args.walk.now = c.requires.1.1.1.1.1.1.0 in
    let standing : IsStanding shown collector asks possible c.args.plan.now = c.requires.1.1.1.1.1.1.1.0 in
    let stands : StandsFor shown collector asks T c.args.plan.now c.args.groups (occurrences possible T s) = c.requires.1.1.1.1.1.1.1.1.0 in
    group-asked shown collector asks possible c.args.plan.now c.loop-number.plan c.args.groups T s standing stands
    c.loop-number.invariant.step c.loop-number.number c.loop-number.auto.number c.loop-number-test.true

pub rows_of-objects_of-requires : goal.rows_of-objects_of-requires
rows_of-objects_of-requires g t c κs within =
    let shown = g.S.ScalarValue.shown in
    let collector = c.args.walk.now.collector in
    let asks = g.R.Resolver.asks c.args.walk.now.collector.possible in
    let possible = g.R.Conditions.possible c.args.walk.now.collector.possible in
    let W = g.R.Completer.world c.args.walk.now.collector.possible in
    let T = c.args.concrete.now in
    let s = all_expanded shown collector c.args.enclosing.now in
    let ready : IsReadyWalk shown g.R.Conditions.possible g.R.Resolver.values W c.args.walk.now = c.requires.1.1.1.1.1.1.0 in
    let standing : IsStanding shown collector asks possible c.args.plan.now = c.requires.1.1.1.1.1.1.1.0 in
    let stands : StandsFor shown collector asks T c.args.plan.now c.args.groups (occurrences possible T s) = c.requires.1.1.1.1.1.1.1.1.0 in
    let bound : c.loop-number.number < length c.loop-number.plan.groups.items =
    group-bound shown collector asks possible c.args.plan.now c.loop-number.plan c.args.groups T s standing stands
    c.loop-number.invariant.step c.loop-number.number c.loop-number.auto.number c.loop-number-test.true in
    let falls : 3 * depth (all_below (view_all shown collector (fields_at c.loop-number.plan c.loop-number.number))) + 2 < 3 * depth s =
    group-falls shown collector asks possible c.args.plan.now c.loop-number.plan c.args.groups T s standing stands
    c.loop-number.invariant.step c.loop-number.number c.loop-number.auto.number c.loop-number-test.true in
    let still : IsStanding shown collector asks possible c.loop-number.plan = c.loop-number.invariant.step.standing in
    (omega (arith, falls), search (rules, bound, still))

pub rows_of-loop-number-preserved : goal.rows_of-loop-number-preserved
rows_of-loop-number-preserved g t c =
    let shown = g.S.ScalarValue.shown in
    let collector = c.args.walk.now.collector in
    let asks = g.R.Resolver.asks c.args.walk.now.collector.possible in
    let possible = g.R.Conditions.possible c.args.walk.now.collector.possible in
    let W = g.R.Completer.world c.args.walk.now.collector.possible in
    let T = c.args.concrete.now in
    let s = all_expanded shown collector c.args.enclosing.now in
    let ready : IsReadyWalk shown g.R.Conditions.possible g.R.Resolver.values W c.args.walk.now = c.requires.1.1.1.1.1.1.0 in
    let standing : IsStanding shown collector asks possible c.args.plan.now = c.requires.1.1.1.1.1.1.1.0 in
    let stands : StandsFor shown collector asks T c.args.plan.now c.args.groups (occurrences possible T s) = c.requires.1.1.1.1.1.1.1.1.0 in
    let ks = take (c.loop-number.number - c.args.groups.first.0) (keys (occurrences W.possible T s)) in
    let k = key_at c.loop-number.plan c.loop-number.number in
    let os = view_all shown collector (fields_at c.loop-number.plan c.loop-number.number) in
    let next = group-next shown collector asks possible c.args.plan.now c.loop-number.plan c.args.groups T s standing stands
    c.loop-number.invariant.step c.loop-number.number c.loop-number.auto.number c.loop-number-test.true W ready.same in
    let columns = next-keys shown collector asks possible c.args.plan.now c.loop-number.plan c.args.groups T s standing stands
    c.loop-number.invariant.step c.loop-number.number c.loop-number.auto.number c.loop-number-test.true W ready.same in
    let below = subst (λ l. AreWalkedOnce whole first_start W (all_below os) (view_nodes l) (values_of shown c.in_ok-below.below.items)
    (listed_of shown c.in_ok-below.below.items)) c.deref.ensures.value c.in_ok-below.ensures.walked in
    record {
      step = more-steps shown collector asks possible c.args.plan.now c.loop-number.plan c.objects_of.new.plan c.loop-number.invariant.step
          c.in_ok-below.ensures.plan;
      counted = c.in_ok-fill_rows.ensures.counted ∙ c.in_ok-column.ensures.counted;
      walked = subst (λ js. AreRows W s T shown js (view_nodes c.args.nodes.now) c.fill_rows.new.rows.items) (sym columns)
          (c.in_ok-fill_rows.ensures.rows W s T ks k os (view_nodes c.args.nodes.now) _ next
          (c.in_ok-column.ensures.pending ks next c.loop-number.invariant.walked) below);
      fields = column-counted _ _ _ _ _ _ _ _ _ _ _ (omega (arith, c.loop-number-test.true)) c.loop-number.invariant.fields c.in_ok-column.ensures.fields
          c.in_ok-below.ensures.counted c.in_ok-fill_rows.ensures.fields;
      entered =
          let falls = group-falls shown collector asks possible c.args.plan.now c.loop-number.plan c.args.groups T s standing stands
          c.loop-number.invariant.step c.loop-number.number c.loop-number.auto.number c.loop-number-test.true in
          let fits = column-fits W shown T s ks _ k os (view_nodes c.args.nodes.now) _ _ _
          (c.in_ok-column.ensures.pending ks next c.loop-number.invariant.walked) next.whole (omega (arith, falls)) columns in
          let walked = subst (λ l. c.loop-number.plan.left ≤ c.objects_of.new.plan.left + entered_nodes W (all_below os) (view_nodes l)) c.deref.ensures.value
          c.in_ok-below.ensures.entered in
          omega (arith, c.loop-number.invariant.entered, walked, fits);
    }

pub rows_of-returns-clause-rows : goal.rows_of-returns-clause-rows
rows_of-returns-clause-rows g t c =
    let shown = g.S.ScalarValue.shown in
    let collector = c.args.walk.now.collector in
    let asks = g.R.Resolver.asks c.args.walk.now.collector.possible in
    let possible = g.R.Conditions.possible c.args.walk.now.collector.possible in
    let W = g.R.Completer.world c.args.walk.now.collector.possible in
    let T = c.args.concrete.now in
    let s = all_expanded shown collector c.args.enclosing.now in
    let ready : IsReadyWalk shown g.R.Conditions.possible g.R.Resolver.values W c.args.walk.now = c.requires.1.1.1.1.1.1.0 in
    let standing : IsStanding shown collector asks possible c.args.plan.now = c.requires.1.1.1.1.1.1.1.0 in
    let stands : StandsFor shown collector asks T c.args.plan.now c.args.groups (occurrences possible T s) = c.requires.1.1.1.1.1.1.1.1.0 in
    subst (λ js. AreRows W s T shown js (view_nodes c.args.nodes.now) c.loop-number.rows.items)
    (all-keys shown collector asks possible c.args.plan.now c.args.groups T s stands c.loop-number.number c.loop-number-test.false W ready.same)
    c.loop-number.invariant.walked

pub rows_of-returns-clause-counted : goal.rows_of-returns-clause-counted
rows_of-returns-clause-counted g t c = omega (arith, c.loop-number.invariant.fields)

pub rows_of-returns-clause-entered : goal.rows_of-returns-clause-entered
rows_of-returns-clause-entered g t c =
    let shown = g.S.ScalarValue.shown in
    let W = g.R.Completer.world c.args.walk.now.collector.possible in
    let s = all_expanded shown c.args.walk.now.collector c.args.enclosing.now in
    omega (
      arith,
      c.loop-number.invariant.entered,
      rows-taken W c.args.concrete.now s (c.loop-number.number - c.args.groups.first.0) (view_nodes c.args.nodes.now),
    )

pub objects_of-returns-clause-entered : goal.objects_of-returns-clause-entered
objects_of-returns-clause-entered g t c =
    let shown = g.S.ScalarValue.shown in
    let collector = c.args.walk.now.collector in
    let W = g.R.Completer.world c.args.walk.now.collector.possible in
    let below = all_below (view_all shown collector (fields_at c.args.plan.now c.args.group.0)) in
    omega (arith, c.loop-start.invariant.entered, nodes-taken W (view_spot (λ n. n)) below c.loop-start.start c.args.nodes.now)

pub rows_of-returns-in_err-below-clause-entered : goal.rows_of-returns-in_err-below-clause-entered
rows_of-returns-in_err-below-clause-entered g t c =
    let shown = g.S.ScalarValue.shown in
    let collector = c.args.walk.now.collector in
    let asks = g.R.Resolver.asks c.args.walk.now.collector.possible in
    let possible = g.R.Conditions.possible c.args.walk.now.collector.possible in
    let W = g.R.Completer.world c.args.walk.now.collector.possible in
    let T = c.args.concrete.now in
    let s = all_expanded shown collector c.args.enclosing.now in
    let ready : IsReadyWalk shown g.R.Conditions.possible g.R.Resolver.values W c.args.walk.now = c.requires.1.1.1.1.1.1.0 in
    let standing : IsStanding shown collector asks possible c.args.plan.now = c.requires.1.1.1.1.1.1.1.0 in
    let stands : StandsFor shown collector asks T c.args.plan.now c.args.groups (occurrences possible T s) = c.requires.1.1.1.1.1.1.1.1.0 in
    let ks = take (c.loop-number.number - c.args.groups.first.0) (keys (occurrences W.possible T s)) in
    let k = key_at c.loop-number.plan c.loop-number.number in
    let os = view_all shown collector (fields_at c.loop-number.plan c.loop-number.number) in
    let next = group-next shown collector asks possible c.args.plan.now c.loop-number.plan c.args.groups T s standing stands
    c.loop-number.invariant.step c.loop-number.number c.loop-number.auto.number c.loop-number-test.true W ready.same in
    let columns = next-keys shown collector asks possible c.args.plan.now c.loop-number.plan c.args.groups T s standing stands
    c.loop-number.invariant.step c.loop-number.number c.loop-number.auto.number c.loop-number-test.true W ready.same in
    let falls = group-falls shown collector asks possible c.args.plan.now c.loop-number.plan c.args.groups T s standing stands
    c.loop-number.invariant.step c.loop-number.number c.loop-number.auto.number c.loop-number-test.true in
    let fits = column-fits W shown T s ks _ k os (view_nodes c.args.nodes.now) _ _ _
    (c.in_ok-column.ensures.pending ks next c.loop-number.invariant.walked) next.whole (omega (arith, falls)) columns in
    let within = rows-taken W T s (c.loop-number.number + 1 - c.args.groups.first.0) (view_nodes c.args.nodes.now) in
    through-spends (Unit {0}) _ _ 0 _ _ _ _ _ c.from_residual-in_err-below.result c.from_residual-in_err-below.ensures.1 c.in_err-below.ensures.entered
    (λ less. let walked = subst (λ l. c.loop-number.plan.left < entered_nodes W (all_below os) (view_nodes l)) c.deref.ensures.value less in
    omega (arith, c.loop-number.invariant.entered, walked, fits, within))
