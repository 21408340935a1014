use Rattle.std.proofs.Common.{drop, length, refl, sym, ap, ◌∙◌, subst, arith}
use Rattle.std.proofs.lemmas.List.{length-set}
use Rattle.std.specs.Vec.Iter.{into_iter_items}
use Rattle.graphql_spec.specs.ExactAnswers.{whole}
use Rattle.graphql_spec.specs.GroupLaws.{first_start}
use Rattle.graphql_spec.specs.Selections.{all_below}
use Rattle.juniper_assemble.proofs.ByKind.{none_left}
use Rattle.graphql_spec.specs.NodeLaws.{AreWalkedOnce}
use Rattle.juniper_walk.specs.Rows.{AreIn, ArePending, awaited, listed_of, values_of}
use Rattle.juniper_walk.proofs.Columns.{still-in, waits-on, walked-on}
use Rattle.juniper_walk.specs.Budget.{fields_in_all}
use Rattle.juniper_walk.proofs.Counted.{row-set}
use Rattle.juniper_walk.proofs.Waiting.{pending-end}
use Rattle.juniper_walk.proofs.rows.fill_rows.Goals as goal

pub loop-open-preserved : goal.loop-open-preserved
loop-open-preserved g c =
    let shown = g.S.ScalarValue.shown in
    let open_is = c.in-Some.ensures.steps.0 in
    let same = length-set c.loop-open.rows.items c.in-Some.open.row c.fill_row.new.row in
    record {
      counted = same ∙ c.loop-open.invariant.counted;
      within = still-in _ _ _ _ c.in-Some.open same open_is c.loop-open.invariant.within;
      pending = λ W s T ks k os xs ns next waiting walked.
          let prior = c.loop-open.invariant.pending W s T ks k os xs ns next waiting walked in
          let now = subst (λ l. ArePending W s T shown ks k os 0 xs c.loop-open.rows.items l prior.0) open_is prior.1 in (
            drop (awaited shown c.in-Some.open) prior.0,
            waits-on W s T shown ks k os next xs prior.0 c.loop-open.rows.items _ c.in-Some.open _ (into_iter_items c.loop-open.objects)
                (into_iter_items c.fill_row.new.objects) c.index_mut.result.now c.fill_row.new.row now prior.2 c.index_mut.ensures.value
                c.in_ok-fill_row.ensures.filled refl,
            walked-on W s T shown ks k os next xs prior.0 c.loop-open.rows.items _ c.in-Some.open _ (into_iter_items c.loop-open.objects)
                (into_iter_items c.fill_row.new.objects) c.index_mut.result.now c.fill_row.new.row now prior.2 c.index_mut.ensures.value
                c.in_ok-fill_row.ensures.filled refl,
          );
      fields =
          let set = row-set shown c.loop-open.rows.items c.in-Some.open.row c.index_mut.result.now c.fill_row.new.row
          (subst (AreIn (length c.loop-open.rows.items)) open_is c.loop-open.invariant.within).0 c.index_mut.ensures.value in
          let fewer = ap length open_is in
          omega (arith, c.loop-open.invariant.fields, c.in_ok-fill_row.ensures.fields, set, fewer);
    }

pub returns-clause-rows : goal.returns-clause-rows
returns-clause-rows g c = λ W s T ks k os xs ns next waiting walked.
    let shown = g.S.ScalarValue.shown in
    let it = c.loop-open.open-iterator in
    let none = none_left (into_iter_items it) it.rest.len it.rest.ok.0 c.in-None.ensures.steps.0 in
    let begun = subst (λ l. ArePending W s T shown ks k os 0 xs c.args.rows.now.items l ns) (sym c.into_iter-open-iterator.ensures.into_iter_gives.0) waiting in
    let handed = subst (λ l. AreWalkedOnce whole first_start W (all_below os) ns (values_of shown l) (listed_of shown l)) (sym c.into_iter-objects.ensures.rest)
    walked in
    let last = c.loop-open.invariant.pending W s T ks k os xs ns next begun handed in
    pending-end W s T shown ks k os 0 xs c.loop-open.rows.items last.0
    (subst (λ l. ArePending W s T shown ks k os 0 xs c.loop-open.rows.items l last.0) none last.1)

pub returns-clause-fields : goal.returns-clause-fields
returns-clause-fields g c =
    let shown = g.S.ScalarValue.shown in
    let begun = ap length c.into_iter-open-iterator.ensures.into_iter_gives.0 in
    let handed = ap (λ l. fields_in_all (values_of shown l)) c.into_iter-objects.ensures.rest in
    omega (arith, c.loop-open.invariant.fields, begun, handed)
