use Rattle.std.proofs.Common.{◌≡◌, ◌<◌, [], drop, length, get_or, is_some, map, subst, take, true, ◌∙◌, sym, ap, refl, arith}
use Rattle.std.proofs.lemmas.List.{get_or_default, length-set, take_all}
use Rattle.std.specs.Vec.Iter.{into_iter_items}
use Rattle.graphql_spec.specs.Execution.{reply_of}
use Rattle.graphql_spec.specs.Selections.{occurrences}
use Rattle.juniper_assemble.proofs.ByKind.{none_left}
use Rattle.juniper_assemble.specs.SpotView.{view_nodes, view_spot}
use Rattle.juniper_lookahead.specs.Collected.{view_all}
use Rattle.juniper_walk.proofs.Slices.{taken-all}
use Rattle.juniper_walk.specs.Lists.{picked}
use Rattle.juniper_values.specs.ResolvedView.{AllAnswer}
use Rattle.juniper_walk.specs.Rows.{AreIn, ArePending}
use Rattle.juniper_walk.specs.Plans.{all_expanded, fields_at, key_at}
use Rattle.juniper_walk.proofs.Columns.{answered-none, answered-one, answered-past, item-at, risen-on, same-set, taken-in, taken-on}
use Rattle.juniper_walk.proofs.Counted.{put-taken, row-set, some-of}
use Rattle.juniper_walk.proofs.rows.ask_standing.Goals as goal
use Rattle.juniper_walk.proofs.rows.ask_standing.Goals.{then-is_some+in-Some+in_ok-taken+in_ok-put_taken, else-is_some}

pub loop-number-preserved : goal.loop-number-preserved
loop-number-preserved g c =
    let shown = g.S.ScalarValue.shown in
    let W = g.R.Completer.world c.args.walk.now.collector.possible in
    let s = all_expanded shown c.args.walk.now.collector c.args.enclosing.now in
    let k = key_at c.args.plan.now c.args.group.0 in
    let os = view_all shown c.args.walk.now.collector (fields_at c.args.plan.now c.args.group.0) in
    let T = c.args.concrete.now in
    let xs = c.args.spots.now in
    let i = c.loop-number.number in
    let rows = c.loop-number.rows.items in
    let below = c.loop-number-test.true in
    let counted = c.loop-number.invariant.counted in
    let all = occurrences (g.R.Conditions.possible c.args.walk.now.collector.possible) T s in
    let reply = λ (m : g.row.R-Node.Denot). reply_of W T m os in
    elim c.if-is_some.branch [
      | then-is_some+in-Some+in_ok-taken+in_ok-put_taken w ↦
          let r = w.index_mut.result.now in
          let new = w.put_taken.new.row in
          let row_is : r ≡ get_or rows i r = w.index_mut.ensures.value in
          let first = c.index.result.now in
          let first_is : first ≡ get_or rows i first = c.index.ensures in
          let inside : i < length rows = omega (arith, below, counted) in
          let same : first ≡ r = first_is ∙ (get_or_default rows i first r inside ∙ sym row_is) in
          let stands : is_some r.object ≡ true = ap (λ a. is_some a.object) (sym same) ∙ (sym c.is_some.ensures ∙ w.if-is_some.true) in
          let x = w.index-spots-number.result in
          let is = w.index-spots-number.is in
          let told = answered-one W s T shown [] k os xs rows _ i x r new below counted is row_is refl reply stands (into_iter_items c.loop-number.told)
          (into_iter_items w.next.new.self) w.in-Some.answer w.in-Some.ensures.cases.0 c.loop-number.invariant.asked in
          let taken_is = w.in_ok-taken.ensures T x.what all c.requires.whole (record { declared = c.in_ok-all.ensures.declared; answer = told.0 }) in
          rw (w.rows-is, w.column-is, w.told-is) (record {
            counted = length-set rows i new ∙ counted;
            within = taken-in W s T shown [] k os xs rows _ i x r new below counted is row_is refl c.loop-number.column w.put_taken.new.column
                w.in_ok-taken.taken stands w.in_ok-put_taken.ensures c.loop-number.invariant.within;
            asked = told.1;
            pending = λ ks next begun. taken-on W s T shown ks k os xs rows _ i x r new below counted is row_is refl next c.loop-number.column
                w.put_taken.new.column w.in_ok-taken.taken taken_is stands w.in_ok-put_taken.ensures (c.loop-number.invariant.pending ks next begun);
            fields =
                let object = some-of r.object stands in
                let put = put-taken shown i w.in_ok-taken.taken object.0 r new c.loop-number.column w.put_taken.new.column object.1
                (w.in_ok-put_taken.ensures object.0 object.1) in
                let set = row-set shown rows i r new inside row_is in
                omega (arith, c.loop-number.invariant.fields, put, set, below);
          })
      | else-is_some w ↦
          let r = c.index.result.now in
          let x = item-at xs i below in
          let row_is : r ≡ get_or rows i r = c.index.ensures in
          let risen = sym c.is_some.ensures ∙ w.if-is_some.false in
          rw (w.rows-is, w.column-is, w.told-is) (record {
            counted = counted;
            within = c.loop-number.invariant.within;
            asked = answered-past W s T shown [] k os xs rows rows i x.0 r r below counted x.1 row_is (same-set rows i r row_is) reply risen
                (into_iter_items c.loop-number.told) c.loop-number.invariant.asked;
            pending = λ ks next begun. risen-on W s T shown ks k os xs rows rows i x.0 r r below counted x.1 row_is (same-set rows i r row_is) risen refl
                c.loop-number.column.opened.items (view_nodes c.loop-number.column.nodes.items) (c.loop-number.invariant.pending ks next begun);
            fields = omega (arith, c.loop-number.invariant.fields, below);
          })
    ]

pub loop-number-init : goal.loop-number-init
loop-number-init g c =
    let shown = g.S.ScalarValue.shown in
    let W = g.R.Completer.world c.args.walk.now.collector.possible in
    let s = all_expanded shown c.args.walk.now.collector c.args.enclosing.now in
    let k = key_at c.args.plan.now c.args.group.0 in
    let os = view_all shown c.args.walk.now.collector (fields_at c.args.plan.now c.args.group.0) in
    let T = c.args.concrete.now in
    let xs = c.args.spots.now in
    let nodes = λ (l : _). map (λ x. x.what) (picked (map (λ r. is_some r.object) l) (view_nodes xs)) in
    let begun : AllAnswer shown (λ m. reply_of W T m os) (nodes c.args.rows.now.items) (into_iter_items c.into_iter-told.result) =
    subst (AllAnswer shown (λ m. reply_of W T m os) (nodes c.args.rows.now.items)) (sym c.into_iter-told.ensures.rest)
    (subst (λ l. AllAnswer shown (λ m. reply_of W T m os) (nodes l) c.in_ok-all.all.answers.items) c.deref.ensures.value c.in_ok-all.ensures.answers) in
    record {
      counted = c.requires.counted;
      within = subst (AreIn (length xs)) (sym c.no_answers-column.ensures.opened) tt;
      fields = let none = ap length c.no_answers-column.ensures.opened in omega (arith, none);
      asked = begun;
      pending = λ ks next rows. (
        subst (λ l. ArePending W s T shown ks k os 0 [] [] l (view_nodes c.no_answers-column.result.nodes.items))
            (sym c.no_answers-column.ensures.opened) (ap view_nodes c.no_answers-column.ensures.nodes),
        rows,
      );
    }

pub returns-in_default-clause-pending : goal.returns-in_default-clause-pending
returns-in_default-clause-pending g c =
    let shown = g.S.ScalarValue.shown in
    let W = g.R.Completer.world c.args.walk.now.collector.possible in
    let s = all_expanded shown c.args.walk.now.collector c.args.enclosing.now in
    let k = key_at c.args.plan.now c.args.group.0 in
    let os = view_all shown c.args.walk.now.collector (fields_at c.args.plan.now c.args.group.0) in
    let T = c.args.concrete.now in
    let xs = c.args.spots.now in
    let i = c.loop-number.number in
    let rows = c.loop-number.rows.items in
    let below = c.loop-number-test.true in
    let r = c.index.result.now in
    let x = item-at xs i below in
    let row_is : r ≡ get_or rows i r = c.index.ensures in
    let told = c.loop-number.told in
    let none = none_left (into_iter_items told) told.rest.len told.rest.ok.0 c.in_default.ensures.cases.0 in
    absurd (answered-none W s T shown [] k os xs rows rows i x.0 r r below c.loop-number.invariant.counted x.1 row_is (same-set rows i r row_is)
    (λ m. reply_of W T m os) (sym c.is_some.ensures ∙ c.if-is_some.true)
    (subst (AllAnswer shown (λ m. reply_of W T m os)
    (map (λ x. x.what) (picked (map (λ q. is_some q.object) (drop i rows)) (view_nodes (drop i xs))))) none c.loop-number.invariant.asked))

pub returns-clause-pending : goal.returns-clause-pending
returns-clause-pending g c = λ ks next begun.
    let shown = g.S.ScalarValue.shown in
    let W = g.R.Completer.world c.args.walk.now.collector.possible in
    let s = all_expanded shown c.args.walk.now.collector c.args.enclosing.now in
    let k = key_at c.args.plan.now c.args.group.0 in
    let os = view_all shown c.args.walk.now.collector (fields_at c.args.plan.now c.args.group.0) in
    let T = c.args.concrete.now in
    let xs = c.args.spots.now in
    let rows = c.loop-number.rows.items in
    let past = c.loop-number-test.false in
    let counted = c.loop-number.invariant.counted in
    subst (λ l. ArePending W s T shown ks k os 0 (view_nodes xs) l c.loop-number.column.opened.items (view_nodes c.loop-number.column.nodes.items))
    (take_all c.loop-number.number rows (omega (arith, past, counted)))
    (subst (λ l. ArePending W s T shown ks k os 0 l (take c.loop-number.number rows) c.loop-number.column.opened.items
    (view_nodes c.loop-number.column.nodes.items)) (taken-all (view_spot (λ n. n)) xs c.loop-number.number past)
    (c.loop-number.invariant.pending ks next begun).0)

pub returns-in_default-clause-fields : goal.returns-in_default-clause-fields
returns-in_default-clause-fields g c = omega (arith, c.loop-number.invariant.fields)

pub returns-clause-fields : goal.returns-clause-fields
returns-clause-fields g c = omega (arith, c.loop-number.invariant.fields)
