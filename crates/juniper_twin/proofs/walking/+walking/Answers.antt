use Rattle.std.proofs.Common.{◌≡◌, ◌<◌, ◌≤◌, ◌+◌, map, take, drop, refl, sym, ap, ◌∙◌, subst, arith, rules}
use Rattle.graphql_spec.specs.Documents.{response_key}
use Rattle.graphql_spec.specs.Selections.{depth, occurrences}
use Rattle.juniper_syntax.specs.ValueView.{view_value}
use Rattle.juniper_syntax.proofs.Values.{view-Null, view-Object}
use Rattle.juniper_conversions.specs.ErrorView.{view_listed}
use Rattle.juniper_assemble.specs.SpotView.{view_nodes, view_spot}
use Rattle.juniper_lookahead.specs.Collected.{view_collected}
use Rattle.juniper_lookahead.specs.Singles.{AreAlone, IsAlone, view_singles}
use Rattle.juniper_lookahead.specs.declared.singles.Single.{Single}
use Rattle.juniper_walk.specs.Walking.{AllAgree}
use Rattle.juniper_twin.specs.Walking.{AreReached, deepest}
use Rattle.juniper_twin.proofs.Additions.{collected-below}
use Rattle.juniper_walk.proofs.Preparation.{same-head}
use Rattle.juniper_twin.proofs.Depths.{shallower-than}
use Rattle.juniper_walk.proofs.Slices.{seen-in, split-one, taken-all, taken-one}
use Rattle.juniper_twin.proofs.NodeSlices.{added-for, agree-at, nodes-at, reached-at, shallow-at}
use Rattle.juniper_twin.proofs.Turns.{none-yet, one-more, reached-agree, start-walking, walked-at, walking-ends, through-null, walking-on, walking-stops}
use Rattle.juniper_twin.proofs.walking.+walking.Goals as goal

pub execute_selection_set-loop-single-init : goal.execute_selection_set-loop-single-init
execute_selection_set-loop-single-init g t c =
    start-walking _ _ _ _ _ _ _ _ refl c.in_ok-entries.ensures (ap (map (view_listed g.S.ScalarValue.shown)) c.new-errors.ensures.items)

pub execute_selection_set-execute_field-requires-clause-alone : goal.execute_selection_set-execute_field-requires-clause-alone
execute_selection_set-execute_field-requires-clause-alone g t c =
    let x = c.single-item.result in
    let alone : AreAlone g.S.ScalarValue.shown c.args.walk.now.collector (g.R.Conditions.possible c.args.walk.now.collector.possible) c.args.concrete.now
    c.args.fields.now = c.requires.1.1.1.1.1.1.1.1 in
    subst (λ s. IsAlone g.S.ScalarValue.shown c.args.walk.now.collector (g.R.Conditions.possible c.args.walk.now.collector.possible) c.args.concrete.now s)
    (sym c.single-item.is) (alone c.loop-single.single-index x c.loop-single-test.true)

pub execute_selection_set-objects_of-requires : goal.execute_selection_set-objects_of-requires
execute_selection_set-objects_of-requires g t c κs within =
    let shown = g.S.ScalarValue.shown in
    let W = g.R.Completer.world c.args.walk.now.collector.possible in
    let T = c.args.concrete.now in
    let view = λ (x : Single g.row.S.Denot). view_collected shown c.args.walk.now.collector x.field.now in
    let i = c.loop-single.single-index in
    let os = c.args.fields.now in
    let x = c.single-item.result in
    let split = split-one view os i x c.loop-single-test.true c.single-item.is in
    let less : depth (view x).below < deepest (map view os) = shallower-than (map view os) (map view (take i os)) (map view (drop (i + 1) os)) (view x) split in
    let agree : AllAgree W T (map view os) = c.requires.1.1.1.1.1.1.1.0 in
    let reached : AreReached W (view_nodes c.deref.result.now) (view x).below =
    reached-at W (view x).below _ _ (ap view_nodes c.deref.ensures.value) (reached-agree W _ T c.args.node.now (map view os) agree _ _
    (view x) split _ _ _ _ c.in_ok-prepared.ensures) in
    (omega (arith, less), search (rules, reached))

pub execute_selection_set-add_field-requires : goal.execute_selection_set-add_field-requires
execute_selection_set-add_field-requires g t c = record { entries = c.loop-single.invariant.keyed; walked = c.in_ok-walked.ensures.keyed }

pub execute_selection_set-loop-single-preserved : goal.execute_selection_set-loop-single-preserved
execute_selection_set-loop-single-preserved g t c =
    let shown = g.S.ScalarValue.shown in
    let W = g.R.Completer.world c.args.walk.now.collector.possible in
    let T = c.args.concrete.now in
    let view = λ (x : Single g.row.S.Denot). view_collected shown c.args.walk.now.collector x.field.now in
    let i = c.loop-single.single-index in
    let os = c.args.fields.now in
    let x = c.single-item.result in
    let split = split-one view os i x c.loop-single-test.true c.single-item.is in
    let agree : AllAgree W T (map view os) = c.requires.1.1.1.1.1.1.1.0 in
    let nodes = nodes-at W _ _ _ _ _ (ap view_nodes c.deref.ensures.value) c.in_ok-walked.ensures in
    let head = same-head shown c.args.walk.now.collector x.field.now in
    let added = added-for _ _ _ _ _ _ _ _ _ _ _ (ap response_key (sym head)) c.in_ok-rises.ensures in
    walking-on W _ T c.args.node.now (map view os) agree _ _ (view x) split _ _ _ _ c.loop-single.invariant _ _ _ _ _ _ c.in_ok-prepared.ensures nodes _
    added _ (taken-one view os i x c.loop-single-test.true c.single-item.is) c.if-rises.false

pub execute_selection_set-returns-then-rises : goal.execute_selection_set-returns-then-rises
execute_selection_set-returns-then-rises g t c =
    let shown = g.S.ScalarValue.shown in
    let W = g.R.Completer.world c.args.walk.now.collector.possible in
    let T = c.args.concrete.now in
    let view = λ (x : Single g.row.S.Denot). view_collected shown c.args.walk.now.collector x.field.now in
    let i = c.loop-single.single-index in
    let os = c.args.fields.now in
    let x = c.single-item.result in
    let split = split-one view os i x c.loop-single-test.true c.single-item.is in
    let agree : AllAgree W T (map view os) = c.requires.1.1.1.1.1.1.1.0 in
    let nodes = nodes-at W _ _ _ _ _ (ap view_nodes c.deref.ensures.value) c.in_ok-walked.ensures in
    let head = same-head shown c.args.walk.now.collector x.field.now in
    let added = added-for _ _ _ _ _ _ _ _ _ _ _ (ap response_key (sym head)) c.in_ok-rises.ensures in
    through-null W _ _ _ _ _ _ (view-Null shown)
    (walking-stops W _ T c.args.node.now (map view os) agree _ _ (view x) split _ _ _ _ c.loop-single.invariant _ _ _ _ _ _ c.in_ok-prepared.ensures nodes
    _ added c.if-rises.true)

pub execute_selection_set-returns : goal.execute_selection_set-returns
execute_selection_set-returns g t c =
    let shown = g.S.ScalarValue.shown in
    walking-ends _ _ _ _ _ _ _ _ _ (taken-all (λ o. view_collected shown c.args.walk.now.collector o.field.now) c.args.fields.now
    c.loop-single.single-index c.loop-single-test.false)
    (view-Object shown c.loop-single.entries) c.loop-single.invariant

pub objects_of-loop-spot-init : goal.objects_of-loop-spot-init
objects_of-loop-spot-init g t c =
    let shown = g.S.ScalarValue.shown in
    none-yet _ _ _ _ _ refl (ap (map (view_value shown)) c.new-values.ensures.items) (ap (map (view_listed shown)) c.new-errors.ensures.items)

pub objects_of-execute_selection_set-requires : goal.objects_of-execute_selection_set-requires
objects_of-execute_selection_set-requires g t c κs within =
    let shown = g.S.ScalarValue.shown in
    let W = g.R.Completer.world c.args.walk.now.collector.possible in
    let below = (view_collected shown c.args.walk.now.collector c.args.field.now).below in
    let T = c.concrete_type_name-concrete.result.now in
    let fields : view_singles shown c.args.walk.now.collector c.deref.result.now ≡ occurrences W.possible T below =
    ap (view_singles shown c.args.walk.now.collector) c.deref.ensures.value
    ∙ collected-below shown c.args.walk.now.collector c.args.field.now _ _ W.possible T _ c.requires.ready.same c.selections_of-selections.ensures
    c.in_ok-fields.ensures.fields in
    let shallow : deepest (view_singles shown c.args.walk.now.collector c.deref.result.now) ≤ depth below = shallow-at W below T _ fields in
    let agree : AllAgree W T (view_singles shown c.args.walk.now.collector c.deref.result.now) =
    agree-at W below (view_nodes c.args.nodes.now) (view_spot (λ n. n) c.spot-item.result) T _ c.requires.agree
    (seen-in (view_spot (λ n. n)) c.args.nodes.now c.loop-spot.spot-index c.spot-item.result c.loop-spot-test.true c.spot-item.is)
    c.concrete_type_name-concrete.ensures fields in
    let alone : AreAlone shown c.args.walk.now.collector (g.R.Conditions.possible c.args.walk.now.collector.possible) T c.deref.result.now =
    subst (λ fs. AreAlone shown c.args.walk.now.collector (g.R.Conditions.possible c.args.walk.now.collector.possible) T fs) (sym c.deref.ensures.value)
    c.in_ok-fields.ensures.alone in
    (omega (arith, c.decreases, shallow), search (rules, agree, alone))

pub objects_of-loop-spot-preserved : goal.objects_of-loop-spot-preserved
objects_of-loop-spot-preserved g t c =
    let shown = g.S.ScalarValue.shown in
    let W = g.R.Completer.world c.args.walk.now.collector.possible in
    let below = (view_collected shown c.args.walk.now.collector c.args.field.now).below in
    let T = c.concrete_type_name-concrete.result.now in
    let fields = ap (view_singles shown c.args.walk.now.collector) c.deref.ensures.value
    ∙ collected-below shown c.args.walk.now.collector c.args.field.now _ _ W.possible T _ c.requires.ready.same c.selections_of-selections.ensures
    c.in_ok-fields.ensures.fields in
    let x = view_spot (λ n. n) c.spot-item.result in
    one-more W below _ _ _ _ _ _ _ x _ c.loop-spot.invariant
    (walked-at W below x _ T _ _ _ refl c.concrete_type_name-concrete.ensures fields c.in_ok-walked.ensures) c.in_ok-walked.ensures.keyed
    (taken-one (view_spot (λ n. n)) c.args.nodes.now c.loop-spot.spot-index c.spot-item.result c.loop-spot-test.true c.spot-item.is)
    c.in_ok-add_object.ensures.values
    c.in_ok-add_object.ensures.errors

pub objects_of-returns : goal.objects_of-returns
objects_of-returns g t c =
    nodes-at _ _ _ _ _ _ (taken-all (view_spot (λ n. n)) c.args.nodes.now c.loop-spot.spot-index c.loop-spot-test.false) c.loop-spot.invariant
