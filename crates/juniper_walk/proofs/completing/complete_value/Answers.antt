use Rattle.std.proofs.Common.{[], length, refl, sym, ap, ◌∙◌, subst, arith}
use Rattle.std.specs.Vec.Iter.{into_iter_items}
use Rattle.graphql_spec.specs.ExactAnswers.{whole}
use Rattle.juniper_assemble.specs.SkeletonView.{view_skeleton}
use Rattle.juniper_assemble.specs.SpotView.{view_nodes}
use Rattle.graphql_spec.specs.Skeletons.{listed_spots}
use Rattle.juniper_lookahead.specs.Collected.{view_all}
use Rattle.juniper_walk.specs.Completing.{view_errors}
use Rattle.juniper_conversions.specs.PathView.{path_place}
use Rattle.juniper_walk.proofs.Preparation.{listed-same}
use Rattle.juniper_walk.specs.PlanWalks.{HasFirst}
use Rattle.juniper_walk.proofs.Completed.{completed-at}
use Rattle.juniper_walk.specs.Budget.{fields_in, fields_in_all}
use Rattle.juniper_walk.specs.Entered.{entered, entered_nodes}
use Rattle.juniper_walk.specs.Plans.{fields_at}
use Rattle.graphql_spec.specs.Selections.{all_below}
use Rattle.juniper_walk.proofs.Entering.{known-unless, replies-alike, through-spends}
use Rattle.juniper_walk.specs.Holes.{holes_of}
use Rattle.juniper_walk.specs.Rows.{values_of}
use Rattle.juniper_walk.proofs.Budget.{fill-fields}
use Rattle.juniper_walk.proofs.Holes.{filled-first, parted-holes}
use Rattle.juniper_walk.proofs.Waiting.{objects-handed}
use Rattle.juniper_walk.proofs.Whole.{first-of}
use Rattle.juniper_walk.proofs.completing.complete_value.Goals as goal

pub returns-clause-completed : goal.returns-clause-completed
returns-clause-completed g c = λ reply given.
    let shown = g.S.ScalarValue.shown in
    let collector = c.args.walk.now.collector in
    let has = subst (λ fs. HasFirst (view_all shown collector fs)) (sym c.fields.ensures) c.requires.some in
    let head = first-of shown collector c.fields.result.now c.index-fields-0.result has in
    let own = c.in_ok-listed.ensures ∙ (listed-same _ _ _ (ap (λ h. h.span.start) (sym head))
    ∙ ap (λ es. listed_spots whole c.requires.some.first.head.span.start (view_errors shown es)) c.deref.ensures.value) in
    let W = g.R.Completer.world c.args.walk.now.collector.possible in
    let parted = c.in_ok-skeleton.ensures.parted reply given in
    let counted = parted-holes W _ _ reply _ _ _ parted ∙ ap length (sym (ap view_nodes c.deref-2.ensures.value)) in
    let nodes = objects-handed W _ (holes_of (view_skeleton shown c.in_ok-skeleton.field-0.skeleton)) (view_nodes c.deref-2.result.now) shown
    c.in_ok-objects_of.field-0.items (into_iter_items c.into_iter-objects.result) _ _ c.into_iter-objects.ensures.rest c.in_ok-objects_of.ensures.walked
    counted refl refl in
    completed-at W (path_place c.args.path.now.value) _ reply _ c.requires.some _ _ _ _
    parted (ap view_nodes c.deref-2.ensures.value) _ _ _ _ nodes
    refl _ (filled-first _ _ _ _ c.in_ok-value.ensures.value) _ _ own c.in_ok-value.ensures.taken.listed []

pub returns-clause-counted : goal.returns-clause-counted
returns-clause-counted g c =
    let shown = g.S.ScalarValue.shown in
    let fits = fill-fields (view_skeleton shown c.in_ok-skeleton.field-0.skeleton) (values_of shown (into_iter_items c.into_iter-objects.result)) in
    let made = ap fields_in c.in_ok-value.ensures.value.value in
    let handed = ap (λ l. fields_in_all (values_of shown l)) c.into_iter-objects.ensures.rest in
    omega (arith, fits, made, handed, c.in_ok-objects_of.ensures.counted)

pub returns-clause-entered : goal.returns-clause-entered
returns-clause-entered g c = λ reply given.
    let W = g.R.Completer.world c.args.walk.now.collector.possible in
    let below = all_below (view_all g.S.ScalarValue.shown c.args.walk.now.collector (fields_at c.args.plan.now c.args.group.0)) in
    let parted = c.in_ok-skeleton.ensures.parted reply given in
    let nodes = ap (entered_nodes W below) (ap view_nodes c.deref-2.ensures.value ∙ parted.nodes)
    ∙ replies-alike W (λ x. entered W (W.concrete x) x below) (path_place c.args.path.now.value) [] _ reply below refl in
    omega (arith, nodes, c.in_ok-objects_of.ensures.entered)

pub returns-in_err-objects_of-clause-entered : goal.returns-in_err-objects_of-clause-entered
returns-in_err-objects_of-clause-entered g c = λ reply given.
    let W = g.R.Completer.world c.args.walk.now.collector.possible in
    let below = all_below (view_all g.S.ScalarValue.shown c.args.walk.now.collector (fields_at c.args.plan.now c.args.group.0)) in
    let parted = c.in_ok-skeleton.ensures.parted reply given in
    let nodes = ap (entered_nodes W below) (ap view_nodes c.deref-2.ensures.value ∙ parted.nodes)
    ∙ replies-alike W (λ x. entered W (W.concrete x) x below) (path_place c.args.path.now.value) [] _ reply below refl in
    through-spends (Unit {0}) _ _ 0 _ _ _ _ _ c.from_residual-in_err-objects_of.result c.from_residual-in_err-objects_of.ensures.1
    c.in_err-objects_of.ensures.entered (λ less. omega (arith, nodes, less))

pub returns-in_err-objects_of-clause-told : goal.returns-in_err-objects_of-clause-told
returns-in_err-objects_of-clause-told g c = known-unless c.from_residual-in_err-objects_of.result c.in_ok-skeleton.ensures.told
