use Rattle.std.proofs.Common.{◌≡◌, [], ◌∷◌, ◌++◌, string_bytes, sym, ap, ◌∙◌, subst}
use Rattle.graphql_spec.specs.Errors.{key}
use Rattle.graphql_spec.specs.Execution.{reply_of}
use Rattle.graphql_spec.specs.ExactAnswers.{whole}
use Rattle.graphql_spec.specs.Skeletons.{listed_spots}
use Rattle.juniper_walk.specs.Completing.{view_errors}
use Rattle.juniper_conversions.specs.PathView.{path_place}
use Rattle.juniper_syntax.specs.TypeView.{view_type}
use Rattle.juniper_lookahead.specs.Collected.{view_all}
use Rattle.juniper_values.specs.ResolvedView.{Answers}
use Rattle.juniper_walk.proofs.Preparation.{listed-same}
use Rattle.juniper_walk.specs.Plans.{fields_at, key_at}
use Rattle.juniper_walk.specs.PlanWalks.{IsGroupOf}
use Rattle.juniper_walk.specs.Leaves.{IsReply}
use Rattle.juniper_walk.proofs.Leaves.{leaf-prepared}
use Rattle.juniper_walk.proofs.Whole.{first-field, prepared-group}
use Rattle.juniper_walk.proofs.preparing.take.Goals as goal

pub returns-in-Leaf : goal.returns-in-Leaf
returns-in-Leaf g c = λ T m all group told.
    let shown = g.S.ScalarValue.shown in
    let W = g.R.Completer.world c.args.walk.now.collector.possible in
    let os = view_all shown c.args.walk.now.collector (fields_at c.args.plan.now c.args.group.0) in
    let leaf = subst (IsReply W shown c.args.told) c.in-Leaf.is c.leaf_of.ensures in
    leaf-prepared W shown _ _ _ leaf (path_place c.args.path.now.value) T m (key_at c.args.plan.now c.args.group.0) all os _ group c.key.ensures
    told.declared told.answer

pub returns-in_ok-listed-in-Other : goal.returns-in_ok-listed-in-Other
returns-in_ok-listed-in-Other g c = λ T m all group told.
    let shown = g.S.ScalarValue.shown in
    let W = g.R.Completer.world c.args.walk.now.collector.possible in
    let collector = c.args.walk.now.collector in
    let k = key_at c.args.plan.now c.args.group.0 in
    let os = view_all shown collector (fields_at c.args.plan.now c.args.group.0) in
    let here = subst (λ l. IsGroupOf k all (view_all shown collector l)) (sym c.fields.ensures) group in
    let first = first-field shown collector c.fields.result.now c.index-fields-0.result k all here in
    let place = ap path_place c.in_ok-place-in-Other.ensures.ok ∙ (c.in_ok-here-in-Other.ensures
    ∙ ap (λ j. path_place c.args.path.now.value ++ key j ∷ []) (sym first.1)) in
    let same : c.in-Other.asked ≡ c.args.told = subst (IsReply W shown c.args.told) c.in-Other.is c.leaf_of.ensures in
    let typed = ap (λ a. view_type (λ n. string_bytes n) a.declared.now) same ∙ told.declared in
    let answers = subst (λ a. Answers shown a.answer (reply_of W T m os)) (sym same) told.answer in
    let parted = c.in_ok-skeleton-in-Other.ensures.parted (reply_of W T m os) answers in
    prepared-group W _ T m k all os _ _ _ _ _ group _ _ _ c.key-in-Other.ensures place c.is_non_null.ensures typed parted
    (c.in_ok-listed-in-Other.ensures ∙ (listed-same _ _ _ (ap (λ h. h.span.start) (sym first.0))
    ∙ ap (λ es. listed_spots whole group.first.head.span.start (view_errors shown es)) c.deref.ensures.value))
