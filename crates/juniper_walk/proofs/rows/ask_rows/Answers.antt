use Rattle.std.proofs.Common.{[], ◌∷◌, ◌++◌, is_some, map, sym, ap, ◌∙◌, subst}
use Rattle.graphql_spec.specs.Documents.{response_key}
use Rattle.graphql_spec.specs.Errors.{key}
use Rattle.graphql_spec.specs.Execution.{reply_of, type_of}
use Rattle.graphql_spec.specs.Selections.{occurrences}
use Rattle.juniper_assemble.specs.SpotView.{view_nodes, view_spot}
use Rattle.juniper_lookahead.specs.Collected.{view_all}
use Rattle.juniper_conversions.specs.PathView.{path_place}
use Rattle.juniper_lookahead.specs.Sites.{view_fields}
use Rattle.juniper_walk.specs.Lists.{picked}
use Rattle.juniper_values.specs.ResolvedView.{AllAnswer}
use Rattle.juniper_walk.specs.Plans.{all_expanded, key_at}
use Rattle.juniper_walk.specs.PlanWalks.{IsGroupOf}
use Rattle.juniper_walk.specs.Rows.{spots_standing}
use Rattle.juniper_walk.proofs.Columns.{some-asked}
use Rattle.juniper_walk.proofs.Whole.{asked-here, first-field, same-fields, whole-at}
use Rattle.juniper_walk.proofs.rows.ask_rows.Goals as goal

pub ask_all-requires-clause-question : goal.ask_all-requires-clause-question
ask_all-requires-clause-question g c =
    let shown = g.S.ScalarValue.shown in
    let collector = c.args.walk.now.collector in
    let fields = ap (view_all shown collector) (sym c.fields-fields.ensures)
    ∙ (same-fields shown collector c.by_name.result.now c.by_name.ensures.alike c.fields-fields.result.now
    ∙ ap (λ vars. view_fields shown vars c.by_name.result.now c.fields-fields.result.now) (sym c.requires.ready.variables)) in
    asked-here (g.R.Resolver.asks collector.possible) c.args.concrete.now c.args.plan.now c.args.group.0 _ _ c.question-question.result.now _ c.requires.asked
    c.question-question.ensures fields

pub ask_all-requires-clause-path : goal.ask_all-requires-clause-path
ask_all-requires-clause-path g c =
    let shown = g.S.ScalarValue.shown in
    let collector = c.args.walk.now.collector in
    let possible = g.R.Conditions.possible collector.possible in
    let k = key_at c.args.plan.now c.args.group.0 in
    let all = occurrences possible c.args.concrete.now (all_expanded shown collector c.args.enclosing.now) in
    let group = subst (λ l. IsGroupOf k all (view_all shown collector l)) (sym c.fields-fields.ensures) c.requires.whole in
    let head = (first-field shown collector c.fields-fields.result.now c.index-fields-0.result k all group).0 in
    let fields = ap (λ vars. view_fields shown vars c.by_name.result.now c.fields-fields.result.now) c.requires.ready.variables
    ∙ sym (same-fields shown collector c.by_name.result.now c.by_name.ensures.alike c.fields-fields.result.now) in
    let place = path_place c.args.first.now.path.value in
    record {
      first = group.first;
      others = group.others;
      some = fields ∙ group.some;
      above = place;
      is = c.in_ok-here.ensures ∙ ap (λ h. place ++ key (response_key h) ∷ []) (sym head);
    }

pub ask_all-requires-clause-some : goal.ask_all-requires-clause-some
ask_all-requires-clause-some g c =
    some-asked (spots_standing c.args.rows.now (view_nodes c.args.spots.now)) (view_spot (λ n. n) c.args.first.now) c.in_ok-nodes.nodes.items
    c.requires.first c.in_ok-nodes.ensures

pub ask_all-requires-clause-whole : goal.ask_all-requires-clause-whole
ask_all-requires-clause-whole g c =
    let shown = g.S.ScalarValue.shown in
    let collector = c.args.walk.now.collector in
    let possible = g.R.Conditions.possible c.args.walk.now.collector.possible in
    let all = occurrences possible c.args.concrete.now (all_expanded shown collector c.args.enclosing.now) in
    whole-at shown collector c.by_name.result.now c.by_name.ensures.alike possible (g.R.Resolver.values c.args.walk.now.collector.possible)
    c.args.concrete.now c.args.enclosing.now c.fields-fields.result.now (key_at c.args.plan.now c.args.group.0) c.requires.ready.variables
    (subst (λ fs. IsGroupOf (key_at c.args.plan.now c.args.group.0) all (view_all shown collector fs)) (sym c.fields-fields.ensures) c.requires.whole)

pub returns : goal.returns
returns g c =
    let shown = g.S.ScalarValue.shown in
    let W = g.R.Completer.world c.args.walk.now.collector.possible in
    let collector = c.args.walk.now.collector in
    let T = c.args.concrete.now in
    let fields = ap (λ vars. view_fields shown vars c.by_name.result.now c.fields-fields.result.now) c.requires.ready.variables
    ∙ (sym (same-fields shown collector c.by_name.result.now c.by_name.ensures.alike c.fields-fields.result.now)
    ∙ ap (view_all shown collector) c.fields-fields.ensures) in
    record {
      declared = c.in_ok-told.ensures.declared ∙ ap (type_of W T) fields;
      answers = subst (λ os. AllAnswer shown (λ m. reply_of W T m os)
          (map (λ x. x.what) (picked (map (λ r. is_some r.object) c.args.rows.now) (view_nodes c.args.spots.now))) c.in_ok-told.told.answers.items) fields
          (subst (λ l. AllAnswer shown
          (λ m. reply_of W T m (view_fields shown (g.R.Resolver.values collector.possible) c.by_name.result.now c.fields-fields.result.now)) l
          c.in_ok-told.told.answers.items) c.in_ok-nodes.ensures c.in_ok-told.ensures.answers);
    }
