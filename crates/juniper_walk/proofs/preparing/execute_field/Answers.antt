use Rattle.std.proofs.Common.{[], ◌∷◌, ◌++◌, sym, ap, ◌∙◌, subst}
use Rattle.graphql_spec.specs.Documents.{response_key}
use Rattle.graphql_spec.specs.Errors.{key}
use Rattle.graphql_spec.specs.Execution.{reply_of, type_of}
use Rattle.graphql_spec.specs.Selections.{occurrences}
use Rattle.juniper_conversions.specs.PathView.{path_place}
use Rattle.juniper_lookahead.specs.Collected.{view_all}
use Rattle.juniper_values.specs.ResolvedView.{Answers}
use Rattle.juniper_walk.specs.Plans.{all_expanded, key_at}
use Rattle.juniper_walk.specs.PlanWalks.{IsGroupOf}
use Rattle.juniper_lookahead.specs.Sites.{view_fields}
use Rattle.juniper_walk.proofs.Whole.{asked-here, first-field, same-fields, still-asked, whole-at}
use Rattle.juniper_walk.proofs.preparing.execute_field.Goals as goal

pub resolve_field_value-told-requires-clause-whole : goal.resolve_field_value-told-requires-clause-whole
resolve_field_value-told-requires-clause-whole g c =
    let shown = g.S.ScalarValue.shown in
    let collector = c.args.walk.now.collector in
    let possible = g.R.Conditions.possible c.args.walk.now.collector.possible in
    let all = occurrences possible c.args.concrete.now (all_expanded shown collector c.args.enclosing.now) in
    whole-at shown collector c.by_name.result.now c.by_name.ensures.alike possible (g.R.Resolver.values c.args.walk.now.collector.possible)
    c.args.concrete.now c.args.enclosing.now c.fields-fields.result.now (key_at c.args.plan.now c.args.group.0) c.requires.ready.variables
    (subst (λ fs. IsGroupOf (key_at c.args.plan.now c.args.group.0) all (view_all shown collector fs)) (sym c.fields-fields.ensures) c.requires.whole)

pub question-question-requires : goal.question-question-requires
question-question-requires g c =
    still-asked (g.R.Resolver.asks c.args.walk.now.collector.possible) c.args.concrete.now c.args.plan.now c.args.group.0 _ c.requires.asked

pub resolve_field_value-told-requires-clause-question : goal.resolve_field_value-told-requires-clause-question
resolve_field_value-told-requires-clause-question g c =
    let shown = g.S.ScalarValue.shown in
    let collector = c.args.walk.now.collector in
    let fields = ap (view_all shown collector) (sym c.fields-fields.ensures)
    ∙ (same-fields shown collector c.by_name.result.now c.by_name.ensures.alike c.fields-fields.result.now
    ∙ ap (λ vars. view_fields shown vars c.by_name.result.now c.fields-fields.result.now) (sym c.requires.ready.variables)) in
    asked-here (g.R.Resolver.asks collector.possible) c.args.concrete.now c.args.plan.now c.args.group.0 _ _ c.question-question.result.now _ c.requires.asked
    c.question-question.ensures fields

pub resolve_field_value-told-requires-clause-path : goal.resolve_field_value-told-requires-clause-path
resolve_field_value-told-requires-clause-path g c =
    let shown = g.S.ScalarValue.shown in
    let collector = c.args.walk.now.collector in
    let possible = g.R.Conditions.possible collector.possible in
    let k = key_at c.args.plan.now c.args.group.0 in
    let all = occurrences possible c.args.concrete.now (all_expanded shown collector c.args.enclosing.now) in
    let group = subst (λ l. IsGroupOf k all (view_all shown collector l)) (sym c.fields-fields.ensures) c.requires.whole in
    let head = (first-field shown collector c.fields-fields.result.now c.index-fields-0.result k all group).0 in
    let place = path_place c.args.path.now.value in
    let fields = ap (λ vars. view_fields shown vars c.by_name.result.now c.fields-fields.result.now) c.requires.ready.variables
    ∙ sym (same-fields shown collector c.by_name.result.now c.by_name.ensures.alike c.fields-fields.result.now) in
    record {
      first = group.first;
      others = group.others;
      some = fields ∙ group.some;
      above = place;
      is = c.in_ok-here.ensures ∙ ap (λ h. place ++ key (response_key h) ∷ []) (sym head);
    }

pub take-requires-clause-some : goal.take-requires-clause-some
take-requires-clause-some g c = record { first = c.requires.whole.first; others = c.requires.whole.others; some = c.requires.whole.some }

pub returns : goal.returns
returns g c =
    let shown = g.S.ScalarValue.shown in
    let W = g.R.Completer.world c.args.walk.now.collector.possible in
    let collector = c.args.walk.now.collector in
    let possible = g.R.Conditions.possible c.args.walk.now.collector.possible in
    let T = c.args.concrete.now in
    let all = occurrences possible T (all_expanded shown collector c.args.enclosing.now) in
    let fields = ap (λ vars. view_fields shown vars c.by_name.result.now c.fields-fields.result.now) c.requires.ready.variables
    ∙ (sym (same-fields shown collector c.by_name.result.now c.by_name.ensures.alike c.fields-fields.result.now)
    ∙ ap (view_all shown collector) c.fields-fields.ensures) in
    c.in_ok-taken.ensures T c.args.node.now all c.requires.whole (record {
      declared = c.resolve_field_value-told.ensures.declared ∙ ap (type_of W T) fields;
      answer = subst (λ os. Answers shown c.resolve_field_value-told.result.answer (reply_of W T c.args.node.now os)) fields c.resolve_field_value-told.ensures.answer;
    })
