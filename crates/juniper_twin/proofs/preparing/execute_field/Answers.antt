use Rattle.std.proofs.Common.{[], ◌∷◌, ◌++◌, sym, ap, ◌∙◌, subst}
use Rattle.graphql_spec.specs.Documents.{response_key}
use Rattle.graphql_spec.specs.Errors.{key}
use Rattle.graphql_spec.specs.ExactAnswers.{whole}
use Rattle.graphql_spec.specs.Execution.{reply_of, type_of}
use Rattle.graphql_spec.specs.Skeletons.{listed_spots}
use Rattle.juniper_walk.specs.Completing.{view_errors}
use Rattle.juniper_conversions.specs.PathView.{path_place}
use Rattle.juniper_lookahead.specs.Collected.{view_collected}
use Rattle.juniper_values.specs.ResolvedView.{Answers}
use Rattle.juniper_walk.proofs.Preparation.{alone-whole, listed-same, same-head, same-single}
use Rattle.juniper_twin.proofs.PreparedReplies.{prepared-reply}
use Rattle.juniper_twin.proofs.preparing.execute_field.Goals as goal

pub resolve_field_value-answer-requires-clause-whole : goal.resolve_field_value-answer-requires-clause-whole
resolve_field_value-answer-requires-clause-whole g c =
    alone-whole g.S.ScalarValue.shown c.args.walk.now.collector c.by_name.result.now c.by_name.ensures.alike
    (g.R.Conditions.possible c.args.walk.now.collector.possible) c.args.concrete.now c.args.single.now.alone c.args.single.now.field c.requires.alone
    (g.R.Resolver.values c.args.walk.now.collector.possible) c.requires.ready.variables

pub resolve_field_value-answer-requires-clause-question : goal.resolve_field_value-answer-requires-clause-question
resolve_field_value-answer-requires-clause-question g c =
    let shown = g.S.ScalarValue.shown in
    let collector = c.args.walk.now.collector in
    let field = c.args.single.now.field in
    let asks = g.R.Resolver.asks collector.possible c.args.concrete.now in
    record {
      first = view_collected shown collector field.now;
      others = [];
      some = same-single shown collector c.by_name.result.now c.by_name.ensures.alike (g.R.Resolver.values collector.possible) field c.requires.ready.variables;
      asked = subst (λ h. asks h c.in_ok-question.question) (sym (same-head shown collector field.now)) c.in_ok-question.ensures;
    }

pub resolve_field_value-answer-requires-clause-path : goal.resolve_field_value-answer-requires-clause-path
resolve_field_value-answer-requires-clause-path g c =
    let shown = g.S.ScalarValue.shown in
    let collector = c.args.walk.now.collector in
    let field = c.args.single.now.field in
    let head = same-head shown collector field.now in
    let place = path_place c.args.path.now.value in
    record {
      first = view_collected shown collector field.now;
      others = [];
      some = same-single shown collector c.by_name.result.now c.by_name.ensures.alike (g.R.Resolver.values collector.possible) field c.requires.ready.variables;
      above = place;
      is = ap path_place c.as_ref.ensures ∙ (c.in_ok-here.ensures ∙ ap (λ h. place ++ key (response_key h) ∷ []) (sym head));
    }

pub returns : goal.returns
returns g c =
    let shown = g.S.ScalarValue.shown in
    let W = g.R.Completer.world c.args.walk.now.collector.possible in
    let T = c.args.concrete.now in
    let field = c.args.single.now.field in
    let o = view_collected shown c.args.walk.now.collector field.now in
    let head = same-head shown c.args.walk.now.collector field.now in
    let fields = same-single shown c.args.walk.now.collector c.by_name.result.now c.by_name.ensures.alike
    (g.R.Resolver.values c.args.walk.now.collector.possible) field c.requires.ready.variables in
    let place = c.in_ok-here.ensures ∙ ap (λ h. path_place c.args.path.now.value ++ key (response_key h) ∷ []) (sym head) in
    let typed = c.resolve_field_value-answer.ensures.declared ∙ ap (type_of W T) fields in
    let answers = subst (λ os. Answers shown c.resolve_field_value-answer.result.answer (reply_of W T c.args.node.now os)) fields c.resolve_field_value-answer.ensures.answer in
    let parted = c.in_ok-skeleton.ensures.parted (reply_of W T c.args.node.now (o ∷ [])) answers in
    prepared-reply W _ _ _ o _ _ _ _ _ _ _ place c.is_non_null.ensures typed parted
    (c.in_ok-listed.ensures ∙ (listed-same _ _ _ (ap (λ h. h.span.start) (sym head))
    ∙ ap (λ es. listed_spots whole o.head.span.start (view_errors shown es)) c.deref.ensures.value))
