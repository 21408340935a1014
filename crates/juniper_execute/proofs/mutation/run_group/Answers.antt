use Rattle.std.proofs.Common.{◌∷◌, sym, ap, ◌∙◌, subst}
use Rattle.graphql_spec.specs.Fields.{is_possible}
use Rattle.graphql_spec.specs.Mutation.{step_of}
use Rattle.graphql_spec.specs.Resolvers.{world_of}
use Rattle.juniper_lookahead.specs.Collected.{view_all}
use Rattle.juniper_conversions.specs.PathView.{path_place}
use Rattle.juniper_walk.specs.PlanWalks.{IsGroupOf}
use Rattle.juniper_walk.specs.Plans.{fields_at, key_at}
use Rattle.juniper_walk.proofs.Whole.{asked-here, some-field, still-asked}
use Rattle.juniper_schema.specs.SchemaView.{view_schema}
use Rattle.juniper_execute.specs.RootFields.{all_fields, asks_in, collector_in, field_in, selected_in, values_in}
use Rattle.juniper_execute.specs.Meanings.{mutation_at}
use Rattle.juniper_execute.specs.Walkings.{starts_by}
use Rattle.juniper_execute.proofs.Bounds.{given-counted}
use Rattle.juniper_execute.proofs.Entering.{group-adds, group-spends}
use Rattle.juniper_execute.proofs.RootGroups.{completed-for, given-at, group-asked, group-key, group-merges, group-others, group-ran, group-type, has-first}
use Rattle.juniper_execute.proofs.RootGroups.{left-stopped, place-at, root-whole, stopped-in, told-leaves}
use Rattle.juniper_execute.proofs.mutation.run_group.Goals as goal

pub fields-fields-requires-clause-within : goal.fields-fields-requires-clause-within
fields-fields-requires-clause-within g c = c.requires.standing.within

pub first_of-first-requires : goal.first_of-first-requires
first_of-first-requires g c =
    let shown = g.S.ScalarValue.shown in
    let walk = c.args.walk.now in
    let os = all_fields shown walk (view_schema shown c.args.served.now.schema.now) in
    let k = key_at c.args.plan.now c.args.group.0 in
    some-field shown (collector_in shown walk) c.fields-fields.result.now k os
    (subst (λ l. IsGroupOf k os (view_all shown (collector_in shown walk) l)) (sym c.fields-fields.ensures) c.requires.group)

pub question-question-requires : goal.question-question-requires
question-question-requires g c =
    still-asked (asks_in g.S.ScalarValue.shown c.args.walk.now (view_schema g.S.ScalarValue.shown c.args.served.now.schema.now)) c.args.walk.now.concrete.now
    c.args.plan.now c.args.group.0 _ c.requires.asked

pub step-answer-requires : goal.step-answer-requires
step-answer-requires g c =
    let shown = g.S.ScalarValue.shown in
    let walk = c.args.walk.now in
    let s = view_schema shown c.args.served.now.schema.now in
    let asks = asks_in shown walk s in
    record {
      question = group-asked shown walk (asks walk.concrete.now) c.fields-fields.result.now c.first_of-first.result.now c.question-question.result.now
          c.first_of-first.ensures
          (asked-here asks walk.concrete.now c.args.plan.now c.args.group.0 _ _ c.question-question.result.now _ c.requires.asked c.question-question.ensures
          (ap (view_all shown (collector_in shown walk)) (sym c.fields-fields.ensures)));
      acyclic = c.by_name.ensures.acyclic;
      first = c.first_of-first.ensures;
      path = record { above = path_place walk.path.now.value; is = ap path_place c.as_ref.ensures ∙ c.in_ok-path.ensures };
      whole = root-whole shown walk c.by_name.result.now c.by_name.ensures.alike (is_possible s) c.args.enclosing.now
          (fields_at c.args.plan.now c.args.group.0) c.fields-fields.result.now (key_at c.args.plan.now c.args.group.0) (selected_in shown walk)
          c.requires.enclosing c.fields-fields.ensures c.requires.group;
    }

pub complete-requires-clause-some : goal.complete-requires-clause-some
complete-requires-clause-some g c = has-first g.S.ScalarValue.shown c.args.walk.now _ _ _ c.requires.group

pub complete-requires-clause-merge : goal.complete-requires-clause-merge
unfolding world_of
complete-requires-clause-merge g c =
    let shown = g.S.ScalarValue.shown in
    let root = c.args.served.now in
    let walk = c.args.walk.now in
    let s = view_schema shown root.schema.now in
    let M = mutation_at (g.R.NodeTypes.meaning root.resolver.now) s (values_in shown walk) (g.M.MutationSteps.steps walk.steps.now) in
    let asks = asks_in shown walk s in
    let os = all_fields shown walk s in
    let k = key_at c.args.plan.now c.args.group.0 in
    let fs = c.fields-fields.result.now in
    let f = c.first_of-first.result.now in
    let group = subst (λ l. IsGroupOf k os (view_all shown (collector_in shown walk) l)) (sym c.fields-fields.ensures) c.requires.group in
    let all = group-others shown walk fs f k os c.first_of-first.ensures group in
    let after = c.step-answer.new.context in
    group-merges (M.world after) walk.concrete.now (field_in shown walk f) all.0 _
    (group-asked shown walk (asks walk.concrete.now) fs f c.question-question.result.now c.first_of-first.ensures
    (asked-here asks walk.concrete.now c.args.plan.now c.args.group.0 _ _ c.question-question.result.now _ c.requires.asked c.question-question.ensures
    (ap (view_all shown (collector_in shown walk)) (sym c.fields-fields.ensures)))).declared (selected_in shown walk)
    (c.requires.agree after) k all.1 _ (c.requires.group.whole ∙ all.1)

pub returns-in-Err-clause-ran : goal.returns-in-Err-clause-ran
returns-in-Err-clause-ran g c =
    let shown = g.S.ScalarValue.shown in
    let root = c.args.served.now in
    let walk = c.args.walk.now in
    let s = view_schema shown root.schema.now in
    let M = mutation_at (g.R.NodeTypes.meaning root.resolver.now) s (values_in shown walk) (g.M.MutationSteps.steps walk.steps.now) in
    let T = walk.concrete.now in
    let asks = asks_in shown walk s in
    let os = all_fields shown walk s in
    let k = key_at c.args.plan.now c.args.group.0 in
    let fs = c.fields-fields.result.now in
    let f = c.first_of-first.result.now in
    let group = subst (λ l. IsGroupOf k os (view_all shown (collector_in shown walk) l)) (sym c.fields-fields.ensures) c.requires.group in
    let all = group-others shown walk fs f k os c.first_of-first.ensures group in
    let stopped = left-stopped M T (field_in shown walk f ∷ all.0) c.args.context.now c.step-answer.new.context c.step-answer.result
    (c.step-answer.ensures.context all.0) in
    stopped-in M T k os (field_in shown walk f ∷ all.0) all.1 c.args.context.now c.step-answer.new.context stopped

pub returns-in-Err-give-clause-ran : goal.returns-in-Err-give-clause-ran
returns-in-Err-give-clause-ran g c =
    let shown = g.S.ScalarValue.shown in
    let root = c.args.served.now in
    let walk = c.args.walk.now in
    let s = view_schema shown root.schema.now in
    let M = mutation_at (g.R.NodeTypes.meaning root.resolver.now) s (values_in shown walk) (g.M.MutationSteps.steps walk.steps.now) in
    let T = walk.concrete.now in
    let asks = asks_in shown walk s in
    let os = all_fields shown walk s in
    let k = key_at c.args.plan.now c.args.group.0 in
    let fs = c.fields-fields.result.now in
    let f = c.first_of-first.result.now in
    let group = subst (λ l. IsGroupOf k os (view_all shown (collector_in shown walk) l)) (sym c.fields-fields.ensures) c.requires.group in
    let all = group-others shown walk fs f k os c.first_of-first.ensures group in
    let stopped = left-stopped M T (field_in shown walk f ∷ all.0) c.args.context.now c.step-answer.new.context c.step-answer.result
    (c.step-answer.ensures.context all.0) in
    stopped-in M T k os (field_in shown walk f ∷ all.0) all.1 c.args.context.now c.step-answer.new.context stopped

pub returns-clause-ran : goal.returns-clause-ran
unfolding world_of
returns-clause-ran g c =
    let shown = g.S.ScalarValue.shown in
    let root = c.args.served.now in
    let walk = c.args.walk.now in
    let s = view_schema shown root.schema.now in
    let M = mutation_at (g.R.NodeTypes.meaning root.resolver.now) s (values_in shown walk) (g.M.MutationSteps.steps walk.steps.now) in
    let T = walk.concrete.now in
    let asks = asks_in shown walk s in
    let os = all_fields shown walk s in
    let k = key_at c.args.plan.now c.args.group.0 in
    let fs = c.fields-fields.result.now in
    let f = c.first_of-first.result.now in
    let group = subst (λ l. IsGroupOf k os (view_all shown (collector_in shown walk) l)) (sym c.fields-fields.ensures) c.requires.group in
    let all = group-others shown walk fs f k os c.first_of-first.ensures group in
    let before = c.args.context.now in
    let after = c.step-answer.new.context in
    let all_of = field_in shown walk f ∷ all.0 in
    let stepped = told-leaves M T all_of before after c.step-answer.result c.in-Ok.ensures.told (c.step-answer.ensures.context all.0) in
    let declared = (group-asked shown walk (asks walk.concrete.now) fs f c.question-question.result.now c.first_of-first.ensures
    (asked-here asks walk.concrete.now c.args.plan.now c.args.group.0 _ _ c.question-question.result.now _ c.requires.asked c.question-question.ensures
    (ap (view_all shown (collector_in shown walk)) (sym c.fields-fields.ensures)))).declared in
    let typed = group-type (M.world after) T (field_in shown walk f) all.0 _ declared in
    let at = place-at _ _ _ k c.in_ok-path.ensures c.requires.ready.at_root (group-key shown walk fs f k os c.first_of-first.ensures group) in
    let completed = completed-for (starts_by root.walking) (M.world after) _ _ (step_of M T before all_of).1 _ all_of _ _ (c.requires.group.whole ∙ all.1)
    (c.in-Ok.ensures.completed (step_of M T before all_of).1 (c.step-answer.ensures.answer all.0)) in
    let given = given-at _ k _ _ _ _ _ _ _ _ c.key-key.ensures c.in-Ok-give.ensures in
    group-ran M T k os all_of all.1 before after (starts_by root.walking) stepped _ typed _ at _ _ completed _ _ c.is_non_null.ensures _ _ _ _ given

pub returns-clause-counted : goal.returns-clause-counted
returns-clause-counted g c = given-counted c.args.served.now.walking _ _ _ _ _ _ _ _ _ _ _ c.in-Ok-give.ensures c.in-Ok.ensures.counted

pub returns-clause-entered : goal.returns-clause-entered
unfolding world_of
returns-clause-entered g c =
    let shown = g.S.ScalarValue.shown in
    let root = c.args.served.now in
    let walk = c.args.walk.now in
    let s = view_schema shown root.schema.now in
    let M = mutation_at (g.R.NodeTypes.meaning root.resolver.now) s (values_in shown walk) (g.M.MutationSteps.steps walk.steps.now) in
    let T = walk.concrete.now in
    let asks = asks_in shown walk s in
    let os = all_fields shown walk s in
    let k = key_at c.args.plan.now c.args.group.0 in
    let fs = c.fields-fields.result.now in
    let f = c.first_of-first.result.now in
    let group = subst (λ l. IsGroupOf k os (view_all shown (collector_in shown walk) l)) (sym c.fields-fields.ensures) c.requires.group in
    let all = group-others shown walk fs f k os c.first_of-first.ensures group in
    let before = c.args.context.now in
    let after = c.step-answer.new.context in
    let all_of = field_in shown walk f ∷ all.0 in
    let stepped = told-leaves M T all_of before after c.step-answer.result c.in-Ok.ensures.told (c.step-answer.ensures.context all.0) in
    let declared = (group-asked shown walk (asks walk.concrete.now) fs f c.question-question.result.now c.first_of-first.ensures
    (asked-here asks walk.concrete.now c.args.plan.now c.args.group.0 _ _ c.question-question.result.now _ c.requires.asked c.question-question.ensures
    (ap (view_all shown (collector_in shown walk)) (sym c.fields-fields.ensures)))).declared in
    let typed = group-type (M.world after) T (field_in shown walk f) all.0 _ declared in
    group-adds M T before after _ all_of (c.requires.group.whole ∙ all.1) _ typed stepped _ _
    (c.in-Ok.ensures.entered (step_of M T before all_of).1 (c.step-answer.ensures.answer all.0))

pub returns-in-Err-clause-entered : goal.returns-in-Err-clause-entered
unfolding world_of
returns-in-Err-clause-entered g c =
    let shown = g.S.ScalarValue.shown in
    let root = c.args.served.now in
    let walk = c.args.walk.now in
    let s = view_schema shown root.schema.now in
    let M = mutation_at (g.R.NodeTypes.meaning root.resolver.now) s (values_in shown walk) (g.M.MutationSteps.steps walk.steps.now) in
    let T = walk.concrete.now in
    let asks = asks_in shown walk s in
    let os = all_fields shown walk s in
    let k = key_at c.args.plan.now c.args.group.0 in
    let fs = c.fields-fields.result.now in
    let f = c.first_of-first.result.now in
    let group = subst (λ l. IsGroupOf k os (view_all shown (collector_in shown walk) l)) (sym c.fields-fields.ensures) c.requires.group in
    let all = group-others shown walk fs f k os c.first_of-first.ensures group in
    let before = c.args.context.now in
    let after = c.step-answer.new.context in
    let all_of = field_in shown walk f ∷ all.0 in
    let declared = (group-asked shown walk (asks walk.concrete.now) fs f c.question-question.result.now c.first_of-first.ensures
    (asked-here asks walk.concrete.now c.args.plan.now c.args.group.0 _ _ c.question-question.result.now _ c.requires.asked c.question-question.ensures
    (ap (view_all shown (collector_in shown walk)) (sym c.fields-fields.ensures)))).declared in
    let typed = group-type (M.world after) T (field_in shown walk f) all.0 _ declared in
    group-spends M T before after (Unit {0}) (Unit {0}) _ _ all_of (c.requires.group.whole ∙ all.1) _ typed c.in-Err.error c.in-Err.ensures.told
    (λ told. told-leaves M T all_of before after c.step-answer.result told (c.step-answer.ensures.context all.0)) c.args.plan.now.left 0
    (c.in-Err.ensures.entered (step_of M T before all_of).1 (c.step-answer.ensures.answer all.0))
