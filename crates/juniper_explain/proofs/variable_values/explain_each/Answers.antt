use Rattle.std.proofs.Common.{ap, ◌∙◌, ◌++◌, map, refl}
use Rattle.std.specs.List.{flat_map}
use Rattle.juniper_rules.specs.GivenView.{view_given_values}
use Rattle.juniper_schema.specs.SchemaView.{view_schema}
use Rattle.juniper_syntax.specs.DocumentView.{view_variable}
use Rattle.juniper_written.proofs.Lists.{flat-all, flat-next, flat-seen}
use Rattle.juniper_explain.specs.GivenValues.{told_at, variable_explanations, variable_reasons, view_variable_explanations}
use Rattle.juniper_explain.specs.ReasonsView.{view_messages}
use Rattle.juniper_explain.proofs.TellingValues.{explanations_of}
use Rattle.juniper_explain.proofs.variable_values.explain_each.Goals as goal

pub loop-variable-init : goal.loop-variable-init
loop-variable-init g c = refl

pub loop-variable-preserved : goal.loop-variable-preserved
unfolding told_at
loop-variable-preserved g c =
    let shown = g.S.ScalarValue.shown in
    let s = view_schema shown c.args.schema.now in
    let given = view_given_values shown c.args.given.now in
    let l = c.loop-variable in
    let x = c.variable-item.result in
    let ys = view_variable_explanations l.explanations.items in
    let found = c.in_ok-explain_variable.ensures
    ∙ ap (λ ms. view_messages ms ++ variable_reasons s (view_variable shown x) (given x.0.item.now)) c.new-messages.ensures.items in
    flat-next (λ y. explanations_of s given (view_variable shown y)) c.args.defined.now (view_variable_explanations c.new-explanations.result.items)
    l.variable-index x ys (view_variable_explanations c.add_all.new.explanations.items) c.loop-variable-test.true c.variable-item.is l.invariant
    (c.in_ok-add_all.ensures ∙ ap (λ xs. ys ++ map (told_at (view_variable shown x)) xs) found)

pub returns : goal.returns
unfolding variable_explanations
returns g c =
    let shown = g.S.ScalarValue.shown in
    let s = view_schema shown c.args.schema.now in
    let given = view_given_values shown c.args.given.now in
    let defined = c.args.defined.now in
    flat-all (λ y. explanations_of s given (view_variable shown y)) defined (view_variable_explanations c.new-explanations.result.items)
    c.loop-variable.variable-index (view_variable_explanations c.loop-variable.explanations.items) c.loop-variable-test.false c.loop-variable.invariant
    ∙ (ap (λ es. view_variable_explanations es ++ flat_map (λ y. explanations_of s given (view_variable shown y)) defined) c.new-explanations.ensures.items
    ∙ flat-seen (view_variable shown) (explanations_of s given) defined)
