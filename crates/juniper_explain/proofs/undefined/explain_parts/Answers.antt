use Rattle.std.proofs.Common.{◌<◌, ◌≤◌, length, codes, map, refl, ap, ap₂, ◌∙◌, ◌++◌, arith}
use Rattle.std.specs.List.{flat_map}
use Rattle.std.specs.Option.{is_none}
use Rattle.graphql_spec.specs.VariableUses.{definition_of}
use Rattle.juniper_rules.specs.Listing.{view_listed_on_types}
use Rattle.juniper_syntax.specs.DocumentView.{view_operation, view_variable}
use Rattle.juniper_written.specs.WrittenView.{view_lists}
use Rattle.juniper_written.proofs.Lists.{flat-next, flat-all, flat-seen}
use Rattle.juniper_written.proofs.Variables.{variables-seen}
use Rattle.juniper_type_rules.specs.Variables.{words_given}
use Rattle.juniper_explain.specs.declared.rule.Rule.TheVariants as rule
use Rattle.juniper_explain.specs.Explanations.{named, view_explanations}
use Rattle.juniper_explain.specs.Nodes.{undefined_name}
use Rattle.juniper_explain.proofs.PartWords.{at_words}
use Rattle.juniper_explain.proofs.undefined.explain_parts.Goals as goal

pub loop-index-init : goal.loop-index-init
loop-index-init g c = refl

pub loop-index-preserved : goal.loop-index-preserved
unfolding undefined_name
loop-index-preserved g c =
    let shown = g.S.ScalarValue.shown in
    let l = c.loop-index in
    let xs = c.args.parts.now in
    let o = view_operation shown c.args.operation.now in
    let part = c.index-part.result.now in
    let before = view_explanations l.explanations.items in
    let defined = map (view_variable shown) c.listed-variables.result.now in
    let below : l.index < length xs.items = omega (arith, c.loop-index-test.true, c.len-index-end.ensures, xs.ok.0) in
    flat-next (at_words shown (undefined_name o)) xs.items (view_explanations c.args.explanations.now.items) l.index part
    before (view_explanations c.explain_words.new.explanations.items) below c.index-part.ensures l.invariant
    (c.in_ok-explain_words.ensures
    ∙ (ap (λ ws. before ++ flat_map (λ w. named (is_none (definition_of defined w.item)) rule.NoUndefinedVariables w (codes "Variable `$") c.as_str.result.now)
    ws) c.in_ok-words.ensures
    ∙ ap₂ (λ vs t. before ++ flat_map (λ w. named (is_none (definition_of vs w.item)) rule.NoUndefinedVariables w (codes "Variable `$") t)
    (flat_map (flat_map words_given) (view_lists shown part.now.listed.now.arguments)))
    (c.listed-variables.ensures ∙ variables-seen shown c.args.operation.now.item.variable_definitions o refl)
    (c.as_str.ensures.value ∙ c.in_ok-after.ensures)))

pub returns : goal.returns
returns g c =
    let shown = g.S.ScalarValue.shown in
    let xs = c.args.parts.now in
    let o = view_operation shown c.args.operation.now in
    let old = view_explanations c.args.explanations.now.items in
    let past : length xs.items ≤ c.loop-index.index = omega (arith, c.loop-index-test.false, c.len-index-end.ensures, xs.ok.0) in
    flat-all (at_words shown (undefined_name o)) xs.items old c.loop-index.index (view_explanations c.loop-index.explanations.items) past
    c.loop-index.invariant
    ∙ ap (λ l. old ++ l) (flat-seen (λ p. view_listed_on_types shown p.now)
    (λ l. flat_map (undefined_name o) (flat_map (flat_map words_given) l.listing.arguments)) xs.items)
