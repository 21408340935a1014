use Rattle.std.proofs.Common.{◌<◌, ◌≤◌, length, map, refl, ap, ◌∙◌, ◌++◌, arith}
use Rattle.std.specs.Option.{is_none}
use Rattle.graphql_spec.specs.VariableUses.{definition_of}
use Rattle.juniper_syntax.specs.DocumentView.{view_variable, view_word}
use Rattle.juniper_written.proofs.Lists.{flat-next, flat-all, flat-seen}
use Rattle.juniper_explain.specs.Explanations.{named, view_explanations}
use Rattle.juniper_explain.proofs.undefined.explain_words.Goals as goal

pub loop-index-init : goal.loop-index-init
loop-index-init g c = refl

pub loop-index-preserved : goal.loop-index-preserved
loop-index-preserved g c =
    let l = c.loop-index in
    let xs = c.args.words.now in
    let said = c.args.wording.now in
    let defined = map (view_variable g.S.ScalarValue.shown) c.args.variables.now in
    let below : l.index < length xs.items = omega (arith, c.loop-index-test.true, c.len-index-end.ensures, xs.ok.0) in
    flat-next (λ w. named (is_none (definition_of defined (view_word w).item)) said.rule (view_word w) said.before.now said.after.now) xs.items
    (view_explanations c.args.explanations.now.items) l.index c.index.result.now (view_explanations l.explanations.items)
    (view_explanations c.explain_name.new.explanations.items) below c.index.ensures l.invariant c.in_ok-explain_name.ensures

pub returns : goal.returns
returns g c =
    let xs = c.args.words.now in
    let said = c.args.wording.now in
    let defined = map (view_variable g.S.ScalarValue.shown) c.args.variables.now in
    let old = view_explanations c.args.explanations.now.items in
    let past : length xs.items ≤ c.loop-index.index = omega (arith, c.loop-index-test.false, c.len-index-end.ensures, xs.ok.0) in
    flat-all (λ w. named (is_none (definition_of defined (view_word w).item)) said.rule (view_word w) said.before.now said.after.now) xs.items old
    c.loop-index.index (view_explanations c.loop-index.explanations.items) past c.loop-index.invariant
    ∙ ap (λ l. old ++ l)
    (flat-seen view_word (λ w. named (is_none (definition_of defined w.item)) said.rule w said.before.now said.after.now) xs.items)
