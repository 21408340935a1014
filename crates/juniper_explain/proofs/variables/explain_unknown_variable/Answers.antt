use Rattle.std.proofs.Common.{ap, ◌∙◌, ◌++◌}
use Rattle.std.proofs.lemmas.Result.{on_ok_weaker}
use Rattle.juniper_syntax.specs.Positions.{view_span}
use Rattle.juniper_schema.specs.SchemaView.{view_schema}
use Rattle.juniper_explain.specs.Explanations.{view_explanations}
use Rattle.juniper_explain.specs.Nodes.{unknown_type}
use Rattle.juniper_explain.specs.Words.{type_word}
use Rattle.juniper_type_rules.proofs.WordsIn.{same-word}
use Rattle.juniper_explain.proofs.variables.explain_unknown_variable.Goals as goal

pub returns : goal.returns
unfolding type_word
returns g c =
    let s = view_schema g.S.ScalarValue.shown c.args.schema.now in
    let old = view_explanations c.args.explanations.now.items in
    on_ok_weaker c.explain_type.result (λ added. added ∙ ap (λ w. old ++ unknown_type s w)
    (same-word _ _ _ _ (ap (λ n. n.now) c.new-word.ensures.item ∙ c.innermost_name.ensures) (ap view_span c.new-word.ensures.span))) c.explain_type.ensures
