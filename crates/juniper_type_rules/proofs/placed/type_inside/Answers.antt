use Rattle.std.proofs.Common.{ap, sym, ◌∙◌, cond, Some, None, option_map}
use Rattle.graphql_spec.specs.Documents.{word_name}
use Rattle.juniper_schema.specs.SchemaView.{view_schema}
use Rattle.juniper_syntax.specs.DocumentView.{view_word}
use Rattle.juniper_type_rules.specs.Placing.{type_inside}
use Rattle.juniper_type_rules.proofs.placed.type_inside.Goals as goal

pub returns-then-is_composite : goal.returns-then-is_composite
unfolding type_inside word_name
returns-then-is_composite g c =
    let s = view_schema g.S.ScalarValue.shown c.args.schema.now in
    ap (λ b. cond b (Some c.in-Some.condition.item.now) None) c.if-is_composite.ensures
    ∙ ap (λ o. type_inside s c.args.parent.now (word_name (option_map view_word o))) (sym c.in-Some.is)

pub returns-else-is_composite : goal.returns-else-is_composite
unfolding type_inside word_name
returns-else-is_composite g c =
    let s = view_schema g.S.ScalarValue.shown c.args.schema.now in
    ap (λ b. cond b (Some c.in-Some.condition.item.now) None) c.if-is_composite.ensures
    ∙ ap (λ o. type_inside s c.args.parent.now (word_name (option_map view_word o))) (sym c.in-Some.is)

pub returns-in-None : goal.returns-in-None
unfolding type_inside word_name
returns-in-None g c =
    let s = view_schema g.S.ScalarValue.shown c.args.schema.now in
    ap (λ o. type_inside s c.args.parent.now (word_name (option_map view_word o))) (sym c.in-None.is)
