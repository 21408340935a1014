use Rattle.std.proofs.Common.{ap, not, ◌∙◌}
use Rattle.std.specs.List.{list_any}
use Rattle.std.specs.Option.{is_none}
use Rattle.graphql_spec.specs.Fields.{is_composite, type_named}
use Rattle.graphql_spec.specs.Rules.{gives_too_few, gives_unknown, gives_wrong, has_other_condition, has_unknown_argument, has_unknown_field}
use Rattle.graphql_spec.specs.Rules.{has_wrong_argument, has_wrong_set, lacks_argument}
use Rattle.juniper_type_rules.specs.CallView.{view_calls}
use Rattle.juniper_type_rules.specs.Placing as placing
use Rattle.juniper_schema.specs.SchemaView.{view_schema}
use Rattle.juniper_type_rules.specs.SetTests as sets
use Rattle.juniper_written.specs.Parts.{parts_of}
use Rattle.juniper_rules.proofs.Listing.{calls-are, listed-is, placed-is, written-is}
use Rattle.juniper_rules.proofs.types.types_inside.Goals as goal

pub returns-clause-condition : goal.returns-clause-condition
unfolding parts_of has_other_condition
returns-clause-condition g c is =
    let shown = g.S.ScalarValue.shown in
    let s = view_schema shown c.args.schema.now in
    c.has_other_condition.ensures ∙ ap (λ p. list_any (λ n. not (is_composite (type_named s n))) p.conditions)
    (written-is shown c.args.on_types.now.listed.now (listed-is shown s c.args.on_types.now is))

pub returns-clause-field : goal.returns-clause-field
unfolding placing.parts_of has_unknown_field
returns-clause-field g c is =
    let shown = g.S.ScalarValue.shown in
    c.has_unknown_field.ensures ∙ ap (λ p. list_any (λ y. is_none y.declared) p.fields)
    (placed-is shown (view_schema shown c.args.schema.now) c.args.on_types.now is)

pub returns-clause-set : goal.returns-clause-set
unfolding placing.parts_of has_wrong_set sets.has_wrong_set
returns-clause-set g c is =
    let shown = g.S.ScalarValue.shown in
    let s = view_schema shown c.args.schema.now in
    c.has_wrong_set.ensures ∙ ap (λ p. list_any (sets.has_wrong_set s) p.fields) (placed-is shown s c.args.on_types.now is)

pub returns-clause-unknown : goal.returns-clause-unknown
unfolding has_unknown_argument
returns-clause-unknown g c is =
    let shown = g.S.ScalarValue.shown in
    c.has_unknown_argument.ensures ∙ ap (list_any gives_unknown) (ap (view_calls shown) c.deref.ensures.value
    ∙ calls-are shown (view_schema shown c.args.schema.now) c.args.on_types.now is)

pub returns-clause-lacking : goal.returns-clause-lacking
unfolding lacks_argument
returns-clause-lacking g c is =
    let shown = g.S.ScalarValue.shown in
    c.lacks_argument.ensures ∙ ap (list_any gives_too_few) (ap (view_calls shown) c.deref-2.ensures.value
    ∙ calls-are shown (view_schema shown c.args.schema.now) c.args.on_types.now is)

pub returns-clause-wrong : goal.returns-clause-wrong
unfolding has_wrong_argument
returns-clause-wrong g c is =
    let shown = g.S.ScalarValue.shown in
    let s = view_schema shown c.args.schema.now in
    c.has_wrong_argument.ensures ∙ ap (list_any (gives_wrong s)) (ap (view_calls shown) c.deref-3.ensures.value ∙ calls-are shown s c.args.on_types.now is)
