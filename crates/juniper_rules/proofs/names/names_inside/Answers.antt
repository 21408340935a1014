use Rattle.std.proofs.Common.{ap, map, ◌++◌, ◌∙◌}
use Rattle.std.specs.List.{list_any}
use Rattle.std.specs.Option.{is_none}
use Rattle.graphql_spec.specs.Fields.{type_named}
use Rattle.graphql_spec.specs.Placed.{directive_named}
use Rattle.graphql_spec.specs.Rules.{has_unknown_directive, has_unknown_type, repeats_argument, variable_types}
use Rattle.graphql_spec.specs.Written.{repeats}
use Rattle.juniper_schema.specs.SchemaView.{view_schema}
use Rattle.juniper_written.specs.Parts.{parts_of}
use Rattle.juniper_written.specs.WrittenView.{view_names}
use Rattle.juniper_rules.specs.Listing.{definition_of}
use Rattle.juniper_rules.proofs.Listing.{arguments-are, written-is}
use Rattle.juniper_rules.proofs.names.names_inside.Goals as goal

pub returns-clause-unknown : goal.returns-clause-unknown
unfolding parts_of
returns-clause-unknown g c d fragments is =
    let shown = g.S.ScalarValue.shown in
    c.spreads_unknown.ensures d (definition_of shown c.args.listed.now) fragments
    (ap view_names c.deref-2.ensures.value ∙ ap (λ p. p.spreads) (written-is shown c.args.listed.now is))

pub returns-clause-cycle : goal.returns-clause-cycle
unfolding parts_of
returns-clause-cycle g c d fragments is =
    c.in_ok-spreads_itself.ensures d fragments
    (ap view_names c.deref.ensures.value ∙ ap (λ p. p.spreads) (written-is g.S.ScalarValue.shown c.args.listed.now is))

pub returns-clause-argument : goal.returns-clause-argument
unfolding repeats_argument
returns-clause-argument g c is =
    c.in_ok-repeats_argument.ensures ∙ ap (λ ls. list_any (λ as'. repeats (map (λ a. a.name.item) as')) ls)
    (arguments-are g.S.ScalarValue.shown c.args.listed.now is)

pub returns-clause-field : goal.returns-clause-field
returns-clause-field g c is = c.in_ok-repeats_input_field.ensures (arguments-are g.S.ScalarValue.shown c.args.listed.now is)

pub returns-clause-directive : goal.returns-clause-directive
unfolding parts_of has_unknown_directive
returns-clause-directive g c is =
    c.has_unknown_directive.ensures ∙ ap (λ p. list_any (λ d. is_none (directive_named d.name.item)) p.directives)
    (written-is g.S.ScalarValue.shown c.args.listed.now is)

pub returns-clause-named : goal.returns-clause-named
unfolding parts_of has_unknown_type
returns-clause-named g c is =
    let shown = g.S.ScalarValue.shown in
    c.has_unknown_type.ensures ∙ ap (λ p. list_any (λ n. is_none (type_named (view_schema shown c.args.schema.now) n))
    (p.conditions ++ variable_types (definition_of shown c.args.listed.now))) (written-is shown c.args.listed.now is)
