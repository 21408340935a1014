use Rattle.std.proofs.Common.{false, sym, ap, ◌∙◌}
use Rattle.graphql_spec.specs.Types.{named}
use Rattle.juniper_schema.specs.SchemaView.{view_schema}
use Rattle.juniper_intro.specs.HandleView.{view_type_place}
use Rattle.juniper_intro.specs.Handles.{reference_at}
use Rattle.juniper_intro.specs.Introspectors.{names_of, schema_of}
use Rattle.juniper_intro.proofs.introspector.Introspector.reference.Goals as goal

pub returns-in-ByName : goal.returns-in-ByName
unfolding reference_at
returns-in-ByName g c =
    ap (named false) c.name.ensures ∙ ap (λ p. reference_at (view_schema g.S.ScalarValue.shown (schema_of c.args.self.now)) (names_of c.args.self.now)
    (view_type_place p)) (sym c.in-ByName.is)

pub returns-in-AtField : goal.returns-in-AtField
unfolding reference_at
returns-in-AtField g c =
    ap (λ f. f.of_type) c.field.ensures ∙ ap (λ p. reference_at (view_schema g.S.ScalarValue.shown (schema_of c.args.self.now)) (names_of c.args.self.now)
    (view_type_place p)) (sym c.in-AtField.is)

pub returns-in-AtInput : goal.returns-in-AtInput
unfolding reference_at
returns-in-AtInput g c =
    ap (λ d. d.of_type) c.input.ensures ∙ ap (λ p. reference_at (view_schema g.S.ScalarValue.shown (schema_of c.args.self.now)) (names_of c.args.self.now)
    (view_type_place p)) (sym c.in-AtInput.is)
