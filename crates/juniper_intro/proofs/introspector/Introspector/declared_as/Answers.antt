use Rattle.graphql_spec.specs.Fields.{shape_of}
use Rattle.std.proofs.Common.{ap, sym, option_map, ◌∙◌}
use Rattle.std.specs.Option.{option_and_then}
use Rattle.graphql_spec.specs.Introspected.{declaration_of, declared_as, description_of}
use Rattle.juniper_meta.specs.MetaView.{view_meta}
use Rattle.juniper_schema.specs.SchemaView.{view_schema}
use Rattle.juniper_intro.specs.Introspectors.{schema_of}
use Rattle.juniper_intro.proofs.Looked.{description-looked, shape-looked}
use Rattle.juniper_intro.proofs.introspector.Introspector.declared_as.Goals as goal

pub returns-in-Some-clause-shape : goal.returns-in-Some-clause-shape
unfolding declared_as declaration_of
returns-in-Some-clause-shape g c =
    let shown = g.S.ScalarValue.shown in
    let s = view_schema shown (schema_of c.args.self.now) in
    shape-looked (λ m. view_meta shown m.now) c.concrete_type_by_name.result (declaration_of s c.in-Some.name.now) c.concrete_type_by_name.ensures.meta
    ∙ ap (λ o. shape_of (option_and_then (declaration_of s) o)) (sym (ap (option_map (λ n. n.now)) c.in-Some.is) ∙ c.own_name.ensures)

pub returns-in-Some-clause-description : goal.returns-in-Some-clause-description
unfolding declared_as declaration_of
returns-in-Some-clause-description g c =
    let shown = g.S.ScalarValue.shown in
    let s = view_schema shown (schema_of c.args.self.now) in
    description-looked (λ m. view_meta shown m.now) c.concrete_type_by_name.result (declaration_of s c.in-Some.name.now) c.concrete_type_by_name.ensures.meta
    ∙ ap (λ o. description_of (option_and_then (declaration_of s) o)) (sym (ap (option_map (λ n. n.now)) c.in-Some.is) ∙ c.own_name.ensures)

pub returns-in-None-clause-shape : goal.returns-in-None-clause-shape
unfolding declared_as shape_of
returns-in-None-clause-shape g c =
    let s = view_schema g.S.ScalarValue.shown (schema_of c.args.self.now) in
    ap (λ o. shape_of (option_and_then (declaration_of s) o)) (sym (ap (option_map (λ n. n.now)) c.in-None.is) ∙ c.own_name.ensures)

pub returns-in-None-clause-description : goal.returns-in-None-clause-description
unfolding declared_as description_of
returns-in-None-clause-description g c =
    let s = view_schema g.S.ScalarValue.shown (schema_of c.args.self.now) in
    ap (λ o. description_of (option_and_then (declaration_of s) o)) (sym (ap (option_map (λ n. n.now)) c.in-None.is) ∙ c.own_name.ensures)
