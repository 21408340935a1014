use Rattle.std.proofs.Common.{ap, sym, ◌∙◌}
use Rattle.graphql_spec.specs.Fields.{type_named}
use Rattle.graphql_spec.specs.VariableUses.{input_fields}
use Rattle.juniper_meta.specs.MetaView.{view_meta}
use Rattle.juniper_schema.specs.SchemaView.{view_schema}
use Rattle.juniper_type_rules.proofs.PlacesIn.{fields-of}
use Rattle.juniper_type_rules.proofs.places.input_fields.Goals as goal

pub returns-in-Some : goal.returns-in-Some
returns-in-Some g c =
    let shown = g.S.ScalarValue.shown in
    let s = view_schema shown c.args.schema.now in
    c.input_fields.ensures ∙ (fields-of (view_meta shown c.in-Some.meta.now).shape ∙ (sym (ap input_fields c.in-Some.ensures.shape)
    ∙ ap (λ n. input_fields (type_named s n)) c.innermost_name.ensures))

pub returns-in-None : goal.returns-in-None
unfolding input_fields
returns-in-None g c =
    let s = view_schema g.S.ScalarValue.shown c.args.schema.now in
    sym (ap input_fields c.in-None.ensures.shape) ∙ ap (λ n. input_fields (type_named s n)) c.innermost_name.ensures
