use Rattle.std.proofs.Common.{ap, sym, subst, ◌∙◌, option_map, true, ◌≡◌}
use Rattle.graphql_spec.specs.Fields.{declared_type, field_of}
use Rattle.graphql_spec.specs.Merging.{types_agree}
use Rattle.graphql_spec.proofs.Lists.{same_true}
use Rattle.juniper_meta.specs.MetaView.{view_field}
use Rattle.juniper_schema.specs.SchemaView.{view_schema}
use Rattle.juniper_field_graph.proofs.Alike.{types-same}
use Rattle.juniper_field_graph.proofs.PlainFields.{agree-on}
use Rattle.juniper_field_graph.proofs.plain_keys.has_types_that_agree.Goals as goal

pub returns-then-eq : goal.returns-then-eq
returns-then-eq g c = λ is. let s = view_schema g.S.ScalarValue.shown c.args.schema.now in
    subst (λ q. types_agree s (declared_type (field_of s c.args.first.now c.args.name.now)) (declared_type (field_of s q c.args.name.now)) ≡ true)
    (same_true c.args.first.now c.args.second.now (sym c.if-eq.ensures)) (types-same s (declared_type (field_of s c.args.first.now c.args.name.now)))

pub returns-in-Some-field_of : goal.returns-in-Some-field_of
returns-in-Some-field_of g c = λ is.
    let view = view_field g.S.ScalarValue.shown in
    let s = view_schema g.S.ScalarValue.shown c.args.schema.now in
    agree-on s (field_of s c.args.first.now c.args.name.now) (field_of s c.args.second.now c.args.name.now) (view c.in-Some.field.now)
    (view c.in-Some-field_of.other.now) c.types_agree.result
    (sym c.field_of.ensures ∙ ap (option_map (λ f. view f.now)) c.in-Some.is)
    (sym c.field_of-in-Some.ensures ∙ ap (option_map (λ f. view f.now)) c.in-Some-field_of.is) c.types_agree.ensures is
