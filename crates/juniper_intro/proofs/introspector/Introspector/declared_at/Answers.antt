use Rattle.graphql_spec.specs.Fields.{shape_of}
use Rattle.std.proofs.Common.{ap, ◌∙◌}
use Rattle.graphql_spec.specs.Introspected.{declaration_of}
use Rattle.juniper_meta.specs.MetaView.{view_meta}
use Rattle.juniper_schema.specs.SchemaView.{view_schema}
use Rattle.juniper_intro.specs.Handles.{shape_at}
use Rattle.juniper_intro.specs.Introspectors.{schema_of}
use Rattle.juniper_intro.proofs.Looked.{shape-looked}
use Rattle.juniper_intro.proofs.introspector.Introspector.declared_at.Goals as goal

pub returns : goal.returns
unfolding shape_at declaration_of
returns g c =
    let shown = g.S.ScalarValue.shown in
    let s = view_schema shown (schema_of c.args.self.now) in
    shape-looked (λ m. view_meta shown m.now) c.concrete_type_by_name.result (declaration_of s c.name.result.now) c.concrete_type_by_name.ensures.meta
    ∙ ap (λ n. shape_of (declaration_of s n)) c.name.ensures
