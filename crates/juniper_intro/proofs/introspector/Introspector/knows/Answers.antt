use Rattle.std.proofs.Common.{◌∙◌}
use Rattle.graphql_spec.specs.Introspected.{declaration_of}
use Rattle.juniper_meta.specs.MetaView.{view_meta}
use Rattle.juniper_schema.specs.SchemaView.{view_schema}
use Rattle.juniper_intro.specs.Introspectors.{schema_of}
use Rattle.juniper_intro.proofs.Looked.{known-looked}
use Rattle.juniper_intro.proofs.introspector.Introspector.knows.Goals as goal

pub returns : goal.returns
unfolding declaration_of
returns g c =
    let shown = g.S.ScalarValue.shown in
    c.is_some.ensures ∙ known-looked (λ m. view_meta shown m.now) c.concrete_type_by_name.result
    (declaration_of (view_schema shown (schema_of c.args.self.now)) c.args.name.now) c.concrete_type_by_name.ensures.meta
