use Rattle.std.proofs.Common.{option_map, sym, ap, ◌∙◌}
use Rattle.juniper_registry.specs.RegistryView.{view_registry}
use Rattle.juniper_schema.specs.SchemaView.{view_schema}
use Rattle.juniper_intro.proofs.RootSchemas.{never-executable}
use Rattle.juniper_intro.proofs.schema.executable_schema.Goals as goal

pub returns-else-schema_is_executable : goal.returns-else-schema_is_executable
returns-else-schema_is_executable g c s is =
    let shown = g.S.ScalarValue.shown in
    never-executable (view_registry shown c.args.registry) _ _ (view_schema shown c.in-Ok.schema) s _ _ c.in-Ok.ensures
    (ap (option_map (λ n. n.now)) c.in-Some.is) (ap (option_map (λ n. n.now)) c.in-Some-mutation_name.is) is
    (sym c.schema_is_executable.ensures ∙ c.if-schema_is_executable.false)
