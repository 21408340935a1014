use Rattle.std.proofs.Common.{rules}
use Rattle.graphql_spec.specs.Executable.{is_executable}
use Rattle.juniper_schema.proofs.executable.schema_is_executable.Goals as goal

pub returns-then-defaults_fit : goal.returns-then-defaults_fit
unfolding is_executable
returns-then-defaults_fit g c = search rules

pub returns-else-defaults_fit : goal.returns-else-defaults_fit
unfolding is_executable
returns-else-defaults_fit g c = search rules
