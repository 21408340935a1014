use Rattle.juniper_registry.specs.Entries.{type_entries}
use Rattle.juniper_intro.proofs.AllowedSchemas.{allowed}
use Rattle.juniper_intro.proofs.laws.registries_have_schemas.Goals as goal

pub returns : goal.returns
returns g c = allowed (type_entries g.S.ScalarValue.shown c.args.registry.now.types) c.args.query.now c.args.mutation.now
