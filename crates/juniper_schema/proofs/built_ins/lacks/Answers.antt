use Rattle.std.proofs.Common.{◌≡◌, Option, Some, None, true, option_map, refl}
use Rattle.graphql_spec.specs.Schema.{Entry}
use Rattle.juniper_meta.specs.MetaView.{Meta}
use Rattle.juniper_schema.specs.SchemaView.{lacks, meta_of}
use Rattle.juniper_schema.proofs.built_ins.lacks.Goals as goal

nothing_there : (r : Option Meta) (o : Option Entry) → r ≡ option_map meta_of o → r ≡ None → true ≡ lacks o
nothing_there r None e n = refl
nothing_there r (Some x) e n = cc

pub returns-in-None : goal.returns-in-None
returns-in-None g c = nothing_there None _ c.in-None.ensures.meta refl
