use Rattle.juniper_sdl.proofs.Faultless.{spelled_is_faultless}
use Rattle.juniper_sdl.proofs.SpelledSchemas.{schema_is_spelled}
use Rattle.juniper_sdl.proofs.laws.faultless_schemas_are_spelled.Goals as goal

pub returns-clause-texts : goal.returns-clause-texts
returns-clause-texts c = schema_is_spelled

pub returns-clause-faults : goal.returns-clause-faults
returns-clause-faults c = spelled_is_faultless
