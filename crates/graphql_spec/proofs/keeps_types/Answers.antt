use Rattle.graphql_spec.proofs.keeps_types.Goals as goal
use Rattle.graphql_spec.proofs.KeptTypes.{objects_stand_alone, fields_are_kept, objects_are_kept, schemas_keep_types, schemas_merge}

pub returns-clause-objects : goal.returns-clause-objects
returns-clause-objects g c = objects_stand_alone

pub returns-clause-fields : goal.returns-clause-fields
returns-clause-fields g c = fields_are_kept

pub returns-clause-subtypes : goal.returns-clause-subtypes
returns-clause-subtypes g c = objects_are_kept

pub returns-clause-types : goal.returns-clause-types
returns-clause-types g c = schemas_keep_types

pub returns-clause-merging : goal.returns-clause-merging
returns-clause-merging g c = schemas_merge
