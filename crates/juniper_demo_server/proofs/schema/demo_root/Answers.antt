use Rattle.juniper_intro.specs.RootView.{schema_of}
use Rattle.juniper_schema.specs.SchemaView.{view_schema}
use Rattle.juniper_syntax.specs.Scalars.{default_shown}
use Rattle.juniper_demo_server.proofs.ServedDemo.{served_is_demo, unserved_for_memory}
use Rattle.juniper_demo_server.proofs.schema.demo_root.Goals as goal

pub returns-clause-schema : goal.returns-clause-schema
returns-clause-schema c = served_is_demo (λ r. view_schema default_shown (schema_of r)) _ c.demo_types.ensures _ c.served.ensures.schema

pub returns-clause-refused : goal.returns-clause-refused
returns-clause-refused c = unserved_for_memory (λ r. view_schema default_shown (schema_of r)) _ c.demo_types.ensures _ c.served.ensures.schema
