use Rattle.juniper_schema.specs.SchemaView.{view_schema}
use Rattle.juniper_syntax.specs.Scalars.{default_shown}
use Rattle.juniper_bench.proofs.Answering.{answers-test}
use Rattle.juniper_bench.proofs.answers.schema_answer.Goals as goal

pub returns : goal.returns
returns c = answers-test c.args.types (view_schema default_shown c.in_ok-schema.schema) c.tested.result c.tested.ensures.status c.tested.ensures.line
