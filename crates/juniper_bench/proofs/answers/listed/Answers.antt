use Rattle.std.proofs.Common.{map}
use Rattle.juniper_syntax.specs.RuleView.{view_rule_error}
use Rattle.juniper_schema.specs.SchemaView.{view_schema}
use Rattle.juniper_syntax.specs.DocumentView.{view_document}
use Rattle.juniper_syntax.specs.Scalars.{default_shown}
use Rattle.juniper_bench.proofs.Answering.{answers-list}
use Rattle.juniper_bench.proofs.answers.listed.Goals as goal

pub returns : goal.returns
returns c = answers-list (view_schema default_shown c.in_ok-schema.schema) (view_document default_shown c.args.document.now) c.list_answer.result
    (map view_rule_error c.in_ok-errors.errors.items) c.in_ok-errors.ensures c.list_answer.ensures.status c.list_answer.ensures.line
