use Rattle.juniper_syntax.specs.Positions.{view_position}
use Rattle.juniper_syntax.specs.DocumentView.{view_document}
use Rattle.juniper_syntax.specs.Scalars.{default_shown}
use Rattle.juniper_bench.proofs.Answering.{lists-document, lists-refusal}
use Rattle.juniper_bench.proofs.answers.validate_answer.Goals as goal

pub returns-in-Ok : goal.returns-in-Ok
returns-in-Ok c = lists-document c.args.text.now c.listed.result (view_document default_shown c.in-Ok.document) c.in-Ok.ensures.0 c.listed.ensures

pub returns-in-Err : goal.returns-in-Err
returns-in-Err c = lists-refusal c.args.text.now c.refused.result _
    (view_position c.in-Err.refusal.span.start) c.in-Err.ensures c.refused.ensures.status c.refused.ensures.line
