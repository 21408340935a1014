use Rattle.juniper_syntax.specs.Positions.{view_position}
use Rattle.juniper_bench.proofs.Answering.{answers-refusal}
use Rattle.juniper_bench.proofs.answers.parse_answer.Goals as goal

pub returns-in-Err : goal.returns-in-Err
returns-in-Err c = answers-refusal c.args.text.now c.refused.result _
    (view_position c.in-Err.refusal.span.start) c.in-Err.ensures c.refused.ensures.status c.refused.ensures.line
