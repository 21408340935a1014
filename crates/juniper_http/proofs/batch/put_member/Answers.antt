use Rattle.juniper_request.specs.Requests.{view_request}
use Rattle.serde_json.specs.View.{view}
use Rattle.juniper_http.specs.Refusals.{refusal_text}
use Rattle.juniper_http.specs.declared.refusal.Refusal.TheVariants.{LongAnswer, NotARequest}
use Rattle.juniper_http.proofs.InTurn.{put_asked, put_none, put_over}
use Rattle.juniper_http.proofs.batch.put_member.Goals as goal

pub returns-in_default : goal.returns-in_default
returns-in_default g c =
    (refusal_text LongAnswer, put_over g.E.Endpoint.replies c.args.left.now (view c.args.member.now) c.args.endpoint.now c.in_default.is, c.refused.ensures)

pub returns-in-Ok : goal.returns-in-Ok
returns-in-Ok g c = (
  c.text-text.result.now,
  put_asked g.E.Endpoint.replies c.args.left.now c.in-Some.bytes (view c.args.member.now) (view_request c.in-Ok.request) c.args.endpoint.now
      c.reply-reply.new.self c.reply-reply.result c.text-text.result.now c.less.result c.in-Some.is c.in-Ok.ensures c.reply-reply.ensures
      c.text-text.ensures c.less.ensures,
  c.joined.ensures,
)

pub returns-in-Err : goal.returns-in-Err
returns-in-Err g c = (
  refusal_text (NotARequest c.in-Err.error),
  put_none g.E.Endpoint.replies c.args.left.now c.in-Some.bytes (view c.args.member.now) c.in-Err.error c.args.endpoint.now c.in-Some.is c.in-Err.ensures,
  c.refused-in-Err.ensures,
)
