use Rattle.std.proofs.Common.{◌≡◌, string_bytes, subst, IfOk}
use Rattle.juniper_http.specs.Batches.{PutsAsked}
use Rattle.juniper_http.specs.Outcomes.{reply_text}
use Rattle.juniper_request.specs.Requests.{request_in, view_request}
use Rattle.serde_json.specs.View.{view}
use Rattle.juniper_endpoint.proofs.Saying.{puts, said}
use Rattle.juniper_endpoint.proofs.request_lines.response_to_json.Goals as goal

pub returns-in-Ok : goal.returns-in-Ok
returns-in-Ok g c =
    let replies = g.E.Endpoint.replies in
    let d = request_in (view c.args.json.now) in
    let reply = c.reply-reply.result in
    said (PutsAsked replies d) c.args.endpoint.now c.reply-reply.new.self c.from_str.result (reply_text reply.outcome (string_bytes reply.line))
    (puts replies d (view_request c.in-Ok.request) c.args.endpoint.now c.reply-reply.new.self reply c.in-Ok.ensures c.reply-reply.ensures)
    (subst (λ text. IfOk c.from_str.result (λ made. string_bytes made ≡ text)) c.text-in-Ok.ensures c.from_str.ensures.ok)
