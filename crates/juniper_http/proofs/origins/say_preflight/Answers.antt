use Rattle.http_server.specs.Response.{fields_of}
use Rattle.juniper_http.proofs.Fields.{on_ok, three_added}
use Rattle.juniper_http.proofs.origins.say_preflight.Goals as goal

pub returns-in_ok-add_header-2-clause-fields : goal.returns-in_ok-add_header-2-clause-fields
returns-in_ok-add_header-2-clause-fields c =
    on_ok c.add_header-then-is_preflight-2.result
    (λ e. rw e (rw c.in_ok-add_header-2.ensures.headers (rw c.in_ok-add_header.ensures.headers
    (rw c.from_static-then-is_preflight-2.ensures (rw c.from_static-then-is_preflight.ensures (rw c.from_static.ensures
    (rw c.if-is_preflight.true (three_added (fields_of c.args.response.now) _ _ _))))))))
    c.add_header-then-is_preflight-2.ensures.headers
