use Rattle.http_server.specs.Response.{fields_of}
use Rattle.juniper_http.proofs.Fields.{on_ok, two_added}
use Rattle.juniper_http.proofs.respond.label_refusal.Goals as goal

pub returns-in-Method-clause-fields : goal.returns-in-Method-clause-fields
returns-in-Method-clause-fields c =
    on_ok c.add_header-in-Method.result
    (λ e. rw e (rw c.in_ok-add_header.ensures.headers (rw c.from_static.ensures (rw c.content_type.ensures (rw c.in-Method.is
    (two_added (fields_of c.args.response.now) _ _))))))
    c.add_header-in-Method.ensures.headers

pub returns-in-Coding-clause-fields : goal.returns-in-Coding-clause-fields
returns-in-Coding-clause-fields c =
    on_ok c.add_header-in-Coding.result
    (λ e. rw e (rw c.in_ok-add_header.ensures.headers (rw c.from_static-in-Coding.ensures (rw c.content_type.ensures (rw c.in-Coding.is
    (two_added (fields_of c.args.response.now) _ _))))))
    c.add_header-in-Coding.ensures.headers
