use Rattle.http_server.specs.Response.{fields_of}
use Rattle.juniper_http.proofs.Fields.{on_ok, three_added}
use Rattle.juniper_http.proofs.respond.label_page.Goals as goal

pub returns-clause-fields : goal.returns-clause-fields
returns-clause-fields c =
    on_ok c.add_header-3.result
    (λ e. rw e (rw c.in_ok-add_header-2.ensures.headers (rw c.in_ok-add_header.ensures.headers
    (rw c.from_static-3.ensures (rw c.from_static-2.ensures (rw c.from_static.ensures (three_added (fields_of c.args.response.now) _ _ _)))))))
    c.add_header-3.ensures.headers
