use Rattle.std.proofs.Common.{refl, sym}
use Rattle.juniper_http.proofs.Fields.{on_ok}
use Rattle.juniper_http.proofs.service.GraphQLService.follow.Goals as goal

pub returns-in-Page-clause-ok : goal.returns-in-Page-clause-ok
returns-in-Page-clause-ok g c = on_ok c.show_page.result (λ page. rw c.in-Page.is (refl, page)) c.show_page.ensures

pub returns-in-Methods-clause-ok : goal.returns-in-Methods-clause-ok
returns-in-Methods-clause-ok g c = on_ok c.tell_methods.result (λ told. rw c.in-Methods.is (refl, told)) c.tell_methods.ensures

pub returns-in-Refuse-clause-ok : goal.returns-in-Refuse-clause-ok
returns-in-Refuse-clause-ok g c = on_ok c.refuse.result (λ refused. rw c.in-Refuse.is (refl, refused)) c.refuse.ensures

pub returns-in-Ask-clause-ok : goal.returns-in-Ask-clause-ok
returns-in-Ask-clause-ok g c = rw c.in-Ask.is (rw (sym c.request.ensures) c.put.ensures.said)

pub returns-in-Post-clause-ok : goal.returns-in-Post-clause-ok
returns-in-Post-clause-ok g c = on_ok c.put_body.result (λ put. rw c.in-Post.is put) c.put_body.ensures.ok
