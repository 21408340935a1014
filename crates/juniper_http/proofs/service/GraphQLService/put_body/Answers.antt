use Rattle.juniper_http.proofs.service.GraphQLService.put_body.Goals as goal

pub returns-in-Batch-clause-ok : goal.returns-in-Batch-clause-ok
returns-in-Batch-clause-ok g c = rw c.in-Batch.is (c.put_each-reply.result, c.put_each-reply.ensures, c.answer_or_fail.ensures)
