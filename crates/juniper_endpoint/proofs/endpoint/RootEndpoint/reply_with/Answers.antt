use Rattle.juniper.specs.RootView.{service_of}
use Rattle.juniper_request.specs.Requests.{view_request}
use Rattle.juniper_syntax.specs.Scalars.{default_shown}
use Rattle.juniper_endpoint.proofs.Telling.{objection-told}
use Rattle.juniper_endpoint.proofs.endpoint.RootEndpoint.reply_with.Goals as goal

pub returns-in-Err-clause-said : goal.returns-in-Err-clause-said
returns-in-Err-clause-said g c =
    let q = g.Q.GraphQLValue in
    let m = g.M.GraphQLMutationValue in
    let self = c.args.self.now in
    let S = service_of q.concrete q.answer q.root m.step m.torn default_shown self.root.now in
    objection-told S self.bounds (view_request c.args.request.now) self.explained_bytes c.args.may_write self.context self.entered_fields
    c.in-Err.objection c.in-Err.ensures c.objection_reply.result c.objection_reply.ensures
