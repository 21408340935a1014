use Rattle.std.proofs.Common.{ap, ◌∙◌, ◌++◌, OnOk, subst}
use Rattle.juniper_http.specs.Origins.{origin_fields}
use Rattle.juniper_http.specs.Served.{ServesBehind, closing}
use Rattle.juniper_http.proofs.service.GraphQLServiceService.call.Goals as goal

pub returns-clause-ok : goal.returns-clause-ok
returns-clause-ok g c =
    subst (λ before. OnOk c.serve.result
    (ServesBehind g.E.Endpoint.replies before c.args.self.now c.args.request.now c.serve.new.response c.serve.new.self))
    (c.in_ok-say.ensures.fields ∙ ap (λ before. before ++ origin_fields c.args.self.now.origins c.args.request.now)
    (c.in_ok-say_closing.ensures.fields ∙ ap (λ before. before ++ closing c.args.self.now.closes) c.requires.headers))
    c.serve.ensures.ok
