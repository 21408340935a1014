use Rattle.std.proofs.Common.{◌≡◌, OnErr, string_bytes}
use Rattle.juniper.specs.RootView.{service_of}
use Rattle.juniper_syntax.specs.Scalars.{default_shown}
use Rattle.juniper_endpoint.specs.Replied.{Replies}
use Rattle.juniper_endpoint.proofs.Denying.{service-leaves}
use Rattle.juniper_endpoint.proofs.guard_laws.denied_requests_leave.Goals as goal

pub returns : goal.returns
returns g c = λ request r denied served.
    let q = g.Q.GraphQLValue in
    let m = g.M.GraphQLMutationValue in
    service-leaves c.args.old.now c.args.new.now
    (λ old asked verdict new. (new ≡ record old { endpoint = record old.endpoint { context = new.endpoint.context }; guard = new.guard })
    × g.G.Guard.admits old.guard old.endpoint.context asked verdict new.guard new.endpoint.context
    × OnErr verdict (new.endpoint.context ≡ old.endpoint.context))
    (λ old asked may_write reply new. (new ≡ record old { endpoint = new.endpoint })
    × ((new.endpoint ≡ record old.endpoint { context = new.endpoint.context })
    × Replies (service_of q.concrete q.answer q.root m.step m.torn default_shown old.endpoint.root.now) old.endpoint.bounds asked old.endpoint.explained_bytes
    may_write old.endpoint.context old.endpoint.entered_fields reply.outcome (string_bytes reply.line) new.endpoint.context))
    (λ endpoint. endpoint.endpoint.context) request r served
    (λ verdict next admitted. denied verdict next.guard next.endpoint.context admitted.1) (λ verdict next admitted. admitted.2)
