use Rattle.std.proofs.Common.{ap, ◌∙◌}
use Rattle.juniper_endpoint.proofs.Leaving.{reads-leave}
use Rattle.juniper_endpoint.proofs.laws.reading_leaves_the_endpoint.Goals as goal

pub returns : goal.returns
returns g c = λ a reply replied.
    replied.0 ∙ ap (λ x. record c.args.old.now { context = x })
    (reads-leave _ c.args.old.now.bounds a c.args.old.now.explained_bytes c.args.old.now.context c.args.old.now.entered_fields
    reply.outcome _ c.args.new.now.context replied.1)
