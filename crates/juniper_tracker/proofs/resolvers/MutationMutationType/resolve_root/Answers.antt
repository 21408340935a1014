use Rattle.std.proofs.Common.{◌≡◌, rules}
use Rattle.juniper.specs.Server.{view_arguments}
use Rattle.juniper_tracker.specs.Replies.{step}
use Rattle.juniper_tracker.proofs.Torn.{left_alone}
use Rattle.juniper_tracker.proofs.resolvers.MutationMutationType.resolve_root.Goals as goal

pub returns-in_default-clause-context : goal.returns-in_default-clause-context
returns-in_default-clause-context g c =
    let t = c.args.tracker.now in
    let same : (step t c.args.field_name.now (view_arguments g.S.ScalarValue.shown c.args.arguments.now)).0 ≡ t
    = search (rules, c.in_default.not-createIssue, c.in_default.not-setState) in
    left_alone t _ c.unanswered.result same
