use Rattle.juniper_twin.proofs.Occurrences.{all-at, each-reached}
use Rattle.juniper_walk.proofs.Replies.{some-reply}
use Rattle.juniper_twin.proofs.completing.complete_value.Goals as goal

pub complete_all-requires-clause-reached : goal.complete_all-requires-clause-reached
complete_all-requires-clause-reached g c =
    let some = some-reply g.S.ScalarValue.shown c.args.asked.answer in
    λ o i. each-reached (g.R.Completer.world c.args.walk.now.collector.possible) _ _ some.0 _ _ _
    (c.in_ok-parted.ensures.parted some.0 some.1) _ c.requires.merge o i

pub returns-clause-completed : goal.returns-clause-completed
returns-clause-completed g c = λ reply given.
    all-at (g.R.Completer.world c.args.walk.now.collector.possible) _ _ _ _ _ _ c.in_ok-walked.ensures _ _ reply
    (c.in_ok-parted.ensures.parted reply given) c.requires.merge
