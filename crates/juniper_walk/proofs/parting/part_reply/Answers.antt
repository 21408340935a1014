use Rattle.std.proofs.Common.{◌≡◌, [], ◌∷◌, ◌++◌, ap, ◌∙◌, rules}
use Rattle.juniper_assemble.proofs.Views.{skeleton-Absent, spots-push}
use Rattle.juniper_assemble.specs.SpotView.{view_faults, view_nodes}
use Rattle.juniper_conversions.specs.ErrorView.{view_error}
use Rattle.juniper_conversions.specs.PathView.{path_place}
use Rattle.juniper_walk.specs.Completing.{view_errors}
use Rattle.juniper_walk.proofs.Replies.{parted-answer, parted-failure, reply-answers, reply-fails}
use Rattle.juniper_walk.proofs.parting.part_reply.Goals as goal

pub returns-in-Ok-clause-parted : goal.returns-in-Ok-clause-parted
returns-in-Ok-clause-parted g c = λ reply given.
    let answer = reply-answers g.S.ScalarValue.shown c.args.answer reply c.in-Ok.resolved c.in-Ok.is given in
    parted-answer _ _ _ reply _ _ _ _ _ _ answer (ap view_nodes c.new-nodes.ensures.items) (ap view_faults c.new-faults.ensures.items)
    c.in_ok-skeleton-in-Ok.ensures _ (c.in_ok-errors-in-Ok.ensures ∙ ap view_faults c.deref.ensures.value)

pub returns-in-Err-Field-clause-parted : goal.returns-in-Err-Field-clause-parted
returns-in-Err-Field-clause-parted g c = λ reply given.
    let shown = g.S.ScalarValue.shown in
    let e = c.in-Err-Field.error in
    let failure = reply-fails shown c.args.answer reply c.in-Err-Field.field-0 e c.in-Err-Field.is c.in-Err-Field.field-0-is given in
    let place : path_place c.in_ok-here-in-Err-Field.here.value ≡ path_place c.args.path.now.value = search rules in
    let one = spots-push (view_error shown) c.new-errors.result.items c.push.new.self.items _ (path_place c.args.path.now.value)
    c.in_ok-push-in-Err-Field.ensures.items place
    ∙ ap (λ es. view_errors shown es ++ record { place = path_place c.args.path.now.value; what = view_error shown e } ∷ []) c.new-errors.ensures.items in
    parted-failure _ _ _ reply _ _ _ (view_error shown e) failure (skeleton-Absent shown) (ap view_nodes c.new-nodes.ensures.items) one
