use Rattle.std.proofs.Common.{◌≡◌, Some, subst, ◌∙◌}
use Rattle.std.specs.List.{slice_get}
use Rattle.juniper_merging.proofs.Distances.{dense-at, listed-at}
use Rattle.juniper_merging.proofs.Vertices.{found-at}
use Rattle.juniper_merging.proofs.asks.Asks.distance_at.Goals as goal

pub returns-then-is_marked : goal.returns-then-is_marked
returns-then-is_marked c far e = dense-at c.args.self.now c.args.place c.if-self.true ∙ e

pub returns-in-Some : goal.returns-in-Some
returns-in-Some c far e =
    let a = c.args.self.now in
    let p = c.args.place in
    listed-at a p c.in-Some.far.now c.if-self.false (subst (λ l. slice_get l p ≡ Some c.in-Some.far.now) c.deref-2.ensures.value
    (found-at c.deref-2.result.now p c.get.result c.in-Some.far c.get.ensures.lookup.3 c.in-Some.is)) ∙ e
