use Rattle.std.proofs.Common.{◌≡◌, Some, subst, sym, ◌∙◌}
use Rattle.std.specs.List.{slice_get}
use Rattle.juniper_merging.specs.Conflicts.{distance_at}
use Rattle.juniper_merging.proofs.Distances.{dense-at, listed-at, searched-at}
use Rattle.juniper_merging.proofs.Told.{some-same}
use Rattle.juniper_merging.proofs.asks.Asks.place_of.Goals as goal

pub returns-in-Ok : goal.returns-in-Ok
returns-in-Ok c place e =
    let a = c.args.self.now in
    subst (λ p. distance_at a p ≡ Some c.args.far) (some-same e)
    (listed-at a c.in-Ok.place c.args.far c.if-self.false (subst (λ l. slice_get l c.in-Ok.place ≡ Some c.args.far) c.deref.ensures.value
    (searched-at c.deref.result.now c.args.far c.in-Ok.place c.in-Ok.ensures.bound c.in-Ok.ensures.ok)))

pub returns-then-self : goal.returns-then-self
returns-then-self c place e = dense-at c.args.self.now place c.if-self.true ∙ sym e
