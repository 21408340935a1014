use Rattle.std.proofs.Common.{◌≡◌, Some, subst}
use Rattle.std.specs.List.{slice_get}
use Rattle.juniper_merging.proofs.Distances.{asked-there}
use Rattle.juniper_merging.proofs.Vertices.{found-at}
use Rattle.juniper_merging.proofs.conflicts.Conflicts.distance_at.Goals as goal

pub returns-in-Some : goal.returns-in-Some
returns-in-Some c far e =
    let a = c.in-Some.asks.now in
    asked-there c.args.number c.args.place c.args.self.now.asks.items a far (subst (λ l. slice_get l c.args.number ≡ Some a) c.deref.ensures.value
    (found-at c.deref.result.now c.args.number c.get.result c.in-Some.asks c.get.ensures.lookup.3 c.in-Some.is)) (c.distance_at.ensures far e)
