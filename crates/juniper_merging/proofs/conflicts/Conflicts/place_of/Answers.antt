use Rattle.std.proofs.Common.{◌≡◌, Some, subst}
use Rattle.std.specs.List.{slice_get}
use Rattle.juniper_merging.proofs.Distances.{asked-there}
use Rattle.juniper_merging.proofs.Vertices.{found-at}
use Rattle.juniper_merging.proofs.conflicts.Conflicts.place_of.Goals as goal

pub returns-in-Some : goal.returns-in-Some
returns-in-Some c p e =
    let a = c.in-Some.asks.now in
    asked-there c.args.number p c.args.self.now.asks.items a c.args.far (subst (λ l. slice_get l c.args.number ≡ Some a) c.deref.ensures.value
    (found-at c.deref.result.now c.args.number c.get.result c.in-Some.asks c.get.ensures.lookup.3 c.in-Some.is)) (c.place_of.ensures p e)
