use Rattle.std.proofs.Common.{ap, sym, ◌∙◌}
use Rattle.juniper_merging.specs.Conflicts.{found_in}
use Rattle.juniper_merging.proofs.Distances.{clash-there, no-clash-there}
use Rattle.juniper_merging.proofs.Vertices.{found-at, missing-at}
use Rattle.juniper_merging.proofs.conflicts.known_at.Goals as goal

pub returns-in-Some : goal.returns-in-Some
returns-in-Some c =
    c.clash_in.ensures ∙ (ap (λ l. found_in l c.args.place) c.deref.ensures.value ∙ sym (clash-there c.args.number c.args.place c.args.known.now
    c.in-Some.row.now
    (found-at c.args.known.now c.args.number c.get.result c.in-Some.row c.get.ensures.lookup.3 c.in-Some.is)))

pub returns-in-None : goal.returns-in-None
returns-in-None c = sym (no-clash-there c.args.number c.args.place c.args.known.now
    (missing-at c.args.known.now c.args.number c.get.result c.get.ensures.lookup.3 c.in-None.is))
