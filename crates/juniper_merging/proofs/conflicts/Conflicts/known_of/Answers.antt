use Rattle.std.proofs.Common.{sym, ap, ◌∙◌}
use Rattle.juniper_merging.specs.Conflicts.{clash_at}
use Rattle.juniper_merging.proofs.conflicts.Conflicts.known_of.Goals as goal

pub returns-in-Some : goal.returns-in-Some
returns-in-Some c x e = (
  c.in-Some.place,
  c.place_of.ensures c.in-Some.place c.in-Some.is,
  sym (ap (λ l. clash_at l c.args.number c.in-Some.place) c.deref.ensures.value) ∙ (sym c.known_at.ensures ∙ e),
)
