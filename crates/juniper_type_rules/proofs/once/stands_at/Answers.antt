use Rattle.std.proofs.Common.{refl, subst}
use Rattle.graphql_spec.specs.Laws.{In}
use Rattle.juniper_type_rules.specs.UsesView.{view_use, view_uses}
use Rattle.juniper_type_rules.proofs.LeavingOut.{in-seen}
use Rattle.juniper_type_rules.proofs.once.stands_at.Goals as goal

pub returns-then-is_same : goal.returns-then-is_same
returns-then-is_same c = λ _.
    let found = c.in-Some.ensures.lookup in
    subst (λ u. In u (view_uses c.args.uses.now)) (c.if-is_same.ensures refl) (in-seen view_use c.args.uses.now _ c.in-Some.other.now found.3.0 found.1)
