use Rattle.std.proofs.Common.{◌≡◌, subst, arith, Some}
use Rattle.std.specs.List.{slice_get}
use Rattle.juniper_merging.specs.United.{count_of}
use Rattle.juniper_merging.proofs.Making.{agrees-itself}
use Rattle.juniper_merging.proofs.uniting.Uniting.single_node.Goals as goal

pub returns-in-Some : goal.returns-in-Some
returns-in-Some c vs t H is =
    let u = c.args.self.now in
    let at = subst (λ l. slice_get l c.args.set ≡ Some (Some c.in-Some.node)) c.deref.ensures.value (c.number_at.ensures c.in-Some.node c.in-Some.is) in
    (H, agrees-itself H (count_of u), omega (arith), is, is.alone c.args.set c.in-Some.node at)
