use Rattle.std.proofs.Common.{◌≡◌, Some, ap, subst, true, false, not}
use Rattle.std.specs.List.{slice_get}
use Rattle.juniper_merging.specs.Nodes.{Bad}
use Rattle.juniper_merging.specs.Questions.{passes}
use Rattle.juniper_merging.proofs.Looked.{not-turned}
use Rattle.juniper_merging.proofs.known.own_differs.Goals as goal

pub returns-in_ok-clash-in-Some : goal.returns-in_ok-clash-in-Some
returns-in_ok-clash-in-Some c vs t H is told differs =
    let node = c.in-Some.node in
    let clash = c.in_ok-clash-in-Some.clash in
    let at = subst (λ l. slice_get l c.args.set ≡ Some (Some node)) c.deref.ensures.value (c.number_at.ensures node c.in-Some.is) in
    subst (Bad vs true) (is.alone c.args.set node at).1 ((c.in_ok-clash-in-Some.ensures vs H told).bad true
    (not-turned (passes true clash) c.is_clash.result false c.is_clash.ensures (ap not differs)))
