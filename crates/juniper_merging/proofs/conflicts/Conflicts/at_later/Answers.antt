use Rattle.std.proofs.Common.{◌≡◌, Some, arith, false, subst}
use Rattle.std.specs.Prelude.{◌-◌}
use Rattle.std.specs.List.{slice_get}
use Rattle.juniper_merging.specs.Nodes.{SaysBoth}
use Rattle.juniper_merging.proofs.Quiet.{quiet-between}
use Rattle.juniper_merging.proofs.conflicts.Conflicts.at_later.Goals as goal

pub returns-then-not-is_loud_at-2 : goal.returns-then-not-is_loud_at-2
returns-then-not-is_loud_at-2 c vs H known before =
    let loud = c.args.self.now.loud.items in
    quiet-between vs H loud known.quiet c.args.later c.args.earlier
    (subst (λ l. slice_get l c.args.later ≡ Some false) c.deref.ensures.value (c.is_loud_at.ensures c.if-not-is_loud_at.true))
    (subst (λ l. slice_get l c.args.earlier ≡ Some false) c.deref-then-not-is_loud_at.ensures.value
    (c.is_loud_at-then-not-is_loud_at.ensures c.if-not-is_loud_at-2.true))

pub returns-in-Some : goal.returns-in-Some
returns-in-Some c vs H known before =
    let a = c.args.later in
    let far = c.saturating_sub.result in
    let r = c.known_of.ensures c.in-Some.clash c.in-Some.is in
    let same : a - far ≡ c.args.earlier = let d = c.saturating_sub.ensures in omega (arith, d, before) in
    subst (λ n. SaysBoth vs (H a) (H n) c.in-Some.clash) same (known.between a r.0 far c.in-Some.clash r.1 r.2)
