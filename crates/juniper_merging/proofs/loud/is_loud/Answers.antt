use Rattle.std.proofs.Common.{◌≡◌, Some, false, ◌∙◌, sym}
use Rattle.std.specs.List.{slice_get}
use Rattle.std.proofs.Common.{subst}
use Rattle.juniper_merging.proofs.Told.{some-same}
use Rattle.juniper_merging.proofs.Looked.{none-some}
use Rattle.juniper_merging.proofs.loud.is_loud.Goals as goal

pub returns-in-Some : goal.returns-in-Some
returns-in-Some c e v there = (
  c.is_unlike.ensures c.if-is_unlike.false v there,
  λ d f. subst (λ n. slice_get c.args.loud.now n ≡ Some false) (some-same (sym c.in-Some.is ∙ f)) (c.is_loud_at.ensures e),
)

pub returns-in-None : goal.returns-in-None
returns-in-None c e v there = (c.is_unlike.ensures c.if-is_unlike.false v there, λ d f. none-some (sym c.in-None.is ∙ f))
