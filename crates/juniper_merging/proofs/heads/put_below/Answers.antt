use Rattle.std.proofs.Common.{ap, sym, ◌∙◌, ◌++◌}
use Rattle.std.proofs.lemmas.List.{append-nil}
use Rattle.juniper_merging.specs.Uniting.{list_or_none}
use Rattle.juniper_merging.proofs.heads.put_below.Goals as goal

pub returns-in_ok-push-in-Some : goal.returns-in_ok-push-in-Some
unfolding list_or_none
returns-in_ok-push-in-Some c = c.in_ok-push-in-Some.ensures.items ∙ sym (ap (λ o. c.args.below.now.items ++ list_or_none o) c.in-Some.is)

pub returns-in-None : goal.returns-in-None
unfolding list_or_none
returns-in-None c = sym (ap (λ o. c.args.below.now.items ++ list_or_none o) c.in-None.is ∙ append-nil c.args.below.now.items)
