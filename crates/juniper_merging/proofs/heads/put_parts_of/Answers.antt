use Rattle.std.proofs.Common.{◌++◌, ap, subst, sym, ◌∙◌}
use Rattle.std.proofs.lemmas.List.{append-nil}
use Rattle.juniper_merging.specs.Groups.{group_in}
use Rattle.juniper_merging.specs.Uniting.{AreFew, parts_or_none}
use Rattle.juniper_merging.proofs.Vertices.{found-at, missing-at}
use Rattle.juniper_merging.proofs.heads.put_parts_of.Goals as goal

pub returns-in_ok-put_few-in-Some : goal.returns-in_ok-put_few-in-Some
unfolding parts_or_none
returns-in_ok-put_few-in-Some c before are =
    let there = found-at c.args.sets.now c.args.member c.get.result c.in-Some.held c.get.ensures.lookup.3 c.in-Some.is in
    subst (λ l. AreFew (before ++ l) c.put_few.new.few.items (group_in c.put_few.new.groups))
    (c.deref.ensures.value ∙ sym (ap parts_or_none there)) (c.in_ok-put_few-in-Some.ensures before are)

pub returns-in-None : goal.returns-in-None
unfolding parts_or_none
returns-in-None c before are =
    let none = missing-at c.args.sets.now c.args.member c.get.result c.get.ensures.lookup.3 c.in-None.is in
    subst (λ l. AreFew l c.args.parts.now.items (group_in c.args.groups.now)) (sym (ap (λ o. before ++ parts_or_none o) none ∙ append-nil before)) are
