use Rattle.std.proofs.Common.{◌++◌, ap, subst, sym, ◌∙◌}
use Rattle.std.proofs.lemmas.List.{append-nil}
use Rattle.juniper_merging.specs.Groups.{group_in}
use Rattle.juniper_merging.specs.Questions.{seen}
use Rattle.juniper_merging.specs.Uniting.{AreHeads, fields_or_none}
use Rattle.juniper_merging.proofs.Vertices.{found-at, missing-at}
use Rattle.juniper_merging.proofs.heads.put_fields_of.Goals as goal

pub returns-in_ok-put_fields-in-Some : goal.returns-in_ok-put_fields-in-Some
unfolding fields_or_none
returns-in_ok-put_fields-in-Some c t before are =
    let there = found-at c.args.sets.now c.args.member c.get.result c.in-Some.held c.get.ensures.lookup.3 c.in-Some.is in
    subst (λ l. AreHeads (seen t c.args.vertices.now) t (before ++ l) c.put_fields.new.heads.items (group_in c.put_fields.new.groups))
    (c.deref.ensures.value ∙ sym (ap fields_or_none there)) (c.in_ok-put_fields-in-Some.ensures t before are)

pub returns-in-None : goal.returns-in-None
unfolding fields_or_none
returns-in-None c t before are =
    let none = missing-at c.args.sets.now c.args.member c.get.result c.get.ensures.lookup.3 c.in-None.is in
    subst (λ l. AreHeads (seen t c.args.vertices.now) t l c.args.heads.now.items (group_in c.args.groups.now))
    (sym (ap (λ o. before ++ fields_or_none o) none ∙ append-nil before)) are
