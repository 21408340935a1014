use Rattle.std.proofs.Common.{get_or, subst, sym}
use Rattle.std.specs.Prelude.{take}
use Rattle.std.proofs.lemmas.Grind.{get_or_default_zero}
use Rattle.std.proofs.lemmas.List.{take_all}
use Rattle.juniper_merging.specs.Groups.{group_in}
use Rattle.juniper_merging.specs.Uniting.{AreFew, own_parts}
use Rattle.juniper_merging.proofs.Few.{few-none}
use Rattle.juniper_merging.proofs.Grouping.{empty-groups}
use Rattle.juniper_merging.proofs.Held.{own-parts-at}
use Rattle.juniper_merging.proofs.heads.parts_of.Goals as goal

pub loop-member-init : goal.loop-member-init
unfolding own_parts
loop-member-init c = few-none c.new-parts.result.items (group_in c.new-groups.result) c.new-parts.ensures.items
    (empty-groups c.new-groups.result c.new-groups.ensures.empty)

pub loop-member-preserved : goal.loop-member-preserved
loop-member-preserved c =
    let sets = c.args.sets.now in
    let ms = c.args.members.now in
    let i = c.loop-member.member-index in
    let m = get_or ms i 0 in
    subst (λ l. AreFew l c.put_parts_of.new.parts.items (group_in c.put_parts_of.new.groups))
    (sym (own-parts-at sets ms i m c.loop-member-test.true (sym (get_or_default_zero ms i m c.loop-member-test.true))))
    (c.in_ok-put_parts_of.ensures (own_parts sets (take i ms)) c.loop-member.invariant)

pub returns : goal.returns
returns c = (subst (λ l. AreFew (own_parts c.args.sets.now l) c.loop-member.parts.items (group_in c.loop-member.groups))
    (take_all c.loop-member.member-index c.args.members.now c.loop-member-test.false) c.loop-member.invariant).alike
