use Rattle.std.proofs.Common.{get_or, subst, sym}
use Rattle.std.specs.Prelude.{take}
use Rattle.std.proofs.lemmas.Grind.{get_or_default_zero}
use Rattle.std.proofs.lemmas.List.{take_all}
use Rattle.juniper_merging.specs.Groups.{group_in}
use Rattle.juniper_merging.specs.Questions.{seen}
use Rattle.juniper_merging.specs.Uniting.{AreHeads, own_fields}
use Rattle.juniper_merging.proofs.Held.{own-fields-at}
use Rattle.juniper_merging.proofs.OfHeads.{heads-none}
use Rattle.juniper_merging.proofs.heads.heads_of.Goals as goal

pub loop-member-init : goal.loop-member-init
unfolding own_fields
loop-member-init c t = heads-none (seen t c.args.vertices.now) t c.new-heads.result.items (group_in c.new-groups.result) c.new-heads.ensures.items

pub loop-member-preserved : goal.loop-member-preserved
loop-member-preserved c t =
    let sets = c.args.sets.now in
    let ms = c.args.members.now in
    let i = c.loop-member.member-index in
    let m = get_or ms i 0 in
    subst (λ l. AreHeads (seen t c.args.vertices.now) t l c.put_fields_of.new.heads.items (group_in c.put_fields_of.new.groups))
    (sym (own-fields-at sets ms i m c.loop-member-test.true (sym (get_or_default_zero ms i m c.loop-member-test.true))))
    (c.in_ok-put_fields_of.ensures t (own_fields sets (take i ms)) (c.loop-member.invariant t))

pub returns : goal.returns
returns c t = (
  group_in c.loop-member.groups,
  subst
      (λ l. AreHeads (seen t c.args.vertices.now) t (own_fields c.args.sets.now l) c.loop-member.heads.items (group_in c.loop-member.groups))
      (take_all c.loop-member.member-index c.args.members.now c.loop-member-test.false) (c.loop-member.invariant t),
)
