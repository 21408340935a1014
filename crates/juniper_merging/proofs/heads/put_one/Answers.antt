use Rattle.std.proofs.Common.{◌≤◌, ap, cond, length, nat_eq, subst, ◌++◌, ◌∷◌, [], ◌∙◌}
use Rattle.juniper_merging.specs.Groups.{group_in}
use Rattle.juniper_merging.proofs.Few.{few-left, few-more}
use Rattle.juniper_merging.proofs.Grouping.{put-back, put-same}
use Rattle.juniper_merging.proofs.heads.put_one.Goals as goal

pub returns-then-are_two : goal.returns-then-are_two
returns-then-are_two c before is =
    let x = c.args.number in
    let old = group_in c.args.groups.now in
    few-left before c.args.few.now.items old is x (group_in c.put_group.new.groups)
    (put-same old (group_in c.take_group-group.new.groups) (group_in c.put_group.new.groups) x c.take_group-group.ensures.taken
    (λ k. c.in_ok-put_group.ensures k ∙ ap (λ l. cond (nat_eq x k) l (group_in c.take_group-group.new.groups k)) c.take_group-group.ensures.numbers))
    (subst (λ l. 2 ≤ length l) (c.deref.ensures.value ∙ c.take_group-group.ensures.numbers) (c.are_two.ensures c.if-are_two.true))

pub returns : goal.returns
returns c before is =
    let x = c.args.number in
    let old = group_in c.args.groups.now in
    few-more before c.args.few.now.items old is x c.push-2.new.self.items (group_in c.put_group-2.new.groups) c.in_ok-push-2.ensures.items
    (put-back old (group_in c.take_group-group.new.groups) (group_in c.put_group-2.new.groups) x (old x ++ x ∷ []) c.take_group-group.ensures.taken
    (λ k. c.in_ok-put_group-2.ensures k ∙ ap (λ l. cond (nat_eq x k) l (group_in c.take_group-group.new.groups k))
    (c.in_ok-push.ensures.items ∙ ap (λ l. l ++ x ∷ []) c.take_group-group.ensures.numbers)))
