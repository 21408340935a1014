use Rattle.std.proofs.Common.{◌++◌, ◌∷◌, [], ap, get_or, subst, sym, ◌∙◌}
use Rattle.std.specs.Prelude.{take}
use Rattle.std.proofs.lemmas.Grind.{get_or_default_zero}
use Rattle.std.proofs.lemmas.List.{append-nil, append_assoc, take_all}
use Rattle.juniper_merging.specs.Groups.{group_in}
use Rattle.juniper_merging.specs.Uniting.{AreFew}
use Rattle.juniper_merging.proofs.Passed.{one-more}
use Rattle.juniper_merging.proofs.heads.put_few.Goals as goal

pub loop-number-init : goal.loop-number-init
loop-number-init c before are = subst (λ l. AreFew l c.args.few.now.items (group_in c.args.groups.now)) (sym (append-nil before)) are

pub loop-number-preserved : goal.loop-number-preserved
loop-number-preserved c before are =
    let numbers = c.args.numbers.now in
    let i = c.loop-number.number-index in
    let x = get_or numbers i 0 in
    subst (λ l. AreFew l c.put_one.new.few.items (group_in c.put_one.new.groups))
    (append_assoc before (take i numbers) (x ∷ []) ∙ ap (λ l. before ++ l)
    (sym (one-more numbers i x c.loop-number-test.true (sym (get_or_default_zero numbers i x c.loop-number-test.true)))))
    (c.in_ok-put_one.ensures (before ++ take i numbers) (c.loop-number.invariant before are))

pub returns : goal.returns
returns c before are =
    subst (λ l. AreFew (before ++ l) c.loop-number.few.items (group_in c.loop-number.groups))
    (take_all c.loop-number.number-index c.args.numbers.now c.loop-number-test.false) (c.loop-number.invariant before are)
