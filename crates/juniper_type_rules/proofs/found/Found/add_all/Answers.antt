use Rattle.std.proofs.Common.{◌∷◌, [], get_or, subst, sym, take}
use Rattle.std.proofs.lemmas.List.{take_all, take_more}
use Rattle.juniper_type_rules.specs.Numbers.{Adds}
use Rattle.juniper_type_rules.proofs.Growing.{adds-then}
use Rattle.juniper_type_rules.proofs.found.Found.add_all.Goals as goal

pub loop-number-preserved : goal.loop-number-preserved
loop-number-preserved c = λ n found.
    let xs = c.args.numbers.now in
    let i = c.loop-number.number-index in
    let so_far = c.loop-number.invariant n found in
    let one = c.in_ok-add.ensures n so_far.0 in (
      one.0,
      subst (λ l. Adds n l c.args.self.now.order.items c.add.new.self.order.items) (sym (take_more xs i 0 c.loop-number-test.true))
          (adds-then n (take i xs) (get_or xs i 0 ∷ []) c.args.self.now.order.items c.loop-number.self.order.items c.add.new.self.order.items so_far.1 one.1),
    )

pub returns : goal.returns
returns c = λ n found.
    let all = c.loop-number.invariant n found in (
      all.0,
      subst (λ l. Adds n l c.args.self.now.order.items c.loop-number.self.order.items)
          (take_all c.loop-number.number-index c.args.numbers.now c.loop-number-test.false) all.1,
    )
