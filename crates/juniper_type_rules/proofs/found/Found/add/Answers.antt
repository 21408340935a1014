use Rattle.std.proofs.Common.{◌≡◌, ◌++◌, ◌∷◌, ◌<◌, [], length, get_or, false, arith, subst, sym}
use Rattle.juniper_type_rules.specs.Numbers.{Adds, IsFound}
use Rattle.juniper_type_rules.proofs.Growing.{adds-last, one-found}
use Rattle.juniper_type_rules.proofs.found.Found.add.Goals as goal

pub returns : goal.returns
returns c = λ n found.
    let marks = c.args.self.now.marks in
    let order = c.args.self.now.order.items in
    let x = c.args.number in
    let below : x < length marks.items = omega (arith, c.if-number-len.false, c.len.ensures, marks.ok.0) in
    let new : get_or marks.items x false ≡ false = sym (subst (λ b. b ≡ get_or marks.items x b) c.if-index.false c.index.ensures) in
    let more : c.push.new.self.items ≡ order ++ x ∷ [] = c.in_ok-push.ensures.items in (
      subst (IsFound n _) (sym more) (one-found n x marks.items order found below new),
      subst (Adds n (x ∷ []) order) (sym more) (adds-last n x order),
    )
