use Rattle.std.proofs.Common.{◌≡◌, ◌++◌, length, map, refl, sym, ap, arith, ◌∙◌}
use Rattle.std.proofs.lemmas.List.{append-nil, nil_from_length}
use Rattle.juniper_syntax.proofs.input.InputValue.list.Goals as goal

pub returns : goal.returns
returns g c =
    let made = map (λ x. x.item) c.loop-item.placed.items in
    let left = c.loop-item.item-iterator.rest in
    let count : length left.items ≡ 0 = omega (arith, left.ok, c.in-None.ensures.steps) in
    (c.loop-item.placed, refl, sym (append-nil made) ∙ (ap (λ r. made ++ r) (sym (nil_from_length left.items count)) ∙ c.loop-item.invariant))
