use Rattle.std.proofs.Common.{◌≡◌, ◌++◌, length, map, refl, sym, ap, arith, ◌∙◌}
use Rattle.std.proofs.lemmas.List.{append-nil, nil_from_length}
use Rattle.juniper_syntax.proofs.input.InputValue.object.Goals as goal

pub returns : goal.returns
returns g c =
    let made = map (λ f. (f.0.item, f.1.item)) c.loop-name.placed.items in
    let left = c.loop-name.name-iterator.rest in
    let count : length left.items ≡ 0 = omega (arith, left.ok, c.in-None.ensures.steps) in
    (c.loop-name.placed, refl, sym (append-nil made) ∙ (ap (λ r. made ++ r) (sym (nil_from_length left.items count)) ∙ c.loop-name.invariant))
