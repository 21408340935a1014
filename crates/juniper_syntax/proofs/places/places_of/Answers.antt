use Rattle.std.proofs.Common.{◌≡◌, ℕ, ◌∷◌, [], ◌++◌, suc, ◌+◌, take, false, sym, ap, subst, string_bytes, ◌∙◌, arith}
use Rattle.std.proofs.lemmas.List.{length-take-le, take_all}
use Rattle.std.proofs.Math.Seq.{take-suc}
use Rattle.std.specs.List.{list_any}
use Rattle.juniper_syntax.specs.FieldWords.{is_key}
use Rattle.juniper_syntax.specs.Indexes.{Shows}
use Rattle.juniper_syntax.proofs.Indexes.{before, empty-shows}
use Rattle.juniper_syntax.proofs.places.places_of.Goals as goal

one_more : (n : ℕ) → n + 1 ≡ suc n
one_more n = omega arith

pub loop-place-init : goal.loop-place-init
loop-place-init c = empty-shows _ c.new-places.ensures.number c.new-places.ensures.tied

pub loop-place-preserved : goal.loop-place-preserved
loop-place-preserved c =
    let names = c.args.names.now in
    let at = c.loop-place.place in
    let last = c.index-names-place.result in
    let said = sym c.as_str.ensures.value in
    let grown : take (at + 1) names ≡ take at names ++ last ∷ []
    = ap (λ n. take n names) (one_more at) ∙ take-suc names at last c.loop-place-test.true
    ∙ ap (λ name. take at names ++ name ∷ []) (sym c.index-names-place.is) in
    let gone : list_any (is_key c.as_str.result.now) (take at names) ≡ false
    = ap (λ text. list_any (is_key text) (take at names)) (c.as_str.ensures.value ∙ ap string_bytes c.index-names-place.is)
    ∙ before names at last c.loop-place-test.true c.requires in
    subst (Shows c.put.new.self) (sym grown)
    (c.in_ok-put.ensures.ok (take at names) last (length-take-le at names (omega (arith, c.loop-place-test.true))) said gone c.loop-place.invariant)

pub returns : goal.returns
returns c = subst (Shows c.loop-place.places) (take_all c.loop-place.place c.args.names.now c.loop-place-test.false) c.loop-place.invariant
