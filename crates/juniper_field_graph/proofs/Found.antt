-- What a look-up by number finds, as it is seen.
use Rattle.std.specs.Borrow.{Bor}
use Rattle.std.specs.List.{slice_get, HoldsAt}
use Rattle.std.specs.Option.{MatchOption}
use Rattle.std.proofs.Common.{◌≡◌, ℕ, ◌<◌, ◌≤◌, List, length, map, Option, Some, option_map, refl, ap, ◌∙◌}
use Rattle.std.proofs.lemmas.Option.{slice_get-map, slice_get_read, MatchOption-at_some}

pub found-view : {A B : Type 0} (view : A → B) (xs : List A) (i : ℕ) (o : Option (Bor A)) (x : Bor A) →
    MatchOption o (length xs ≤ i) (λ x. (i < length xs) × HoldsAt (λ y. x.now ≡ y) xs i) → o ≡ Some x →
    slice_get (map view xs) i ≡ Some (view x.now)
found-view view xs i o x m e =
    let h = MatchOption-at_some (length xs ≤ i) (λ x. (i < length xs) × HoldsAt (λ y. x.now ≡ y) xs i) x e m in
    slice_get-map view xs i ∙ ap (option_map view) (slice_get_read xs (length xs) i x.now refl h.0 (h.1 x.now))
