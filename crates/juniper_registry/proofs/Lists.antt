-- Lists that get one more item.
use Rattle.std.proofs.Common.{◌≡◌, List, [], ◌∷◌, ◌++◌, map, ap, ◌∙◌}
use Rattle.std.proofs.lemmas.List.{map-append}

-- each item seen, with one more behind them
pub seen_last : {A B : Type 0} (f : A → B) (new old : List A) (x : A) (y : B) → new ≡ old ++ x ∷ [] → f x ≡ y → map f new ≡ map f old ++ y ∷ []
seen_last {A} {B} f new old x y e p = ap (λ (l : List A). map f l) e ∙ (map-append f old (x ∷ []) ∙ ap (λ (z : B). map f old ++ z ∷ []) p)
