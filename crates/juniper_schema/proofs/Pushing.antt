-- Lists that a loop pushes to.
use Rattle.std.proofs.Common.{◌≡◌, ℕ, ◌+◌, ◌<◌, ◌≤◌, List, [], ◌∷◌, ◌++◌, map, length, get_or, take, refl, ap, ap₂, sym, ◌∙◌}
use Rattle.std.proofs.lemmas.List.{map-append, take_all, take_more}

-- what is pushed is seen as the next item of the list
pub pushed_next : {X Y Z : Type 0} (view : X → Z) (seen : Y → Z) (xs : List X) (i : ℕ) (x : X) (made new : List Y) (y : Y) → i < length xs → x ≡ get_or xs i x →
    new ≡ made ++ y ∷ [] → seen y ≡ view x →
    map seen made ≡ map view (take i xs) → map seen new ≡ map view (take (i + 1) xs)
pushed_next view seen xs i x made new y low is pushed alike before =
    ap (map seen) pushed ∙ (map-append seen made (y ∷ []) ∙ (ap₂ (λ us u. us ++ u ∷ []) before alike
    ∙ (sym (map-append view (take i xs) (x ∷ [])) ∙ ap (map view) (ap (λ u. take i xs ++ u ∷ []) is ∙ sym (take_more xs i x low)))))

seen_twice : {X Y Z : Type 0} (f : Y → Z) (v : X → Y) (xs : List X) → map f (map v xs) ≡ map (λ x. f (v x)) xs
seen_twice f v [] = refl
seen_twice f v (x ∷ xs) = ap (λ zs. f (v x) ∷ zs) (seen_twice f v xs)

-- the same where the items are seen by way of something else
pub pushed_next_by : {X Y Z V : Type 0} (f : V → Z) (v : X → V) (seen : Y → Z) (xs : List X) (i : ℕ) (x : X) (made new : List Y) (y : Y) → i < length xs →
    x ≡ get_or xs i x → new ≡ made ++ y ∷ [] → seen y ≡ f (v x) → map seen made ≡ map f (map v (take i xs)) → map seen new ≡ map f (map v (take (i + 1) xs))
pushed_next_by f v seen xs i x made new y low is pushed alike before =
    pushed_next (λ z. f (v z)) seen xs i x made new y low is pushed alike (before ∙ seen_twice f v (take i xs)) ∙ sym (seen_twice f v (take (i + 1) xs))

-- after the loop
pub pushed_all : {X Z V : Type 0} (f : V → Z) (v : X → V) (xs ys : List X) (i : ℕ) (made : List Z) → length xs ≤ i → xs ≡ ys →
    made ≡ map f (map v (take i xs)) → made ≡ map f (map v ys)
pushed_all f v xs ys i made past same before = before ∙ ap (λ us. map f (map v us)) (take_all i xs past ∙ same)
