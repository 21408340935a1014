-- A stable sort gives the list in order.
use Rattle.std.proofs.Common.{◌≡◌, ℕ, suc, ◌≤◌, ◌<◌, inl, inr, Bool, true, false, cond, List, [], ◌∷◌, map, length, get_or, refl, ap, ap₂, ◌∙◌, sym, arith}
use Rattle.std.specs.List.{filter}
use Rattle.std.specs.Cmp.{IsStrictWeakOrder, IsTotalOrder, nat_cmp_total}
use Rattle.std.specs.Cmp.Lexicographic.{slice_cmp, lists_total}
use Rattle.std.specs.Ordering.{nat_cmp}
use Rattle.std.specs.List.Sorted.{IsSortedBy, IsStableBy, ties}
use Rattle.std.proofs.lemmas.Bool.{cases_Bool}
use Rattle.std.proofs.lemmas.List.Sorted.{sorted_far}
use Rattle.graphql_spec.specs.TypeList.{put_in_order, in_order}

module _ {X : Type 0} where
  head_or : X → List X → X
  head_or d [] = d
  head_or d (x ∷ xs) = x

  tail_of : List X → List X
  tail_of [] = []
  tail_of (x ∷ xs) = xs

  same_head : (x y : X) (xs ys : List X) → x ∷ xs ≡ y ∷ ys → x ≡ y
  unfolding head_or
  same_head x y xs ys e = ap (head_or x) e

  same_tail : (x y : X) (xs ys : List X) → x ∷ xs ≡ y ∷ ys → xs ≡ ys
  unfolding tail_of
  same_tail x y xs ys e = ap tail_of e

  -- the rests of two lists that a test keeps alike
  kept_alike : (b : Bool) (x : X) (xs ys : List X) → cond b (x ∷ xs) xs ≡ cond b (x ∷ ys) ys → xs ≡ ys
  kept_alike true x xs ys e = same_tail x x xs ys e
  kept_alike false x xs ys e = e

  -- of two that are not both kept the order does not count
  swapped : (x y : X) (a b : Bool) (l : List X) → (a ≡ true → b ≡ true → ⊥) →
      cond b (y ∷ cond a (x ∷ l) l) (cond a (x ∷ l) l) ≡ cond a (x ∷ cond b (y ∷ l) l) (cond b (y ∷ l) l)
  swapped x y true true l h = absurd (h refl refl)
  swapped x y true false l h = refl
  swapped x y false true l h = refl
  swapped x y false false l h = refl

module _ {X : Type 0} (lt : X → X → Bool) where
  -- none of the list is less than x
  abbrev NoneLess : X → List X → Type 0
  NoneLess x [] = Unit {0}
  NoneLess x (y ∷ ys) = (lt y x ≡ false) × NoneLess x ys

  -- no later one is less
  abbrev Ascends : List X → Type 0
  Ascends [] = Unit {0}
  Ascends (x ∷ xs) = NoneLess x xs × Ascends xs

  none_less : (x : X) (ys : List X) → ((j : ℕ) (d : X) → j < length ys → lt (get_or ys j d) x ≡ false) → NoneLess x ys
  none_less x [] h = tt
  none_less x (y ∷ ys) h = (h 0 y (omega arith), none_less x ys (λ j d b. h (suc j) d (omega arith)))

  ascends_far : (xs : List X) → ((i j : ℕ) (d : X) → i ≤ j → j < length xs → lt (get_or xs j d) (get_or xs i d) ≡ false) → Ascends xs
  ascends_far [] h = tt
  ascends_far (x ∷ xs) h =
      (none_less x xs (λ j d b. h 0 (suc j) d (omega arith) (omega arith)), ascends_far xs (λ i j d b c. h (suc i) (suc j) d (omega arith) (omega arith)))

  module _ (o : IsStrictWeakOrder lt) where
    ascends : (xs : List X) → IsSortedBy lt xs → Ascends xs
    ascends xs up = ascends_far xs (sorted_far lt o xs up)

    never_less : (x : X) → lt x x ≡ false
    never_less x = elim (cases_Bool (lt x x)) [ inl e ↦ o.one_way x x e | inr e ↦ e ]

    -- x is less than y, and z is not less than y
    less_then : (x y z : X) → lt x y ≡ true → lt z y ≡ false → lt x z ≡ true
    less_then x y z p q = elim (cases_Bool (lt x z)) [ inl e ↦ e | inr e ↦ cc (p, o.chain x z y e q) ]

    tied : (x y : X) → lt x y ≡ false → lt y x ≡ false → ties lt x y ≡ true
    tied x y p q = rw (p, q) refl

    not_tied : (x y : X) → lt x y ≡ true → ties lt x y ≡ false
    not_tied x y p = rw p refl

    not_tied_back : (x y : X) → lt y x ≡ true → ties lt x y ≡ false
    not_tied_back x y p = rw (p, o.one_way y x p) refl

    tie_left : (x y : X) → ties lt x y ≡ true → lt x y ≡ false
    tie_left x y h = elim (cases_Bool (lt x y)) [ inl e ↦ cc (h, not_tied x y e) | inr e ↦ e ]

    tie_right : (x y : X) → ties lt x y ≡ true → lt y x ≡ false
    tie_right x y h = elim (cases_Bool (lt y x)) [ inl e ↦ cc (h, not_tied_back x y e) | inr e ↦ e ]

    -- what ties with two makes neither of them less
    no_third : (x y z : X) → lt y x ≡ true → ties lt z x ≡ true → ties lt z y ≡ true → ⊥
    no_third x y z h p q = cc (h, o.chain y z x (tie_right z y q) (tie_left z x p))

    none_ties : (y z : X) (zs : List X) → lt y z ≡ true → NoneLess z zs → filter (ties lt y) zs ≡ []
    none_ties y z [] h n = refl
    none_ties y z (w ∷ zs) h n = rw (not_tied y w (less_then y z w h n.0)) (none_ties y z zs h n.1)

    first_kept : (y : X) (ys : List X) → filter (ties lt y) (y ∷ ys) ≡ y ∷ filter (ties lt y) ys
    first_kept y ys = rw (tied y y (never_less y) (never_less y)) refl

    -- what is kept of a list whose first is greater
    all_greater : (y z : X) (zs : List X) → lt y z ≡ true → NoneLess z zs → filter (ties lt y) (z ∷ zs) ≡ []
    all_greater y z zs h n = rw (not_tied y z h) (none_ties y z zs h n)

    not_empty : (y : X) (ys zs : List X) → filter (ties lt y) (y ∷ ys) ≡ filter (ties lt y) zs → filter (ties lt y) zs ≡ [] → ⊥
    not_empty y ys zs e n = cc (sym (first_kept y ys) ∙ (e ∙ n))

    -- the first of two lists that keep the same
    same_first : (y z : X) (ys zs : List X) → lt y z ≡ false → lt z y ≡ false → filter (ties lt y) (y ∷ ys) ≡ filter (ties lt y) (z ∷ zs) → y ≡ z
    same_first y z ys zs p q e = same_head y z (filter (ties lt y) ys) (filter (ties lt y) zs) (sym (first_kept y ys) ∙ (e ∙ rw (tied y z p q) refl))

    alike : (y z : X) (ys zs : List X) → Ascends (y ∷ ys) → Ascends (z ∷ zs) → ((x : X) → filter (ties lt x) (y ∷ ys) ≡ filter (ties lt x) (z ∷ zs)) → y ≡ z
    alike y z ys zs a b h =
        elim (cases_Bool (lt y z)) [
          | inl e ↦ absurd (not_empty y ys (z ∷ zs) (h y) (all_greater y z zs e b.0))
          | inr p ↦ elim (cases_Bool (lt z y)) [
            | inl e ↦ absurd (not_empty z zs (y ∷ ys) (sym (h z)) (all_greater z y ys e a.0))
            | inr q ↦ same_first y z ys zs p q (h y)
          ]
        ]

    unique : (ys zs : List X) → Ascends ys → Ascends zs → ((x : X) → filter (ties lt x) ys ≡ filter (ties lt x) zs) → ys ≡ zs
    unique [] [] a b h = refl
    unique [] (z ∷ zs) a b h = absurd (not_empty z zs [] (sym (h z)) refl)
    unique (y ∷ ys) [] a b h = absurd (not_empty y ys [] (h y) refl)
    unique (y ∷ ys) (z ∷ zs) a b h =
        let same = alike y z ys zs a b h in
        ap₂ (λ w ws. w ∷ ws) same (unique ys zs a.1 b.1 (λ x. kept_alike (ties lt x y) y (filter (ties lt x) ys) (filter (ties lt x) zs)
        (h x ∙ ap (λ w. filter (ties lt x) (w ∷ zs)) (sym same))))

    -- ## The list in order

    none_less_placed : (z x : X) (ys : List X) → lt x z ≡ false → NoneLess z ys → NoneLess z (put_in_order lt x ys)
    unfolding put_in_order
    none_less_placed z x [] p n = (p, tt)
    none_less_placed z x (y ∷ ys) p n = elim (cases_Bool (lt y x)) [ inl e ↦ rw e (n.0, none_less_placed z x ys p n.1) | inr e ↦ rw e (p, n) ]

    none_less_all : (x y : X) (ys : List X) → lt y x ≡ false → NoneLess y ys → NoneLess x ys
    none_less_all x y [] p n = tt
    none_less_all x y (w ∷ ys) p n = (o.chain w y x n.0 p, none_less_all x y ys p n.1)

    ascends_placed : (x : X) (ys : List X) → Ascends ys → Ascends (put_in_order lt x ys)
    unfolding put_in_order
    ascends_placed x [] a = (tt, tt)
    ascends_placed x (y ∷ ys) a =
        elim (cases_Bool (lt y x)) [
          | inl e ↦ rw e (none_less_placed y x ys (o.one_way y x e) a.0, ascends_placed x ys a.1)
          | inr e ↦ rw e ((e, none_less_all x y ys e a.0), a)
        ]

    kept_placed : (z x : X) (ys : List X) → filter (ties lt z) (put_in_order lt x ys) ≡ filter (ties lt z) (x ∷ ys)
    unfolding put_in_order
    kept_placed z x [] = refl
    kept_placed z x (y ∷ ys) =
        elim (cases_Bool (lt y x)) [
          | inl e ↦ rw e (rw (kept_placed z x ys) (swapped x y (ties lt z x) (ties lt z y) (filter (ties lt z) ys) (no_third x y z e)))
          | inr e ↦ rw e refl
        ]

    ascends_in_order : (xs : List X) → Ascends (in_order lt xs)
    unfolding in_order
    ascends_in_order [] = tt
    ascends_in_order (x ∷ xs) = ascends_placed x (in_order lt xs) (ascends_in_order xs)

    kept_in_order : (z : X) (xs : List X) → filter (ties lt z) (in_order lt xs) ≡ filter (ties lt z) xs
    unfolding in_order
    kept_in_order z [] = refl
    kept_in_order z (x ∷ xs) = kept_placed z x (in_order lt xs) ∙ ap (λ ys. cond (ties lt z x) (x ∷ ys) ys) (kept_in_order z xs)

    -- what a stable sort leaves
    sorted_stably : (xs ys : List X) → IsSortedBy lt ys → IsStableBy lt xs ys → ys ≡ in_order lt xs
    sorted_stably xs ys up stable = unique ys (in_order lt xs) (ascends ys up) (ascends_in_order xs) (λ z. stable z ∙ sym (kept_in_order z xs))

-- ## The order of what is seen

placed_step : {X Y : Type 0} (view : X → Y) (b : Bool) (x y : X) (xs ys : List X) (zs : List Y) → map view xs ≡ zs →
    map view (cond b (y ∷ xs) (x ∷ y ∷ ys)) ≡ cond b (view y ∷ zs) (view x ∷ view y ∷ map view ys)
placed_step view true x y xs ys zs e = ap (λ l. view y ∷ l) e
placed_step view false x y xs ys zs e = refl

view_placed : {X Y : Type 0} (view : X → Y) (lt : Y → Y → Bool) (x : X) (ys : List X) →
    map view (put_in_order (λ a b. lt (view a) (view b)) x ys) ≡ put_in_order lt (view x) (map view ys)
unfolding put_in_order
view_placed view lt x [] = refl
view_placed view lt x (y ∷ ys) = placed_step view (lt (view y) (view x)) x y (put_in_order (λ a b. lt (view a) (view b)) x ys) ys
    (put_in_order lt (view x) (map view ys)) (view_placed view lt x ys)

view_in_order : {X Y : Type 0} (view : X → Y) (lt : Y → Y → Bool) (xs : List X) →
    map view (in_order (λ a b. lt (view a) (view b)) xs) ≡ in_order lt (map view xs)
unfolding in_order
view_in_order view lt [] = refl
view_in_order view lt (x ∷ xs) = view_placed view lt x (in_order (λ a b. lt (view a) (view b)) xs) ∙ ap (put_in_order lt (view x)) (view_in_order view lt xs)

-- what a stable sort by an order of what is seen leaves
pub seen_in_order : {X Y : Type 0} (view : X → Y) (lt : Y → Y → Bool) → IsStrictWeakOrder (λ a b. lt (view a) (view b)) → (xs ys : List X) →
    IsSortedBy (λ a b. lt (view a) (view b)) ys → IsStableBy (λ a b. lt (view a) (view b)) xs ys → map view ys ≡ in_order lt (map view xs)
seen_in_order view lt o xs ys up stable = ap (map view) (sorted_stably (λ a b. lt (view a) (view b)) o xs ys up stable) ∙ view_in_order view lt xs

pub names_total : IsTotalOrder (slice_cmp nat_cmp)
names_total = lists_total nat_cmp_total
