-- A walk that follows the numbers in the order in which they were found.
use Rattle.std.proofs.Common.{◌≡◌, ℕ, zero, suc, ◌+◌, ◌<◌, ◌≤◌, Bool, List, [], ◌∷◌, ◌++◌, Option, Some, None, Vec, Bor, Global, length, get_or, take}
use Rattle.std.proofs.Common.{sym, ap, ◌∙◌, subst, inl, inr, arith}
use Rattle.std.proofs.lemmas.Bool.{cases_lt}
use Rattle.std.specs.List.{HoldsAt, slice_get}
use Rattle.std.specs.Option.{MatchOption}
use Rattle.std.proofs.lemmas.List.{get_or-map, get_or_past, length-map, take_all, take_more, take-append-le}
use Rattle.std.proofs.lemmas.Option.{MatchOption-at_none, MatchOption-at_some, get_or_from_slice_get, slice_get-get_or, slice_get_within}
use Rattle.graphql_spec.specs.Laws.{In}
use Rattle.graphql_spec.proofs.Grouping.{in_append}
use Rattle.juniper_type_rules.specs.Numbers.{Adds, IsFound, IsNear, IsReach, view_lists}
use Rattle.juniper_type_rules.proofs.Growing.{kept}

pub in-at : {A : Type 0} (xs : List A) (i : ℕ) (x : A) → i < length xs → x ≡ get_or xs i x → In x xs
in-at [] i x below is = absurd (omega arith)
in-at (y ∷ ys) zero x below is = inl is
in-at (y ∷ ys) (suc i) x below is = inr (in-at ys i x (omega arith) is)

-- ## What is read

pub at-turn : (order : List ℕ) (turn x : ℕ) → slice_get order turn ≡ Some x → (turn < length order) × (x ≡ get_or order turn x)
at-turn order turn x e = (slice_get_within order turn x e, sym (get_or_from_slice_get order turn x x e))

pub past-turn : (order : List ℕ) (turn : ℕ) → slice_get order turn ≡ None → length order ≤ turn
past-turn order turn e = elim (cases_lt turn (length order)) [ inl q ↦ absurd (let w = slice_get-get_or order turn 0 q in cc) | inr q ↦ q ]

-- the numbers that a look-up finds
abbrev Finds : List (Vec ℕ Global) → ℕ → Option (Bor (Vec ℕ Global)) → Type 0
Finds ls i o = MatchOption o (length ls ≤ i) (λ x. (i < length ls) × HoldsAt (λ y. x.now ≡ y) ls i)

pub list-found : (ls : List (Vec ℕ Global)) (i : ℕ) (o : Option (Bor (Vec ℕ Global))) (x : Bor (Vec ℕ Global)) → Finds ls i o → o ≡ Some x →
    x.now.items ≡ get_or (view_lists ls) i []
list-found ls i o x m e =
    let h = MatchOption-at_some (length ls ≤ i) (λ x. (i < length ls) × HoldsAt (λ y. x.now ≡ y) ls i) x e m in
    ap (λ v. v.items) (h.1 x.now) ∙ sym (get_or-map (λ (v : Vec ℕ Global). v.items) ls i x.now [] h.0)

pub list-missing : (ls : List (Vec ℕ Global)) (i : ℕ) (o : Option (Bor (Vec ℕ Global))) → Finds ls i o → o ≡ None → get_or (view_lists ls) i [] ≡ []
list-missing ls i o m e =
    let past = MatchOption-at_none (length ls ≤ i) (λ x. (i < length ls) × HoldsAt (λ y. x.now ≡ y) ls i) e m in
    let many = length-map ls (λ (v : Vec ℕ Global). v.items) in
    get_or_past (view_lists ls) i [] (omega (arith, many, past))

-- ## The walk

module _ (lists : List (List ℕ)) (starts : List ℕ) where
  near-more : (n m : ℕ) (i : ℕ) → n ≤ m → IsNear lists starts n i → IsNear lists starts m i
  unfolding IsNear
  near-more n zero i l near = let e : n ≡ 0 = omega (arith, l) in subst (λ k. IsNear lists starts k i) e near
  near-more n (suc m) i l near = elim (cases_lt m n) [
    | inl q ↦ let e : n ≡ suc m = omega (arith, l, q) in subst (λ k. IsNear lists starts k i) e near
    | inr q ↦ inl (near-more n m i q near)
  ]

  -- the numbers that were found before this turn: what those lead to that were followed is found too
  pub record IsWalk (turn : ℕ) (order : List ℕ) : Type 0 where
    pub near : (i : ℕ) → In i order → IsNear lists starts turn i
    pub first : (i : ℕ) → i < length lists → In i starts → In i order
    pub further : (i j : ℕ) → In i (take turn order) → j < length lists → In j (get_or lists i []) → In j order

  pub walk-first : (old order : List ℕ) → old ≡ [] → Adds (length lists) starts old order → IsWalk 0 order
  unfolding IsNear
  walk-first old order none adds = record {
    near = λ i e. adds.only i (subst (λ l. In i l) (adds.is ∙ ap (λ l. l ++ adds.more) none) e);
    first = adds.all;
    further = λ i j e. absurd e;
  }

  module _ (turn x : ℕ) (order new : List ℕ) (below : turn < length order) (is : x ≡ get_or order turn x)
      (adds : Adds (length lists) (get_or lists x []) order new) (old : IsWalk turn order) where
    followed : take (turn + 1) new ≡ take turn order ++ x ∷ []
    followed = ap (take (turn + 1)) adds.is ∙ (take-append-le (turn + 1) order adds.more (omega (arith, below))
        ∙ (take_more order turn x below ∙ ap (λ y. take turn order ++ y ∷ []) (sym is)))

    pub walk-next : IsWalk (turn + 1) new
    unfolding IsNear
    walk-next =
        let next : suc turn ≡ turn + 1 = omega arith in
        record {
          near = λ i e. subst (λ k. IsNear lists starts k i) next (elim (in_append i order adds.more (subst (λ l. In i l) adds.is e)) [
            | inl r ↦ inl (old.near i r)
            | inr r ↦ inr (x, old.near x (in-at order turn x below is), adds.only i r)
          ]);
          first = λ i l e. kept _ _ _ _ adds i (old.first i l e);
          further = λ i j e l f. elim (in_append i (take turn order) (x ∷ []) (subst (λ l. In i l) followed e)) [
            | inl r ↦ kept _ _ _ _ adds j (old.further i j r l f)
            | inr r ↦ elim r [ inl q ↦ adds.all j l (subst (λ k. In j (get_or lists k [])) q f) | inr q ↦ absurd q ]
          ];
        }

  pub walk-ends : (turn : ℕ) (marks : List Bool) (order : List ℕ) → IsFound (length lists) marks order → length order ≤ turn → turn ≤ length lists →
      IsWalk turn order → IsReach lists starts marks
  walk-ends turn marks order found past within walk = record {
    first = λ i l e. found.listed i (walk.first i l e);
    further = λ i j m l e. found.listed j (walk.further i j (subst (λ o. In i o) (sym (take_all turn order past)) (found.marked i m)) l e);
    near = λ i m. near-more turn (length lists) i within (walk.near i (found.marked i m));
  }
