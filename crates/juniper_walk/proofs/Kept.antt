-- What was made below a group is kept, and found again.
use Rattle.std.proofs.Common.{◌≡◌, ◌==◌, ℕ, zero, suc, ◌+◌, ◌≤◌, ◌<◌, Bool, true, false, List, [], ◌∷◌, length, get_or, map, drop, Vec, Some, None}
use Rattle.std.proofs.Common.{string_bytes, refl, sym, ap, ◌∙◌, subst, arith}
use Rattle.std.proofs.lemmas.Bool.{both_ways, eqb-true}
use Rattle.std.proofs.lemmas.List.{drop_more}
use Rattle.std.specs.Str.{bytes_eq}
use Rattle.std.specs.declared.alloc.Global.{Global}
use Rattle.graphql_spec.specs.Shown.{Shown, Name}
use Rattle.graphql_spec.specs.Documents.{Head}
use Rattle.graphql_spec.specs.Selections.{Forest, Occurrence, all_below, occurrences}
use Rattle.juniper_lookahead.specs.Collected.{view_all}
use Rattle.juniper_lookahead.specs.declared.collecting.Collector.{Collector}
use Rattle.juniper_walk.specs.declared.plan.Below.{Below}
use Rattle.juniper_walk.specs.declared.plan.GroupRange.{GroupRange}
use Rattle.juniper_walk.specs.declared.plan.Plan.{Plan}
use Rattle.juniper_walk.specs.PlanLists.{named_in}
use Rattle.juniper_walk.specs.Plans.{IsKept, IsMade, IsStanding, StandsFor, all_made, fields_at, first_made, made_at}
use Rattle.juniper_walk.proofs.Standing.{fields-kept, grown-none, grown-twice, longer, made-found, right-at, stands-kept, stands-still}

first-is : (xs : List (Vec Below Global)) (i : ℕ) (v : Vec Below Global) → i < length xs → v ≡ get_or xs i v →
    first_made (drop i (map (λ x. x.items) xs)) ≡ v.items
unfolding first_made
first-is [] i v below is = absurd (omega (arith, below))
first-is (x ∷ xs) zero v below is = ap (λ y. y.items) (sym is)
first-is (x ∷ xs) (suc i) v below is = first-is xs i v (omega (arith, below)) is

pub not-empty : {A B : Type 0} (v : Vec A B) (b : Bool) → b ≡ (v.len == 0) → b ≡ false → v.items ≡ [] → ⊥
not-empty v b is not_so none = let e : v.len ≡ 0 = v.ok.0 ∙ ap length none in
    let t : (v.len == 0) ≡ true = rw e refl in both_ways (v.len == 0) (sym is ∙ not_so) t

pub none-in : {A B : Type 0} (v : Vec A B) (b : Bool) → b ≡ (v.len == 0) → b ≡ true → v.items ≡ []
none-in v b is empty = nothing v.items (sym v.ok.0 ∙ eqb-true v.len 0 (sym is ∙ empty))
  where
    nothing : {A : Type 0} (xs : List A) → length xs ≡ 0 → xs ≡ []
    nothing [] e = refl
    nothing (x ∷ xs) e = absurd (omega (arith, e))

module _ {S Q : Type 0} where
  pub made-is : (p : Plan S Q) (i : ℕ) (v : Vec Below Global) → i < length p.below.items → v ≡ get_or p.below.items i v → made_at p i ≡ v.items
  unfolding made_at
  made-is p i v below is = first-is p.below.items i v below is

-- ## Found by the name of the object type

pub one-passed : (T : Name) (bs : List Below) (i : ℕ) (b : Below) → i < length bs → b ≡ get_or bs i b → bytes_eq (string_bytes b.concrete) T ≡ false →
    named_in T bs ≡ named_in T (drop i bs) → named_in T bs ≡ named_in T (drop (i + 1) bs)
unfolding named_in
one-passed T bs i b below is differs so_far =
    so_far ∙ (ap (named_in T) (drop_more bs i b below ∙ ap (λ x. x ∷ drop (i + 1) bs) (sym is)) ∙ rw differs refl)

pub one-found : (T : Name) (bs : List Below) (i : ℕ) (b : Below) → i < length bs → b ≡ get_or bs i b → bytes_eq (string_bytes b.concrete) T ≡ true →
    named_in T bs ≡ named_in T (drop i bs) → Some b.groups ≡ named_in T bs
unfolding named_in
one-found T bs i b below is same so_far =
    sym (so_far ∙ (ap (named_in T) (drop_more bs i b below ∙ ap (λ x. x ∷ drop (i + 1) bs) (sym is)) ∙ rw same refl))

drop-past : {A : Type 0} (xs : List A) (i : ℕ) → length xs ≤ i → drop i xs ≡ []
drop-past [] zero past = refl
drop-past [] (suc i) past = refl
drop-past (x ∷ xs) zero past = absurd (omega (arith, past))
drop-past (x ∷ xs) (suc i) past = drop-past xs i (omega (arith, past))

pub none-found : (T : Name) (bs : List Below) (i : ℕ) → length bs ≤ i → named_in T bs ≡ named_in T (drop i bs) → None ≡ named_in T bs
unfolding named_in
none-found T bs i past so_far = sym (so_far ∙ ap (named_in T) (drop-past bs i past))

-- ## Below a group

module _ {S P Q : Type 0} (shown : S → Shown) (c : Collector S P) (asks : Name → Head → Q → Type 0) (possible : Name → Name → Bool) where
  pub same-made : (T : Name) (os ps : List Occurrence) (p q : Plan S Q) (r : GroupRange) → os ≡ ps → IsMade shown c asks possible T os p q r
      → IsMade shown c asks possible T ps p q r
  same-made T os ps p q r e m = subst (λ l. IsMade shown c asks possible T l p q r) e m

  pub counted : (p : Plan S Q) (i : ℕ) → IsStanding shown c asks possible p → i < length p.groups.items → i < length p.below.items
  counted p i standing below = let n = standing.counted in omega (arith, n, below)

  module _ (p : Plan S Q) (i : ℕ) (T : Name) (g : GroupRange) (s : Forest) (standing : IsStanding shown c asks possible p) (below : i < length p.groups.items)
      (selected : s ≡ all_below (view_all shown c (fields_at p i))) where
    pub found-below : Some g ≡ named_in T (made_at p i) → IsMade shown c asks possible T (occurrences possible T s) p p g
    unfolding made_at
    found-below is = record {
      standing = standing;
      grown = grown-none p p refl refl refl (omega arith);
      stands = subst (λ x. StandsFor shown c asks T p g (occurrences possible T x)) (sym selected)
          (made-found shown c asks possible p i T (first_made (drop i (all_made p))) g
          (right-at shown c asks possible p (all_made p) i 0 i (omega arith) standing.below) is);
    }

    module _ (q : Plan S Q) (made : IsMade shown c asks possible T (occurrences possible T s) p q g) where
      pub still-counted : i < length q.below.items
      still-counted = let n = made.standing.counted in let m = longer p q made.grown in omega (arith, n, m, below)

      pub below-kept : (r : Plan S Q) → IsKept i T g q r → IsMade shown c asks possible T (occurrences possible T s) p r g
      below-kept r kept =
          let long = longer p q made.grown in
          let here : StandsFor shown c asks T q g (occurrences possible T (all_below (view_all shown c (fields_at q i)))) =
          subst (λ fs. StandsFor shown c asks T q g (occurrences possible T (all_below (view_all shown c fs))))
          (sym (fields-kept p q made.grown i below standing.within))
          (subst (λ x. StandsFor shown c asks T q g (occurrences possible T x)) selected made.stands) in
          let step = stands-kept shown c asks possible q r i T g made.standing (omega (arith, below, long)) kept here in
          record {
            standing = step.standing;
            grown = grown-twice p q r made.grown step.grown;
            stands = stands-still shown c asks T q r g (occurrences possible T s) made.standing.within made.standing.asked step.grown made.stands;
          }
