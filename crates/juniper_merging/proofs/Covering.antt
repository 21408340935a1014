-- The numbers that stand for what selections hold, fragments put in, selection by selection (5.3.2).
use Rattle.std.specs.Prelude.{ℕ, zero, suc, true, List, [], ◌∷◌, ◌++◌, ◌≡◌, Some, None}
use Rattle.std.proofs.Common.{refl, sym, ap, subst, inl, inr, ◌∙◌}
use Rattle.graphql_spec.specs.Shown.{Name}
use Rattle.graphql_spec.specs.Types.{innermost}
use Rattle.graphql_spec.specs.Documents.{Fragment, Head, Inline, Selections, Spread, end, field, spread, inline, name_or}
use Rattle.graphql_spec.specs.Fragments.{HasNoCycle, expand, filled, fragment_of, put_under}
use Rattle.graphql_spec.specs.Schema.{Schema}
use Rattle.graphql_spec.specs.Fields.{declared_type, field_of}
use Rattle.graphql_spec.specs.Overlap.{condition_or, fields}
use Rattle.graphql_spec.specs.Merging.{fields_at, type_at}
use Rattle.graphql_spec.proofs.Expanded.{asked-is, whole-field, whole-inline, whole-spread}
use Rattle.juniper_merging.specs.MergingGraph.{FieldAt}
use Rattle.juniper_merging.specs.Standing.{AreAlike, Covers, Grows, IsAt, StandsFor}
use Rattle.juniper_merging.proofs.Growing.{alike-kept, alike-more, stands-more}
use Rattle.juniper_merging.proofs.Places.{alike-both}

nothing-alike : {A B : Type 0} (S : A → B → Type 0) → AreAlike S [] []
nothing-alike S = record { one = λ x i. absurd i; one_back = λ n i. absurd i; two = λ x y b. absurd b; two_back = λ m n b. absurd b }

alone-alike : {A B : Type 0} (S : A → B → Type 0) (x : A) (i : B) → S x i → AreAlike S (x ∷ []) (i ∷ [])
alone-alike S x i s = record {
  one = λ y j. elim j [ inl q ↦ (i, subst (λ z. S z i) (sym q) s, inl refl) | inr k ↦ absurd k ];
  one_back = λ n j. elim j [ inl q ↦ (x, subst (S x) (sym q) s, inl refl) | inr k ↦ absurd k ];
  two = λ y z b. elim b [ inl c ↦ absurd c.1 | inr (inl c) ↦ absurd c.1 | inr (inr c) ↦ absurd c ];
  two_back = λ m n b. elim b [ inl c ↦ absurd c.1 | inr (inl c) ↦ absurd c.1 | inr (inr c) ↦ absurd c ];
}

module _ (s : Schema) (vs : List FieldAt) (heads : ℕ → Head) (fs : List Fragment) where
  pub covers-end : (p : Name) → Covers s vs heads fs p end []
  unfolding fields expand Rattle.graphql_spec.specs.Fragments.plain
  covers-end p n = nothing-alike (StandsFor s vs heads n)

  -- a field, and then others
  pub covers-field : (p : Name) (h : Head) (below rest : Selections) (i : ℕ) (v : FieldAt) (is : List ℕ) →
      IsAt s vs heads (record { parent = p; occurrence = record { head = h; below = expand (λ y. true) fs below } }) i v →
      Covers s vs heads fs (innermost (declared_type (field_of s p h.name.item))) below v.below → Covers s vs heads fs p rest is →
      Covers s vs heads fs p (field h below rest) (i ∷ is)
  unfolding fields fields_at type_at
  covers-field p h below rest i v is here inside others n =
      subst (λ t. AreAlike (StandsFor s vs heads n) (fields p t) (i ∷ is)) (sym (whole-field fs h below rest))
      (alike-both (StandsFor s vs heads n) _ (fields p (expand (λ y. true) fs rest)) (i ∷ []) is (alone-alike (StandsFor s vs heads n) _ i (stands n))
      (others n))
    where
      stands : (n : ℕ) → StandsFor s vs heads n (record { parent = p; occurrence = record { head = h; below = expand (λ y. true) fs below } }) i
      stands zero = (v, here)
      stands (suc n) = (v, here, inside n)

  -- what a spread fragment holds, and then others
  pub covers-spread : HasNoCycle fs → (p : Name) (x : Spread) (rest : Selections) (f : Fragment) (js is : List ℕ) → fragment_of fs x.name.item ≡ Some f →
      Covers s vs heads fs f.condition.item f.selections js → Covers s vs heads fs p rest is → Covers s vs heads fs p (spread x rest) (js ++ is)
  unfolding fields put_under filled condition_or
  covers-spread c p x rest f js is found inside others n =
      subst (λ t. AreAlike (StandsFor s vs heads n) (fields p t) (js ++ is))
      (sym (whole-spread fs c x rest ∙ ap (λ o. put_under (filled (expand (λ y. true) fs) o) (expand (λ y. true) fs rest)) found))
      (alike-both (StandsFor s vs heads n) (fields f.condition.item (expand (λ y. true) fs f.selections)) (fields p (expand (λ y. true) fs rest)) js is
      (inside n) (others n))

  -- a spread of no fragment holds nothing
  pub covers-nothing : HasNoCycle fs → (p : Name) (x : Spread) (rest : Selections) (is : List ℕ) → fragment_of fs x.name.item ≡ None →
      Covers s vs heads fs p rest is → Covers s vs heads fs p (spread x rest) is
  unfolding put_under filled
  covers-nothing c p x rest is found others n =
      subst (λ t. AreAlike (StandsFor s vs heads n) (fields p t) is)
      (sym (whole-spread fs c x rest ∙ ap (λ o. put_under (filled (expand (λ y. true) fs) o) (expand (λ y. true) fs rest)) found)) (others n)

  -- what an inline fragment holds, and then others
  pub covers-inline : (p : Name) (x : Inline) (below rest : Selections) (js is : List ℕ) → Covers s vs heads fs (name_or x.condition p) below js →
      Covers s vs heads fs p rest is → Covers s vs heads fs p (inline x below rest) (js ++ is)
  unfolding fields
  covers-inline p x below rest js is inside others n =
      subst (λ t. AreAlike (StandsFor s vs heads n) (fields p t) (js ++ is)) (sym (whole-inline fs x below rest))
      (alike-both (StandsFor s vs heads n) _ (fields p (expand (λ y. true) fs rest)) js is
      (subst (λ q. AreAlike (StandsFor s vs heads n) (fields q (expand (λ y. true) fs below)) js) (sym (asked-is x.condition p)) (inside n)) (others n))

  -- each at most twice
  pub covers-kept : (p : Name) (set : Selections) (all kept : List ℕ) → Covers s vs heads fs p set all → AreAlike (λ x i. x ≡ i) all kept →
      Covers s vs heads fs p set kept
  covers-kept p set all kept a k n = alike-kept (StandsFor s vs heads n) (fields p (expand (λ y. true) fs set)) all kept (a n) k

-- so they do in each graph that has these vertices
pub covers-more : (s : Schema) (vs ws : List FieldAt) (heads more : ℕ → Head) (fs : List Fragment) → Grows vs ws heads more →
    (p : Name) (set : Selections) (is : List ℕ) → Covers s vs heads fs p set is → Covers s ws more fs p set is
covers-more s vs ws heads more fs g p set is a n =
    alike-more (StandsFor s vs heads n) (StandsFor s ws more n) (stands-more s vs ws heads more g n) (fields p (expand (λ y. true) fs set)) is (a n)
