-- The fields of selections, counted one selection at a time.
use Rattle.std.proofs.Common.{◌≡◌, ℕ, suc, ◌+◌, ◌-◌, ◌^◌, ◌<◌, ◌≤◌, List, length, get_or, drop, map, Option, Some, None, Vec, Global, inl, inr, refl, sym, ap}
use Rattle.std.proofs.Common.{◌∙◌, arith}
use Rattle.std.proofs.Math.Nat.{min-eq_left, min-eq_right}
use Rattle.std.proofs.lemmas.Bool.{cases_lt}
use Rattle.std.proofs.lemmas.List.{drop_all}
use Rattle.graphql_spec.specs.Shown.{Shown}
use Rattle.graphql_spec.specs.Documents.{Selections}
use Rattle.juniper_syntax.specs.DocumentView.{put_selection, view_definition, view_set, view_selections}
use Rattle.juniper_syntax.specs.declared.position.Spanning.{Spanning}
use Rattle.juniper_syntax.specs.declared.position.Span.{Span}
use Rattle.juniper_syntax.specs.declared.ast.Field.{Field as FieldType, out-Field}
use Rattle.juniper_syntax.specs.declared.ast.InlineFragment.{InlineFragment as InlineType, out-InlineFragment}
use Rattle.juniper_syntax.specs.declared.ast.FragmentSpread.{FragmentSpread as SpreadType}
use Rattle.juniper_syntax.specs.declared.ast.Selection.{Selection, Field, FragmentSpread, InlineFragment}
use Rattle.juniper_syntax.specs.declared.ast.Definition.{Definition as DefinitionType}
use Rattle.juniper_syntax.proofs.Documents.{put-Field, put-FragmentSpread, put-InlineFragment}
use Rattle.juniper_syntax.proofs.Lists.{left-is, seen-left-is}
use Rattle.juniper_bench.specs.Counts.{capped, fields_in, fields_of, selections_of}

-- ## Numbers

pub capped-small : (n : ℕ) → n < 2 ^ 64 → capped n ≡ n
unfolding capped
capped-small n small = min-eq_left (omega arith)

capped-big : (n : ℕ) → 2 ^ 64 - 1 ≤ n → capped n ≡ 2 ^ 64 - 1
unfolding capped
capped-big n big = min-eq_right big

-- what is capped first stays so
pub capped-sum : (a b : ℕ) → capped (capped a + b) ≡ capped (a + b)
capped-sum a b = elim (cases_lt a (2 ^ 64)) [
  | inl small ↦ ap (λ n. capped (n + b)) (capped-small a small)
  | inr big ↦ ap (λ n. capped (n + b)) (capped-big a (omega (arith, big)))
      ∙ (capped-big (2 ^ 64 - 1 + b) (omega arith) ∙ sym (capped-big (a + b) (omega (arith, big))))
]

sum-leaf : (result a r p : ℕ) → result ≡ capped (a + 1) → p ≡ suc (0 + r) → capped (result + r) ≡ capped (a + p)
sum-leaf result a r p is more = ap (λ n. capped (n + r)) is ∙ (capped-sum (a + 1) r ∙ ap capped (omega (arith, more)))

sum-below : (result a b r p : ℕ) → result ≡ capped (a + b) → p ≡ b + r → capped (result + r) ≡ capped (a + p)
sum-below result a b r p is more = ap (λ n. capped (n + r)) is ∙ (capped-sum (a + b) r ∙ ap capped (omega (arith, more)))

sum-set : (result a m b r p : ℕ) → m ≡ capped (a + 1) → result ≡ capped (m + b) → p ≡ suc (b + r) → capped (result + r) ≡ capped (a + p)
sum-set result a m b r p first is more =
    sum-below result m b r (b + r) is refl ∙ (ap (λ n. capped (n + (b + r))) first ∙ (capped-sum (a + 1) (b + r) ∙ ap capped (omega (arith, more))))

-- ## A selection

module _ {S : Type 0} (shown : S → Shown) (x : Selection S) (before result : ℕ) where
  -- the fields before a selection and its own are so many
  abbrev pub IsCountWith : Type 0
  IsCountWith = (rest : Selections) → capped (result + fields_in rest) ≡ capped (before + fields_in (put_selection shown x rest))

  at-field : (s : Spanning (FieldType S) Span) (o : Option (Vec (Selection S) Global)) (rest : Selections) → x ≡ Field s →
      (out-Field S s.item).selection_set ≡ o →
      fields_in (put_selection shown x rest) ≡ suc (fields_in (view_set shown o) + fields_in rest)
  unfolding fields_in
  at-field s o rest is set =
      ap (λ y. fields_in (put_selection shown y rest)) is ∙ (ap fields_in (put-Field shown s rest)
      ∙ ap (λ v. suc (fields_in (view_set shown v) + fields_in rest)) set)

  pub counts-leaf : (s : Spanning (FieldType S) Span) → x ≡ Field s → (out-Field S s.item).selection_set ≡ None → result ≡ capped (before + 1) → IsCountWith
  unfolding fields_in
  counts-leaf s is none e = λ rest. sum-leaf result before (fields_in rest) _ e (at-field s None rest is none)

  pub counts-set : (s : Spanning (FieldType S) Span) (v : Vec (Selection S) Global) (within : List (Selection S)) (m : ℕ) → x ≡ Field s →
      (out-Field S s.item).selection_set ≡ Some v → within ≡ v.items → m ≡ capped (before + 1) →
      result ≡ capped (m + fields_in (view_selections shown within)) → IsCountWith
  counts-set s v within m is some same first e = λ rest.
      sum-set result before m (fields_in (view_selections shown v.items)) (fields_in rest) _ first
      (e ∙ ap (λ l. capped (m + fields_in (view_selections shown l))) same)
      (at-field s (Some v) rest is some)

  pub counts-spread : (s : Spanning (SpreadType S) Span) → x ≡ FragmentSpread s → result ≡ before → IsCountWith
  unfolding fields_in
  counts-spread s is e = λ rest.
      ap (λ n. capped (n + fields_in rest)) e ∙ ap (λ n. capped (before + n))
      (sym (ap (λ y. fields_in (put_selection shown y rest)) is ∙ ap fields_in (put-FragmentSpread shown s rest)))

  pub counts-inline : (s : Spanning (InlineType S) Span) (within : List (Selection S)) → x ≡ InlineFragment s →
      within ≡ (out-InlineFragment S s.item).selection_set.items →
      result ≡ capped (before + fields_in (view_selections shown within)) → IsCountWith
  unfolding fields_in
  counts-inline s within is same e = λ rest.
      let put : fields_in (put_selection shown x rest) ≡ fields_in (view_selections shown within) + fields_in rest =
      ap (λ y. fields_in (put_selection shown y rest)) is ∙ (ap fields_in (put-InlineFragment shown s rest)
      ∙ ap (λ l. fields_in (view_selections shown l) + fields_in rest) (sym same)) in
      sum-below result before (fields_in (view_selections shown within)) (fields_in rest) _ e put

-- ## Selections

module _ {S : Type 0} (shown : S → Shown) (xs : List (Selection S)) (before : ℕ) where
  -- what is counted, with what is left, is the whole
  abbrev pub IsCountSoFar : ℕ → ℕ → Type 0
  IsCountSoFar i n = (n < 2 ^ 64) × (capped (n + fields_in (view_selections shown (drop i xs))) ≡ capped (before + fields_in (view_selections shown xs)))

  pub counts-next : (i : ℕ) (x : Selection S) (n made : ℕ) → i < length xs → x ≡ get_or xs i x → IsCountSoFar i n → made < 2 ^ 64 → IsCountWith shown x n made →
      IsCountSoFar (i + 1) made
  counts-next i x n made below is so_far small one = (
    small,
    one (view_selections shown (drop (i + 1) xs)) ∙ (ap (λ l. capped (n + fields_in (view_selections shown l))) (sym (left-is xs i x below is))
        ∙ so_far.1),
  )

  pub counts-all : (i n : ℕ) → length xs ≤ i → IsCountSoFar i n → n ≡ capped (before + fields_in (view_selections shown xs))
  unfolding fields_in
  counts-all i n past so_far =
      let none : fields_in (view_selections shown (drop i xs)) ≡ 0 = rw (drop_all i xs past) refl in
      sym (capped-small n so_far.0) ∙ (ap capped (omega (arith, none)) ∙ so_far.1)

-- ## Definitions

module _ {S : Type 0} (shown : S → Shown) (xs : List (DefinitionType S)) where
  -- what is counted, with what is left, is the whole
  abbrev pub IsTotalSoFar : ℕ → ℕ → Type 0
  IsTotalSoFar i n = (n < 2 ^ 64) × (capped (n + fields_of (map (view_definition shown) (drop i xs))) ≡ capped (fields_of (map (view_definition shown) xs)))

  pub totals-next : (i : ℕ) (x : DefinitionType S) (within : List (Selection S)) (n made : ℕ) → i < length xs → x ≡ get_or xs i x → IsTotalSoFar i n →
      made < 2 ^ 64 →
      view_selections shown within ≡ selections_of (view_definition shown x) → made ≡ capped (n + fields_in (view_selections shown within)) →
      IsTotalSoFar (i + 1) made
  unfolding fields_of
  totals-next i x within n made below is so_far small same e =
      let rest : ℕ = fields_of (map (view_definition shown) (drop (i + 1) xs)) in
      let left : fields_of (map (view_definition shown) (drop i xs)) ≡ fields_in (view_selections shown within) + rest =
      ap fields_of (seen-left-is (view_definition shown) xs i x below is) ∙ ap (λ s. fields_in s + rest) (sym same) in
      (small, sum-below made n (fields_in (view_selections shown within)) rest _ e left ∙ so_far.1)

  pub totals-all : (all : List (DefinitionType S)) (i n : ℕ) → xs ≡ all → length xs ≤ i → IsTotalSoFar i n →
      n ≡ capped (fields_of (map (view_definition shown) all))
  unfolding fields_of
  totals-all all i n same past so_far =
      let none : fields_of (map (view_definition shown) (drop i xs)) ≡ 0 = rw (drop_all i xs past) refl in
      sym (capped-small n so_far.0) ∙ (ap capped (omega (arith, none)) ∙ (so_far.1 ∙ ap (λ l. capped (fields_of (map (view_definition shown) l))) same))
