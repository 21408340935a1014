-- What a map by names, at the numbers that are made of them, has at a name.
use Rattle.std.specs.Prelude.{ℕ, true, false, cond, List, [], ◌≡◌, Option, Some, None}
use Rattle.std.specs.Borrow.{Bor}
use Rattle.std.specs.BTreeMap.{BTreeMap, get_by, is_at}
use Rattle.std.specs.BTreeMap as tree
use Rattle.std.specs.Cmp.Lexicographic.{slice_cmp}
use Rattle.std.specs.Map.{AreApart, IsKeyTest, KeepsOthers, lookup}
use Rattle.std.specs.Ordering.{eq_by_cmp, is_eq, nat_cmp, ordering_then}
use Rattle.std.specs.Str.{bytes_eq}
use Rattle.std.proofs.lemmas.Bool.{cases_Bool}
use Rattle.std.proofs.lemmas.Map.Lookups.{exact_unsigned}
use Rattle.std.proofs.lemmas.Map.Text.{is_eq-slice_cmp}
use Rattle.std.proofs.Common.{Ordering, Equal, Greater, Less, refl, sym, ap, ◌∙◌, inl, inr, subst}
use Rattle.graphql_spec.specs.Shown.{Name}
use Rattle.graphql_spec.proofs.Lists.{same_refl, same_true}
use Rattle.juniper_field_graph.specs.Keys.{IsNumbered, number_at}
use Rattle.juniper_field_graph.proofs.Numbered.{new-number}
use Rattle.juniper_syntax.specs.NameNumbers.{name_number}

-- ## Places

abbrev Place : Type 0
Place = ℕ × Bor (List ℕ)

-- the order of places, and where a name of this number stands
abbrev order : Place → Place → Ordering
order x y = ordering_then (nat_cmp x.0 y.0) (slice_cmp nat_cmp x.1.now y.1.now)

abbrev at : ℕ → Name → Place → Ordering
at n k p = ordering_then (nat_cmp n p.0) (slice_cmp nat_cmp k p.1.now)

never : {A : Type 0} → false ≡ true → A
never e = cc

equal-first : (a b : Ordering) → is_eq (ordering_then a b) ≡ true → a ≡ Equal
equal-first Less b e = never e
equal-first Equal b e = refl
equal-first Greater b e = never e

equal-second : (a b : Ordering) → is_eq (ordering_then a b) ≡ true → is_eq b ≡ true
equal-second Less b e = never e
equal-second Equal b e = e
equal-second Greater b e = never e

same-number : (n : ℕ) (k : Name) (p : Place) → is_eq (at n k p) ≡ true → n ≡ p.0
same-number n k p e = exact_unsigned n p.0 (equal-first (nat_cmp n p.0) (slice_cmp nat_cmp k p.1.now) e)

same-name : (n : ℕ) (k : Name) (p : Place) → is_eq (at n k p) ≡ true → bytes_eq k p.1.now ≡ true
same-name n k p e = sym (is_eq-slice_cmp k p.1.now) ∙ equal-second (nat_cmp n p.0) (slice_cmp nat_cmp k p.1.now) e

tests-keys : (n : ℕ) (k : Name) → IsKeyTest (eq_by_cmp order) (is_at (at n k))
tests-keys n k x y e =
    let first = same-number n k x e in
    let second = same_true k x.1.now (same-name n k x e) in
    λ t. is_eq (ordering_then (nat_cmp (first t) y.0) (slice_cmp nat_cmp (second t) y.1.now))

stand-apart : (m n : ℕ) (j k : Name) → bytes_eq j k ≡ false → AreApart (is_at (at m j)) (is_at (at n k))
stand-apart m n j k other p e = elim (cases_Bool (is_eq (at n k p))) [
  | inl q ↦
      (let one : bytes_eq j p.1.now ≡ true = same-name m j p e in
      let two : p.1.now ≡ k = sym (same_true k p.1.now (same-name n k p q)) in
      never (sym other ∙ subst (λ z. bytes_eq j z ≡ true) two one))
  | inr q ↦ q
]

others-kept : (m n : ℕ) (j k : Name) (old new : BTreeMap Place ℕ) → bytes_eq j k ≡ false →
    KeepsOthers (eq_by_cmp order) (is_at (at m j)) old.entries new.entries → get_by (at n k) new ≡ get_by (at n k) old
unfolding KeepsOthers
others-kept m n j k old new other kept = kept (is_at (at n k)) (tests-keys n k) (stand-apart m n j k other)

pub found-place : (m : BTreeMap Place ℕ) (name : Name) (n : ℕ) (o : Option ℕ) → n ≡ name_number name → o ≡ get_by (at n name) m → o ≡ number_at m name
unfolding number_at
found-place m name n o is e = e ∙ ap (λ (k : ℕ). get_by (at k name) m) is

put-place : (old new : BTreeMap Place ℕ) (name : Name) (n key : ℕ) → n ≡ name_number name → tree.UpdatesBy order (at n name) old new (Some key) →
    (k : Name) → number_at new k ≡ cond (bytes_eq name k) (Some key) (number_at old k)
unfolding number_at
put-place old new name n key is put k = elim (cases_Bool (bytes_eq name k)) [
  | inl q ↦
      (let own : get_by (at (name_number name) name) new ≡ Some key = subst (λ (i : ℕ). get_by (at i name) new ≡ Some key) is put.1 in
      rw q (subst (λ j. get_by (at (name_number j) j) new ≡ Some key) (same_true name k q) own))
  | inr q ↦ rw q (others-kept n (name_number k) name k old new q put.3)
]

pub no-numbers : (m : BTreeMap Place ℕ) → m.entries ≡ [] → (k : Name) → number_at m k ≡ None
unfolding number_at
no-numbers m none k = ap (λ es. lookup (is_at (at (name_number k) k)) es) none

-- ## One name more

pub number-put : (old new : BTreeMap Place ℕ) (name : Name) (n key : ℕ) → n ≡ name_number name → number_at old name ≡ None →
    tree.UpdatesBy order (at n name) old new (Some key) → IsNumbered name key key (number_at old) (number_at new)
number-put old new name n key is none put =
    new-number (bytes_eq name) (number_at old) (number_at new) name key (λ k e. same_true name k e) (same_refl name) none
    (put-place old new name n key is put)
