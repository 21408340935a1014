-- Names that are kept in their order: a look-up by the order finds what one by the bytes finds.
use Rattle.std.proofs.Common.{◌≡◌, ℕ, Bool, true, false, cond, ◌||◌, inl, inr, List, [], ◌∷◌, Option, Some, None, is_some, Bor, refl, ap, ◌∙◌}
use Rattle.std.specs.List.{list_any}
use Rattle.std.specs.Map.{keys_of, lookup}
use Rattle.std.specs.Option.{option_or}
use Rattle.std.specs.Ordering.{is_eq, nat_cmp}
use Rattle.std.specs.Cmp.Lexicographic.{slice_cmp}
use Rattle.std.specs.Set.{is_member}
use Rattle.std.specs.Str.{bytes_eq}
use Rattle.std.specs.Bool.{Decides}
use Rattle.std.proofs.lemmas.Bool.{both_ways, cases_Bool}
use Rattle.std.proofs.lemmas.Slice.Eq.{bytes_eq-Decides}
use Rattle.std.proofs.lemmas.Map.Text.{is_eq-slice_cmp}
use Rattle.graphql_spec.specs.Shown.{Name}
use Rattle.graphql_spec.proofs.Lists.{same_sym}
use Rattle.juniper_written.specs.WrittenView.{view_names}

same-test : (n : Name) → ◌≡◌ {A = Bor (List ℕ) → Bool} (λ k. is_eq (slice_cmp nat_cmp n k.now)) (λ k. bytes_eq n k.now)
same-test n = λ i k. is_eq-slice_cmp n k.now i

pub has-is : (n : Name) (ks : List (Bor (List ℕ))) → list_any (λ k. is_eq (slice_cmp nat_cmp n k.now)) ks ≡ list_any (λ k. bytes_eq n k.now) ks
has-is n ks = ap (λ test. list_any test ks) (same-test n)

pub found-is : {T : Type 0} (n : Name) (es : List (Bor (List ℕ) × T)) → lookup (λ k. is_eq (slice_cmp nat_cmp n k.now)) es ≡ lookup (λ k. bytes_eq n k.now) es
found-is n es = ap (λ test. lookup test es) (same-test n)

pub same : (k j : Name) → bytes_eq k j ≡ true → k ≡ j
same k j e = decided (bytes_eq k j) (bytes_eq-Decides k j) e
  where
    decided : {P : Type 0} (r : Bool) → Decides r P → r ≡ true → P
    decided true d e = d.0 refl
    decided false d e = absurd (both_ways false refl e)

-- ## One entry more

or-none : {A : Type 0} (o : Option A) → o ≡ option_or o None
or-none None = refl
or-none (Some x) = refl

or-known : {A : Type 0} (o p : Option A) → is_some o ≡ true → o ≡ option_or o p
or-known None p e = absurd (both_ways false refl e)
or-known (Some x) p e = refl

or-unknown : {A : Type 0} (o p : Option A) → is_some o ≡ false → p ≡ option_or o p
or-unknown None p e = refl
or-unknown (Some x) p e = absurd (both_ways true e refl)

module _ {T : Type 0} (at : Name → Option T) (k name : Name) (x : T) where
  -- a name at which something stands keeps it
  pub put-not : (bytes_eq k name ≡ true → is_some (at k) ≡ true) → at k ≡ option_or (at k) (cond (bytes_eq k name) (Some x) None)
  put-not there = elim (cases_Bool (bytes_eq k name)) [
    | inl q ↦ rw q (or-known (at k) (Some x) (there q))
    | inr q ↦ rw q (or-none (at k))
  ]

  pub put-new : (bytes_eq k name ≡ true → is_some (at k) ≡ false) →
      cond (bytes_eq name k) (Some x) (at k) ≡ option_or (at k) (cond (bytes_eq k name) (Some x) None)
  put-new absent = ap (λ b. cond b (Some x) (at k)) (same_sym name k) ∙ elim (cases_Bool (bytes_eq k name)) [
    | inl q ↦ rw q (or-unknown (at k) (Some x) (absent q))
    | inr q ↦ rw q (or-none (at k))
  ]

-- ## All names

first-some : {T : Type 0} (b : Bool) (x : T) (o : Option T) → (b || is_some o) ≡ is_some (cond b (Some x) o)
first-some true x o = refl
first-some false x o = refl

pub keys-are : {T : Type 0} (k : Name) (es : List (Bor (List ℕ) × T)) →
    is_member bytes_eq (view_names (keys_of es)) k ≡ is_some (lookup (λ n. bytes_eq k n.now) es)
keys-are k [] = refl
keys-are k (e ∷ es) = ap (λ b. bytes_eq k e.0.now || b) (keys-are k es) ∙ first-some (bytes_eq k e.0.now) e.1 (lookup (λ n. bytes_eq k n.now) es)
