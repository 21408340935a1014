-- What stands for a name, by the numbers that are kept.
use Rattle.std.specs.Prelude.{ℕ, cond, List, [], Option, Some, None, option_map, ◌≡◌}
use Rattle.std.specs.Borrow.{Bor}
use Rattle.std.specs.BTreeMap.{BTreeMap, get_by}
use Rattle.std.specs.Cmp.Lexicographic.{slice_cmp}
use Rattle.std.specs.Ordering.{is_eq, nat_cmp}
use Rattle.std.specs.Str.{bytes_eq}
use Rattle.std.proofs.lemmas.Bool.{cases_Bool}
use Rattle.std.proofs.lemmas.Map.Text.{is_eq-slice_cmp}
use Rattle.std.proofs.Common.{refl, inl, inr, sym, ap, ◌∙◌}
use Rattle.graphql_spec.specs.Shown.{Name}
use Rattle.graphql_spec.specs.Documents.{Fragment}
use Rattle.graphql_spec.specs.Fragments.{fragment_of}
use Rattle.juniper_written.specs.Kept.{kept_at, kept_or, weight_at}
use Rattle.juniper_written.specs.Measures.{Measure, number}
use Rattle.juniper_written.specs.declared.counts.Counts.{Counts}

module _ (most : ℕ) (fs : List Fragment) (kept : Name → Option ℕ) (k : Name) where
  pub weight-kept : (n : ℕ) → Some n ≡ kept k → n ≡ weight_at most fs kept k
  unfolding weight_at kept_or
  weight-kept n is = ap (kept_or most (fragment_of fs k)) is

  pub weight-endless : {A : Type 0} (view : A → Fragment) (o : Option A) (f : A) → None ≡ kept k → option_map view o ≡ fragment_of fs k → o ≡ Some f →
      most ≡ weight_at most fs kept k
  unfolding weight_at kept_or
  weight-endless view o f none is some =
      let e : Some (view f) ≡ fragment_of fs k = sym (ap (option_map view) some) ∙ is in
      ap (λ p. kept_or most p None) e ∙ ap (kept_or most (fragment_of fs k)) none

  pub weight-unknown : {A : Type 0} (view : A → Fragment) (o : Option A) → None ≡ kept k → option_map view o ≡ fragment_of fs k → o ≡ None →
      0 ≡ weight_at most fs kept k
  unfolding weight_at kept_or
  weight-unknown view o none is some =
      let e : None ≡ fragment_of fs k = sym (ap (option_map view) some) ∙ is in
      ap (λ p. kept_or most p None) e ∙ ap (kept_or most (fragment_of fs k)) none

-- an empty map keeps nothing
pub kept-none : (m : Measure) (kept : BTreeMap (Bor (List ℕ)) Counts) → kept.entries ≡ [] → (k : Name) → kept_at m kept k ≡ None
unfolding kept_at
kept-none m kept none k = rw none refl

-- one more number
pub kept-next : (m : Measure) (kept now : BTreeMap (Bor (List ℕ)) Counts) (name : Name) (value : Counts) →
    ((q : Bor (List ℕ)) → get_by (λ x. slice_cmp nat_cmp q.now x.now) now
    ≡ cond (is_eq (slice_cmp nat_cmp name q.now)) (Some value) (get_by (λ x. slice_cmp nat_cmp q.now x.now) kept)) →
    (k : Name) → kept_at m now k ≡ cond (bytes_eq name k) (Some (number m value)) (kept_at m kept k)
unfolding kept_at
kept-next m kept now name value updates k =
    ap (option_map (number m)) (updates (record { ref_ptr = (0, 0); now = k })
    ∙ ap (λ b. cond b (Some value) (get_by (λ x. slice_cmp nat_cmp k x.now) kept)) (is_eq-slice_cmp name k))
    ∙ elim (cases_Bool (bytes_eq name k)) [ inl e ↦ rw e refl | inr e ↦ rw e refl ]
