-- Names that have numbers, and one name more.
use Rattle.std.specs.Prelude.{ℕ, Bool, true, cond, ◌≡◌, ◌<◌, Option, Some, None, nat_eq}
use Rattle.std.proofs.lemmas.Bool.{cases_Bool}
use Rattle.std.proofs.Common.{refl, sym, ap, ◌∙◌, inl, inr, subst, arith}
use Rattle.juniper_field_graph.specs.Keys.{AreOneEach, IsNumbered}
use Rattle.juniper_field_graph.proofs.Numbering.{number-itself, same-number}

some-none : {A B : Type 0} {x : A} → None ≡ Some x → B
some-none e = cc

some-same : {A : Type 0} {x y : A} → Some x ≡ Some y → x ≡ y
some-same e = cc

module _ {K : Type 0} where
  pub found-number : (numbers : K → Option ℕ) (name : K) (key n : ℕ) → numbers name ≡ Some key → IsNumbered name key n numbers numbers
  found-number numbers name key n e = record { own = e; grown = λ k m f. f; only = λ k m f. inl f }

  -- where the test finds the name, and no other
  pub new-number : (same : K → Bool) (old new : K → Option ℕ) (name : K) (n : ℕ) → ((k : K) → same k ≡ true → name ≡ k) → same name ≡ true →
      old name ≡ None → ((k : K) → new k ≡ cond (same k) (Some n) (old k)) → IsNumbered name n n old new
  new-number same old new name n exact itself none put = record {
    own = put name ∙ rw itself refl;
    grown = λ k m e. elim (cases_Bool (same k)) [
      | inl q ↦ some-none (sym (ap old (sym (exact k q)) ∙ none) ∙ e)
      | inr q ↦ put k ∙ rw q e
    ];
    only = λ k m e. elim (cases_Bool (same k)) [
      | inl q ↦
          (let f : Some n ≡ Some m = subst (λ b. cond b (Some n) (old k) ≡ Some m) q (sym (put k) ∙ e) in
          inr (sym (exact k q), sym (some-same f)))
      | inr q ↦ inl (subst (λ b. cond b (Some n) (old k) ≡ Some m) q (sym (put k) ∙ e))
    ];
  }

  -- one more name has a number of its own, or one that it had
  pub still-one-each : (old new : K → Option ℕ) (name : K) (key n m : ℕ) → AreOneEach old n → IsNumbered name key n old new → n < m → AreOneEach new m
  still-one-each old new name key n m had is more = record {
    apart = λ k l i e f. elim (is.only k i e) [
      | inl p ↦ elim (is.only l i f) [
        | inl q ↦ had.apart k l i p q
        | inr (q, r) ↦ (let b = had.least k i p in absurd (omega (arith, b, r)))
      ]
      | inr (p, q) ↦ elim (is.only l i f) [
        | inl r ↦ (let b = had.least l i r in absurd (omega (arith, b, q)))
        | inr (r, t) ↦ p ∙ sym r
      ]
    ];
    least = λ k i e. elim (is.only k i e) [
      | inl p ↦ (let b = had.least k i p in omega (arith, b, more))
      | inr (p, q) ↦ omega (arith, q, more)
    ];
  }

  -- names of which no two have one number are the same where their numbers are
  pub same-names : (numbers : K → Option ℕ) (b : ℕ) → AreOneEach numbers b → (k l : K) (m n : ℕ) → numbers k ≡ Some m → numbers l ≡ Some n →
      nat_eq m n ≡ true → k ≡ l
  same-names numbers b one k l m n e f q = one.apart k l m e (f ∙ ap Some (sym (same-number m n q)))

  -- and only there
  pub same-numbers : (numbers : K → Option ℕ) (k l : K) (m n : ℕ) → numbers k ≡ Some m → numbers l ≡ Some n → k ≡ l → nat_eq m n ≡ true
  same-numbers numbers k l m n e f q =
      let g : Some m ≡ Some n = sym e ∙ (ap numbers q ∙ f) in let h : m ≡ n = some-same g in
      subst (λ z. nat_eq m z ≡ true) h (number-itself m)
