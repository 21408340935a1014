-- Fields that are met one after the other.
use Rattle.std.specs.Prelude.{ℕ, Bool, true, false, List, [], ◌∷◌, ◌++◌, Some, None, ◌≡◌}
use Rattle.std.specs.List.{flat_map}
use Rattle.std.proofs.lemmas.Bool.{cases_Bool}
use Rattle.std.specs.Ordering.{is_eq, nat_cmp}
use Rattle.std.specs.Cmp.{Equal-is}
use Rattle.std.proofs.lemmas.Map.Lookups.{exact_unsigned}
use Rattle.std.proofs.Common.{refl, sym, ap, ◌∙◌, inl, inr, subst}
use Rattle.graphql_spec.specs.Documents.{Document, response_key}
use Rattle.graphql_spec.specs.Placed.{Placed}
use Rattle.graphql_spec.specs.Schema.{Schema}
use Rattle.graphql_spec.specs.Laws.{In}
use Rattle.graphql_spec.proofs.Grouping.{in_append, in_first, in_second}
use Rattle.juniper_syntax.specs.NameNumbers.{name_number}
use Rattle.juniper_field_graph.specs.KindsView.{IsOnce}
use Rattle.juniper_field_graph.specs.MetView.{AllOnce, IsMet, Meets, Table}
use Rattle.juniper_field_graph.specs.PlainKeys.{AreOnce, are_plain, has_plain_keys, is_like, written_in}
use Rattle.juniper_field_graph.proofs.PlainFields.{like-itself, like-joins, plain-from}

same-some : {A : Type 0} {x y : A} → Some x ≡ Some y → x ≡ y
same-some e = cc

-- the order of numbers finds one of another
abbrev is_at : ℕ → ℕ → Bool
is_at n k = is_eq (nat_cmp n k)

same-number : (n k : ℕ) → is_at n k ≡ true → n ≡ k
same-number n k e = exact_unsigned n k ((Equal-is (nat_cmp n k)).0 e)

-- a field was put at a number, and all else stays
pub record IsPut (old new : Table) (n : ℕ) (x : Placed) : Type 0 where
  pub own : new n ≡ Some x
  pub others : (k : ℕ) → is_at n k ≡ false → new k ≡ old k

module _ (s : Schema) where
  -- the number of a field's response key
  abbrev number : Placed → ℕ
  number y = name_number (response_key y.head)

  pub meets-nothing : (t : Table) → Meets s t t []
  meets-nothing t once each = record { once = once; before = λ y m. m; added = λ y i. absurd i }

  pub meets-then : (a b c : Table) (xs ys : List Placed) → Meets s a b xs → Meets s b c ys → Meets s a c (xs ++ ys)
  meets-then a b c xs ys m n once each =
      let first = m once (λ y i. each y (in_first y xs ys i)) in
      let then = n first.once (λ y i. each y (in_second y xs ys i)) in
      record {
        once = then.once;
        before = λ y i. then.before y (first.before y i);
        added = λ y i. elim (in_append y xs ys i) [ inl j ↦ then.before y (first.added y j) | inr j ↦ then.added y j ];
      }

  -- the first field of its number
  pub meets-first : (old new : Table) (x : Placed) → IsPut old new (number x) x → old (number x) ≡ None →
      Meets s old new (x ∷ [])
  meets-first old new x put none once each = record {
    once = λ k y e. elim (cases_Bool (is_at (number x) k)) [
      | inl q ↦ subst (λ z. IsOnce z.head) (same-some (sym (at-own k q) ∙ e)) (each x (inl refl))
      | inr q ↦ once k y (sym (at-other k q) ∙ e)
    ];
    before = λ y m. elim (cases_Bool (is_at (number x) (number y))) [
      | inl q ↦ absurd (never (sym none ∙ (ap old (same-number (number x) (number y) q) ∙ m.1)))
      | inr q ↦ (m.0, at-other (number y) q ∙ m.1, m.2, m.3)
    ];
    added = λ y i. elim i [
      | inl e ↦ subst (IsMet s new) (sym e) (x, own, refl, like-itself s x)
      | inr j ↦ absurd j
    ];
  }
    where
      own : new (number x) ≡ Some x
      own = put.own

      never : {A : Type 0} {x : A} → None ≡ Some x → ⊥
      never e = cc

      at-own : (k : ℕ) → is_at (number x) k ≡ true → new k ≡ Some x
      at-own k q = subst (λ n. new n ≡ Some x) (same-number (number x) k q) own

      at-other : (k : ℕ) → is_at (number x) k ≡ false → new k ≡ old k
      at-other k q = put.others k q

  -- a field that is like an earlier one of its response key, in whose place it is put
  pub meets-again : (old new : Table) (w x : Placed) → IsPut old new (number x) x → old (number x) ≡ Some w →
      (AllOnce old → AreOnce (x ∷ []) → (response_key w.head ≡ response_key x.head) × (is_like s w x ≡ true)) → Meets s old new (x ∷ [])
  meets-again old new w x put found like once each =
      let l = like once each in
      record {
        once = λ k y e. elim (cases_Bool (is_at (number x) k)) [
          | inl q ↦ subst (λ z. IsOnce z.head) (same-some (sym (at-own k q) ∙ e)) (each x (inl refl))
          | inr q ↦ once k y (sym (at-other k q) ∙ e)
        ];
        before = λ y m. elim (cases_Bool (is_at (number x) (number y))) [
          | inl q ↦ let same = same-some (sym found ∙ (ap old (same-number (number x) (number y) q) ∙ m.1)) in (
            x,
            at-own (number y) q,
            sym l.0 ∙ (ap (λ z. response_key z.head) same ∙ m.2),
            like-joins s w x y l.1 (subst (λ z. is_like s z y ≡ true) (sym same) m.3),
          )
          | inr q ↦ (m.0, at-other (number y) q ∙ m.1, m.2, m.3)
        ];
        added = λ y i. elim i [
          | inl e ↦ subst (IsMet s new) (sym e) (x, own, refl, like-itself s x)
          | inr j ↦ absurd j
        ];
      }
    where
      own : new (number x) ≡ Some x
      own = put.own

      at-own : (k : ℕ) → is_at (number x) k ≡ true → new k ≡ Some x
      at-own k q = subst (λ n. new n ≡ Some x) (same-number (number x) k q) own

      at-other : (k : ℕ) → is_at (number x) k ≡ false → new k ≡ old k
      at-other k q = put.others k q

  -- where all fields were met, they are plain
  pub met-plain : (t : Table) (xs : List Placed) → ((y : Placed) → In y xs → IsMet s t y) → are_plain s xs ≡ true
  met-plain t xs met = plain-from s xs (λ x y i j e.
      let a = met x i in
      let b = met y j in
      let same = same-some (sym a.1 ∙ (ap (λ k. t (name_number k)) e ∙ b.1)) in
      like-joins s a.0 x y a.3 (subst (λ z. is_like s z y ≡ true) (sym same) b.3))

  pub document-plain : (new : Table) (d : Document) → Meets s (λ _. None) new (flat_map (written_in s) d) → AreOnce (flat_map (written_in s) d) →
      has_plain_keys s d ≡ true
  unfolding has_plain_keys
  document-plain new d m once = met-plain new (flat_map (written_in s) d) (m (λ k x e. absurd (never e)) once).added
    where
      never : {x : Placed} → None ≡ Some x → ⊥
      never e = cc
