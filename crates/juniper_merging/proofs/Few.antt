-- Numbers of which each is kept at most twice.
use Rattle.std.specs.Prelude.{ℕ, true, false, cond, List, [], ◌∷◌, ◌++◌, ◌≡◌, ◌≤◌, ◌⊎◌, length, nat_eq}
use Rattle.std.proofs.lemmas.Bool.{cases_Bool}
use Rattle.std.proofs.Common.{arith, refl, sym, ap, ◌∙◌, inl, inr, subst}
use Rattle.graphql_spec.specs.Laws.{In}
use Rattle.graphql_spec.proofs.Grouping.{in_append, in_first, in_second}
use Rattle.juniper_merging.specs.Nodes.{Alike}
use Rattle.juniper_merging.specs.Standing.{Both}
use Rattle.juniper_merging.specs.Uniting.{AreFew}
use Rattle.juniper_merging.proofs.Beside.{itself-alike}
use Rattle.juniper_merging.proofs.Joint.{both-differ, both-in}
use Rattle.juniper_merging.proofs.Numbers.{itself, same-number}
use Rattle.juniper_merging.proofs.Places.{alike-both, both-across, both-first, both-parts, both-turned}

never : {A : Type 0} → true ≡ false → A
never e = cc

alone : {A : Type 0} {x y z : A} → Both x y (z ∷ []) → ⊥
alone (inl (q, i)) = i
alone (inr (inl (q, i))) = i
alone (inr (inr b)) = b

pub few-none : (few : List ℕ) (groups : ℕ → List ℕ) → few ≡ [] → ((x : ℕ) → groups x ≡ []) → AreFew [] few groups
few-none few groups none empty = record {
  alike = subst (Alike []) (sym none) (itself-alike []);
  once = λ x m. absurd (subst (In x) (empty x) m);
  twice = λ x b. absurd (subst (Both x x) (empty x) b);
  only = λ x y m. absurd (subst (In y) (empty x) m);
}

-- two or more of one number
two-of : (x : ℕ) (l : List ℕ) → ((y : ℕ) → In y l → y ≡ x) → 2 ≤ length l → Both x x l
two-of x [] only l = absurd (omega (arith, l))
two-of x (y ∷ []) only l = absurd (omega (arith, l))
two-of x (y ∷ z ∷ l) only less = inl (sym (only y (inl refl)), inl (sym (only z (inr (inl refl)))))

module _ (all few : List ℕ) (groups : ℕ → List ℕ) (are : AreFew all few groups) (x : ℕ) where
  -- a number that stands there twice is left out
  pub few-left : (now : ℕ → List ℕ) → ((n : ℕ) → now n ≡ groups n) → 2 ≤ length (groups x) → AreFew (all ++ x ∷ []) few now
  few-left now kept enough = record {
    alike = record {
      one = λ y m. elim (in_append y all (x ∷ []) m) [
        | inl i ↦ are.alike.one y i
        | inr (inl q) ↦ (y, refl, subst (λ n. In n few) (sym q) (both-in x x few both).0)
        | inr (inr i) ↦ absurd i
      ];
      one_back = λ n i. let r = are.alike.one_back n i in (r.0, r.1, in_first r.0 all (x ∷ []) r.2);
      two = λ y z b. elim (both-parts y z all (x ∷ []) b) [
        | inl c ↦ are.alike.two y z c
        | inr (inl c) ↦ absurd (alone c)
        | inr (inr (inl (i, inl q))) ↦ (y, z, refl, refl, subst (λ n. Both y n few) (sym q) (beside y i))
        | inr (inr (inl (i, inr j))) ↦ absurd j
        | inr (inr (inr (i, inl q))) ↦ (y, z, refl, refl, subst (λ n. Both n z few) (sym q) (both-turned z x few (beside z i)))
        | inr (inr (inr (i, inr j))) ↦ absurd j
      ];
      two_back = λ m n b. let r = are.alike.two_back m n b in (r.0, r.1, r.2, r.3, both-first r.0 r.1 all (x ∷ []) r.4);
    };
    once = λ y m. are.once y (subst (In y) (kept y) m);
    twice = λ y b. are.twice y (subst (Both y y) (kept y) b);
    only = λ y z m. are.only y z (subst (In z) (kept y) m);
  }
    where
      both : Both x x few
      both = are.twice x (two-of x (groups x) (are.only x) enough)

      beside : (y : ℕ) → In y all → Both y x few
      beside y i =
          let r = are.alike.one y i in
          let m : In y few = subst (λ n. In n few) (sym r.1) r.2 in
          elim (cases_Bool (nat_eq y x)) [
            | inl q ↦ subst (λ n. Both n x few) (sym (same-number y x q)) both
            | inr q ↦ both-differ y x few (λ e. never (sym (subst (λ n. nat_eq y n ≡ true) e (itself y)) ∙ q)) m (both-in x x few both).0
          ]

  -- another is kept
  pub few-more : (more : List ℕ) (now : ℕ → List ℕ) → more ≡ few ++ x ∷ [] → ((n : ℕ) → now n ≡ cond (nat_eq x n) (groups x ++ x ∷ []) (groups n)) →
      AreFew (all ++ x ∷ []) more now
  few-more more now push kept = subst (λ l. AreFew (all ++ x ∷ []) l now) (sym push) (record {
    alike = alike-both (λ y z. y ≡ z) all (x ∷ []) few (x ∷ []) are.alike (itself-alike (x ∷ []));
    once = λ y m. elim (in-now y y m) [
      | inl i ↦ in_first y few (x ∷ []) (are.once y i)
      | inr q ↦ in_second y few (x ∷ []) (inl q)
    ];
    twice = λ y b. twice y (cases_Bool (nat_eq x y)) b;
    only = λ y z m. elim (in-which y z m) [ inl i ↦ are.only y z i | inr q ↦ q.0 ∙ sym q.1 ];
  })
    where
      in-which : (y z : ℕ) → In z (now y) → In z (groups y) ⊎ ((z ≡ x) × (y ≡ x))
      in-which y z m = elim (cases_Bool (nat_eq x y)) [
        | inl q ↦ elim (in_append z (groups x) (x ∷ []) (subst (In z) (kept y ∙ ap (λ b. cond b (groups x ++ x ∷ []) (groups y)) q) m)) [
          | inl i ↦ inl (subst (λ n. In z (groups n)) (same-number x y q) i)
          | inr (inl e) ↦ inr (e, sym (same-number x y q))
          | inr (inr i) ↦ absurd i
        ]
        | inr q ↦ inl (subst (In z) (kept y ∙ ap (λ b. cond b (groups x ++ x ∷ []) (groups y)) q) m)
      ]

      in-now : (y z : ℕ) → In z (now y) → In z (groups y) ⊎ (z ≡ x)
      in-now y z m = elim (in-which y z m) [ inl i ↦ inl i | inr q ↦ inr q.0 ]

      twice : (y : ℕ) → ((nat_eq x y ≡ true) ⊎ (nat_eq x y ≡ false)) → Both y y (now y) → Both y y (few ++ x ∷ [])
      twice y (inl q) b = elim (both-parts y y (groups x) (x ∷ []) (subst (Both y y) (kept y ∙ ap (λ b. cond b (groups x ++ x ∷ []) (groups y)) q) b)) [
        | inl c ↦ both-first y y few (x ∷ []) (are.twice y (subst (λ n. Both y y (groups n)) (same-number x y q) c))
        | inr (inl c) ↦ absurd (alone c)
        | inr (inr (inl (i, j))) ↦ both-across y y few (x ∷ []) (are.once y (subst (λ n. In y (groups n)) (same-number x y q) i)) j
        | inr (inr (inr (i, j))) ↦ both-across y y few (x ∷ []) (are.once y (subst (λ n. In y (groups n)) (same-number x y q) i)) j
      ]
      twice y (inr q) b = both-first y y few (x ∷ []) (are.twice y (subst (Both y y) (kept y ∙ ap (λ b. cond b (groups x ++ x ∷ []) (groups y)) q) b))
