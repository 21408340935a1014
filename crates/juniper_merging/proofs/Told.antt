-- Answers that rest on others.
use Rattle.std.specs.Prelude.{ℕ, Bool, true, false, ◌&&◌, List, [], ◌∷◌, ◌≡◌, Some, None, nat_eq}
use Rattle.std.specs.List.{list_all, slice_get}
use Rattle.std.proofs.Common.{refl, ap, ◌∙◌}
use Rattle.juniper_merging.specs.MergingGraph.{FieldAt, merge_at, same_key_at}
use Rattle.juniper_merging.specs.Questions.{IsTold, between_at, passes, tested_at, worse}
use Rattle.juniper_merging.specs.declared.clash.Clash.{Clash}
use Rattle.juniper_merging.specs.declared.clash.Clash.TheVariants as clash

pub some-same : {A : Type 0} {x y : A} → Some x ≡ Some y → x ≡ y
some-same e = cc

some-true-false : {A : Type 0} → Some true ≡ Some false → A
some-true-false e = cc

-- ## Answers

both : (a b : Bool) → a ≡ true → b ≡ true → (a && b) ≡ true
both true b e f = f
both false b e f = e

right-false : (a b : Bool) → b ≡ false → (a && b) ≡ false
right-false true b e = e
right-false false b e = refl

told-true : (T : ℕ → Bool) → ((n : ℕ) → T n ≡ true) → IsTold T (Some true)
told-true T all = record { yes = λ e. all; no = λ e. some-true-false e }

pub passes-worse : (m : Bool) (a b : Clash) → passes m (worse a b) ≡ (passes m a && passes m b)
unfolding passes worse
passes-worse m clash.Nothing b = refl
passes-worse m clash.Shape b = refl
passes-worse true clash.Merging clash.Nothing = refl
passes-worse true clash.Merging clash.Merging = refl
passes-worse true clash.Merging clash.Shape = refl
passes-worse false clash.Merging clash.Nothing = refl
passes-worse false clash.Merging clash.Merging = refl
passes-worse false clash.Merging clash.Shape = refl

-- ## Pairs of lists

all-both : {A : Type 0} (f g : A → Bool) (xs : List A) → list_all (λ x. f x && g x) xs ≡ (list_all f xs && list_all g xs)
all-both f g [] = refl
all-both f g (x ∷ xs) = ap (λ b. (f x && g x) && b) (all-both f g xs) ∙ turn (f x) (g x) (list_all f xs) (list_all g xs)
  where
    turn : (a b c d : Bool) → ((a && b) && (c && d)) ≡ ((a && c) && (b && d))
    turn false b c d = refl
    turn true true c d = refl
    turn true false true d = refl
    turn true false false d = refl

module _ (vs : List FieldAt) (R : ℕ → ℕ → Bool) where
  abbrev T : ℕ → ℕ → Bool
  T = tested_at vs R

  abbrev B : List ℕ → List ℕ → Bool
  B = between_at vs R

  pub between-none : (js : List ℕ) → B [] js ≡ true
  unfolding between_at
  between-none [] = refl
  between-none (j ∷ js) = between-none js

  -- one field more on the one side
  pub between-more : (i : ℕ) (is js : List ℕ) → B (i ∷ is) js ≡ (list_all (T i) js && B is js)
  unfolding between_at
  between-more i is js = all-both (T i) (λ j. list_all (λ k. T k j) is) js

-- ## Pairs of fields

module _ (vs : List FieldAt) (m : Bool) (i j : ℕ) where
  abbrev tested : ℕ → Bool
  tested n = tested_at vs (merge_at vs n m) i j

  -- fields of two response keys
  pub other-keys : (x y : FieldAt) → slice_get vs i ≡ Some x → slice_get vs j ≡ Some y → nat_eq x.key y.key ≡ false → IsTold tested (Some true)
  unfolding tested_at same_key_at
  other-keys x y e f other = told-true tested (λ n. rw (e, f, other) refl)

  pub first-missing : slice_get vs i ≡ None → IsTold tested (Some true)
  unfolding tested_at same_key_at
  first-missing e = told-true tested (λ n. rw (e) refl)

  pub second-missing : (x : FieldAt) → slice_get vs i ≡ Some x → slice_get vs j ≡ None → IsTold tested (Some true)
  unfolding tested_at same_key_at
  second-missing x e f = told-true tested (λ n. rw (e, f) refl)

  module _ (x y : FieldAt) (e : slice_get vs i ≡ Some x) (f : slice_get vs j ≡ Some y) (same : nat_eq x.key y.key ≡ true) where
    pub is-merged : (n : ℕ) → tested n ≡ merge_at vs n m i j
    unfolding tested_at same_key_at
    is-merged n = rw (e, f, same) refl
