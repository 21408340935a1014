-- The values of variables: one definition after the other, from the last.
use Rattle.std.proofs.Common.{◌≡◌, ℕ, ◌+◌, ◌-◌, ◌<◌, ◌≤◌, Bool, true, false, cond, List, length, get_or, drop, map, Option, None, option_map, refl}
use Rattle.std.proofs.Common.{sym, ap, ◌∙◌, inl, inr, arith}
use Rattle.std.specs.Map.{update}
use Rattle.std.specs.Str.{bytes_eq}
use Rattle.std.specs.Bool.{Decides}
use Rattle.std.proofs.lemmas.Bool.{cases_Bool, both_ways}
use Rattle.std.proofs.lemmas.Cmp.{nat_list_eq_equiv}
use Rattle.std.proofs.lemmas.List.{drop_all}
use Rattle.std.proofs.lemmas.Slice.Eq.{bytes_eq-Decides}
use Rattle.graphql_spec.specs.Shown.{Name}
use Rattle.graphql_spec.specs.Inputs.{Input, Variables}
use Rattle.graphql_spec.specs.Documents.{VariableDefinition}
use Rattle.graphql_spec.specs.Requests.{coerced_variables, item_of, value_or}
use Rattle.juniper_syntax.proofs.Lists.{seen-left-is}

decided : {P : Type 0} (r : Bool) → Decides r P → r ≡ true → P
decided true d e = d.0 refl
decided false d e = absurd (both_ways false refl e)

same : (k j : Name) → bytes_eq k j ≡ true → k ≡ j
same k j e = decided (bytes_eq k j) (bytes_eq-Decides k j) e

module _ {V : Type 0} (view : V → Input) (given : Variables) (default : Option Input) where
  -- an entry that was put in or taken out
  pub put-one : (old new : Name → Option V) (name : Name) (w : Option V) → ((k : Name) → new k ≡ update bytes_eq old name w k) →
      option_map view w ≡ value_or (given name) default →
      (k : Name) → option_map view (new k) ≡ cond (bytes_eq k name) (value_or (given k) default) (option_map view (old k))
  put-one old new name w u is k = elim (cases_Bool (bytes_eq k name)) [
    | inl q ↦ rw q (ap (option_map view) (u k) ∙ (ap (λ b. option_map view (cond b w (old k))) (nat_list_eq_equiv.symm name k ∙ q)
        ∙ (is ∙ ap (λ j. value_or (given j) default) (sym (same k name q)))))
    | inr q ↦ rw q (ap (option_map view) (u k) ∙ ap (λ b. option_map view (cond b w (old k))) (nat_list_eq_equiv.symm name k ∙ q))
  ]

module _ {D : Type 0} (view : D → VariableDefinition) (ds : List D) (given : Variables) where
  pub none-coerced : (has : Variables) → ((n : Name) → has n ≡ None) → (n : Name) → has n ≡ coerced_variables (map view (drop (length ds - 0) ds)) given n
  unfolding coerced_variables
  none-coerced has empty n = empty n ∙ sym (ap (λ l. coerced_variables (map view l) given n) (drop_all (length ds - 0) ds (omega arith)))

  pub one-more-coerced : (has now : Variables) (i : ℕ) (x : D) → i < length ds → x ≡ get_or ds (length ds - 1 - i) x →
      ((n : Name) → has n ≡ coerced_variables (map view (drop (length ds - i) ds)) given n) →
      ((n : Name) → now n ≡ cond (bytes_eq n (view x).name.item) (value_or (given n) (item_of (view x).default)) (has n)) → (n : Name) →
      now n ≡ coerced_variables (map view (drop (length ds - (i + 1)) ds)) given n
  unfolding coerced_variables
  one-more-coerced has now i x below is so_far put n =
      let j : ℕ = length ds - (i + 1) in
      let one : length ds - 1 - i ≡ j = omega (arith, below) in
      let next : j + 1 ≡ length ds - i = omega (arith, below) in
      let all = seen-left-is view ds j x (omega (arith, below)) (is ∙ ap (λ m. get_or ds m x) one) in
      put n ∙ (ap (cond (bytes_eq n (view x).name.item) (value_or (given n) (item_of (view x).default)))
      (so_far n ∙ ap (λ m. coerced_variables (map view (drop m ds)) given n) (sym next))
      ∙ sym (ap (λ l. coerced_variables l given n) all))

  pub all-coerced : (has : Variables) (i : ℕ) → length ds ≤ i → ((n : Name) → has n ≡ coerced_variables (map view (drop (length ds - i) ds)) given n) →
      (n : Name) → has n ≡ coerced_variables (map view ds) given n
  all-coerced has i past so_far n = let z : length ds - i ≡ 0 = omega arith in so_far n ∙ ap (λ m. coerced_variables (map view (drop m ds)) given n) z
