-- What the search answers is whether a set merges.
use Rattle.std.specs.Prelude.{ℕ, true, false, ◌≡◌}
use Rattle.std.proofs.lemmas.Bool.{cases_Bool}
use Rattle.std.proofs.Common.{refl, sym, ◌∙◌, inl, inr}
use Rattle.graphql_spec.specs.Shown.{Name}
use Rattle.graphql_spec.specs.Fragments.{expand}
use Rattle.graphql_spec.specs.Selections.{Forest, depth}
use Rattle.graphql_spec.specs.Schema.{Schema}
use Rattle.graphql_spec.specs.Overlap.{fields}
use Rattle.graphql_spec.specs.Merging.{each_pair, merge, set_merges}
use Rattle.juniper_merging.specs.Standing.{SetsTell}
use Rattle.juniper_merging.proofs.Settling.{settled}
use Rattle.juniper_merging.proofs.Telling.{tells}

never : {A : Type 0} → true ≡ false → A
never e = cc

failing : (s : Schema) (p : Name) (t : Forest) (n : ℕ) → each_pair (merge s n) (fields p t) ≡ false → each_pair (merge s (depth t)) (fields p t) ≡ false
failing s p t n e = elim (cases_Bool (each_pair (merge s (depth t)) (fields p t))) [
  | inl q ↦ never (sym (settled s p t q n) ∙ e)
  | inr q ↦ q
]

pub whole : SetsTell
unfolding set_merges
whole s vs heads numbered fs p set is alike true all some =
    let t : Forest = expand (λ d. true) fs set in
    sym (tells s vs heads numbered (depth t) (fields p t) is (alike (depth t)) ∙ all refl (depth t))
whole s vs heads numbered fs p set is alike false all some =
    let t : Forest = expand (λ d. true) fs set in
    let w = some refl in
    sym (failing s p t w.0 (tells s vs heads numbered w.0 (fields p t) is (alike w.0) ∙ w.1))
