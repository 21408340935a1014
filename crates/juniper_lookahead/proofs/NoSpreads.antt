-- Fragments that spread nothing have no cycle.
use Rattle.std.proofs.Common.{◌≡◌, ℕ, Bool, false, List, [], ◌∷◌, map, length, Option, Some, None, Bor, suc, refl, ap, sym, subst, inl, inr, arith}
use Rattle.std.specs.List.{All, list_any}
use Rattle.std.specs.Map.{values_of}
use Rattle.std.specs.HashMap.{PutsEntry}
use Rattle.std.specs.Str.{bytes_eq}
use Rattle.std.proofs.lemmas.Bool.{cases_Bool}
use Rattle.std.proofs.lemmas.Map.Views.{All-values-PutsEntry}
use Rattle.graphql_spec.specs.Shown.{Shown, Name}
use Rattle.graphql_spec.specs.Documents as spec
use Rattle.graphql_spec.specs.Fragments.{HasNoCycle, deep, deep_in, fragment_of, spreads, spreads_in}
use Rattle.juniper_syntax.specs.DocumentView.{view_selections}
use Rattle.juniper_syntax.specs.declared.ast.Fragment.{Fragment}
use Rattle.juniper_lookahead.specs.Expansion.{FragmentsByName, IsAcyclic, fragments_among, named_fragment}

one-shallow : (f : Name → Bool) (o : Option spec.Fragment) → spreads_in o ≡ [] → deep_in f o ≡ false
unfolding spreads_in deep_in
one-shallow f None none = refl
one-shallow f (Some x) none = ap (list_any f) none

all-shallow : (fs : List spec.Fragment) → ((k : Name) → spreads_in (fragment_of fs k) ≡ []) → HasNoCycle fs
unfolding deep fragment_of
all-shallow [] none k = refl
all-shallow (f ∷ fs) none k = one-shallow (deep (f ∷ fs) (length fs)) (fragment_of (f ∷ fs) k) (none k)

module _ {S : Type 0} (shown : S → Shown) where
  -- a fragment that spreads nothing
  abbrev pub SpreadsNothing : Bor (Fragment S) → Type 0
  SpreadsNothing f = spreads (view_selections shown f.now.selection_set.items) ≡ []

  none-among : (es : List (Bor (List ℕ) × Bor (Fragment S))) → All SpreadsNothing (values_of es) → (k : Name)
      → spreads_in (fragment_of (map (named_fragment shown) es) k) ≡ []
  unfolding spreads_in fragment_of named_fragment
  none-among [] all k = refl
  none-among (e ∷ es) all k = elim (cases_Bool (bytes_eq k e.0.now))
      [ inl q ↦ rw q (all 0 e.1 (omega arith)) | inr q ↦ rw q (none-among es (λ i d p. all (suc i) d (omega (arith, p))) k) ]

  -- where a fragment that spreads nothing is put into an empty map
  pub alone-acyclic : (eq : Bor (List ℕ) → Bor (List ℕ) → Bool) (m n : FragmentsByName S) (name : Bor (List ℕ)) (f : Bor (Fragment S))
      (old : Option (Bor (Fragment S))) →
      PutsEntry eq m n name f old → m.entries ≡ [] → SpreadsNothing f → IsAcyclic shown n
  unfolding fragments_among
  alone-acyclic eq m n name f old puts empty none =
      let before : All SpreadsNothing (values_of m.entries) = subst (λ es. All SpreadsNothing (values_of es)) (sym empty)
      (λ i d p. absurd (omega (arith, p))) in
      all-shallow (map (named_fragment shown) n.entries) (none-among n.entries (All-values-PutsEntry eq SpreadsNothing m n name f old puts before none))
