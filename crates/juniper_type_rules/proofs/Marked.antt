-- What those fragments use whose numbers are marked.
use Rattle.std.proofs.Common.{◌≡◌, ℕ, Bool, true, false, cond, filter, List, [], ◌∷◌, ◌++◌, get_or, map, Some, None, refl, sym, ap, ap₂, ◌∙◌, inl, inr}
use Rattle.std.specs.List.{flat_map}
use Rattle.std.specs.Option.{option_to_list}
use Rattle.std.proofs.lemmas.Bool.{cases_Bool}
use Rattle.std.proofs.lemmas.List.Concat.{flat_map-append}
use Rattle.graphql_spec.specs.Shown.{Name}
use Rattle.graphql_spec.specs.Documents.{Document, Fragment, operation, fragment, fragments}
use Rattle.graphql_spec.specs.Laws.{In}
use Rattle.graphql_spec.specs.Schema.{Schema}
use Rattle.graphql_spec.specs.VariableUses.{as_definitions, is_reached}
use Rattle.juniper_written.specs.WrittenView.{named}
use Rattle.juniper_written.specs.declared.name_map.NameMap.{NameMap}
use Rattle.juniper_type_rules.specs.Numbers.{IsReach, names_of, numbers_at, view_lists}
use Rattle.juniper_type_rules.specs.UsesView.{AreUsesOfFragments, Usage, fragment_name, has_variables, named_in, number_at, usage_of, numbered_of}
use Rattle.juniper_type_rules.specs.UsesView.{uses_reached, view_all_numbered}
use Rattle.juniper_type_rules.specs.UsesView.{where_marked}
use Rattle.juniper_type_rules.specs.declared.reach.UsesOfFragments.{UsesOfFragments}
use Rattle.juniper_type_rules.proofs.Reaching.{marked-is}

neither : {A : Type 0} (b : Bool) → ◌≡◌ {A = List A} (cond b [] []) []
neither true = refl
neither false = refl

in-names : (fs : List Fragment) (f : Fragment) → In f fs → In f.name.item (names_of fs)
in-names [] f e = absurd e
in-names (g ∷ fs) f (inl q) = inl (ap (λ h. h.name.item) q)
in-names (g ∷ fs) f (inr r) = inr (in-names fs f r)

-- ## One definition

module _ (m : NameMap ℕ) (u : Usage) where
  pub no-variables : has_variables u ≡ false → [] ≡ numbered_of m u
  unfolding numbered_of
  no-variables none = sym (ap (λ b. cond b (map (λ i. (u, i)) (option_to_list (number_at m u.fragment))) []) none)

  pub no-number : number_at m u.fragment ≡ None → [] ≡ numbered_of m u
  unfolding numbered_of
  no-number none = sym (ap (λ o. cond (has_variables u) (map (λ i. (u, i)) (option_to_list o)) []) none ∙ neither (has_variables u))

  pub with-number : (i : ℕ) → has_variables u ≡ true → number_at m u.fragment ≡ Some i → (u, i) ∷ [] ≡ numbered_of m u
  unfolding numbered_of
  with-number i some is = sym (ap₂ (λ b o. cond b (map (λ j. (u, j)) (option_to_list o)) []) some is)

-- ## All of them

module _ (s : Schema) where
  -- of what definitions use, what fragments use
  pub names-are : (d : Document) → flat_map named_in (map (usage_of s) d) ≡ names_of (fragments d)
  unfolding usage_of fragment_name fragments
  names-are [] = refl
  names-are (operation o ∷ d) = names-are d
  names-are (fragment f ∷ d) = ap (λ l. f.name.item ∷ l) (names-are d)

  module _ (m : NameMap ℕ) where
    pub numbered-are : (d : Document) →
        flat_map (numbered_of m) (map (usage_of s) d) ≡ flat_map (numbered_of m) (map (usage_of s) (as_definitions (fragments d)))
    unfolding usage_of fragment_name fragments as_definitions numbered_of
    numbered-are [] = refl
    numbered-are (operation o ∷ d) =
        ap (λ l. l ++ flat_map (numbered_of m) (map (usage_of s) d)) (neither (has_variables (usage_of s (operation o)))) ∙ numbered-are d
    numbered-are (fragment f ∷ d) = ap (λ l. numbered_of m (usage_of s (fragment f)) ++ l) (numbered-are d)

    one-numbered : (f : Fragment) (i : ℕ) → named m f.name.item ≡ Some i → numbered_of m (usage_of s (fragment f)) ≡
        cond (has_variables (usage_of s (fragment f))) ((usage_of s (fragment f), i) ∷ []) []
    unfolding numbered_of usage_of fragment_name
    one-numbered f i e = ap (λ o. cond (has_variables (usage_of s (fragment f))) (map (λ j. (usage_of s (fragment f), j)) (option_to_list o)) []) e

    module _ (reach : Name → Bool) where
      abbrev chosen : List Fragment → List Usage
      chosen fs = filter has_variables (map (usage_of s) (as_definitions (filter (λ f. reach f.name.item) fs)))

      chosen-next : (f : Fragment) (fs : List Fragment) → chosen (f ∷ fs) ≡
          cond (reach f.name.item) (cond (has_variables (usage_of s (fragment f))) (usage_of s (fragment f) ∷ []) []) [] ++ chosen fs
      unfolding as_definitions
      chosen-next f fs = elim (cases_Bool (reach f.name.item)) [
        | inl q ↦ elim (cases_Bool (has_variables (usage_of s (fragment f)))) [ inl h ↦ rw q (rw h refl) | inr h ↦ rw q (rw h refl) ]
        | inr q ↦ rw q refl
      ]

      one-marked : (marks : List Bool) (u : Usage) (i : ℕ) (b r : Bool) → get_or marks i false ≡ r →
          flat_map (where_marked marks) (cond b ((u, i) ∷ []) []) ≡ cond r (cond b (u ∷ []) []) []
      one-marked marks u i true true e = ap (λ c. cond c (u ∷ []) [] ++ []) e
      one-marked marks u i true false e = ap (λ c. cond c (u ∷ []) [] ++ []) e
      one-marked marks u i false r e = sym (neither r)

      used-marked : (marks : List Bool) (fs : List Fragment) →
          ((f : Fragment) → In f fs → (i : ℕ) × (named m f.name.item ≡ Some i) × (get_or marks i false ≡ reach f.name.item)) →
          flat_map (where_marked marks) (flat_map (numbered_of m) (map (usage_of s) (as_definitions fs))) ≡ chosen fs
      unfolding as_definitions
      used-marked marks [] at = refl
      used-marked marks (f ∷ fs) at =
          let p = at f (inl refl) in
          let u = usage_of s (fragment f) in
          flat_map-append (where_marked marks) (numbered_of m u) (flat_map (numbered_of m) (map (usage_of s) (as_definitions fs)))
          ∙ (ap₂ (λ a b. a ++ b) (ap (flat_map (where_marked marks)) (one-numbered f p.0 p.1)
          ∙ one-marked marks u p.0 (has_variables u) (reach f.name.item) p.2)
          (used-marked marks fs (λ g i. at g (inr i))) ∙ sym (chosen-next f fs))

      none-chosen : (fs : List Fragment) → ((f : Fragment) → In f fs → (i : ℕ) × (named m f.name.item ≡ Some i)) →
          flat_map (numbered_of m) (map (usage_of s) (as_definitions fs)) ≡ [] → chosen fs ≡ []
      unfolding as_definitions
      none-chosen [] at e = refl
      none-chosen (f ∷ fs) at e =
          let p = at f (inl refl) in
          let u = usage_of s (fragment f) in
          let rest = flat_map (numbered_of m) (map (usage_of s) (as_definitions fs)) in
          let w = none (has_variables u) u p.0 (reach f.name.item) rest (sym (ap (λ l. l ++ rest) (one-numbered f p.0 p.1)) ∙ e) in
          chosen-next f fs ∙ ap₂ (λ a b. a ++ b) w.0 (none-chosen fs (λ g i. at g (inr i)) w.1)
        where
          none : (b : Bool) (u : Usage) (i : ℕ) (r : Bool) (rest : List (Usage × ℕ)) → (cond b ((u, i) ∷ []) [] ++ rest) ≡ [] →
              (cond r (cond b (u ∷ []) []) [] ≡ []) × (rest ≡ [])
          none true u i r rest e = absurd (let w = e in cc)
          none false u i r rest e = (neither r, e)

module _ (s : Schema) (d : Document) (r : UsesOfFragments) (are : AreUsesOfFragments s r d) (ks : List Name) where
  pub reached-are : (marks : List Bool) → IsReach (view_lists r.lists.items) (numbers_at r.numbers ks) marks →
      flat_map (where_marked marks) (view_all_numbered r.numbered.items) ≡ uses_reached s d ks
  unfolding uses_reached
  reached-are marks reach =
      ap (flat_map (where_marked marks)) are.numbered ∙ used-marked s r.numbers (is_reached (fragments d) ks) marks (fragments d) (λ f i.
      let w = are.numbers.all f.name.item (in-names (fragments d) f i) in
      (w.0, w.1, marked-is (fragments d) r.numbers are.numbers (view_lists r.lists.items) are.lists ks marks reach f.name.item w.0 w.1))

  pub none-reached : view_all_numbered r.numbered.items ≡ [] → [] ≡ uses_reached s d ks
  unfolding uses_reached
  none-reached none = sym (none-chosen s r.numbers (is_reached (fragments d) ks) (fragments d)
      (λ f i. are.numbers.all f.name.item (in-names (fragments d) f i)) (sym are.numbered ∙ none))

-- no names lead to none
pub none-lead : (s : Schema) (d : Document) → [] ≡ uses_reached s d []
unfolding uses_reached is_reached as_definitions
none-lead s d = ap (λ fs. filter has_variables (map (usage_of s) (as_definitions fs))) (sym (left-out (fragments d)))
  where
    left-out : (fs : List Fragment) → filter (λ f. is_reached (fragments d) [] f.name.item) fs ≡ []
    left-out [] = refl
    left-out (f ∷ fs) = left-out fs
