-- What is explained at each definition: what is explained so far, and then what the definitions that are left show.
use Rattle.std.proofs.Common.{◌≡◌, ℕ, ◌+◌, ◌<◌, ◌≤◌, Bool, true, false, cond, List, [], ◌∷◌, ◌++◌, length, get_or, take, drop, map, refl, sym, ap, append_assoc}
use Rattle.std.proofs.Common.{append-nil, ◌∙◌}
use Rattle.std.proofs.lemmas.List.{drop_all}
use Rattle.std.specs.List.{flat_map}
use Rattle.graphql_spec.specs.Documents.{Definition, Document}
use Rattle.graphql_spec.specs.Rules as rules
use Rattle.graphql_spec.specs.Rules.{at_each}
use Rattle.graphql_spec.specs.Schema.{Schema}
use Rattle.juniper_syntax.proofs.Lists.{left-is}
use Rattle.juniper_rules.proofs.AtEach.{earlier-is}
use Rattle.juniper_explain.specs.Explanations.{Explanation, Judgement, explanations_at, first_judged, has_any, judged}
use Rattle.juniper_explain.specs.Nodes.{explanations, judgements, name_findings, type_findings, use_findings}
use Rattle.juniper_explain.proofs.Telling.{errors-has, names-listed}

-- all that is explained at definitions
abbrev pub told : (List Definition → Definition → List (List Explanation)) → List Definition → List Definition → List Explanation
told f earlier xs = flat_map explanations_at (judged f earlier xs)

module _ {A : Type 0} (view : A → Definition) (f : List Definition → Definition → List (List Explanation)) (xs : List A) where
  -- the explanations so far, of the definitions before this place
  abbrev pub IsToldBefore : ℕ → List Explanation → Type 0
  IsToldBefore i es = es ++ told f (map view (take i xs)) (map view (drop i xs)) ≡ told f [] (map view xs)

  pub told-first : (es : List Explanation) → es ≡ [] → IsToldBefore 0 es
  told-first es none = rw (none) refl

  pub told-next : (i : ℕ) (x : A) → i < length xs → x ≡ get_or xs i x → (es fs : List Explanation) →
      fs ≡ es ++ flat_map (λ l. l) (f (map view (take i xs)) (view x)) → IsToldBefore i es → IsToldBefore (i + 1) fs
  unfolding judged explanations_at
  told-next i x below is es fs more so_far =
      ap (λ l. l ++ told f (map view (take (i + 1) xs)) (map view (drop (i + 1) xs))) more
      ∙ (append_assoc es (flat_map (λ l. l) (f (map view (take i xs)) (view x))) (told f (map view (take (i + 1) xs)) (map view (drop (i + 1) xs)))
      ∙ (ap (λ l. es ++ (flat_map (λ k. k) (f (map view (take i xs)) (view x)) ++ told f l (map view (drop (i + 1) xs)))) (earlier-is view xs i x below is)
      ∙ (ap (λ l. es ++ told f (map view (take i xs)) (map view l)) (sym (left-is xs i x below is)) ∙ so_far)))

  pub told-all : (i : ℕ) → length xs ≤ i → (es : List Explanation) → IsToldBefore i es → es ≡ told f [] (map view xs)
  unfolding judged
  told-all i past es so_far = sym (append-nil es) ∙ (ap (λ l. es ++ told f (map view (take i xs)) (map view l)) (sym (drop_all i xs past)) ∙ so_far)

-- ## Phases

pub none-has : {A : Type 0} (xs : List A) → has_any xs ≡ false → xs ≡ []
unfolding has_any
none-has [] is = refl
none-has (x ∷ xs) is = cc is

some-has : {A : Type 0} (xs : List A) → (xs ≡ [] → ⊥) → has_any xs ≡ true
unfolding has_any
some-has [] some = absurd (some refl)
some-has (x ∷ xs) some = refl

-- the first phase, where it finds something
first-some : (js ks : List Judgement) (es : List Explanation) → es ≡ flat_map explanations_at js → (es ≡ [] → ⊥) →
    es ≡ flat_map explanations_at (first_judged js ks)
unfolding first_judged
first-some js ks es e some =
    e ∙ sym (ap (λ b. flat_map explanations_at (cond b js ks)) (ap has_any (sym e) ∙ some-has es some))

-- the second, where the first finds nothing
first-none : (js ks : List Judgement) (es : List Explanation) → [] ≡ flat_map explanations_at js → es ≡ flat_map explanations_at ks →
    es ≡ flat_map explanations_at (first_judged js ks)
unfolding first_judged has_any
first-none js ks es none e = e ∙ sym (ap (λ b. flat_map explanations_at (cond b js ks)) (ap has_any (sym none)))

module _ (s : Schema) (disabled : Bool) (d : Document) where
  pub names-explained : (es : List Explanation) → es ≡ told (name_findings s d) [] d → (es ≡ [] → ⊥) → es ≡ explanations s disabled d
  unfolding explanations judgements
  names-explained es e some = first-some _ _ es e some

  pub types-explained : (es : List Explanation) → [] ≡ told (name_findings s d) [] d → es ≡ told (type_findings s) [] d → (es ≡ [] → ⊥) →
      es ≡ explanations s disabled d
  unfolding explanations judgements
  types-explained es names e some = first-none _ _ es names (first-some _ _ es e some)

  pub uses-explained : (es : List Explanation) → [] ≡ told (name_findings s d) [] d → [] ≡ told (type_findings s) [] d →
      es ≡ told (use_findings s disabled d) [] d → es ≡ explanations s disabled d
  unfolding explanations judgements
  uses-explained es names types e = first-none _ _ es names (first-none _ _ es types e)

  -- where no name is explained, no error of the first phase is listed
  pub no-names : [] ≡ told (name_findings s d) [] d → at_each (rules.name_errors s disabled d) [] d ≡ []
  unfolding has_any
  no-names none = names-listed s disabled d ∙ none-has _ (errors-has (judged (name_findings s d) [] d) ∙ ap has_any (sym none))
