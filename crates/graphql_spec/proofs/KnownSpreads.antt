-- Where the rules on names find nothing, spreads are known and come to an end.
use Rattle.std.specs.Prelude.{ℕ, true, false, ◌||◌, [], ◌∷◌, ◌≡◌, zero, suc, length, Option, Some, None, IsTrue}
use Rattle.std.specs.List.{list_any}
use Rattle.std.specs.Option.{is_some, is_none}
use Rattle.std.specs.Str.{bytes_eq}
use Rattle.std.proofs.lemmas.Bool.{cases_Bool, both_ways, or_parts, false_from_ne_true}
use Rattle.std.proofs.Common.{refl, sym, ap, ◌∙◌, inl, inr, subst, arith}
use Rattle.graphql_spec.specs.Shown.{Name}
use Rattle.graphql_spec.specs.Documents.{Definition, operation, fragment, Document, fragments, Fragment}
use Rattle.graphql_spec.specs.Fragments.{fragment_of, spreads, spreads_in, reaches}
use Rattle.graphql_spec.specs.Written.{selections_of}
use Rattle.graphql_spec.specs.Rules.{spreads_unknown, spreads_itself}
use Rattle.graphql_spec.specs.Laws.{In}
use Rattle.graphql_spec.specs.ValidityLaws.{NamesEndSpreads, NamesExpandInPlace, NamesKnowSpreads}
use Rattle.graphql_spec.proofs.Lists.{same_true}
use Rattle.graphql_spec.proofs.Cycles.{no_cycle, reach-more, any-where}
use Rattle.graphql_spec.proofs.Fragments.{any-at, expands_in_place}
use Rattle.graphql_spec.proofs.Found.{names-hold}

-- ## The fragment of a name

-- it stands in the document, under that name
pub found-fragment : (d : Document) (k : Name) (f : Fragment) → fragment_of (fragments d) k ≡ Some f → In (fragment f) d × (k ≡ f.name.item)
unfolding fragments fragment_of
found-fragment [] k f e = cc
found-fragment (operation o ∷ d) k f e = let r = found-fragment d k f e in (inr r.0, r.1)
found-fragment (fragment g ∷ d) k f e = elim (cases_Bool (bytes_eq k g.name.item)) [
  | inl q ↦ let w : g ≡ f = got (rw q at e) in (inl (ap fragment (sym w)), same_true k g.name.item q ∙ ap (λ z. z.name.item) w)
  | inr q ↦ let r = found-fragment d k f (rw q at e) in (inr r.0, r.1)
]
  where
    got : {A : Type 0} {x y : A} → Some x ≡ Some y → x ≡ y
    got e = cc

-- ## Cycles

module _ (d : Document) (good : (x : Definition) → In x d → spreads_itself d x ≡ false) where
  -- what a fragment spreads does not reach it
  kept-apart : (n : ℕ) (k : Name) (f : Fragment) → length (fragments d) ≡ suc n → fragment_of (fragments d) k ≡ Some f →
      list_any (λ i. bytes_eq k i || reaches (fragments d) n i k) (spreads f.selections) ≡ false
  unfolding spreads_itself
  kept-apart n k f l e =
      let p = found-fragment d k f e in
      let g : list_any (λ i. bytes_eq f.name.item i || reaches (fragments d) (length (fragments d)) i f.name.item) (spreads f.selections)
      ≡ false = good (fragment f) p.0 in
      let h : list_any (λ i. bytes_eq k i || reaches (fragments d) (length (fragments d)) i k) (spreads f.selections) ≡ false =
      subst (λ z. list_any (λ i. bytes_eq z i || reaches (fragments d) (length (fragments d)) i z) (spreads f.selections) ≡ false) (sym p.1) g in
      false_from_ne_true _ (λ t.
      let w = any-where (λ i. bytes_eq k i || reaches (fragments d) n i k) (spreads f.selections) t in
      let q = or_parts (bytes_eq k w.0) (reaches (fragments d) (length (fragments d)) w.0 k)
      (any-at (λ i. bytes_eq k i || reaches (fragments d) (length (fragments d)) i k) (spreads f.selections) w.0 h w.1) in
      let later : reaches (fragments d) n w.0 k ≡ true = ap (λ b. b || reaches (fragments d) n w.0 k) (sym q.0) ∙ w.2 in
      both_ways (reaches (fragments d) (length (fragments d)) w.0 k) q.1 (reach-more (fragments d) n (length (fragments d)) w.0 k (omega (arith, l)) later))

  not-round : (n : ℕ) (k : Name) → length (fragments d) ≡ n → reaches (fragments d) n k k ≡ false
  unfolding reaches spreads_in
  not-round zero k l = refl
  not-round (suc n) k l = go (fragment_of (fragments d) k) refl
    where
      go : (o : Option Fragment) → fragment_of (fragments d) k ≡ o → list_any (λ i. bytes_eq k i || reaches (fragments d) n i k) (spreads_in o) ≡ false
      go None e = refl
      go (Some f) e = kept-apart n k f l e

-- ## The laws

pub names_end_spreads : NamesEndSpreads
names_end_spreads s disabled d e = no_cycle (fragments d) (λ k. not-round d (λ x i. (names-hold s disabled d e x i).spreads_end) (length (fragments d)) k refl)

pub names_expand_in_place : NamesExpandInPlace
names_expand_in_place s disabled d e test set = expands_in_place test (fragments d) (names_end_spreads s disabled d e) set

pub is-there : {A : Type 0} (o : Option A) → is_none o ≡ false → IsTrue (is_some o)
is-there None e = cc
is-there (Some x) e = refl

pub there : {A : Type 0} (o : Option A) → is_some o ≡ true → (x : A) × (o ≡ Some x)
there None e = absurd (both_ways false refl e)
there (Some x) e = (x, refl)

pub names_know_spreads : NamesKnowSpreads
unfolding spreads_unknown
names_know_spreads s disabled d e x i k j =
    is-there (fragment_of (fragments d) k) (any-at (λ k. is_none (fragment_of (fragments d) k)) (spreads (selections_of x)) k
    (names-hold s disabled d e x i).spreads_known j)
