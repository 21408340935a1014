-- Fragments that are found alike by their names are expanded alike (2.8, 5.5.2.2).
use Rattle.std.proofs.Common.{◌≡◌, ℕ, zero, suc, ◌||◌, Bool, true, false, cond, List, [], ◌∷◌, length, Option, Some, None, option_map, is_some}
use Rattle.std.proofs.Common.{refl, sym, ap, ◌∙◌, subst, inl, inr}
use Rattle.std.specs.List.{list_any}
use Rattle.std.specs.Str.{bytes_eq}
use Rattle.std.proofs.lemmas.Bool.{both_ways, or_cases, or_left, or_right, false_from_ne_true}
use Rattle.graphql_spec.specs.Shown.{Shown, Name}
use Rattle.graphql_spec.specs.Documents.{Directive, Selections, Fragment}
use Rattle.graphql_spec.specs.Directives.{admits}
use Rattle.graphql_spec.specs.Fragments.{Contents, HasNoCycle, asked, contents, deep, deep_in, expand, filled, fragment_of, plain, put_under, reaches}
use Rattle.graphql_spec.specs.Fragments.{spreads, spreads_in}
use Rattle.graphql_spec.specs.Selections.{Forest}
use Rattle.graphql_spec.specs.Laws.{In}
use Rattle.graphql_spec.proofs.Fragments.{contents-same}
use Rattle.graphql_spec.proofs.Cycles.{any-where, no_cycle}
use Rattle.juniper_lookahead.specs.Expansion.{FragmentsByName, fragments_among}
use Rattle.juniper_lookahead.proofs.ByName.{among-entries, named-among}
use Rattle.juniper_lookahead.proofs.FragmentMaps.{same}
use Rattle.juniper_lookahead.specs.Choices.{Core, core}
use Rattle.juniper_lookahead.specs.FragmentView.{ExpandAlike, fragment_at, fragment_named}

abbrev FoundAlike : List Fragment → List Fragment → Type 0
FoundAlike fs gs = (k : Name) → option_map core (fragment_of fs k) ≡ option_map core (fragment_of gs k)

-- ## Tests of lists of names

any-same : (f g : Name → Bool) → ((k : Name) → f k ≡ g k) → (ks : List Name) → list_any f ks ≡ list_any g ks
any-same f g e [] = refl
any-same f g e (k ∷ ks) = ap (λ b. b || list_any f ks) (e k) ∙ ap (λ b. g k || b) (any-same f g e ks)

any-one : (f : Name → Bool) (ks : List Name) (k : Name) → In k ks → f k ≡ true → list_any f ks ≡ true
any-one f [] k i e = absurd i
any-one f (j ∷ ks) k (inl q) e = or_left (f j) (list_any f ks) (subst (λ z. f z ≡ true) q e)
any-one f (j ∷ ks) k (inr i) e = or_right (f j) (list_any f ks) (any-one f ks k i e)

-- ## What depends on the core alone

abbrev spreads_of : Option Core → List Name
spreads_of None = []
spreads_of (Some c) = spreads c.selections

spreads-core : (o : Option Fragment) → spreads_in o ≡ spreads_of (option_map core o)
unfolding spreads_in
spreads-core None = refl
spreads-core (Some f) = refl

some-core : (o : Option Fragment) → is_some o ≡ is_some (option_map core o)
some-core None = refl
some-core (Some f) = refl

deep-spreads : (f : Name → Bool) (o : Option Fragment) → deep_in f o ≡ list_any f (spreads_in o)
unfolding deep_in spreads_in
deep-spreads f None = refl
deep-spreads f (Some x) = refl

abbrev filled_core : (Selections → Forest) → Option Core → Option Contents
filled_core f None = None
filled_core f (Some c) = Some (record { condition = c.condition.item; selections = f c.selections })

filled-core : (f : Selections → Forest) (o : Option Fragment) → filled f o ≡ filled_core f (option_map core o)
unfolding filled
filled-core f None = refl
filled-core f (Some x) = refl

filled_core-same : (f g : Selections → Forest) → ((s : Selections) → f s ≡ g s) → (o : Option Core) → filled_core f o ≡ filled_core g o
filled_core-same f g e None = refl
filled_core-same f g e (Some c) = ap (λ s. Some (record { condition = c.condition.item; selections = s })) (e c.selections)

plain-alike : (test : Directive → Bool) (f g : Name → Option Contents) → ((k : Name) → f k ≡ g k) → (s : Selections) → plain test f s ≡ plain test g s
unfolding plain
plain-alike test f g e Selections.end = refl
plain-alike test f g e (Selections.field h below rest) =
    ap (λ z. cond (admits test h.directives) (Forest.field h z (plain test f rest)) (plain test f rest)) (plain-alike test f g e below)
    ∙ ap (λ z. cond (admits test h.directives) (Forest.field h (plain test g below) z) z) (plain-alike test f g e rest)
plain-alike test f g e (Selections.spread x rest) =
    ap (λ z. cond (admits test x.directives) (put_under z (plain test f rest)) (plain test f rest)) (e x.name.item)
    ∙ ap (λ z. cond (admits test x.directives) (put_under (g x.name.item) z) z) (plain-alike test f g e rest)
plain-alike test f g e (Selections.inline x below rest) =
    ap (λ z. cond (admits test x.directives) (Forest.under (asked x.condition) z (plain test f rest)) (plain test f rest)) (plain-alike test f g e below)
    ∙ ap (λ z. cond (admits test x.directives) (Forest.under (asked x.condition) (plain test g below) z) z) (plain-alike test f g e rest)

-- ## A name that reaches itself is deep

module _ (fs : List Fragment) where
  known-spreads : (o : Option Fragment) (k : Name) → In k (spreads_in o) → is_some o ≡ true
  unfolding spreads_in
  known-spreads None k i = absurd i
  known-spreads (Some x) k i = refl

  -- what is deeper than n + 1 is deeper than n
  less-deep : (n : ℕ) (k : Name) → deep fs (suc n) k ≡ true → deep fs n k ≡ true
  unfolding deep
  less-deep zero k e = let r = any-where (deep fs zero) (spreads_in (fragment_of fs k))
      (sym (deep-spreads (deep fs zero) (fragment_of fs k)) ∙ e) in known-spreads (fragment_of fs k) r.0 r.1
  less-deep (suc n) k e =
      let r = any-where (deep fs (suc n)) (spreads_in (fragment_of fs k)) (sym (deep-spreads (deep fs (suc n)) (fragment_of fs k)) ∙ e) in
      deep-spreads (deep fs n) (fragment_of fs k) ∙ any-one (deep fs n) (spreads_in (fragment_of fs k)) r.0 r.1 (less-deep n r.0 r.2)

  one-deeper : (m : ℕ) (k i : Name) → In i (spreads_in (fragment_of fs k)) → deep fs m i ≡ true → deep fs (suc m) k ≡ true
  unfolding deep
  one-deeper m k i among e = deep-spreads (deep fs m) (fragment_of fs k) ∙ any-one (deep fs m) (spreads_in (fragment_of fs k)) i among e

  same-deep : (m : ℕ) (j i : Name) → bytes_eq j i ≡ true → deep fs m j ≡ true → deep fs m i ≡ true
  same-deep m j i q e = subst (λ z. deep fs m z ≡ true) (same j i q) e

  -- what reaches a deep name is one deeper
  reach-deeper : (n m : ℕ) (k j : Name) → reaches fs n k j ≡ true → deep fs m j ≡ true → deep fs (suc m) k ≡ true
  unfolding reaches
  reach-deeper zero m k j e d = absurd (both_ways false refl e)
  reach-deeper (suc n) m k j e d =
      let r = any-where (λ i. bytes_eq j i || reaches fs n i j) (spreads_in (fragment_of fs k)) e in
      elim (or_cases (bytes_eq j r.0) (reaches fs n r.0 j) r.2) [
        | inl q ↦ one-deeper m k r.0 r.1 (same-deep m j r.0 q d)
        | inr q ↦ one-deeper m k r.0 r.1 (less-deep m r.0 (reach-deeper n m r.0 j q d))
      ]

  reach-known : (n : ℕ) (k j : Name) → reaches fs n k j ≡ true → is_some (fragment_of fs k) ≡ true
  unfolding reaches
  reach-known zero k j e = absurd (both_ways false refl e)
  reach-known (suc n) k j e = let r = any-where (λ i. bytes_eq j i || reaches fs n i j) (spreads_in (fragment_of fs k)) e in known-spreads
      (fragment_of fs k) r.0 r.1

  round-deep : (n : ℕ) (k : Name) → reaches fs n k k ≡ true → (m : ℕ) → deep fs m k ≡ true
  unfolding deep
  round-deep n k e zero = reach-known n k k e
  round-deep n k e (suc m) = reach-deeper n m k k e (round-deep n k e m)

  never-round : HasNoCycle fs → (n : ℕ) (k : Name) → reaches fs n k k ≡ false
  never-round none n k = false_from_ne_true (reaches fs n k k) (λ e. both_ways (deep fs (length fs) k) (none k) (round-deep n k e (length fs)))

-- ## Fragments that are found alike

module _ (fs gs : List Fragment) (found : FoundAlike fs gs) where
  same-spreads : (k : Name) → spreads_in (fragment_of fs k) ≡ spreads_in (fragment_of gs k)
  same-spreads k = spreads-core (fragment_of fs k) ∙ (ap spreads_of (found k) ∙ sym (spreads-core (fragment_of gs k)))

  same-reach : (n : ℕ) (k j : Name) → reaches fs n k j ≡ reaches gs n k j
  unfolding reaches
  same-reach zero k j = refl
  same-reach (suc n) k j =
      any-same (λ i. bytes_eq j i || reaches fs n i j) (λ i. bytes_eq j i || reaches gs n i j) (λ i. ap (λ b. bytes_eq j i || b) (same-reach n i j))
      (spreads_in (fragment_of fs k))
      ∙ ap (list_any (λ i. bytes_eq j i || reaches gs n i j)) (same-spreads k)

  same-deep-in : (n : ℕ) (k : Name) → deep fs n k ≡ deep gs n k
  unfolding deep
  same-deep-in zero k = some-core (fragment_of fs k) ∙ (ap is_some (found k) ∙ sym (some-core (fragment_of gs k)))
  same-deep-in (suc n) k = deep-spreads (deep fs n) (fragment_of fs k)
      ∙ (any-same (deep fs n) (deep gs n) (same-deep-in n) (spreads_in (fragment_of fs k))
      ∙ (ap (list_any (deep gs n)) (same-spreads k) ∙ sym (deep-spreads (deep gs n) (fragment_of gs k))))

  same-contents : (test : Directive → Bool) (n : ℕ) (k : Name) → contents test fs n k ≡ contents test gs n k
  unfolding contents
  same-contents test zero k = refl
  same-contents test (suc n) k =
      filled-core (plain test (contents test fs n)) (fragment_of fs k)
      ∙ (filled_core-same (plain test (contents test fs n)) (plain test (contents test gs n))
      (plain-alike test (contents test fs n) (contents test gs n) (same-contents test n)) (option_map core (fragment_of fs k))
      ∙ (ap (filled_core (plain test (contents test gs n))) (found k) ∙ sym (filled-core (plain test (contents test gs n)) (fragment_of gs k))))

  alike-acyclic : HasNoCycle fs → HasNoCycle gs
  alike-acyclic none = no_cycle gs (λ k. sym (same-reach (length gs) k k) ∙ never-round fs none (length gs) k)

  alike-expand : HasNoCycle fs → ExpandAlike gs fs
  unfolding expand
  alike-expand none test s = sym (plain-alike test (contents test fs (length fs)) (contents test gs (length gs))
      (λ k. contents-same test fs (length fs) (length gs) k (none k) (same-deep-in (length gs) k ∙ alike-acyclic none k) ∙ same-contents test (length gs) k) s)

-- ## The fragments of a map

module _ {S : Type 0} (shown : S → Shown) where
  map-found : (m : FragmentsByName S) (fs : List Fragment) → ((k : Name) → fragment_at shown m k ≡ fragment_named fs k)
      → FoundAlike fs (fragments_among shown m)
  unfolding fragments_among fragment_at fragment_named
  map-found m fs same k = named-among shown m.entries k fs (same k) ∙ sym (among-entries shown m.entries k)

  pub map-acyclic : (m : FragmentsByName S) (fs : List Fragment) → ((k : Name) → fragment_at shown m k ≡ fragment_named fs k) → HasNoCycle fs
      → HasNoCycle (fragments_among shown m)
  map-acyclic m fs same none = alike-acyclic fs (fragments_among shown m) (map-found m fs same) none

  pub map-alike : (m : FragmentsByName S) (fs : List Fragment) → ((k : Name) → fragment_at shown m k ≡ fragment_named fs k) → HasNoCycle fs
      → ExpandAlike (fragments_among shown m) fs
  map-alike m fs same none = alike-expand fs (fragments_among shown m) (map-found m fs same) none
