-- What an execution meets is at most what is counted, and it goes no deeper.
use Rattle.std.specs.Prelude.{ℕ, zero, suc, ◌+◌, ◌<◌, ◌≤◌, Bool, true, false, List, [], ◌∷◌, length, sum_by, Option, Some, None, ◌≡◌}
use Rattle.std.specs.List.{list_any}
use Rattle.std.proofs.lemmas.Bool.{cases_Bool}
use Rattle.std.proofs.Common.{refl, inl, inr, sym, arith}
use Rattle.graphql_spec.specs.Shown.{Name}
use Rattle.graphql_spec.specs.Documents.{Directive, Fragment, Selections, response_key}
use Rattle.graphql_spec.specs.Directives.{admits}
use Rattle.graphql_spec.specs.Fragments.{Contents, contents, deep, expand, filled, fragment_of, plain, put_under, spreads}
use Rattle.graphql_spec.specs.Selections.{Forest, Occurrence, all_below, applies, chain, depth, end, field, occurrences, under}
use Rattle.std.proofs.lemmas.List.Sums.{sum_by-append, sum_by-cons}
use Rattle.juniper_written.specs.ExpandedFields.{expanded_fields, fields_in, is_endless}
use Rattle.juniper_written.specs.ExpandedLevels.{expanded_levels, nested}
use Rattle.juniper_written.specs.Kept.{number_behind}
use Rattle.juniper_written.specs.Measures.{Measure, join, measured, of_fields, of_levels, put_in}
use Rattle.juniper_written.specs.Bounds.{BoundsDepth, BoundsExecution, BoundsLevels, CountsFields, CountsLevels, MetIsCollected, MetIsMerged, Way, met}
use Rattle.juniper_written.proofs.Measuring.{fields-measured, join-grows, join-right, join-zero, nested-measured, put-grows}

-- ## What is met are the fields that are collected

module _ (possible : Name → Name → Bool) (types : Way → Name) where
  -- one occurrence, with what it selects
  abbrev below-one : Way → Occurrence → ℕ
  below-one here o = suc (met possible types (response_key o.head ∷ here) o.below)

  collected : (here : Way) (f : Forest) → met possible types here f ≡ sum_by (below-one here) (occurrences possible (types here) f)
  unfolding met occurrences
  collected here end = refl
  collected here (field h below rest) =
      let t = collected here rest in
      let one = sum_by-cons (below-one here) (record { head = h; below = below }) (occurrences possible (types here) rest) in omega (arith, t, one)
  collected here (under c below rest) = let t = collected here rest in elim (cases_Bool (applies possible (types here) c)) [
    | inl e ↦ let b = collected here below in
        let s = sum_by-append (below-one here) (occurrences possible (types here) below) (occurrences possible (types here) rest) in
        rw e (omega (arith, t, b, s))
    | inr e ↦ rw e (omega (arith, t))
  ]

  chained : (here : Way) (f g : Forest) → met possible types here (chain f g) ≡ met possible types here f + met possible types here g
  unfolding met chain
  chained here end g = omega arith
  chained here (field h below rest) g = let t = chained here rest g in omega (arith, t)
  chained here (under c below rest) g = let t = chained here rest g in omega (arith, t)

  merged : (here : Way) (os : List Occurrence) → met possible types here (all_below os) ≡ sum_by (λ o. met possible types here o.below) os
  unfolding met all_below
  merged here [] = refl
  merged here (o ∷ os) =
      let t = merged here os in let c = chained here o.below (all_below os) in
      let one = sum_by-cons (λ (x : Occurrence). met possible types here x.below) o os in omega (arith, t, c, one)

  -- whatever the types, no more than the fields
  met-at-most : (here : Way) (f : Forest) → met possible types here f ≤ fields_in f
  unfolding met fields_in
  met-at-most here end = omega arith
  met-at-most here (field h below rest) =
      let b = met-at-most (response_key h ∷ here) below in let t = met-at-most here rest in omega (arith, b, t)
  met-at-most here (under c below rest) = let t = met-at-most here rest in elim (cases_Bool (applies possible (types here) c)) [
    | inl e ↦ let b = met-at-most here below in rw e (omega (arith, b, t))
    | inr e ↦ rw e (omega (arith, t))
  ]

pub met_is_collected : MetIsCollected
met_is_collected possible types here f = collected possible types here f

pub met_is_merged : MetIsMerged
met_is_merged possible types here os = merged possible types here os

-- ## Directives leave out, and add nothing

pub admits-all : (ds : List Directive) → admits (λ d. true) ds ≡ true
unfolding admits
admits-all [] = refl
admits-all (d ∷ ds) = admits-all ds

pub put-number : (m : Measure) (o : Option Contents) (rest : Forest) → measured m (put_under o rest) ≡ join m (number_behind m o) (measured m rest)
unfolding put_under measured number_behind
put-number m None rest = sym (join-zero m (measured m rest))
put-number m (Some c) rest = refl

module _ (m : Measure) (test : Directive → Bool) where
  -- what is left out of a part, before what follows it
  left-out : (a b c : ℕ) → b ≤ c → b ≤ join m a c
  left-out a b c p = let r = join-right m a c in omega (arith, p, r)

  plain-at-most : (f g : Name → Option Contents) → ((k : Name) → number_behind m (f k) ≤ number_behind m (g k)) → (s : Selections) →
      measured m (plain test f s) ≤ measured m (plain (λ d. true) g s)
  unfolding plain measured
  plain-at-most f g h Selections.end = omega arith
  plain-at-most f g h (Selections.field x below rest) =
      let b = plain-at-most f g h below in let t = plain-at-most f g h rest in
      let p = measured m (plain test f below) in let q = measured m (plain (λ d. true) g below) in
      let r = measured m (plain test f rest) in let u = measured m (plain (λ d. true) g rest) in
      rw (admits-all x.directives) (elim (cases_Bool (admits test x.directives)) [
        | inl e ↦ rw e (join-grows m (suc p) r (suc q) u (omega (arith, b)) t)
        | inr e ↦ rw e (left-out (suc q) r u t)
      ])
  plain-at-most f g h (Selections.spread x rest) =
      let b = h x.name.item in let t = plain-at-most f g h rest in
      let p = number_behind m (f x.name.item) in let q = number_behind m (g x.name.item) in
      let r = measured m (plain test f rest) in let u = measured m (plain (λ d. true) g rest) in
      let v = put-number m (f x.name.item) (plain test f rest) in let w = put-number m (g x.name.item) (plain (λ d. true) g rest) in
      rw (admits-all x.directives) (elim (cases_Bool (admits test x.directives)) [
        | inl e ↦ rw e (let l = join-grows m p r q u b t in omega (arith, l, v, w))
        | inr e ↦ rw e (let l = left-out q r u t in omega (arith, l, w))
      ])
  plain-at-most f g h (Selections.inline x below rest) =
      let b = plain-at-most f g h below in let t = plain-at-most f g h rest in
      let p = measured m (plain test f below) in let q = measured m (plain (λ d. true) g below) in
      let r = measured m (plain test f rest) in let u = measured m (plain (λ d. true) g rest) in
      rw (admits-all x.directives) (elim (cases_Bool (admits test x.directives)) [
        | inl e ↦ rw e (join-grows m (put_in m p) r (put_in m q) u (put-grows m p q b) t)
        | inr e ↦ rw e (left-out (put_in m q) r u t)
      ])

  filled-at-most : (f g : Selections → Forest) → ((s : Selections) → measured m (f s) ≤ measured m (g s)) → (o : Option Fragment) →
      number_behind m (filled f o) ≤ number_behind m (filled g o)
  unfolding filled number_behind
  filled-at-most f g h None = omega arith
  filled-at-most f g h (Some x) = put-grows m (measured m (f x.selections)) (measured m (g x.selections)) (h x.selections)

  contents-at-most : (fragments : List Fragment) (n : ℕ) (k : Name) →
      number_behind m (contents test fragments n k) ≤ number_behind m (contents (λ d. true) fragments n k)
  unfolding contents
  contents-at-most fragments zero k = omega arith
  contents-at-most fragments (suc n) k =
      filled-at-most (plain test (contents test fragments n)) (plain (λ d. true) (contents (λ d. true) fragments n))
      (λ s. plain-at-most (contents test fragments n) (contents (λ d. true) fragments n) (contents-at-most fragments n) s) (fragment_of fragments k)

  measured-at-most : (fragments : List Fragment) (s : Selections) → measured m (expand test fragments s) ≤ measured m (expand (λ d. true) fragments s)
  unfolding expand
  measured-at-most fragments s = plain-at-most (contents test fragments (length fragments)) (contents (λ d. true) fragments (length fragments))
      (contents-at-most fragments (length fragments)) s

expand-at-most : (test : Directive → Bool) (fragments : List Fragment) (s : Selections) →
    fields_in (expand test fragments s) ≤ fields_in (expand (λ d. true) fragments s)
expand-at-most test fragments s =
    let l = measured-at-most of_fields test fragments s in
    let a = fields-measured (expand test fragments s) in let b = fields-measured (expand (λ d. true) fragments s) in omega (arith, l, a, b)

nested-at-most : (test : Directive → Bool) (fragments : List Fragment) (s : Selections) →
    nested (expand test fragments s) ≤ nested (expand (λ d. true) fragments s)
nested-at-most test fragments s =
    let l = measured-at-most of_levels test fragments s in
    let a = nested-measured (expand test fragments s) in let b = nested-measured (expand (λ d. true) fragments s) in omega (arith, l, a, b)

-- no more fields stand inside one another than there are
depth-at-most : (f : Forest) → depth f ≤ fields_in f
unfolding depth fields_in
depth-at-most end = omega arith
depth-at-most (field h below rest) = let b = depth-at-most below in let t = depth-at-most rest in omega (arith, b, t)
depth-at-most (under c below rest) = let b = depth-at-most below in let t = depth-at-most rest in omega (arith, b, t)

-- nor than fields, spreads and inline fragments do
depth-nested : (f : Forest) → depth f ≤ nested f
unfolding depth nested
depth-nested end = omega arith
depth-nested (field h below rest) = let b = depth-nested below in let t = depth-nested rest in omega (arith, b, t)
depth-nested (under c below rest) = let b = depth-nested below in let t = depth-nested rest in omega (arith, b, t)

pub bounds_levels : BoundsLevels
unfolding expanded_levels
bounds_levels most fragments s below test =
    let x = nested-at-most test fragments s in
    let d = depth-nested (expand test fragments s) in
    elim (cases_Bool (is_endless fragments s)) [
      | inl e ↦ let no : most < most = rw e at below in absurd (omega (arith, no))
      | inr e ↦ let some = rw e at below in (rw e (omega (arith, x, some)), rw e (omega (arith, x, d, some)))
    ]

pub bounds_depth : BoundsDepth
unfolding expanded_fields
bounds_depth most fragments s below test =
    let d = depth-at-most (expand test fragments s) in
    let x = expand-at-most test fragments s in
    elim (cases_Bool (is_endless fragments s)) [
      | inl e ↦ let no : most < most = rw e at below in absurd (omega (arith, no))
      | inr e ↦ let some = rw e at below in rw e (omega (arith, d, x, some))
    ]

pub bounds_execution : BoundsExecution
unfolding expanded_fields
bounds_execution most fragments s below test possible types =
    let m = met-at-most possible types [] (expand test fragments s) in
    let x = expand-at-most test fragments s in
    elim (cases_Bool (is_endless fragments s)) [
      | inl e ↦ let no : most < most = rw e at below in absurd (omega (arith, no))
      | inr e ↦ let some = rw e at below in rw e (omega (arith, m, x, some))
    ]

none-of : (f : Name → Bool) → ((k : Name) → f k ≡ false) → (ks : List Name) → list_any f ks ≡ false
none-of f none [] = refl
none-of f none (k ∷ ks) = rw (none k) (none-of f none ks)

pub counts_fields : CountsFields
unfolding expanded_fields is_endless
counts_fields most fragments none s = rw (none-of (deep fragments (length fragments)) none (spreads s)) refl

pub counts_levels : CountsLevels
unfolding expanded_levels is_endless
counts_levels most fragments none s = rw (none-of (deep fragments (length fragments)) none (spreads s)) refl
