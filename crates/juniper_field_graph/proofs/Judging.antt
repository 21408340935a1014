-- Whether all sets of a definition merge.
use Rattle.std.proofs.Common.{◌≡◌, ℕ, Bool, true, false, not, ◌&&◌, List, [], ◌∷◌, ◌++◌, Option, Some, None, map, inl, inr, refl, sym, ap, ◌∙◌}
use Rattle.std.specs.List.{list_all}
use Rattle.std.proofs.lemmas.Bool.{and_from, and_parts, both_ways, cases_Bool}
use Rattle.std.proofs.lemmas.List.Folds.{list_all-append}
use Rattle.graphql_spec.specs.Shown.{Name}
use Rattle.graphql_spec.specs.Types.{innermost}
use Rattle.graphql_spec.specs.Documents.{operation, fragment, Definition, Document, Fragment, fragments, Head, Operation, Selections, end, field, spread}
use Rattle.graphql_spec.specs.Documents.{inline, name_or}
use Rattle.graphql_spec.specs.Schema.{Schema}
use Rattle.graphql_spec.specs.Fields.{declared_type, field_of}
use Rattle.graphql_spec.specs.Placed.{root_type}
use Rattle.graphql_spec.specs.Laws.{In}
use Rattle.graphql_spec.specs.Merging.{definition_merges, each_two, set_merges, sets_merge}
use Rattle.graphql_spec.specs.ValidityLaws.{PlacedSet, sets_below, sets_from}
use Rattle.juniper_merging.specs.MergingGraph.{FieldAt, each_pair_at, set_merges_at}
use Rattle.juniper_merging.specs.Standing.{AreNumbered, Covers}
use Rattle.juniper_merging.proofs.Tests.{all-from}
use Rattle.juniper_merging.proofs.Whole.{whole}
use Rattle.graphql_spec.specs.Rules.{cannot_merge}
use Rattle.juniper_field_graph.specs.Gathering.{AreCovered, AreSets, IsAnswer, IsCovered, IsListed, Pairwise, StandsIn, sets_if, sets_in}
use Rattle.juniper_field_graph.proofs.SetTables.{list-of, number-of}

and-assoc : (a b c : Bool) → (a && b && c) ≡ (a && (b && c))
and-assoc true b c = refl
and-assoc false b c = refl

-- a test that one of the list fails
all-fails : {A : Type 0} (test : A → Bool) (xs : List A) (x : A) → In x xs → test x ≡ false → list_all test xs ≡ false
all-fails test [] x i e = absurd i
all-fails test (y ∷ xs) x (inl q) e = let f : test y ≡ false = sym (ap test q) ∙ e in rw (f) refl
all-fails test (y ∷ xs) x (inr i) e = elim (cases_Bool (test y)) [
  | inl q ↦ rw (q) (all-fails test xs x i e)
  | inr q ↦ rw (q) refl
]

module _ {A : Type 0} (R : A → A → Bool) where
  all-first : (test : A → Bool) (xs ys : List A) → list_all test (xs ++ ys) ≡ true → list_all test xs ≡ true
  all-first test xs ys e = (and_parts (list_all test xs) (list_all test ys) (sym (list_all-append test xs ys) ∙ e)).0

  -- each two of some first ones, and of some last ones
  each-first : (xs ys : List A) → each_two R (xs ++ ys) ≡ true → each_two R xs ≡ true
  unfolding each_two
  each-first [] ys e = refl
  each-first (x ∷ xs) ys e =
      let p = and_parts (list_all (R x) (xs ++ ys)) (each_two R (xs ++ ys)) e in
      and_from (list_all (R x) xs) (each_two R xs) (all-first (R x) xs ys p.0) (each-first xs ys p.1)

  each-second : (xs ys : List A) → each_two R (xs ++ ys) ≡ true → each_two R ys ≡ true
  unfolding each_two
  each-second [] ys e = e
  each-second (x ∷ xs) ys e = each-second xs ys (and_parts (list_all (R x) (xs ++ ys)) (each_two R (xs ++ ys)) e).1

module _ (s : Schema) (fs : List Fragment) where
  -- the set merges
  abbrev pub merges : PlacedSet → Bool
  merges x = set_merges s fs x.parent x.selections

  -- ## The definition, set by set

  pub below-all : (p : Name) (set : Selections) → sets_merge s fs p set ≡ list_all merges (sets_below s p set)
  unfolding sets_merge sets_below
  below-all p end = refl
  below-all p (field h below rest) =
      let q = innermost (declared_type (field_of s p h.name.item)) in
      (λ t. (set_merges s fs q below && below-all q below t) && below-all p rest t)
      ∙ (and-assoc (set_merges s fs q below) (list_all merges (sets_below s q below)) (list_all merges (sets_below s p rest))
      ∙ ap (λ b. set_merges s fs q below && b) (sym (list_all-append merges (sets_below s q below) (sets_below s p rest))))
  below-all p (spread x rest) = below-all p rest
  below-all p (inline x below rest) =
      let q = name_or x.condition p in
      (λ t. (set_merges s fs q below && below-all q below t) && below-all p rest t)
      ∙ (and-assoc (set_merges s fs q below) (list_all merges (sets_below s q below)) (list_all merges (sets_below s p rest))
      ∙ ap (λ b. set_merges s fs q below && b) (sym (list_all-append merges (sets_below s q below) (sets_below s p rest))))

  pub from-all : (p : Name) (set : Selections) → (set_merges s fs p set && sets_merge s fs p set) ≡ list_all merges (sets_from s p set)
  unfolding sets_from
  from-all p set = ap (λ b. set_merges s fs p set && b) (below-all p set)

  -- ## What the searches answer

  module _ (vs : List FieldAt) (words : ℕ → Head) (numbered : AreNumbered s vs words) where
    -- no fields merge
    none-merge : (n : ℕ) → set_merges_at vs n [] ≡ true
    unfolding set_merges_at each_pair_at each_two
    none-merge n = refl

    merges-by : (x : PlacedSet) (n : List ℕ) → Covers s vs words fs x.parent x.selections n → ((d : ℕ) → set_merges_at vs d n ≡ true) → merges x ≡ true
    merges-by x n c all = sym (whole s vs words numbered fs x.parent x.selections n c true (λ e. all) (λ e. absurd (never e)))
      where
        never : true ≡ false → ⊥
        never e = cc

    fails-by : (x : PlacedSet) (n : List ℕ) → Covers s vs words fs x.parent x.selections n → ((d : ℕ) × (set_merges_at vs d n ≡ false)) → merges x ≡ false
    fails-by x n c some = sym (whole s vs words numbered fs x.parent x.selections n c false (λ e. absurd (never e)) (λ e. some))
      where
        never : false ≡ true → ⊥
        never e = cc

    -- what merges to each depth merges in each stretch of it
    stretch-merges : (d : ℕ) (m n : List ℕ) → StandsIn m n → set_merges_at vs d n ≡ true → set_merges_at vs d m ≡ true
    unfolding set_merges_at each_pair_at
    stretch-merges d m n (before, after, e) all =
        each-first _ m after (each-second _ before (m ++ after) (ap (set_merges_at vs d) (sym e) ∙ all))

    -- what stands for a set that merges does, to each depth
    set-merges : (x : PlacedSet) (n : List ℕ) → Covers s vs words fs x.parent x.selections n → merges x ≡ true → (d : ℕ) → set_merges_at vs d n ≡ true
    set-merges x n c e d = elim (cases_Bool (set_merges_at vs d n)) [
      | inl q ↦ q
      | inr q ↦ absurd (both_ways (merges x) (fails-by x n c (d, q)) e)
    ]

    covered-merges : (x : PlacedSet) (ms : List (List ℕ)) → IsCovered s fs vs words x ms →
        ((n : List ℕ) → In n ([] ∷ ms) → (d : ℕ) → set_merges_at vs d n ≡ true) → merges x ≡ true
    covered-merges x ms a each = merges-by x a.part.own a.part.covers
        (λ d. stretch-merges d a.part.own a.all a.part.stands
        (set-merges a.outer a.all a.covers (merges-by a.outer a.kept a.covers_kept (each a.kept a.listed)) d))

    pub all-judged : (t : List (List ℕ)) (xs : List PlacedSet) (bs : List ℕ) (ms : List (List ℕ)) → AreSets t bs ms → AreCovered s fs vs words xs ms →
        (c : Bool) →
        IsAnswer vs t bs c → not c ≡ list_all merges xs
    all-judged t xs bs ms are c false (all, some) = sym (all-from merges xs (λ x i. covered-merges x ms (c.one x i) each))
      where
        each : (m : List ℕ) → In m ([] ∷ ms) → (d : ℕ) → set_merges_at vs d m ≡ true
        each m (inl e) d = ap (set_merges_at vs d) e ∙ none-merge d
        each m (inr i) d = let r = number-of t bs ms are m i in ap (set_merges_at vs d) (sym r.2) ∙ all refl r.0 r.1 d
    all-judged t xs bs ms are c true (all, some) =
        let w = some refl in
        let l = list-of t bs ms are w.0 w.1 in
        let r = c.back l.0 l.1 in
        sym (all-fails merges xs r.0 r.1 (fails-by r.0 l.0 r.2 (w.2.0, ap (set_merges_at vs w.2.0) (sym l.2) ∙ w.2.1)))

-- ## Definitions

module _ (s : Schema) (d : Document) where
  operation-judged : (o : Operation) (p : Option Name) → p ≡ root_type s o.kind →
      definition_merges s d (operation o) ≡ list_all (merges s (fragments d)) (sets_if s p o.selections)
  unfolding definition_merges sets_if
  operation-judged o (Some p) r = with-root ∙ from-all s (fragments d) p o.selections
    where
      with-root : definition_merges s d (operation o) ≡ (set_merges s (fragments d) p o.selections && sets_merge s (fragments d) p o.selections)
      with-root = rw (sym r, definition_merges) refl
  operation-judged o None r = rw (sym r, definition_merges) refl

  -- a definition merges where each of its sets does
  pub definition-judged : (x : Definition) → definition_merges s d x ≡ list_all (merges s (fragments d)) (sets_in s x)
  unfolding definition_merges sets_in
  definition-judged (operation o) = operation-judged o (root_type s o.kind) refl
  definition-judged (fragment f) = from-all s (fragments d) f.condition.item f.selections

  -- the answers for the sets of all definitions
  pub definitions-judged : (vs : List FieldAt) (words : ℕ → Head) (t : List (List ℕ)) → AreNumbered s vs words → (xs : List Definition) (ls : List (List ℕ))
      (cs : List Bool) → Pairwise (IsListed s (fragments d) vs words t) xs ls → Pairwise (IsAnswer vs t) ls cs → cs ≡ map (cannot_merge s d) xs
  unfolding cannot_merge
  definitions-judged vs words t numbered [] [] [] a b = refl
  definitions-judged vs words t numbered [] [] (c ∷ cs) a b = absurd b
  definitions-judged vs words t numbered [] (l ∷ ls) cs a b = absurd a
  definitions-judged vs words t numbered (x ∷ xs) [] cs a b = absurd a
  definitions-judged vs words t numbered (x ∷ xs) (l ∷ ls) [] a b = absurd b
  definitions-judged vs words t numbered (x ∷ xs) (l ∷ ls) (c ∷ cs) a b =
      let r = a.0 in
      let e : not c ≡ definition_merges s d x = all-judged s (fragments d) vs words numbered t (sets_in s x) l r.0 r.1 r.2 c b.0 ∙ sym (definition-judged x) in
      λ k. (twice c ∙ ap not e) k ∷ definitions-judged vs words t numbered xs ls cs a.1 b.1 k
    where
      twice : (c : Bool) → c ≡ not (not c)
      twice true = refl
      twice false = refl
