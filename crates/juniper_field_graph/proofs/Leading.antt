-- Selections that are gathered one behind the other.
use Rattle.std.specs.Prelude.{ℕ, true, List, [], ◌∷◌, ◌++◌, ◌≡◌, Some, None}
use Rattle.std.proofs.Common.{refl, sym, ap, subst, inl, inr, ◌∙◌}
use Rattle.std.proofs.lemmas.List.{append_assoc, append-nil}
use Rattle.graphql_spec.specs.Shown.{Name}
use Rattle.graphql_spec.specs.Types.{innermost}
use Rattle.graphql_spec.specs.Documents.{Fragment, Head, Inline, Selections, Spread, end, field, spread, inline, name_or}
use Rattle.graphql_spec.specs.Fragments.{HasNoCycle, expand, fragment_of}
use Rattle.graphql_spec.specs.Schema.{Schema}
use Rattle.graphql_spec.specs.Fields.{declared_type, field_of}
use Rattle.graphql_spec.specs.Laws.{In}
use Rattle.graphql_spec.specs.ValidityLaws.{PlacedSet, sets_below, sets_from}
use Rattle.graphql_spec.proofs.Grouping.{in_append, in_first, in_second}
use Rattle.juniper_merging.specs.MergingGraph.{FieldAt}
use Rattle.juniper_merging.specs.Standing.{Covers, Grows, IsAt}
use Rattle.juniper_merging.proofs.Covering.{covers-end, covers-field, covers-inline, covers-more, covers-nothing, covers-spread}
use Rattle.juniper_merging.proofs.Growing.{at-more}
use Rattle.juniper_field_graph.specs.Gathering.{AreCovered, AreCoveredIn, IsCovered, IsPart, Leads, StandsIn}

-- ## Graphs that grow

pub grows-itself : (vs : List FieldAt) (words : ℕ → Head) → Grows vs vs words words
grows-itself vs words = record { kept = λ i v e. e; words = λ i v e. refl }

pub grows-further : (vs ws us : List FieldAt) (a b c : ℕ → Head) → Grows vs ws a b → Grows ws us b c → Grows vs us a c
grows-further vs ws us a b c g h = record { kept = λ i v e. h.kept i v (g.kept i v e); words = λ i v e. g.words i v e ∙ h.words i v (g.kept i v e) }

-- ## Sets that are covered

module _ (s : Schema) (fs : List Fragment) where
  pub covered-none : (vs : List FieldAt) (words : ℕ → Head) → AreCovered s fs vs words [] []
  covered-none vs words = record { one = λ x i. absurd i; back = λ n i. absurd i }

  pub part-more : (vs ws : List FieldAt) (words more : ℕ → Head) → Grows vs ws words more → (x : PlacedSet) (is : List ℕ) →
      IsPart s fs vs words x is → IsPart s fs ws more x is
  part-more vs ws words more g x is a = record {
    own = a.own;
    covers = covers-more s vs ws words more fs g x.parent x.selections a.own a.covers;
    stands = a.stands;
  }

  pub one-more : (vs ws : List FieldAt) (words more : ℕ → Head) → Grows vs ws words more → (x : PlacedSet) (ns : List (List ℕ)) →
      IsCovered s fs vs words x ns → IsCovered s fs ws more x ns
  one-more vs ws words more g x ns a = record {
    outer = a.outer;
    all = a.all;
    part = part-more vs ws words more g x a.all a.part;
    covers = covers-more s vs ws words more fs g a.outer.parent a.outer.selections a.all a.covers;
    kept = a.kept;
    covers_kept = covers-more s vs ws words more fs g a.outer.parent a.outer.selections a.kept a.covers_kept;
    listed = a.listed;
  }

  module _ (vs : List FieldAt) (words : ℕ → Head) where
    -- a list that stands in itself
    stands-itself : (is : List ℕ) → StandsIn is is
    stands-itself is = ([], [], sym (append-nil is))

    stands-first : (m is js : List ℕ) → StandsIn m is → StandsIn m (is ++ js)
    stands-first m is js (a, b, e) = (a, b ++ js, ap (λ l. l ++ js) e ∙ (append_assoc a (m ++ b) js ∙ ap (λ l. a ++ l) (append_assoc m b js)))

    stands-second : (m is js : List ℕ) → StandsIn m js → StandsIn m (is ++ js)
    stands-second m is js (a, b, e) = (is ++ a, b, ap (λ l. is ++ l) e ∙ sym (append_assoc is a (m ++ b)))

    in-wider : (x : PlacedSet) (ns ms : List (List ℕ)) → ((m : List ℕ) → In m ns → In m ms) → IsCovered s fs vs words x ns → IsCovered s fs vs words x ms
    in-wider x ns ms f a = record {
      outer = a.outer;
      all = a.all;
      part = a.part;
      covers = a.covers;
      kept = a.kept;
      covers_kept = a.covers_kept;
      listed = elim a.listed [ inl e ↦ inl e | inr i ↦ inr (f a.kept i) ];
    }

    in-longer : (x : PlacedSet) (is js : List ℕ) → (((m : List ℕ) → StandsIn m is → StandsIn m js)) → IsPart s fs vs words x is → IsPart s fs vs words x js
    in-longer x is js f a = record { own = a.own; covers = a.covers; stands = f a.own a.stands }

    -- a set by its own list
    covered-own : (x : PlacedSet) (n : List ℕ) (ns : List (List ℕ)) → Covers s vs words fs x.parent x.selections n → In n ([] ∷ ns) →
        IsCovered s fs vs words x ns
    covered-own x n ns c i = record {
      outer = x;
      all = n;
      part = record { own = n; covers = c; stands = stands-itself n };
      covers = c;
      kept = n;
      covers_kept = c;
      listed = i;
    }

    pub covered-none-in : (js : List ℕ) → AreCoveredIn s fs vs words js [] []
    covered-none-in js = record { one = λ x i. absurd i; back = λ n i. absurd i }

    -- sets before others, where all of these are parts of one
    pub covered-both : (is js all : List ℕ) → ((m : List ℕ) → StandsIn m is → StandsIn m all) → ((m : List ℕ) → StandsIn m js → StandsIn m all) →
        (xs ys : List PlacedSet) (ns ms : List (List ℕ)) → AreCoveredIn s fs vs words is xs ns → AreCoveredIn s fs vs words js ys ms →
        AreCoveredIn s fs vs words all (xs ++ ys) (ns ++ ms)
    covered-both is js all f g xs ys ns ms a b = record {
      one = λ x i. elim (in_append x xs ys i) [
        | inl j ↦ elim (a.one x j) [
          | inl p ↦ inl (in-longer x is all f p)
          | inr c ↦ inr (in-wider x ns (ns ++ ms) (λ m k. in_first m ns ms k) c)
        ]
        | inr j ↦ elim (b.one x j) [
          | inl p ↦ inl (in-longer x js all g p)
          | inr c ↦ inr (in-wider x ms (ns ++ ms) (λ m k. in_second m ns ms k) c)
        ]
      ];
      back = λ n i. elim (in_append n ns ms i) [
        | inl j ↦ (let r = a.back n j in (r.0, in_first r.0 xs ys r.1, r.2))
        | inr j ↦ (let r = b.back n j in (r.0, in_second r.0 xs ys r.1, r.2))
      ];
    }

    -- sets of which none is a part of what is around
    covered-apart : (js : List ℕ) (xs : List PlacedSet) (ns : List (List ℕ)) → AreCovered s fs vs words xs ns → AreCoveredIn s fs vs words js xs ns
    covered-apart js xs ns a = record { one = λ x i. inr (a.one x i); back = a.back }

    -- a set before those below it, by a list in which those stand that are parts of it
    pub covered-from : (p : Name) (set : Selections) (all kept : List ℕ) (ms : List (List ℕ)) → Covers s vs words fs p set all →
        Covers s vs words fs p set kept → AreCoveredIn s fs vs words all (sets_below s p set) ms →
        AreCovered s fs vs words (sets_from s p set) (ms ++ kept ∷ [])
    unfolding sets_from
    covered-from p set all kept ms c d a =
        let own : PlacedSet = record { parent = p; selections = set } in
        let last : In kept ([] ∷ (ms ++ kept ∷ [])) = inr (in_second kept ms (kept ∷ []) (inl refl)) in
        record {
          one = λ x i. elim i [
            | inl e ↦ subst (λ (y : PlacedSet). IsCovered s fs vs words y (ms ++ kept ∷ [])) (sym e) (covered-own own kept (ms ++ kept ∷ []) d last)
            | inr j ↦ elim (a.one x j) [
              | inl q ↦ record { outer = own; all = all; part = q; covers = c; kept = kept; covers_kept = d; listed = last }
              | inr r ↦ in-wider x ms (ms ++ kept ∷ []) (λ m k. in_first m ms (kept ∷ []) k) r
            ]
          ];
          back = λ m i. elim (in_append m ms (kept ∷ []) i) [
            | inl j ↦ (let r = a.back m j in (r.0, inr r.1, r.2))
            | inr (inl e) ↦ (own, inl refl, subst (Covers s vs words fs p set) (sym e) d)
            | inr (inr k) ↦ absurd k
          ];
        }

    -- an inline fragment's set, which is a part of what is around, before those below it
    covered-inline : (p : Name) (set : Selections) (all : List ℕ) (ms : List (List ℕ)) → Covers s vs words fs p set all →
        AreCoveredIn s fs vs words all (sets_below s p set) ms → AreCoveredIn s fs vs words all (sets_from s p set) ms
    unfolding sets_from
    covered-inline p set all ms c a =
        let own : PlacedSet = record { parent = p; selections = set } in
        let part : IsPart s fs vs words own all = record { own = all; covers = c; stands = stands-itself all } in
        record {
          one = λ x i. elim i [
            | inl e ↦ inl (subst (λ (y : PlacedSet). IsPart s fs vs words y all) (sym e) part)
            | inr j ↦ a.one x j
          ];
          back = λ m i. let r = a.back m i in (r.0, inr r.1, r.2);
        }

    -- no selections have no fields
    pub covered-end : (p : Name) → AreCovered s fs vs words (sets_from s p end) []
    unfolding sets_from sets_below
    covered-end p = record {
      one = λ x i. elim i [
        | inl e ↦ subst (λ (y : PlacedSet). IsCovered s fs vs words y []) (sym e)
            (covered-own (record { parent = p; selections = end }) [] [] (covers-end s vs words fs p) (inl refl))
        | inr j ↦ absurd j
      ];
      back = λ m i. absurd i;
    }

  pub covered-more : (vs ws : List FieldAt) (words more : ℕ → Head) → Grows vs ws words more → (xs : List PlacedSet) (ns : List (List ℕ)) →
      AreCovered s fs vs words xs ns → AreCovered s fs ws more xs ns
  covered-more vs ws words more g xs ns a = record {
    one = λ x i. one-more vs ws words more g x ns (a.one x i);
    back = λ n i. let r = a.back n i in (r.0, r.1, covers-more s vs ws words more fs g r.0.parent r.0.selections n r.2);
  }

  pub covered-more-in : (vs ws : List FieldAt) (words more : ℕ → Head) → Grows vs ws words more → (js : List ℕ) (xs : List PlacedSet)
      (ns : List (List ℕ)) → AreCoveredIn s fs vs words js xs ns → AreCoveredIn s fs ws more js xs ns
  covered-more-in vs ws words more g js xs ns a = record {
    one = λ x i. elim (a.one x i) [ inl p ↦ inl (part-more vs ws words more g x js p) | inr c ↦ inr (one-more vs ws words more g x ns c) ];
    back = λ n i. let r = a.back n i in (r.0, r.1, covers-more s vs ws words more fs g r.0.parent r.0.selections n r.2);
  }

  -- ## One selection before the rest

  pub leads-nothing : (vs : List FieldAt) (words : ℕ → Head) (p : Name) (set : Selections) → Leads s fs vs words p set set [] []
  leads-nothing vs words p set ws more g js ns c a = (c, a)

  pub leads-then : (vs ws : List FieldAt) (words more : ℕ → Head) → Grows vs ws words more →
      (p : Name) (rest mid whole : Selections) (is js : List ℕ) (ms ns : List (List ℕ)) →
      Leads s fs vs words p mid whole is ms → Leads s fs ws more p rest mid js ns → Leads s fs ws more p rest whole (is ++ js) (ms ++ ns)
  leads-then vs ws words more g p rest mid whole is js ms ns first second us last h ks ls c a =
      let inner = second us last h ks ls c a in
      let outer = first us last (grows-further vs ws us words more last g h) (js ++ ks) (ns ++ ls) inner.0 inner.1 in (
        subst (Covers s us last fs p whole) (sym (append_assoc is js ks)) outer.0,
        subst (AreCoveredIn s fs us last ((is ++ js) ++ ks) (sets_below s p whole)) (sym (append_assoc ms ns ls))
            (subst (λ l. AreCoveredIn s fs us last l (sets_below s p whole) (ms ++ (ns ++ ls))) (sym (append_assoc is js ks)) outer.1),
      )

  -- a field, which selects what was gathered before
  pub leads-field : (vs ws : List FieldAt) (words more : ℕ → Head) → Grows vs ws words more →
      (p : Name) (h : Head) (below rest : Selections) (i : ℕ) (v : FieldAt) (ms : List (List ℕ)) →
      IsAt s ws more (record { parent = p; occurrence = record { head = h; below = expand (λ y. true) fs below } }) i v →
      Covers s vs words fs (innermost (declared_type (field_of s p h.name.item))) below v.below →
      AreCovered s fs vs words (sets_from s (innermost (declared_type (field_of s p h.name.item))) below) ms →
      Leads s fs ws more p rest (field h below rest) (i ∷ []) ms
  unfolding sets_below sets_from
  leads-field vs ws words more g p h below rest i v ms here inside sets us last k js ns c a =
      let q = innermost (declared_type (field_of s p h.name.item)) in
      let all = grows-further vs ws us words more last g k in (
        covers-field s us last fs p h below rest i v js (at-more s ws us more last k _ i v here)
            (covers-more s vs us words last fs all q below v.below inside) c,
        covered-both us last js js (i ∷ js) (λ m t. stands-second us last m (i ∷ []) js t) (λ m t. stands-second us last m (i ∷ []) js t)
            (sets_from s q below) (sets_below s p rest) ms ns
            (covered-apart us last js (sets_from s q below) ms (covered-more vs us words last all (sets_from s q below) ms sets)) a,
      )

  -- sets that are parts of what stands behind other numbers
  covered-behind : (vs : List FieldAt) (words : ℕ → Head) (is js : List ℕ) (xs : List PlacedSet) (ns : List (List ℕ)) →
      AreCoveredIn s fs vs words js xs ns → AreCoveredIn s fs vs words (is ++ js) xs ns
  covered-behind vs words is js xs ns a = record {
    one = λ x i. elim (a.one x i) [ inl p ↦ inl (in-longer vs words x js (is ++ js) (λ m t. stands-second vs words m is js t) p) | inr c ↦ inr c ];
    back = a.back;
  }

  -- a spread of a fragment whose numbers are known
  pub leads-spread : (vs : List FieldAt) (words : ℕ → Head) → HasNoCycle fs → (p : Name) (x : Spread) (rest : Selections) (f : Fragment) (is : List ℕ) →
      fragment_of fs x.name.item ≡ Some f →
      Covers s vs words fs f.condition.item f.selections is → Leads s fs vs words p rest (spread x rest) is []
  unfolding sets_below
  leads-spread vs words ends p x rest f is found inside us last k js ns c a = (
    covers-spread s us last fs ends p x rest f is js found (covers-more s vs us words last fs k f.condition.item f.selections is inside) c,
    covered-behind us last is js (sets_below s p rest) ns a,
  )

  -- a spread of no fragment
  pub leads-unknown : (vs : List FieldAt) (words : ℕ → Head) → HasNoCycle fs → (p : Name) (x : Spread) (rest : Selections) → fragment_of fs x.name.item ≡ None →
      Leads s fs vs words p rest (spread x rest) [] []
  unfolding sets_below
  leads-unknown vs words ends p x rest found us last k js ns c a = (covers-nothing s us last fs ends p x rest js found c, a)

  -- an inline fragment, whose fields are put to those around it
  pub leads-inline : (vs : List FieldAt) (words : ℕ → Head) (p : Name) (x : Inline) (below rest : Selections) (is : List ℕ) (ms : List (List ℕ)) →
      Leads s fs vs words (name_or x.condition p) end below is ms → Leads s fs vs words p rest (inline x below rest) is ms
  unfolding sets_below sets_from
  leads-inline vs words p x below rest is ms inside us last k js ns c a =
      let q = name_or x.condition p in
      let r = inside us last k [] [] (covers-end s us last fs q) (covered-none-in us last []) in
      let own : Covers s us last fs q below is = subst (Covers s us last fs q below) (append-nil is) r.0 in
      let sets : AreCoveredIn s fs us last is (sets_below s q below) ms = subst (λ l. AreCoveredIn s fs us last l (sets_below s q below) ms) (append-nil is)
      (subst (AreCoveredIn s fs us last (is ++ []) (sets_below s q below)) (append-nil ms) r.1) in (
        covers-inline s us last fs p x below rest is js own c,
        covered-both us last is js (is ++ js) (λ m t. stands-first us last m is js t) (λ m t. stands-second us last m is js t)
            (sets_from s q below) (sets_below s p rest) ms ns (covered-inline us last q below is ms own sets) a,
      )

  -- at the end
  pub leads-whole : (vs : List FieldAt) (words : ℕ → Head) (p : Name) (whole : Selections) (is : List ℕ) (ms : List (List ℕ)) →
      Leads s fs vs words p end whole is ms →
      Covers s vs words fs p whole is × AreCoveredIn s fs vs words is (sets_below s p whole) ms
  unfolding sets_below
  leads-whole vs words p whole is ms l =
      let r = l vs words (grows-itself vs words) [] [] (covers-end s vs words fs p) (covered-none-in vs words []) in (
        subst (Covers s vs words fs p whole) (append-nil is) r.0,
        subst (λ l. AreCoveredIn s fs vs words l (sets_below s p whole) ms) (append-nil is)
            (subst (AreCoveredIn s fs vs words (is ++ []) (sets_below s p whole)) (append-nil ms) r.1),
      )
