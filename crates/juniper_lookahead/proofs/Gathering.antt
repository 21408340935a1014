-- Fields that are added one selection after the other.
use Rattle.std.proofs.Common.{◌≡◌, ℕ, ◌+◌, ◌<◌, ◌≤◌, Bool, false, ◌||◌, List, [], ◌∷◌, ◌++◌, map, Option, Bor, length, get_or, drop, append_assoc}
use Rattle.std.proofs.Common.{refl, ap, sym, ◌∙◌, subst, arith}
use Rattle.std.specs.List.{list_any}
use Rattle.std.proofs.lemmas.List.{append-nil, drop_all, map-append}
use Rattle.juniper_syntax.proofs.Lists.{left-is, seen-push}
use Rattle.graphql_spec.specs.Shown.{Shown, Name}
use Rattle.graphql_spec.specs.Documents.{Selections}
use Rattle.graphql_spec.specs.Fragments.{HasNoCycle, deep, spreads}
use Rattle.graphql_spec.specs.Selections.{Child}
use Rattle.graphql_spec.proofs.Fragments.{expand-end}
use Rattle.juniper_syntax.specs.declared.position.Spanning.{Spanning}
use Rattle.juniper_syntax.specs.declared.position.Span.{Span}
use Rattle.juniper_syntax.specs.DocumentView.{put_selection, view_selections}
use Rattle.juniper_syntax.specs.declared.ast.Field.{Field as FieldType}
use Rattle.juniper_syntax.specs.declared.ast.Selection.{Selection, size-Selection}
use Rattle.juniper_lookahead.specs.Choices.{Choice, IsWithin, chosen, expanded_by, found}
use Rattle.juniper_lookahead.specs.SelectionView.{view_applies}
use Rattle.juniper_lookahead.specs.Nesting.{nesting, work_left}
use Rattle.juniper_lookahead.specs.Parts.{IsPart, child_of, held}
use Rattle.juniper_lookahead.specs.declared.parts.Part.{Part}
use Rattle.juniper_lookahead.specs.declared.parts.Part.TheVariants as part
use Rattle.juniper_lookahead.specs.declared.selection.Applies.{Applies}
use Rattle.juniper_lookahead.proofs.Nesting.{selection_within}

module _ {S : Type 0} (shown : S → Shown) (h : Choice) (on : Option Name) (ss : List (Selection S)) where
  first-is : (i : ℕ) (x : Selection S) → i < length ss → x ≡ get_or ss i x →
      view_selections shown (drop i ss) ≡ put_selection shown x (view_selections shown (drop (i + 1) ss))
  first-is i x below is = ap (view_selections shown) (left-is ss i x below is)

  -- what is left after a turn is within the same number of spreads
  others-within : (i n size : ℕ) (x : Selection S) (p : Part S) → i < length ss → x ≡ get_or ss i x → IsPart shown h on (put_selection shown x) n size p →
      IsWithin h n (view_selections shown (drop i ss)) → IsWithin h n (view_selections shown (drop (i + 1) ss))
  others-within i n size x p below is has w = has.others (view_selections shown (drop (i + 1) ss)) (subst (λ s. IsWithin h n s) (first-is i x below is) w)

  work-le : (n a b : ℕ) → a ≤ b → work_left h.deepest n a ≤ work_left h.deepest n b
  unfolding work_left
  work-le n a b le = omega arith

  -- the selections of a fragment have less left to go over, and are within as many spreads as are left
  pub descends : (i n : ℕ) (x : Selection S) (inner : Bor (List (Selection S))) (within : Applies) (m : ℕ) → i < length ss → x ≡ get_or ss i x →
      IsPart shown h on (put_selection shown x) n (size-Selection S x) (part.Selections inner within m) → IsWithin h n (view_selections shown (drop i ss)) →
      (work_left h.deepest m (nesting inner.now) < work_left h.deepest n (nesting ss)) × IsWithin h m (view_selections shown inner.now)
  descends i n x inner within m below is has w =
      let less : work_left h.deepest m (nesting inner.now) < work_left h.deepest n (size-Selection S x) = has.smaller in
      let most = work-le n (size-Selection S x) (nesting ss) (selection_within ss i x below is) in
      (omega (arith, less, most), has.inside (view_selections shown (drop (i + 1) ss)) (subst (λ s. IsWithin h n s) (first-is i x below is) w))

  -- ## How the fields are seen

  module _ (B : Type 0) (see : Child → B) where
    abbrev here : List (Selection S) → List B
    here xs = map see (found h on (view_selections shown xs))

    -- the part's fields are added
    pub turned : (i n size : ℕ) (x : Selection S) (p : Part S) (old new all : List B) → i < length ss → x ≡ get_or ss i x →
        IsPart shown h on (put_selection shown x) n size p → IsWithin h n (view_selections shown (drop i ss)) → old ++ here (drop i ss) ≡ all →
        new ≡ old ++ map see (held shown h on p) → IsWithin h n (view_selections shown (drop (i + 1) ss)) × (new ++ here (drop (i + 1) ss) ≡ all)
    turned i n size x p old new all below is has w so_far step =
        let rest : Selections = view_selections shown (drop (i + 1) ss) in
        let holds = has.holds rest (subst (λ s. IsWithin h n s) (first-is i x below is) w) in (
          others-within i n size x p below is has w,
          ap (λ l. l ++ here (drop (i + 1) ss)) step ∙ (append_assoc old (map see (held shown h on p)) (here (drop (i + 1) ss))
              ∙ (ap (λ l. old ++ l) (sym (map-append see (held shown h on p) (found h on rest))
              ∙ (ap (map see) (sym holds) ∙ ap (λ s. map see (found h on s)) (sym (first-is i x below is)))) ∙ so_far)),
        )

    pub nothing-added : (old : List B) → old ≡ old ++ map see (held shown h on part.Nothing)
    unfolding held
    nothing-added old = sym (append-nil old)

    pub field-added : (A : Type 0) (view : A → B) (f : Bor (Spanning (FieldType S) Span)) (xs made : List A) (x : A) → made ≡ xs ++ x ∷ [] →
        view x ≡ see (child_of shown h f.now on) → map view made ≡ map view xs ++ map see (held shown h on (part.Field f))
    unfolding held
    field-added A view f xs made x is same = seen-push view xs made x is ∙ ap (λ c. map view xs ++ c ∷ []) same

    pub selections-added : (inner : Bor (List (Selection S))) (within : Applies) (n : ℕ) (old new : List B) →
        new ≡ old ++ map see (found h (view_applies within) (view_selections shown inner.now)) →
        new ≡ old ++ map see (held shown h on (part.Selections inner within n))
    unfolding held
    selections-added inner within n old new is = is

    -- nothing is left behind the last one
    pub none-left : here [] ≡ []
    unfolding found expanded_by chosen
    none-left = ap (λ f. map see (chosen h.meets on f)) (expand-end h.test h.fragments)

    pub all-added : (i : ℕ) (made all : List B) → length ss ≤ i → made ++ here (drop i ss) ≡ all → made ≡ all
    all-added i made all past is = sym (ap (λ l. made ++ l) (ap here (drop_all i ss past) ∙ none-left) ∙ append-nil made) ∙ is

none-any : (f : Name → Bool) → ((k : Name) → f k ≡ false) → (ks : List Name) → list_any f ks ≡ false
none-any f none [] = refl
none-any f none (k ∷ ks) = ap (λ b. b || list_any f ks) (none k) ∙ none-any f none ks

-- no chain of spreads is longer than the list of fragments
pub start-within : (h : Choice) → HasNoCycle h.fragments → (n : ℕ) → n ≡ length h.fragments → (s : Selections) → IsWithin h n s
start-within h none n is s = subst (λ i. IsWithin h i s) (sym is) (none-any (deep h.fragments (length h.fragments)) none (spreads s))
