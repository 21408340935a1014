-- What one selection holds: a field, what an inline fragment holds, what a fragment holds that is spread (6.3.2).
use Rattle.std.proofs.Common.{◌≡◌, ℕ, zero, suc, ◌≤◌, ◌<◌, ◌-◌, Bool, true, false, ◌||◌, cond, List, [], ◌∷◌, ◌++◌, Option, Some, None, is_some}
use Rattle.std.proofs.Common.{Bor, refl, ap, sym, ◌∙◌, subst, arith}
use Rattle.std.specs.List.{list_any}
use Rattle.std.proofs.lemmas.Bool.{both_ways}
use Rattle.graphql_spec.specs.Shown.{Shown, Name}
use Rattle.graphql_spec.specs.Documents as spec
use Rattle.graphql_spec.specs.Documents.{Head, Spread, Inline, Fragment, Selections}
use Rattle.graphql_spec.specs.Directives.{admits}
use Rattle.graphql_spec.specs.Fragments.{Contents, HasNoCycle, asked, deep, deep_in, filled, fragment_of, put_under, spreads}
use Rattle.graphql_spec.specs.Selections.{Condition, Child, Forest, field, under, nearest}
use Rattle.graphql_spec.proofs.Fragments.{expand-end, expand-field, expand-inline, expand-spread}
use Rattle.juniper_syntax.specs.Positions.{view_span}
use Rattle.juniper_syntax.specs.declared.position.Spanning.{Spanning}
use Rattle.juniper_syntax.specs.declared.position.Span.{Span}
use Rattle.juniper_syntax.specs.DocumentView.{put_selection, view_head, view_selections, view_set, view_spread}
use Rattle.juniper_syntax.specs.declared.ast.Field.{Field as FieldType, out-Field}
use Rattle.juniper_syntax.specs.declared.ast.FragmentSpread.{FragmentSpread as SpreadType}
use Rattle.juniper_syntax.specs.declared.ast.InlineFragment.{InlineFragment as InlineType, out-InlineFragment}
use Rattle.juniper_syntax.specs.declared.ast.Selection.{Selection, Field as FieldCase, FragmentSpread as SpreadCase, InlineFragment as InlineCase}
use Rattle.juniper_syntax.specs.declared.ast.Selection.{size-Selection}
use Rattle.juniper_syntax.proofs.Documents.{put-Field, put-FragmentSpread, put-InlineFragment}
use Rattle.juniper_lookahead.specs.Choices.{Choice, IsWithin, chosen, expanded_by, found, is_met}
use Rattle.juniper_lookahead.specs.SelectionView.{view_applies}
use Rattle.juniper_lookahead.specs.Nesting.{nesting, work_left}
use Rattle.juniper_lookahead.specs.Parts.{IsFieldAlone, IsPart, child_of, field_before, held, inline_before}
use Rattle.juniper_lookahead.specs.declared.parts.Part.{Part}
use Rattle.juniper_lookahead.specs.declared.parts.Part.TheVariants as part
use Rattle.juniper_lookahead.specs.declared.selection.Applies.{Applies}
use Rattle.juniper_lookahead.proofs.Nesting.{inline_deeper, product_falls}

-- ## Tests of lists

or_parts_false : (a b : Bool) → (a || b) ≡ false → (a ≡ false) × (b ≡ false)
or_parts_false true b e = absurd (both_ways true e refl)
or_parts_false false b e = (refl, e)

any-behind : (f : Name → Bool) (xs ys : List Name) → list_any f (xs ++ ys) ≡ false → list_any f ys ≡ false
any-behind f [] ys e = e
any-behind f (x ∷ xs) ys e = any-behind f xs ys (or_parts_false (f x) (list_any f (xs ++ ys)) e).1

any-before : (f : Name → Bool) (xs ys : List Name) → list_any f (xs ++ ys) ≡ false → list_any f xs ≡ false
any-before f [] ys e = refl
any-before f (x ∷ xs) ys e = let p = or_parts_false (f x) (list_any f (xs ++ ys)) e in ap (λ b. b || list_any f xs) p.0 ∙ any-before f xs ys p.1

-- ## Fields of a forest

module _ (meets : Name → Bool) (on : Option Name) where
  at-field : (b : Bool) (h : Head) (x y : Forest) → chosen meets on (cond b (field h x y) y)
      ≡ cond b (record { head = h; below = x; applies_for = on } ∷ []) [] ++ chosen meets on y
  unfolding chosen
  at-field true h x y = refl
  at-field false h x y = refl

  at-under : (b : Bool) (c : Condition) (x y : Forest) → chosen meets on (cond b (under c x y) y)
      ≡ cond b (cond (is_met meets c) (chosen meets (nearest c on) x) []) [] ++ chosen meets on y
  unfolding chosen
  at-under true c x y = refl
  at-under false c x y = refl

module _ {S : Type 0} (shown : S → Shown) (h : Choice) (on : Option Name) where
  abbrev seen : Forest → List Child
  seen = chosen h.meets on

  abbrev E : Selections → Forest
  E = expanded_by h

  abbrev taken : List spec.Directive → Bool
  taken = admits h.test

  abbrev fs : List Fragment
  fs = h.fragments

  -- a field, and the fields that an inline fragment holds
  abbrev one : Head → Selections → List Child
  one d below = record { head = d; below = E below; applies_for = on } ∷ []

  abbrev inline_holds : Inline → Selections → List Child
  inline_holds x below = cond (is_met h.meets (asked x.condition)) (chosen h.meets (nearest (asked x.condition) on) (E below)) []

  nothing-is : (put : Selections → Selections) (n size : ℕ) → ((rest : Selections) → IsWithin h n (put rest) → found h on (put rest) ≡ found h on rest) →
      ((rest : Selections) → IsWithin h n (put rest) → IsWithin h n rest) → IsPart shown h on put n size part.Nothing
  unfolding held
  nothing-is put n size holds others = record { holds = holds; inside = λ rest w. tt; others = others; smaller = tt; alone = tt }

  -- ## A field

  field-others : (n : ℕ) (d : Head) (below rest : Selections) → IsWithin h n (spec.field d below rest) → IsWithin h n rest
  unfolding spreads
  field-others n d below rest w = any-behind (deep fs n) (spreads below) (spreads rest) w

  E-field : (d : Head) (below rest : Selections) → found h on (spec.field d below rest) ≡ cond (taken d.directives) (one d below) [] ++ found h on rest
  unfolding found expanded_by
  E-field d below rest = ap seen (expand-field h.test fs d below rest) ∙ at-field h.meets on (taken d.directives) d (E below) (E rest)

  none-at-end : found h on Selections.end ≡ []
  unfolding found expanded_by chosen
  none-at-end = ap seen (expand-end h.test fs)

  pub field-left-out : (d : Head) (below : Selections) (n size : ℕ) → taken d.directives ≡ false
      → IsPart shown h on (spec.field d below) n size part.Nothing
  field-left-out d below n size t = nothing-is (spec.field d below) n size
      (λ rest w. E-field d below rest ∙ ap (λ b. cond b (one d below) [] ++ found h on rest) t) (field-others n d below)

  pub field-taken : (f : Bor (Spanning (FieldType S) Span)) (n size : ℕ) →
      taken (view_head shown (out-Field S f.now.item) (view_span f.now.span)).directives ≡ true →
      IsPart shown h on (field_before shown f.now) n size (part.Field f)
  unfolding held child_of
  field-taken f n size t =
      let d : Head = view_head shown (out-Field S f.now.item) (view_span f.now.span) in
      let below : Selections = view_set shown (out-Field S f.now.item).selection_set in
      record {
        holds = λ rest w. E-field d below rest ∙ ap (λ b. cond b (one d below) [] ++ found h on rest) t;
        inside = λ rest w. tt;
        others = field-others n d below;
        smaller = tt;
        alone = E-field d below Selections.end ∙ (ap (λ b. cond b (one d below) [] ++ found h on Selections.end) t
            ∙ ap (λ l. one d below ++ l) none-at-end);
      }

  -- ## An inline fragment

  inline-others : (n : ℕ) (x : Inline) (below rest : Selections) → IsWithin h n (spec.inline x below rest) → IsWithin h n rest
  unfolding spreads
  inline-others n x below rest w = any-behind (deep fs n) (spreads below) (spreads rest) w

  inline-inside : (n : ℕ) (x : Inline) (below rest : Selections) → IsWithin h n (spec.inline x below rest) → IsWithin h n below
  unfolding spreads
  inline-inside n x below rest w = any-before (deep fs n) (spreads below) (spreads rest) w

  E-inline : (x : Inline) (below rest : Selections) → found h on (spec.inline x below rest)
      ≡ cond (taken x.directives) (inline_holds x below) [] ++ found h on rest
  unfolding found expanded_by
  E-inline x below rest = ap seen (expand-inline h.test fs x below rest)
      ∙ at-under h.meets on (taken x.directives) (asked x.condition) (E below) (E rest)

  pub inline-left-out : (x : Inline) (below : Selections) (n size : ℕ) → taken x.directives ≡ false
      → IsPart shown h on (spec.inline x below) n size part.Nothing
  inline-left-out x below n size t = nothing-is (spec.inline x below) n size
      (λ rest w. E-inline x below rest ∙ ap (λ b. cond b (inline_holds x below) [] ++ found h on rest) t) (inline-others n x below)

  abbrev inline_if : Inline → Selections → Bool → List Child
  inline_if x below b = cond b (chosen h.meets (nearest (asked x.condition) on) (E below)) []

  pub inline-apart : (x : Inline) (below : Selections) (n size : ℕ) → taken x.directives ≡ true → is_met h.meets (asked x.condition) ≡ false
      → IsPart shown h on (spec.inline x below) n size part.Nothing
  inline-apart x below n size t a = nothing-is (spec.inline x below) n size
      (λ rest w. E-inline x below rest ∙ (ap (λ b. cond b (inline_holds x below) [] ++ found h on rest) t
      ∙ ap (λ b. inline_if x below b ++ found h on rest) a)) (inline-others n x below)

  pub inline-applies : (x : Inline) (below : Selections) (n size : ℕ) (ss : Bor (List (Selection S))) (within : Applies) →
      below ≡ view_selections shown ss.now → taken x.directives ≡ true → is_met h.meets (asked x.condition) ≡ true →
      view_applies within ≡ nearest (asked x.condition) on → nesting ss.now < size
      → IsPart shown h on (spec.inline x below) n size (part.Selections ss within n)
  unfolding held found work_left
  inline-applies x below n size ss within is t a nearer less = record {
    holds = λ rest w. E-inline x below rest ∙ (ap (λ b. cond b (inline_holds x below) [] ++ found h on rest) t
        ∙ (ap (λ b. inline_if x below b ++ found h on rest) a
        ∙ (ap (λ o. chosen h.meets o (E below) ++ found h on rest) (sym nearer) ∙ ap (λ s. found h (view_applies within) s ++ found h on rest) is)));
    inside = λ rest w. subst (λ s. IsWithin h n s) is (inline-inside n x below rest w);
    others = inline-others n x below;
    smaller = omega arith;
    alone = tt;
  }

  -- ## A spread

  spread-others : (n : ℕ) (x : Spread) (rest : Selections) → IsWithin h n (spec.spread x rest) → IsWithin h n rest
  unfolding spreads
  spread-others n x rest w = (or_parts_false (deep fs n x.name.item) (list_any (deep fs n) (spreads rest)) w).1

  spread-within : (n : ℕ) (x : Spread) (rest : Selections) → IsWithin h n (spec.spread x rest) → deep fs n x.name.item ≡ false
  unfolding spreads
  spread-within n x rest w = (or_parts_false (deep fs n x.name.item) (list_any (deep fs n) (spreads rest)) w).0

  -- what the fragment of a spread holds
  of_contents : Option Contents → List Child
  of_contents None = []
  of_contents (Some k) = cond (h.meets k.condition) (seen k.selections) []

  at-put : (b : Bool) (o : Option Contents) (y : Forest) → seen (cond b (put_under o y) y) ≡ cond b (of_contents o) [] ++ seen y
  unfolding chosen is_met nearest put_under of_contents
  at-put true None y = refl
  at-put true (Some k) y = refl
  at-put false o y = refl

  abbrev spread_holds : Spread → List Child
  spread_holds x = of_contents (filled E (fragment_of fs x.name.item))

  E-spread : HasNoCycle fs → (x : Spread) (rest : Selections) → found h on (spec.spread x rest)
      ≡ cond (taken x.directives) (spread_holds x) [] ++ found h on rest
  unfolding found expanded_by
  E-spread none x rest = ap seen (expand-spread h.test fs none x rest)
      ∙ at-put (taken x.directives) (filled E (fragment_of fs x.name.item)) (E rest)

  pub spread-left-out : HasNoCycle fs → (x : Spread) (n size : ℕ) → taken x.directives ≡ false → IsPart shown h on (spec.spread x) n size part.Nothing
  spread-left-out none x n size t = nothing-is (spec.spread x) n size
      (λ rest w. E-spread none x rest ∙ ap (λ b. cond b (spread_holds x) [] ++ found h on rest) t) (spread-others n x)

  cond-none : (b : Bool) (xs ys : List Child) → xs ≡ [] → cond b xs [] ++ ys ≡ ys
  cond-none true xs ys e = ap (λ l. l ++ ys) e
  cond-none false xs ys e = refl

  none-of : (o : Option Fragment) → o ≡ None → of_contents (filled E o) ≡ []
  unfolding filled of_contents
  none-of o e = ap (λ p. of_contents (filled E p)) e

  pub spread-unknown : HasNoCycle fs → (x : Spread) (n size : ℕ) → fragment_of fs x.name.item ≡ None
      → IsPart shown h on (spec.spread x) n size part.Nothing
  spread-unknown none x n size e = nothing-is (spec.spread x) n size
      (λ rest w. E-spread none x rest ∙ cond-none (taken x.directives) (spread_holds x) (found h on rest) (none-of (fragment_of fs x.name.item) e))
      (spread-others n x)

  none-is : (o : Option Fragment) → is_some o ≡ false → o ≡ None
  none-is None e = refl
  none-is (Some f) e = absurd (both_ways true e refl)

  shallow-none : (n : ℕ) (x : Name) → n ≡ 0 → deep fs n x ≡ false → fragment_of fs x ≡ None
  unfolding deep
  shallow-none zero x z d = none-is (fragment_of fs x) d
  shallow-none (suc n) x z d = absurd (omega arith)

  pub spread-none-left : HasNoCycle fs → (x : Spread) (n size : ℕ) → n ≡ 0 → IsPart shown h on (spec.spread x) n size part.Nothing
  spread-none-left none x n size z = nothing-is (spec.spread x) n size
      (λ rest w. E-spread none x rest ∙ cond-none (taken x.directives) (spread_holds x) (found h on rest)
      (none-of (fragment_of fs x.name.item) (shallow-none n x.name.item z (spread-within n x rest w)))) (spread-others n x)

  some-of : (o : Option Fragment) (f : Fragment) (b : Bool) → o ≡ Some f → h.meets f.condition.item ≡ b →
      of_contents (filled E o) ≡ cond b (found h on f.selections) []
  unfolding filled of_contents found
  some-of o f b e p = ap (λ q. of_contents (filled E q)) e ∙ ap (λ r. cond r (seen (E f.selections)) []) p

  pub spread-apart : HasNoCycle fs → (x : Spread) (n size : ℕ) (f : Fragment) → fragment_of fs x.name.item ≡ Some f → h.meets f.condition.item ≡ false
      → IsPart shown h on (spec.spread x) n size part.Nothing
  spread-apart none x n size f e p = nothing-is (spec.spread x) n size
      (λ rest w. E-spread none x rest ∙ cond-none (taken x.directives) (spread_holds x) (found h on rest)
      (some-of (fragment_of fs x.name.item) f false e p)) (spread-others n x)

  shallower : (n : ℕ) (x : Name) (f : Fragment) → 0 < n → fragment_of fs x ≡ Some f → deep fs n x ≡ false → IsWithin h (n - 1) f.selections
  unfolding deep deep_in
  shallower zero x f p e d = absurd (omega arith)
  shallower (suc n) x f p e d =
      let k : suc n - 1 ≡ n = omega arith in subst (λ i. IsWithin h i f.selections) (sym k) (ap (λ o. deep_in (deep fs n) o) (sym e) ∙ d)

  pub spread-applies : HasNoCycle fs → (x : Spread) (n size : ℕ) (f : Fragment) (ss : Bor (List (Selection S))) (within : Applies) → 0 < n →
      f.selections ≡ view_selections shown ss.now → taken x.directives ≡ true → fragment_of fs x.name.item ≡ Some f → h.meets f.condition.item ≡ true →
      view_applies within ≡ on → nesting ss.now ≤ h.deepest → IsPart shown h on (spec.spread x) n size (part.Selections ss within (n - 1))
  unfolding held work_left
  spread-applies none x n size f ss within p is t e q a less = record {
    holds = λ rest w. E-spread none x rest ∙ (ap (λ b. cond b (spread_holds x) [] ++ found h on rest) t
        ∙ (ap (λ l. l ++ found h on rest) (some-of (fragment_of fs x.name.item) f true e q) ∙ (ap (λ s. found h on s ++ found h on rest) is
        ∙ ap (λ o. found h o (view_selections shown ss.now) ++ found h on rest) (sym a))));
    inside = λ rest w. subst (λ s. IsWithin h (n - 1) s) is (shallower n x.name.item f p e (spread-within n x rest w));
    others = spread-others n x;
    smaller = product_falls n h.deepest (nesting ss.now) size p less;
    alone = tt;
  }

  -- ## Whatever the selection is

  alone-moved : (put other : Selections → Selections) (p : Part S) → put Selections.end ≡ other Selections.end → IsFieldAlone shown h on other p
      → IsFieldAlone shown h on put p
  alone-moved put other part.Nothing same is = tt
  alone-moved put other (part.Field f) same is = ap (λ s. found h on s) same ∙ is
  alone-moved put other (part.Selections ss within m) same is = tt

  pub part-moved : (put other : Selections → Selections) (n size : ℕ) (p : Part S) → ((rest : Selections) → put rest ≡ other rest)
      → IsPart shown h on other n size p → IsPart shown h on put n size p
  part-moved put other n size p same is = record {
    holds = λ rest w. ap (λ s. found h on s) (same rest) ∙ is.holds rest (subst (λ s. IsWithin h n s) (same rest) w);
    inside = λ rest w. is.inside rest (subst (λ s. IsWithin h n s) (same rest) w);
    others = λ rest w. is.others rest (subst (λ s. IsWithin h n s) (same rest) w);
    smaller = is.smaller;
    alone = alone-moved put other p (same Selections.end) is.alone;
  }

  pub selected-field : (x : Selection S) (s : Spanning (FieldType S) Span) (n : ℕ) (p : Part S) → x ≡ FieldCase s →
      ((i size : ℕ) → IsPart shown h on (field_before shown s) i size p) → IsPart shown h on (put_selection shown x) n (size-Selection S x) p
  selected-field x s n p is has = subst (λ y. IsPart shown h on (put_selection shown y) n (size-Selection S y) p) (sym is)
      (part-moved (put_selection shown (FieldCase s)) _ n (size-Selection S (FieldCase s)) p (put-Field shown s) (has n (size-Selection S (FieldCase s))))

  pub selected-spread : (x : Selection S) (s : Spanning (SpreadType S) Span) (n : ℕ) (p : Part S) → x ≡ SpreadCase s →
      ((size : ℕ) → IsPart shown h on (spec.spread (view_spread shown s.item (view_span s.span))) n size p)
      → IsPart shown h on (put_selection shown x) n (size-Selection S x) p
  selected-spread x s n p is has = subst (λ y. IsPart shown h on (put_selection shown y) n (size-Selection S y) p) (sym is)
      (part-moved (put_selection shown (SpreadCase s)) _ n (size-Selection S (SpreadCase s)) p (put-FragmentSpread shown s)
      (has (size-Selection S (SpreadCase s))))

  pub selected-inline : (x : Selection S) (s : Spanning (InlineType S) Span) (n : ℕ) (p : Part S) → x ≡ InlineCase s →
      ((size : ℕ) → nesting (out-InlineFragment S s.item).selection_set.items < size → IsPart shown h on (inline_before shown s) n size p) →
      IsPart shown h on (put_selection shown x) n (size-Selection S x) p
  selected-inline x s n p is has = subst (λ y. IsPart shown h on (put_selection shown y) n (size-Selection S y) p) (sym is)
      (part-moved (put_selection shown (InlineCase s)) _ n (size-Selection S (InlineCase s)) p (put-InlineFragment shown s)
      (has (size-Selection S (InlineCase s)) (inline_deeper s)))
