-- Numbers that are joined, selection by selection, no further than to the greatest number.
use Rattle.std.proofs.Common.{◌≡◌, ℕ, suc, ◌+◌, ◌<◌, ◌≤◌, min, arith, List, length, get_or, drop, Option, Some, None, Vec, Global, refl, sym, ap, ◌∙◌}
use Rattle.std.proofs.lemmas.List.{drop_all}
use Rattle.graphql_spec.specs.Shown.{Shown, Name}
use Rattle.graphql_spec.specs.Documents.{Selections}
use Rattle.juniper_syntax.specs.declared.position.Spanning.{Spanning}
use Rattle.juniper_syntax.specs.declared.position.Span.{Span}
use Rattle.juniper_syntax.specs.DocumentView.{put_selection, view_selections, view_set}
use Rattle.juniper_syntax.specs.declared.ast.Field.{Field as FieldType, out-Field}
use Rattle.juniper_syntax.specs.declared.ast.InlineFragment.{InlineFragment as InlineType, out-InlineFragment}
use Rattle.juniper_syntax.specs.declared.ast.FragmentSpread.{FragmentSpread as SpreadType}
use Rattle.juniper_syntax.specs.declared.ast.Selection.{Selection, Field, FragmentSpread, InlineFragment}
use Rattle.juniper_syntax.proofs.Documents.{put-Field, put-FragmentSpread, put-InlineFragment}
use Rattle.juniper_syntax.proofs.Lists.{left-is}
use Rattle.juniper_written.specs.Kept.{number_by}
use Rattle.juniper_written.specs.Measures.{Measure, join, put_in}
use Rattle.juniper_written.proofs.Measuring.{cut-once, join-assoc, join-cut, join-none, join-zero, put-cut, suc-cut}

module _ {S : Type 0} (shown : S → Shown) (m : Measure) (most : ℕ) (at : Name → ℕ) where
  -- ## One selection

  module _ (x : Selection S) (n : ℕ) where
    -- the number is joined with that of what follows
    abbrev pub IsAdded : Type 0
    IsAdded = (rest : Selections) → min most (join m n (number_by m at rest)) ≡ min most (number_by m at (put_selection shown x rest))

    at-field : (s : Spanning (FieldType S) Span) (o : Option (Vec (Selection S) Global)) (rest : Selections) → x ≡ Field s →
        (out-Field S s.item).selection_set ≡ o → number_by m at (put_selection shown x rest)
        ≡ join m (suc (number_by m at (view_set shown o))) (number_by m at rest)
    unfolding number_by
    at-field s o rest is set = ap (λ y. number_by m at (put_selection shown y rest)) is ∙ (ap (number_by m at) (put-Field shown s rest)
        ∙ ap (λ v. join m (suc (number_by m at (view_set shown v))) (number_by m at rest)) set)

    -- a field, by the number of what it selects
    adds-field : (s : Spanning (FieldType S) Span) (o : Option (Vec (Selection S) Global)) (a : ℕ) → x ≡ Field s →
        (out-Field S s.item).selection_set ≡ o → a ≡ min most (number_by m at (view_set shown o)) → n ≡ min most (suc a) → IsAdded
    adds-field s o a is set below e = λ rest.
        let b = number_by m at (view_set shown o) in
        let r = number_by m at rest in
        join-cut m most n r (suc b) r
        (ap (min most) e ∙ (cut-once most (suc a) ∙ suc-cut most a b (ap (min most) below ∙ cut-once most b))) refl
        ∙ ap (min most) (sym (at-field s o rest is set))

    pub adds-leaf : (s : Spanning (FieldType S) Span) (a : ℕ) → x ≡ Field s → (out-Field S s.item).selection_set ≡ None → a ≡ 0 →
        n ≡ min most (suc a) → IsAdded
    unfolding number_by
    adds-leaf s a is none zero e = adds-field s None a is none (let z : 0 ≡ min most 0 = omega arith in zero ∙ z) e

    pub adds-set : (s : Spanning (FieldType S) Span) (v : Vec (Selection S) Global) (within : List (Selection S)) (a : ℕ) → x ≡ Field s →
        (out-Field S s.item).selection_set ≡ Some v → within ≡ v.items → a ≡ min most (number_by m at (view_selections shown within)) →
        n ≡ min most (suc a) → IsAdded
    adds-set s v within a is some same below e =
        adds-field s (Some v) a is some (below ∙ ap (λ l. min most (number_by m at (view_selections shown l))) same) e

    pub adds-spread : (s : Spanning (SpreadType S) Span) → x ≡ FragmentSpread s → n ≡ at s.item.name.item.now → IsAdded
    unfolding number_by
    adds-spread s is e = λ rest. ap (λ a. min most (join m a (number_by m at rest))) e
        ∙ ap (min most) (sym (ap (λ y. number_by m at (put_selection shown y rest)) is ∙ ap (number_by m at) (put-FragmentSpread shown s rest)))

    pub adds-inline : (s : Spanning (InlineType S) Span) (within : List (Selection S)) (a : ℕ) → x ≡ InlineFragment s →
        within ≡ (out-InlineFragment S s.item).selection_set.items → a ≡ min most (number_by m at (view_selections shown within)) →
        n ≡ min most (put_in m a) → IsAdded
    unfolding number_by
    adds-inline s within a is same below e = λ rest.
        let b = number_by m at (view_selections shown (out-InlineFragment S s.item).selection_set.items) in
        let r = number_by m at rest in
        let first : a ≡ min most b = below ∙ ap (λ l. min most (number_by m at (view_selections shown l))) same in
        join-cut m most n r (put_in m b) r
        (ap (min most) e ∙ (cut-once most (put_in m a) ∙ put-cut m most a b (ap (min most) first ∙ cut-once most b))) refl
        ∙ ap (min most) (sym (ap (λ y. number_by m at (put_selection shown y rest)) is ∙ ap (number_by m at) (put-InlineFragment shown s rest)))

  -- ## Selections in order

  module _ (xs : List (Selection S)) where
    -- what was joined, with what is left, is the whole
    pub record IsSoFar (i n : ℕ) : Type 0 where
      pub within : n ≤ most
      pub whole : min most (join m n (number_by m at (view_selections shown (drop i xs)))) ≡ min most (number_by m at (view_selections shown xs))

    pub so-far-first : (n : ℕ) → n ≡ 0 → IsSoFar 0 n
    so-far-first n e = record {
      within = omega (arith, e);
      whole = ap (λ a. min most (join m a (number_by m at (view_selections shown xs)))) e
          ∙ ap (min most) (join-zero m (number_by m at (view_selections shown xs)));
    }

    pub so-far-next : (i : ℕ) (x : Selection S) (n one made : ℕ) → i < length xs → x ≡ get_or xs i x → IsSoFar i n → IsAdded x one →
        made ≡ min most (join m n one) → IsSoFar (i + 1) made
    so-far-next i x n one made below is so_far added e =
        let rest = view_selections shown (drop (i + 1) xs) in
        let r = number_by m at rest in
        let with = number_by m at (put_selection shown x rest) in
        record {
          within = omega (arith, e);
          whole = join-cut m most made r (join m n one) r (ap (min most) e ∙ cut-once most (join m n one)) refl
              ∙ (ap (min most) (join-assoc m n one r)
              ∙ (join-cut m most n (join m one r) n with refl (added rest)
              ∙ (ap (λ l. min most (join m n (number_by m at (view_selections shown l)))) (sym (left-is xs i x below is)) ∙ so_far.whole)));
        }

    none-more : (n a : ℕ) → n ≤ most → min most n ≡ a → n ≡ a
    none-more n a within e = omega (arith, within, e)

    pub so-far-all : (i n : ℕ) → length xs ≤ i → IsSoFar i n → n ≡ min most (number_by m at (view_selections shown xs))
    unfolding number_by
    so-far-all i n past so_far =
        let e : min most (join m n 0) ≡ min most (join m n (number_by m at (view_selections shown (drop i xs)))) =
        ap (λ l. min most (join m n (number_by m at (view_selections shown l)))) (sym (drop_all i xs past)) in
        none-more n (min most (number_by m at (view_selections shown xs))) so_far.within (ap (min most) (sym (join-none m n)) ∙ (e ∙ so_far.whole))
