-- A document beside what it stands for: selections, level by level.
use Rattle.std.proofs.Common.{◌≡◌, Option, Some, None, is_some, Bool, Vec, Global, refl, ap, ap₂, ◌∙◌, rules}
use Rattle.graphql_spec.specs.Shown.{Shown}
use Rattle.graphql_spec.specs.Positions as place
use Rattle.graphql_spec.specs.Documents as spec
use Rattle.graphql_spec.specs.Documents.{Selections}
use Rattle.juniper_syntax.specs.Positions.{view_span}
use Rattle.juniper_syntax.specs.DocumentView.{below_of, view_head, inline_head, view_spread, view_set, view_selections, put_selection, put_field, put_inline}
use Rattle.juniper_syntax.specs.DocumentView.{field_step, inline_step, selection_step, Placed}
use Rattle.juniper_syntax.specs.declared.position.Spanning.{Spanning}
use Rattle.juniper_syntax.specs.declared.position.Span.{Span}
use Rattle.juniper_syntax.specs.declared.ast.Field.{Field as FieldType, fold_out-Field, out-Field}
use Rattle.juniper_syntax.specs.declared.ast.InlineFragment.{InlineFragment as InlineType, fold_out-InlineFragment, out-InlineFragment}
use Rattle.juniper_syntax.specs.declared.ast.FragmentSpread.{FragmentSpread as SpreadType}
use Rattle.juniper_syntax.specs.declared.ast.Selection.TheShapes.{former-Field-selection_set}
use Rattle.juniper_syntax.specs.declared.ast.Selection.{Selection, Field, FragmentSpread, InlineFragment, the_lemmas as selection_lemmas}

module _ {S : Type 0} (shown : S → Shown) where
  below-is : (x : Option (Vec (Selection S) Global)) → below_of shown
      ((former-Field-selection_set S).map (Selection S) (Selections → Selections) (put_selection shown) x) ≡ view_set shown x
  below-is None = refl
  below-is (Some v) = refl

  set-is : (x : Option (Vec (Selection S) Global)) → is_some ((former-Field-selection_set S).map (Selection S) (Selections → Selections)
      (put_selection shown) x) ≡ is_some x
  set-is None = refl
  set-is (Some v) = refl

  -- a field's head, but for whether it has a set
  abbrev head-but-set : FieldType S → place.Span → Bool → spec.Head
  head-but-set f at b = let h : spec.Head = view_head shown (out-Field S f) at in record h { has_set = b }

  pub put_field-is : (f : FieldType S) (at : place.Span) (rest : Selections) →
      put_field shown f at rest ≡ spec.field (view_head shown (out-Field S f) at) (view_set shown (out-Field S f).selection_set) rest
  put_field-is f at rest =
      let e = fold_out-Field S (Selections → Selections) (Placed shown) (Placed shown) (selection_step shown) (field_step shown) (inline_step shown) f in
      let x = (out-Field S f).selection_set in
      ap (λ (h : Placed shown). h at rest) e ∙ ap₂ (λ b r. spec.field (head-but-set f at b) r rest) (set-is x) (below-is x)

  pub put_inline-is : (f : InlineType S) (at : place.Span) (rest : Selections) →
      put_inline shown f at rest ≡ spec.inline (inline_head shown (out-InlineFragment S f) at)
      (view_selections shown (out-InlineFragment S f).selection_set.items) rest
  put_inline-is f at rest =
      let e = fold_out-InlineFragment S (Selections → Selections) (Placed shown) (Placed shown) (selection_step shown) (field_step shown)
      (inline_step shown) f in
      ap (λ (h : Placed shown). h at rest) e

  pub put-Field : (s : Spanning (FieldType S) Span) (rest : Selections) →
      put_selection shown (Field s) rest ≡ spec.field (view_head shown (out-Field S s.item) (view_span s.span))
      (view_set shown (out-Field S s.item).selection_set) rest
  put-Field s rest =
      let e : put_selection shown (Field s) ≡ put_field shown s.item (view_span s.span) = search (rules, selection_lemmas) in
      ap (λ (f : Selections → Selections). f rest) e ∙ put_field-is s.item (view_span s.span) rest

  pub put-FragmentSpread : (s : Spanning (SpreadType S) Span) (rest : Selections) →
      put_selection shown (FragmentSpread s) rest ≡ spec.spread (view_spread shown s.item (view_span s.span)) rest
  put-FragmentSpread s rest =
      let e : put_selection shown (FragmentSpread s) ≡ spec.spread (view_spread shown s.item (view_span s.span)) = search (rules, selection_lemmas) in
      ap (λ (f : Selections → Selections). f rest) e

  pub put-InlineFragment : (s : Spanning (InlineType S) Span) (rest : Selections) →
      put_selection shown (InlineFragment s) rest ≡ spec.inline (inline_head shown (out-InlineFragment S s.item) (view_span s.span))
      (view_selections shown (out-InlineFragment S s.item).selection_set.items) rest
  put-InlineFragment s rest =
      let e : put_selection shown (InlineFragment s) ≡ put_inline shown s.item (view_span s.span) = search (rules, selection_lemmas) in
      ap (λ (f : Selections → Selections). f rest) e ∙ put_inline-is s.item (view_span s.span) rest

-- selections are put one before the other
pub ruleset puts = (put-Field, put-FragmentSpread, put-InlineFragment)
