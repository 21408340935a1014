-- What one selection holds: a field, or the selections of a fragment. Only private clauses cite this.
use Rattle.std.specs.Prelude.{◌≡◌, ℕ, ◌<◌, List, [], ◌∷◌, ◌++◌, Option}
use Rattle.graphql_spec.specs.Shown.{Shown, Name}
use Rattle.graphql_spec.specs.Documents.{Selections, field, inline}
use Rattle.graphql_spec.specs.Selections.{Child}
use Rattle.juniper_syntax.specs.Positions.{view_span}
use Rattle.juniper_syntax.specs.declared.position.Spanning.{Spanning}
use Rattle.juniper_syntax.specs.declared.position.Span.{Span}
use Rattle.juniper_syntax.specs.DocumentView.{inline_head, view_head, view_selections, view_set}
use Rattle.juniper_syntax.specs.declared.ast.Field.{Field, out-Field}
use Rattle.juniper_syntax.specs.declared.ast.InlineFragment.{InlineFragment, out-InlineFragment}
use Rattle.juniper_lookahead.specs.Choices.{Choice, IsWithin, expanded_by, found}
use Rattle.juniper_lookahead.specs.Nesting.{nesting, work_left}
use Rattle.juniper_lookahead.specs.SelectionView.{view_applies}
use Rattle.juniper_lookahead.specs.declared.parts.Part.{Part}
use Rattle.juniper_lookahead.specs.declared.parts.Part.TheVariants as part

module _ {S : Type 0} (shown : S → Shown) where
  -- a field, and an inline fragment, before what follows it
  abbrev pub field_before : Spanning (Field S) Span → Selections → Selections
  field_before f = field (view_head shown (out-Field S f.item) (view_span f.span)) (view_set shown (out-Field S f.item).selection_set)

  abbrev pub inline_before : Spanning (InlineFragment S) Span → Selections → Selections
  inline_before x =
      inline (inline_head shown (out-InlineFragment S x.item) (view_span x.span)) (view_selections shown (out-InlineFragment S x.item).selection_set.items)

  module _ (h : Choice) where
    -- a field where it is written, with what it selects
    unfoldable pub child_of : Spanning (Field S) Span → Option Name → Child
    child_of f on = record {
      head = view_head shown (out-Field S f.item) (view_span f.span);
      below = expanded_by h (view_set shown (out-Field S f.item).selection_set);
      applies_for = on;
    }

    module _ (on : Option Name) where
      -- the fields of a part
      unfoldable pub held : Part S → List Child
      held part.Nothing = []
      held (part.Field f) = child_of f.now on ∷ []
      held (part.Selections ss within n) = found h (view_applies within) (view_selections shown ss.now)

      abbrev pub IsPartWithin : Part S → Type 0
      IsPartWithin part.Nothing = Unit {0}
      IsPartWithin (part.Field f) = Unit {0}
      IsPartWithin (part.Selections ss within n) = IsWithin h n (view_selections shown ss.now)

      abbrev pub IsSmaller : ℕ → Part S → Type 0
      IsSmaller work part.Nothing = Unit {0}
      IsSmaller work (part.Field f) = Unit {0}
      IsSmaller work (part.Selections ss within n) = work_left h.deepest n (nesting ss.now) < work

      -- a field is all that its selection holds
      abbrev pub IsFieldAlone : (Selections → Selections) → Part S → Type 0
      IsFieldAlone put part.Nothing = Unit {0}
      IsFieldAlone put (part.Field f) = found h on (put Selections.end) ≡ child_of f.now on ∷ []
      IsFieldAlone put (part.Selections ss within n) = Unit {0}

      -- what a selection holds, which stands before others, where at most n spreads are inside one another
      pub record IsPart (put : Selections → Selections) (n size : ℕ) (p : Part S) : Type 0 where
        pub holds : (rest : Selections) → IsWithin h n (put rest) → found h on (put rest) ≡ held p ++ found h on rest
        pub inside : (rest : Selections) → IsWithin h n (put rest) → IsPartWithin p
        pub others : (rest : Selections) → IsWithin h n (put rest) → IsWithin h n rest
        pub smaller : IsSmaller (work_left h.deepest n size) p
        pub alone : IsFieldAlone put p
