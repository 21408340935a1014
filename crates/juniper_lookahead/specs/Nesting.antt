-- How deep selections nest, and what counts of a fragment where it is spread. Only private clauses cite this.
use Rattle.std.specs.Prelude.{ℕ, ◌+◌, ◌*◌, List}
use Rattle.std.specs.Borrow.{Bor}
use Rattle.graphql_spec.specs.Shown.{Shown}
use denote.Param.Weighed.{most}
use Rattle.juniper_syntax.specs.DocumentView.{view_selections, view_word}
use Rattle.juniper_syntax.specs.declared.ast.Fragment.{Fragment}
use Rattle.juniper_syntax.specs.declared.ast.Selection.{Selection, size-Selection}
use Rattle.juniper_lookahead.specs.Choices.{Core}

-- what is left to go over: spreads first, then how deep is written
unfoldable pub work_left : ℕ → ℕ → ℕ → ℕ
work_left deepest n size = n * (deepest + 1) + size

module _ {S : Type 0} where
  -- how deep selections nest as they are written, and those of the fragment where that is most
  unfoldable pub nesting : List (Selection S) → ℕ
  nesting ss = most (λ x. size-Selection S x) ss

  unfoldable pub deepest_of : List (Bor (List ℕ) × Bor (Fragment S)) → ℕ
  deepest_of es = most (λ e. nesting e.1.now.selection_set.items) es

-- what counts of a fragment where it is spread
abbrev pub view_core : {S : Type 0} → (S → Shown) → Fragment S → Core
view_core shown f = record { condition = view_word f.type_condition; selections = view_selections shown f.selection_set.items }
