-- Where a field is selected (CollectFields, 6.3.2).
use Rattle.std.specs.Prelude.{Bool, List}
use Rattle.graphql_spec.specs.Shown.{Shown, Name}
use Rattle.graphql_spec.specs.Selections.{occurrences}
use Rattle.graphql_spec.specs.Laws.{In}
use Rattle.juniper_syntax.specs.declared.position.Spanning.{Spanning}
use Rattle.juniper_syntax.specs.declared.position.Span.{Span}
use Rattle.juniper_syntax.specs.DocumentView.{view_selections}
use Rattle.juniper_syntax.specs.declared.ast.Field.{Field}
use Rattle.juniper_syntax.specs.declared.ast.Selection.{Selection}
use Rattle.juniper_lookahead.specs.Expansion.{FragmentsByName, VariableMap, expanded, occurrence_at}

-- the field is one of those that the selections hold for an object type
abbrev pub IsSelected : {S : Type 0} → (S → Shown) → (Name → Name → Bool) → VariableMap S → FragmentsByName S → Name → List (Selection S) →
    Spanning (Field S) Span → Type 0
IsSelected shown possible vars m T ss f = In (occurrence_at shown vars m f) (occurrences possible T (expanded shown vars m (view_selections shown ss)))
