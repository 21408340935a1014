-- Where a field is asked for, with all its occurrences (CollectFields and MergeSelectionSets, 6.3.2, 6.4.3).
use Rattle.std.specs.Prelude.{◌≡◌, Bool, List, [], ◌∷◌, map}
use Rattle.graphql_spec.specs.Shown.{Shown, Name}
use Rattle.graphql_spec.specs.Selections.{Forest, end, chain, Occurrence, occurrences, with_key}
use Rattle.juniper_syntax.specs.DocumentView.{view_selections}
use Rattle.juniper_syntax.specs.declared.position.Spanning.{Spanning}
use Rattle.juniper_syntax.specs.declared.position.Span.{Span}
use Rattle.juniper_syntax.specs.declared.ast.Field.{Field}
use Rattle.juniper_lookahead.specs.declared.occurrences.Enclosing.{Enclosing}
use Rattle.juniper_lookahead.specs.declared.occurrences.Occurrence.{Occurrence as CodeOccurrence}
use Rattle.juniper_lookahead.specs.Expansion.{FragmentsByName, VariableMap, expanded, occurrence_at}

module _ {S : Type 0} (shown : S → Shown) (vars : VariableMap S) (m : FragmentsByName S) where
  -- fields where they are written, with what they select
  abbrev pub view_fields : List (CodeOccurrence S) → List Occurrence
  view_fields fs = map (λ o. occurrence_at shown vars m o.field.now) fs

  -- selections, one slice after the other, with every fragment put in
  unfoldable pub expanded_each : List (Enclosing S) → Forest
  expanded_each [] = end
  expanded_each (e ∷ es) = chain (expanded shown vars m (view_selections shown e.selections.now)) (expanded_each es)

-- a field as it is written is the first of these
abbrev pub IsFirstOf : {S : Type 0} → Spanning (Field S) Span → List (CodeOccurrence S) → Type 0
IsFirstOf f [] = ⊥
IsFirstOf f (o ∷ os) = o.field.now ≡ f

-- The fields are all that the selections hold of one response key for an object type, in order, and there is one.
pub record IsWholeGroup {S : Type 0} (shown : S → Shown) (possible : Name → Name → Bool) (vars : VariableMap S) (m : FragmentsByName S) (T : Name)
    (enclosing : List (Enclosing S)) (fs : List (CodeOccurrence S)) : Type 0 where
  pub key : Name
  pub first : Occurrence
  pub others : List Occurrence
  pub some : view_fields shown vars m fs ≡ first ∷ others
  pub whole : view_fields shown vars m fs ≡ with_key key (occurrences possible T (expanded_each shown vars m enclosing))
