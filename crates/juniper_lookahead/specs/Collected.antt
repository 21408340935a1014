-- What is collected of selections for an object type, and how it is seen (6.3.2).
use Rattle.std.specs.Prelude.{List, None, map}
use Rattle.graphql_spec.specs.Shown.{Shown}
use Rattle.graphql_spec.specs.Documents.{Selections}
use Rattle.graphql_spec.specs.Directives.{passes}
use Rattle.graphql_spec.specs.Fragments.{HasNoCycle, expand}
use Rattle.graphql_spec.specs.Selections.{Child, Forest, Occurrence}
use Rattle.juniper_syntax.specs.Positions.{view_span}
use Rattle.juniper_syntax.specs.declared.position.Spanning.{Spanning}
use Rattle.juniper_syntax.specs.declared.position.Span.{Span}
use Rattle.juniper_syntax.specs.InputView.{view_variables}
use Rattle.juniper_syntax.specs.DocumentView.{view_head, view_set}
use Rattle.juniper_syntax.specs.declared.ast.Field.{Field, out-Field}
use Rattle.juniper_lookahead.specs.Choices.{Choice, found}
use Rattle.juniper_lookahead.specs.FragmentView.{fragments_in, IsMade}
use Rattle.juniper_lookahead.specs.Parts.{child_of}
use Rattle.juniper_lookahead.specs.declared.collecting.Collector.{Collector}
use Rattle.juniper_lookahead.specs.declared.occurrences.Occurrence.{Occurrence as CodeOccurrence}

module _ {S P : Type 0} (shown : S → Shown) (c : Collector S P) where
  -- the admitted selections, with every fragment put in
  unfoldable pub expansion : Selections → Forest
  expansion s = expand (passes (view_variables shown c.variables.now)) (fragments_in shown c.fragments.now) s

  -- a field that was collected: its words, and what it selects, expanded
  unfoldable pub view_collected : Spanning (Field S) Span → Occurrence
  view_collected f =
      record { head = view_head shown (out-Field S f.item) (view_span f.span); below = expansion (view_set shown (out-Field S f.item).selection_set) }

  abbrev pub view_all : List (CodeOccurrence S) → List Occurrence
  view_all fs = map (λ o. view_collected o.field.now) fs

  -- the fragments are those of a document, and no spread leads to itself (5.5.2.2)
  pub record IsReady : Type 0 where
    pub made : IsMade shown c.fragments.now
    pub acyclic : HasNoCycle (fragments_in shown c.fragments.now)

-- ## Only private clauses cite what follows

-- a field, whatever the type that it is selected for
abbrev pub placed : Child → Occurrence
placed c = record { head = c.head; below = c.below }

-- the fields that selections hold
abbrev pub all_found : Choice → Selections → List Occurrence
all_found h s = map placed (found h None s)

module _ {S : Type 0} (shown : S → Shown) (h : Choice) where
  -- a field, with what is chosen of what it selects
  abbrev pub view_found : Spanning (Field S) Span → Occurrence
  view_found f = placed (child_of shown h f None)

  abbrev pub view_all_found : List (CodeOccurrence S) → List Occurrence
  view_all_found fs = map (λ o. view_found o.field.now) fs
