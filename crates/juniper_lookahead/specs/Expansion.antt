-- What is selected below a field, with each fragment in its place (2.8, 6.3.2), and how look-ahead shows it (this project's own).
use Rattle.std.specs.Prelude.{ℕ, List, map, Option, None, String}
use Rattle.std.specs.Borrow.{Bor}
use Rattle.std.specs.HashMap.{HashMap}
use Rattle.std.specs.declared.alloc.Global.{Global}
use Rattle.std.specs.declared.hash.BuildHasherDefault.{BuildHasherDefault}
use Rattle.std.specs.declared.hash.FoldHasher.{FoldHasher}
use Rattle.graphql_spec.specs.Shown.{Shown, Name}
use Rattle.graphql_spec.specs.Positions.{origin}
use Rattle.graphql_spec.specs.Positions as place
use Rattle.graphql_spec.specs.Documents as spec
use Rattle.graphql_spec.specs.Documents.{Head, Selections}
use Rattle.graphql_spec.specs.Directives.{passes}
use Rattle.graphql_spec.specs.Fragments.{expand, HasNoCycle}
use Rattle.graphql_spec.specs.Selections.{Forest, Occurrence, Child}
use Rattle.juniper_syntax.specs.Positions.{view_span}
use Rattle.juniper_syntax.specs.declared.position.Spanning.{Spanning}
use Rattle.juniper_syntax.specs.declared.position.Span.{Span}
use Rattle.juniper_syntax.specs.InputView.{view_variables}
use Rattle.juniper_syntax.specs.DocumentView.{view_directives, view_head, view_selections, view_set, view_word}
use Rattle.juniper_syntax.specs.declared.ast.Field.{Field, out-Field}
use Rattle.juniper_syntax.specs.declared.ast.Fragment.{Fragment}
use Rattle.juniper_syntax.specs.declared.input.InputValue.{InputValue}

-- the values of variables by their names, and fragments by theirs
abbrev pub VariableMap : Type 0 → Type 0
VariableMap S = HashMap (String Global) (InputValue S) (BuildHasherDefault FoldHasher)

abbrev pub FragmentsByName : Type 0 → Type 0
FragmentsByName S = HashMap (Bor (List ℕ)) (Bor (Fragment S)) (BuildHasherDefault FoldHasher)

-- no place
abbrev pub nowhere : place.Span
nowhere = record { start = origin; end = origin }

module _ {S : Type 0} (shown : S → Shown) where
  -- a fragment by the name at which a map has it, but for where it is written
  unfoldable pub named_fragment : Bor (List ℕ) × Bor (Fragment S) → spec.Fragment
  named_fragment e = record {
    name = record { item = e.0.now; span = nowhere };
    condition = view_word e.1.now.type_condition;
    directives = view_directives shown e.1.now.directives;
    selections = view_selections shown e.1.now.selection_set.items;
    span = nowhere;
  }

  -- the fragments that a map has (2.8)
  unfoldable pub fragments_among : FragmentsByName S → List spec.Fragment
  fragments_among m = map named_fragment m.entries

  -- no spread leads back to its own fragment (5.5.2.2)
  abbrev pub IsAcyclic : FragmentsByName S → Type 0
  IsAcyclic m = HasNoCycle (fragments_among m)

  -- the admitted selections, with every fragment put in
  unfoldable pub expanded : VariableMap S → FragmentsByName S → Selections → Forest
  expanded vars m s = expand (passes (view_variables shown vars)) (fragments_among m) s

  -- a field where it is written, with what it selects
  unfoldable pub occurrence_at : VariableMap S → FragmentsByName S → Spanning (Field S) Span → Occurrence
  occurrence_at vars m f =
      record { head = view_head shown (out-Field S f.item) (view_span f.span); below = expanded vars m (view_set shown (out-Field S f.item).selection_set) }

  -- a field with what it selects, and the type that it is selected for; where it is written is left out
  unfoldable pub child_at : VariableMap S → FragmentsByName S → Field S → Option Name → Child
  child_at vars m f on =
      record { head = view_head shown (out-Field S f) nowhere; below = expanded vars m (view_set shown (out-Field S f).selection_set); applies_for = on }

-- the words of a field, but for where they are written
unfoldable pub unplaced_head : Head → Head
unplaced_head h = record { alias = h.alias; name = h.name; arguments = h.arguments; directives = h.directives; has_set = h.has_set; span = nowhere }

-- a child, but for where it is written
unfoldable pub unplaced : Child → Child
unplaced c = record { head = unplaced_head c.head; below = c.below; applies_for = c.applies_for }

-- a field as look-ahead shows it: for all types
unfoldable pub seen_ahead : Occurrence → Child
seen_ahead o = record { head = unplaced_head o.head; below = o.below; applies_for = None }
