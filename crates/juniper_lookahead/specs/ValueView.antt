-- How look-ahead's values and arguments are seen (this project's own).
use Rattle.std.specs.Prelude.{ℕ, List, length, map, Option, Some, None, String, string_bytes}
use Rattle.std.specs.Borrow.{Bor}
use Rattle.std.specs.declared.alloc.Global.{Global}
use Rattle.graphql_spec.specs.Shown.{Shown}
use Rattle.graphql_spec.specs.Positions.{Spanned}
use Rattle.graphql_spec.specs.Inputs.{Input, Variables, null, scalar, enumerated, list, object}
use Rattle.graphql_spec.specs.Documents.{Argument, Word, written}
use Rattle.juniper_syntax.specs.Positions.{view_span, view_spanning}
use Rattle.juniper_syntax.specs.declared.position.Spanning.{Spanning}
use Rattle.juniper_syntax.specs.declared.position.Span.{Span}
use Rattle.juniper_syntax.specs.InputView.{view_input, view_variables}
use Rattle.juniper_syntax.specs.DocumentView.{view_word, view_argument}
use Rattle.juniper_syntax.specs.declared.input.InputValue.{InputValue}
use Rattle.juniper_lookahead.specs.Expansion.{VariableMap}
use Rattle.juniper_lookahead.specs.ShownValues.{shown_at, shown_field, shown_argument, listed, fields_listed}
use Rattle.juniper_lookahead.specs.declared.values.LookAheadValue.{LookAheadValue}
use Rattle.juniper_lookahead.specs.declared.values.LookAheadValue.TheVariants as look
use Rattle.std.specs.declared.cmp.PartialEq.{Ghosts as Equality}
use Rattle.std.specs.declared.fmt.Debug.{Ghosts as Shows}
use Rattle.juniper_syntax.specs.declared.scalar.ScalarValue.{Ghosts as Scalars}
use Rattle.juniper_lookahead.specs.SelectionView.{view_selection}
use Rattle.juniper_lookahead.specs.declared.selection.LookAheadSelection.{LookAheadSelection}
use Rattle.juniper_lookahead.specs.declared.argument.LookAheadArgument.{LookAheadArgument}
use Rattle.juniper_lookahead.specs.declared.values.LookAheadList.{LookAheadList}
use Rattle.juniper_lookahead.specs.declared.values.LookAheadObject.{LookAheadObject}

-- an item with a lent place, seen by f
abbrev pub view_lent_spanning : {A B : Type 0} → (A → B) → Spanning A (Bor Span) → Spanned B
view_lent_spanning f x = record { item = f x.item; span = view_span x.span.now }

-- a name, with a lent place
abbrev pub view_lent_word : Spanning (Bor (List ℕ)) (Bor Span) → Word
view_lent_word = view_lent_spanning (λ n. n.now)

module _ {S : Type 0} (shown : S → Shown) where
  -- the values of variables; where none are lent, none has a value
  abbrev pub view_lent_variables : Option (Bor (VariableMap S)) → Variables
  view_lent_variables None = λ name. None
  view_lent_variables (Some m) = view_variables shown m.now

  -- a field of an object, as it is written
  abbrev pub view_field : Spanning (String Global) Span × Spanning (InputValue S) Span → Word × Spanned Input
  view_field f = (view_spanning string_bytes f.0, view_spanning (view_input shown) f.1)

  -- what is shown of an item, and of a field
  abbrev pub item_shown : Option (Bor (VariableMap S)) → Spanning (InputValue S) Span → Spanned Input
  item_shown vars i = shown_at (view_lent_variables vars) (view_spanning (view_input shown) i)

  abbrev pub field_shown : Option (Bor (VariableMap S)) → Spanning (String Global) Span × Spanning (InputValue S) Span → Word × Spanned Input
  field_shown vars f = shown_field (view_lent_variables vars) (view_field f)

  -- of items, and of fields, in order
  abbrev pub items_shown : Option (Bor (VariableMap S)) → List (Spanning (InputValue S) Span) → List (Spanned Input)
  items_shown vars is = map (item_shown vars) is

  abbrev pub fields_shown : Option (Bor (VariableMap S)) → List (Spanning (String Global) Span × Spanning (InputValue S) Span) → List (Word × Spanned Input)
  fields_shown vars fs = map (field_shown vars) fs

  -- a list, and an object
  abbrev pub view_list : LookAheadList S → List (Spanned Input)
  view_list l = items_shown l.variables l.items.now

  abbrev pub view_object : LookAheadObject S → List (Word × Spanned Input)
  view_object o = fields_shown o.variables o.fields.now

  -- a value
  abbrev pub view_look : LookAheadValue S → Input
  view_look look.Null = null
  view_look (look.Scalar s) = scalar (shown s.now)
  view_look (look.Enum e) = enumerated e.now
  view_look (look.List l) = list (listed (view_list l))
  view_look (look.Object o) = object (fields_listed (view_object o))

  -- an item of a list, and a field of an object, as an iterator hands them out
  abbrev pub view_shown_item : Spanning (LookAheadValue S) (Bor Span) → Spanned Input
  view_shown_item = view_lent_spanning view_look

  abbrev pub view_shown_field : Spanning (Bor (List ℕ)) (Bor Span) × Spanning (LookAheadValue S) (Bor Span) → Word × Spanned Input
  view_shown_field f = (view_lent_word f.0, view_shown_item f.1)

-- arguments that are lent, with the values of variables
module _ {S : Type 0} (shown : S → Shown) where
  -- what is shown of an argument that is written, and of arguments in order
  abbrev pub argument_shown : VariableMap S → Spanning (Bor (List ℕ)) Span × Spanning (InputValue S) Span → Argument
  argument_shown vars a = shown_argument (view_variables shown vars) (view_argument shown a)

  abbrev pub arguments_shown : VariableMap S → List (Spanning (Bor (List ℕ)) Span × Spanning (InputValue S) Span) → List Argument
  arguments_shown vars as' = map (argument_shown vars) as'

  -- an argument
  abbrev pub view_look_argument : LookAheadArgument S → Argument
  view_look_argument a = record {
    name = view_word a.name.now;
    value = shown_at (view_variables shown a.variables.now) (view_spanning (view_input shown) a.value.now);
  }

-- the arguments of a selection, as they are shown
module _ {S : Type 0} {scalar : Scalars S} {equality : Equality S} {shows : Shows S} where
  abbrev pub seen_arguments : LookAheadSelection S scalar equality shows → List Argument
  seen_arguments c = map (shown_argument (view_variables scalar.shown c.variables.now)) (written (view_selection c).head.arguments)

-- the hint of how many are left: exactly as many as these
abbrev pub exactly : {A : Type 0} → List A → ℕ × Option ℕ
exactly xs = (length xs, Some (length xs))
