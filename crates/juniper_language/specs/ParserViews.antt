-- How parts of a document are seen that the parser reads on its way. Only private clauses cite it.
use Rattle.std.specs.Prelude.{ℕ, List, Option, option_map, map, String, string_bytes}
use Rattle.std.specs.declared.alloc.Global.{Global}
use Rattle.std.specs.Borrow.{Bor}
use Rattle.graphql_spec.specs.Shown.{Shown}
use Rattle.graphql_spec.specs.Positions.{Spanned}
use Rattle.graphql_spec.specs.Documents.{Word, Argument, VariableDefinition}
use Rattle.juniper_syntax.specs.Positions.{view_spanning}
use Rattle.juniper_syntax.specs.InputView.{view_input}
use Rattle.juniper_syntax.specs.DocumentView.{view_word, view_argument, view_variable}
use Rattle.juniper_syntax.specs.declared.position.Spanning.{Spanning}
use Rattle.juniper_syntax.specs.declared.position.Span.{Span}
use Rattle.juniper_syntax.specs.declared.ast.Arguments.{Arguments}
use Rattle.juniper_syntax.specs.declared.ast.VariableDefinitions.{VariableDefinitions}
use Rattle.juniper_syntax.specs.declared.input.InputValue.{InputValue}

-- a name as a text of its own
abbrev pub view_owned : Spanning (String Global) Span → Word
view_owned = view_spanning string_bytes

-- a field of an object
abbrev pub view_member : {S : Type 0} → (S → Shown) → Spanning (String Global) Span × Spanning (InputValue S) Span → Argument
view_member shown m = record { name = view_owned m.0; value = view_spanning (view_input shown) m.1 }

-- arguments in their brackets
abbrev pub view_given : {S : Type 0} → (S → Shown) → Spanning (Arguments S) Span → Spanned (List Argument)
view_given {S} shown = view_spanning (λ a. map (view_argument shown) a.items.items)

abbrev pub view_label : Option (Spanning (Bor (List ℕ)) Span) × Spanning (Bor (List ℕ)) Span → Option Word × Word
view_label x = (option_map view_word x.0, view_word x.1)

-- definitions of variables in their brackets
abbrev pub view_variables : {S : Type 0} → (S → Shown) → Spanning (VariableDefinitions S) Span → Spanned (List VariableDefinition)
view_variables {S} shown = view_spanning (λ v. map (view_variable shown) v.items.items)
