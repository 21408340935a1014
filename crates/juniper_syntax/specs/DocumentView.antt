-- How the code's documents are seen (2.2 to 2.12).
use Rattle.std.specs.Prelude.{ℕ, List, [], ◌∷◌, map, Option, Some, None, option_map, is_some, Vec}
use Rattle.std.specs.Borrow.{Bor}
use Rattle.std.specs.declared.alloc.Global.{Global}
use Rattle.graphql_spec.specs.Shown.{Shown}
use Rattle.graphql_spec.specs.Positions as place
use Rattle.graphql_spec.specs.Documents as spec
use Rattle.graphql_spec.specs.Documents.{Word, Head, Selections, end, field, spread, inline}
use Rattle.juniper_syntax.specs.Positions.{view_span, view_spanning}
use Rattle.juniper_syntax.specs.InputView.{view_input}
use Rattle.juniper_syntax.specs.TypeView.{view_type}
use Rattle.juniper_syntax.specs.declared.position.Spanning.{Spanning}
use Rattle.juniper_syntax.specs.declared.position.Span.{Span}
use Rattle.juniper_syntax.specs.declared.input.InputValue.{InputValue}
use Rattle.juniper_syntax.specs.declared.ast.Arguments.{Arguments}
use Rattle.juniper_syntax.specs.declared.ast.Directive.{Directive}
use Rattle.juniper_syntax.specs.declared.ast.Fragment.{Fragment}
use Rattle.juniper_syntax.specs.declared.ast.FragmentSpread.{FragmentSpread}
use Rattle.juniper_syntax.specs.declared.ast.OperationType.{OperationType}
use Rattle.juniper_syntax.specs.declared.ast.OperationType.TheVariants as kind
use Rattle.juniper_syntax.specs.declared.ast.VariableDefinition.{VariableDefinition}
use Rattle.juniper_syntax.specs.declared.ast.Operation.{Operation}
use Rattle.juniper_syntax.specs.declared.ast.Definition.{Definition}
use Rattle.juniper_syntax.specs.declared.ast.Definition.TheVariants as definition
use Rattle.juniper_syntax.specs.declared.ast.Field.{Field, fold-Field, out-Field}
use Rattle.juniper_syntax.specs.declared.ast.InlineFragment.{InlineFragment, fold-InlineFragment}
use Rattle.juniper_syntax.specs.declared.ast.Selection.{Selection, fold-Selection}
use Rattle.juniper_syntax.specs.declared.ast.Selection.TheOpen.{Selection-F, Field-F, InlineFragment-F}

-- a name of the text, with its place
abbrev pub view_word : Spanning (Bor (List ℕ)) Span → Word
view_word = view_spanning (λ s. s.now)

-- a list of parts, each of which goes before what follows
abbrev pub chain : List (Selections → Selections) → Selections → Selections
chain [] rest = rest
chain (f ∷ fs) rest = f (chain fs rest)

abbrev pub items_or_none : {A B : Type 0} → (A → B) → Option (Vec A Global) → List B
items_or_none f None = []
items_or_none f (Some v) = map f v.items

abbrev pub view_kind : OperationType → spec.OperationType
view_kind kind.Query = spec.query
view_kind kind.Mutation = spec.mutation
view_kind kind.Subscription = spec.subscription

module _ {S : Type 0} (shown : S → Shown) where
  abbrev pub view_argument : Spanning (Bor (List ℕ)) Span × Spanning (InputValue S) Span → spec.Argument
  view_argument p = record { name = view_word p.0; value = view_spanning (view_input shown) p.1 }

  abbrev pub view_arguments : Option (Spanning (Arguments S) Span) → spec.Arguments
  view_arguments o = option_map (view_spanning (λ a. map view_argument a.items.items)) o

  abbrev pub view_directive : Spanning (Directive S) Span → spec.Directive
  view_directive d = record { name = view_word d.item.name; arguments = view_arguments d.item.arguments; span = view_span d.span }

  abbrev pub view_directives : Option (Vec (Spanning (Directive S) Span) Global) → List spec.Directive
  view_directives = items_or_none view_directive

  -- a selection goes before those that follow
  abbrev pub Placed : Type 0
  Placed = place.Span → Selections → Selections

  abbrev pub view_head : {A B C : Type 0} → Field-F S A B C → place.Span → Head
  view_head f at = record {
    alias = option_map view_word f.alias;
    name = view_word f.name;
    arguments = view_arguments f.arguments;
    directives = view_directives f.directives;
    has_set = is_some f.selection_set;
    span = at;
  }

  -- a field without what stands below it
  abbrev pub view_field : Spanning (Field S) Span → Head
  view_field f = view_head (out-Field S f.item) (view_span f.span)

  abbrev pub below_of : Option (Vec (Selections → Selections) Global) → Selections
  below_of None = end
  below_of (Some v) = chain v.items end

  abbrev pub field_step : Field-F S (Selections → Selections) Placed Placed → Placed
  field_step f at rest = field (view_head f at) (below_of f.selection_set) rest

  abbrev pub inline_head : {A B C : Type 0} → InlineFragment-F S A B C → place.Span → spec.Inline
  inline_head f at = record { condition = option_map view_word f.type_condition; directives = view_directives f.directives; span = at }

  abbrev pub inline_step : InlineFragment-F S (Selections → Selections) Placed Placed → Placed
  inline_step f at rest = inline (inline_head f at) (chain f.selection_set.items end) rest

  abbrev pub view_spread : FragmentSpread S → place.Span → spec.Spread
  view_spread f at = record { name = view_word f.name; directives = view_directives f.directives; span = at }

  abbrev pub selection_step : Selection-F S (Selections → Selections) Placed Placed → Selections → Selections
  selection_step (Selection-F.Field s) rest = s.item (view_span s.span) rest
  selection_step (Selection-F.FragmentSpread s) rest = spread (view_spread s.item (view_span s.span)) rest
  selection_step (Selection-F.InlineFragment s) rest = s.item (view_span s.span) rest

  abbrev pub put_selection : Selection S → Selections → Selections
  put_selection = fold-Selection S (Selections → Selections) Placed Placed selection_step field_step inline_step

  abbrev pub put_field : Field S → Placed
  put_field = fold-Field S (Selections → Selections) Placed Placed selection_step field_step inline_step

  abbrev pub put_inline : InlineFragment S → Placed
  put_inline = fold-InlineFragment S (Selections → Selections) Placed Placed selection_step field_step inline_step

  -- selections in order
  abbrev pub view_selections : List (Selection S) → Selections
  view_selections ss = chain (map put_selection ss) end

  -- a selection set, where one is written
  abbrev pub view_set : Option (Vec (Selection S) Global) → Selections
  view_set None = end
  view_set (Some v) = view_selections v.items

  abbrev pub view_variable : Spanning (Bor (List ℕ)) Span × VariableDefinition S → spec.VariableDefinition
  view_variable v = record {
    name = view_word v.0;
    of_type = view_spanning (view_type (λ s. s.now)) v.1.var_type;
    default = option_map (view_spanning (view_input shown)) v.1.default_value;
    directives = view_directives v.1.directives;
  }

  abbrev pub view_operation : Spanning (Operation S) Span → spec.Operation
  view_operation o = record {
    kind = view_kind o.item.operation_type;
    name = option_map view_word o.item.name;
    variables = option_map (view_spanning (λ v. map view_variable v.items.items)) o.item.variable_definitions;
    directives = view_directives o.item.directives;
    selections = view_selections o.item.selection_set.items;
    span = view_span o.span;
  }

  abbrev pub view_fragment : Spanning (Fragment S) Span → spec.Fragment
  view_fragment f = record {
    name = view_word f.item.name;
    condition = view_word f.item.type_condition;
    directives = view_directives f.item.directives;
    selections = view_selections f.item.selection_set.items;
    span = view_span f.span;
  }

  abbrev pub view_definition : Definition S → spec.Definition
  view_definition (definition.Operation o) = spec.operation (view_operation o)
  view_definition (definition.Fragment f) = spec.fragment (view_fragment f)

  abbrev pub view_document : Vec (Definition S) Global → spec.Document
  view_document d = map view_definition d.items
