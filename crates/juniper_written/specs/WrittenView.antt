-- How what is written is seen.
use Rattle.std.specs.Prelude.{ℕ, Bool, List, [], map, Option, Some, None}
use Rattle.std.specs.Borrow.{Bor}
use Rattle.std.specs.List.{list_any}
use Rattle.std.specs.Map.{lookup}
use Rattle.std.specs.Str.{bytes_eq}
use Rattle.graphql_spec.specs.Shown.{Shown, Name}
use Rattle.graphql_spec.specs.Documents as spec
use Rattle.graphql_spec.specs.Documents.{Head, written}
use Rattle.juniper_syntax.specs.Positions.{view_span}
use Rattle.juniper_syntax.specs.declared.position.Spanning.{Spanning}
use Rattle.juniper_syntax.specs.declared.position.Span.{Span}
use Rattle.juniper_syntax.specs.DocumentView.{view_arguments, view_field, view_head, view_directive, view_spread, inline_head, view_variable}
use Rattle.juniper_syntax.specs.declared.ast.Arguments.{Arguments}
use Rattle.juniper_syntax.specs.declared.ast.Directive.{Directive}
use Rattle.juniper_syntax.specs.declared.ast.Field.{Field}
use Rattle.juniper_syntax.specs.declared.ast.FragmentSpread.{FragmentSpread}
use Rattle.juniper_syntax.specs.declared.ast.InlineFragment.{InlineFragment, out-InlineFragment}
use Rattle.juniper_syntax.specs.declared.ast.VariableDefinitions.{VariableDefinitions}
use Rattle.juniper_written.specs.Parts.{Parts}
use Rattle.juniper_written.specs.declared.arguments.ArgumentLists.{ArgumentLists}
use Rattle.juniper_written.specs.declared.name_map.NameMap.{NameMap}
use Rattle.juniper_written.specs.declared.name_set.NameSet.{NameSet}
use Rattle.juniper_written.specs.declared.written.Written.{Written}

-- names that the text holds
abbrev pub view_names : List (Bor (List ℕ)) → List Name
view_names = map (λ n. n.now)

-- the names of a set, each once
abbrev pub names_in : NameSet → List (Bor (List ℕ))
names_in s = s.sorted.keys

-- a set of such names has this one
unfoldable pub has_name : NameSet → Name → Bool
has_name s n = list_any (λ k. bytes_eq n k.now) (names_in s)

module _ {T : Type 0} where
  -- what a map has, name by name; only proofs that a search ends cite it
  abbrev pub entries_of : NameMap T → List (Bor (List ℕ) × T)
  entries_of m = m.sorted.entries

  -- what stands at a name
  unfoldable pub named : NameMap T → Name → Option T
  named m k = lookup (λ n. bytes_eq k n.now) (entries_of m)

module _ {S : Type 0} (shown : S → Shown) where
  -- a spread
  abbrev pub view_spread_at : Spanning (FragmentSpread S) Span → spec.Spread
  view_spread_at x = view_spread shown x.item (view_span x.span)

  -- an inline fragment without what stands below it
  abbrev pub view_inline : Spanning (InlineFragment S) Span → spec.Inline
  view_inline x = inline_head shown (out-InlineFragment S x.item) (view_span x.span)

  -- the variables that are defined
  abbrev pub view_variables : Option (Spanning (VariableDefinitions S) Span) → List spec.VariableDefinition
  view_variables None = []
  view_variables (Some v) = map (view_variable shown) v.item.items.items

  abbrev pub view_fields : List (Bor (Spanning (Field S) Span)) → List Head
  view_fields = map (λ f. view_field shown f.now)

  abbrev pub view_directives_at : List (Bor (Spanning (Directive S) Span)) → List spec.Directive
  view_directives_at = map (λ d. view_directive shown d.now)

  -- the arguments of one field or directive after the other
  abbrev pub view_list : List (Bor (Option (Spanning (Arguments S) Span))) → List (List spec.Argument)
  view_list = map (λ a. written (view_arguments shown a.now))

  abbrev pub view_lists : ArgumentLists S → List (List spec.Argument)
  view_lists l = view_list l.lists.items

  abbrev pub view_written : Written S → Parts
  view_written w = record {
    fields = view_fields w.fields.items;
    spreads = view_names w.spreads.items;
    conditions = view_names w.conditions.items;
    directives = view_directives_at w.directives.items;
  }
