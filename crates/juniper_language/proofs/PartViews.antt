-- Views of what the parser makes, beside what the rules of reading give.
use Rattle.std.proofs.Common.{◌≡◌, Bool, ℤ, List, [], ◌∷◌, map, Vec, String, Global, Bor, Option, Some, None, option_map, is_some, string_bytes, ℕ, refl, ap}
use Rattle.std.proofs.Common.{◌∙◌}
use Rattle.graphql_spec.specs.Shown.{Shown, Text, int, text, boolean}
use Rattle.graphql_spec.specs.Inputs as spec
use Rattle.graphql_spec.specs.Documents.{Selections}
use Rattle.juniper_syntax.specs.InputView.{view_input, view_items, view_fields}
use Rattle.juniper_syntax.specs.Positions.{view_span, view_spanning}
use Rattle.juniper_syntax.specs.DocumentView.{put_selection, view_word, view_arguments, view_directives, view_selections}
use Rattle.juniper_language.specs.ParserViews.{view_member}
use Rattle.juniper_language.specs.Reading.{items_of, fields_of, field_node, spread_node, inline_node, put, head_of, below_of}
use Rattle.juniper_syntax.specs.declared.input.InputValue.{InputValue, Scalar, List as ListOf, Object}
use Rattle.juniper_syntax.specs.declared.position.Spanning.{Spanning}
use Rattle.juniper_syntax.specs.declared.position.Span.{Span}
use Rattle.juniper_syntax.specs.declared.ast.Arguments.{Arguments}
use Rattle.juniper_syntax.specs.declared.ast.Directive.{Directive}
use Rattle.juniper_syntax.specs.declared.ast.Field.{roll-Field}
use Rattle.juniper_syntax.specs.declared.ast.InlineFragment.{roll-InlineFragment}
use Rattle.juniper_syntax.specs.declared.ast.Selection.{Selection, Field, FragmentSpread, InlineFragment}
use Rattle.juniper_syntax.proofs.Inputs.{view-Scalar, view-List, view-Object}
use Rattle.juniper_syntax.proofs.Documents.{put-Field, put-FragmentSpread, put-InlineFragment}

-- ## Values

module _ {S : Type 0} (shown : S → Shown) where
  pub view_truth : (x : S) (b : Bool) → shown x ≡ boolean b → view_input shown (Scalar x) ≡ spec.scalar (boolean b)
  view_truth x b e = view-Scalar shown x ∙ ap spec.scalar e

  pub view_int : (x : S) (i : ℤ) → shown x ≡ int i → view_input shown (Scalar x) ≡ spec.scalar (int i)
  view_int x i e = view-Scalar shown x ∙ ap spec.scalar e

  pub view_text : (x : S) (t : Text) → shown x ≡ text t → view_input shown (Scalar x) ≡ spec.scalar (text t)
  view_text x t e = view-Scalar shown x ∙ ap spec.scalar e

  items_seen : (vs : List (Spanning (InputValue S) Span)) → view_items shown vs ≡ items_of (map (view_spanning (view_input shown)) vs)
  items_seen [] = refl
  items_seen (v ∷ vs) = ap (spec.item (view_input shown v.item) (view_span v.span)) (items_seen vs)

  fields_seen : (ms : List (Spanning (String Global) Span × Spanning (InputValue S) Span)) → view_fields shown ms ≡ fields_of (map (view_member shown) ms)
  fields_seen [] = refl
  fields_seen (m ∷ ms) = ap (spec.input_field (string_bytes m.0.item) (view_span m.0.span) (view_input shown m.1.item) (view_span m.1.span)) (fields_seen ms)

  pub view_list : (v : Vec (Spanning (InputValue S) Span) Global) →
      view_input shown (ListOf v) ≡ spec.list (items_of (map (view_spanning (view_input shown)) v.items))
  view_list v = view-List shown v ∙ ap spec.list (items_seen v.items)

  pub view_object : (v : Vec (Spanning (String Global) Span × Spanning (InputValue S) Span) Global) →
      view_input shown (Object v) ≡ spec.object (fields_of (map (view_member shown) v.items))
  view_object v = view-Object shown v ∙ ap spec.object (fields_seen v.items)

-- ## Selections

abbrev Putting : Type 0
Putting = Selections → Selections

module _ {S : Type 0} (shown : S → Shown) where
  -- the set of a field, as it is read
  abbrev pub set_read : Option (Vec (Selection S) Global) → Option Selections
  set_read o = option_map (λ v. view_selections shown v.items) o

  pub view_of_field : (alias : Option (Spanning (Bor (List ℕ)) Span)) (name : Spanning (Bor (List ℕ)) Span) (as' : Option (Spanning (Arguments S) Span))
      (ds : Option (Vec (Spanning (Directive S) Span) Global)) (set : Option (Vec (Selection S) Global)) (sp : Span)
      → ◌≡◌ {A = Putting} (put_selection shown (Field (record {
        item = roll-Field S
            (record { alias = alias; name = name; arguments = as'; directives = ds; selection_set = set });
        span = sp;
      })))
      (put (field_node (head_of (option_map view_word alias, view_word name) (view_arguments shown as') (view_directives shown ds) (is_some (set_read set))
      (view_span sp)) (below_of (set_read set))))
  view_of_field alias name as' ds None sp = λ i r. put-Field shown
      (record { item = roll-Field S (record { alias = alias; name = name; arguments = as'; directives = ds; selection_set = None }); span = sp }) r i
  view_of_field alias name as' ds (Some v) sp = λ i r. put-Field shown
      (record { item = roll-Field S (record { alias = alias; name = name; arguments = as'; directives = ds; selection_set = Some v }); span = sp }) r i

  pub view_of_spread : (name : Spanning (Bor (List ℕ)) Span) (ds : Option (Vec (Spanning (Directive S) Span) Global)) (sp : Span)
      → ◌≡◌ {A = Putting} (put_selection shown (FragmentSpread (record { item = record { name = name; directives = ds }; span = sp })))
      (put (spread_node (record { name = view_word name; directives = view_directives shown ds; span = view_span sp })))
  view_of_spread name ds sp = λ i r. put-FragmentSpread shown (record { item = record { name = name; directives = ds }; span = sp }) r i

  pub view_of_inline : (condition : Option (Spanning (Bor (List ℕ)) Span)) (ds : Option (Vec (Spanning (Directive S) Span) Global))
      (set : Vec (Selection S) Global) (sp : Span)
      → ◌≡◌ {A = Putting} (put_selection shown (InlineFragment (record
      { item = roll-InlineFragment S (record { type_condition = condition; directives = ds; selection_set = set }); span = sp })))
      (put (inline_node (record { condition = option_map view_word condition; directives = view_directives shown ds; span = view_span sp })
      (view_selections shown set.items)))
  view_of_inline condition ds set sp = λ i r. put-InlineFragment shown
      (record { item = roll-InlineFragment S (record { type_condition = condition; directives = ds; selection_set = set }); span = sp }) r i
