-- What is shown of lists and objects, item by item.
use Rattle.std.proofs.Common.{◌≡◌, ℕ, ◌==◌, length, sym, Bool, not, List, [], ◌∷◌, map, Option, Some, None, String, Global, Bor, string_bytes, refl, ap, ◌∙◌}
use Rattle.std.proofs.lemmas.List.{length-map}
use Rattle.graphql_spec.specs.Shown.{Shown, Name}
use Rattle.graphql_spec.specs.Inputs.{Input, Variables, null, scalar, enumerated, variable, list, object, item, input_field}
use Rattle.juniper_syntax.specs.Positions.{view_span}
use Rattle.juniper_syntax.specs.declared.position.Spanning.{Spanning}
use Rattle.juniper_syntax.specs.declared.position.Span.{Span}
use Rattle.juniper_syntax.specs.InputView.{view_input, view_items, view_fields}
use Rattle.juniper_syntax.specs.declared.input.InputValue.{InputValue}
use Rattle.juniper_lookahead.specs.Expansion.{VariableMap}
use Rattle.juniper_lookahead.specs.ShownValues.{replaced, replaced_items, replaced_fields, shown_value, shown_unless_variable, shown_at, shown_field}
use Rattle.juniper_lookahead.specs.ShownValues.{constant_or_null, listed, fields_listed}
use Rattle.juniper_lookahead.specs.ValueView.{items_shown, fields_shown, view_lent_variables}

module _ {S : Type 0} (shown : S → Shown) (given : Option (Bor (VariableMap S))) where
  abbrev stands : List ℕ → Input
  stands x = constant_or_null (view_lent_variables shown given x)

  items-are : (is : List (Spanning (InputValue S) Span)) → replaced_items stands (view_items shown is) ≡ listed (items_shown shown given is)
  unfolding shown_value shown_at replaced listed
  items-are [] = refl
  items-are (i ∷ is) = ap (item (replaced stands (view_input shown i.item)) (view_span i.span)) (items-are is)

  fields-are : (fs : List (Spanning (String Global) Span × Spanning (InputValue S) Span)) → replaced_fields stands (view_fields shown fs)
      ≡ fields_listed (fields_shown shown given fs)
  unfolding shown_value shown_at shown_field replaced fields_listed
  fields-are [] = refl
  fields-are (f ∷ fs) =
      ap (input_field (string_bytes f.0.item) (view_span f.0.span) (replaced stands (view_input shown f.1.item)) (view_span f.1.span)) (fields-are fs)

  pub list_is_shown : (is : List (Spanning (InputValue S) Span))
      → shown_unless_variable (view_lent_variables shown given) (list (view_items shown is)) ≡ list (listed (items_shown shown given is))
  unfolding shown_value shown_unless_variable replaced
  list_is_shown is = ap list (items-are is)

  pub object_is_shown : (fs : List (Spanning (String Global) Span × Spanning (InputValue S) Span))
      → shown_unless_variable (view_lent_variables shown given) (object (view_fields shown fs)) ≡ object (fields_listed (fields_shown shown given fs))
  unfolding shown_value shown_unless_variable replaced
  object_is_shown fs = ap object (fields-are fs)

-- a value of a variable: nothing in it is looked up
constant-is : (v : Input) → shown_unless_variable (λ x. None) v ≡ replaced (λ x. null) v
unfolding shown_value shown_unless_variable replaced constant_or_null
constant-is null = refl
constant-is (scalar s) = refl
constant-is (enumerated e) = refl
constant-is (variable x) = refl
constant-is (list is) = refl
constant-is (object fs) = refl

-- where a variable is the value
pub given_is_shown : (vars : Variables) (x : Name) (v : Input) → Some v ≡ vars x → shown_unless_variable (λ y. None) v ≡ shown_value vars (variable x)
unfolding shown_value replaced constant_or_null
given_is_shown vars x v is = constant-is v ∙ ap constant_or_null is

pub missing_is_shown : (vars : Variables) (x : Name) → None ≡ vars x → null ≡ shown_value vars (variable x)
unfolding shown_value replaced constant_or_null
missing_is_shown vars x is = ap constant_or_null is

pub ruleset shown_values = (list_is_shown, object_is_shown, given_is_shown, missing_is_shown)

pub map-twice : {A B C : Type 0} (g : B → C) (f : A → B) (xs : List A) → map (λ x. g (f x)) xs ≡ map g (map f xs)
map-twice g f [] = refl
map-twice g f (x ∷ xs) = ap (λ ys. g (f x) ∷ ys) (map-twice g f xs)

-- whether a list is empty, as it is seen
pub empty-seen : {A B : Type 0} (f : A → B) (xs : List A) {ys : List B} {b : Bool} → b ≡ (length xs == 0) → map f xs ≡ ys → not b ≡ not (length ys == 0)
empty-seen f xs is seen = ap not (is ∙ ap (λ n. n == 0) (sym (length-map xs f) ∙ ap length seen))
