-- The variables in values with their places, item by item and field by field; and their names without these.
use Rattle.std.proofs.Common.{◌≡◌, List, [], ◌∷◌, ◌++◌, String, Global, refl, ap, ap₂, ◌∙◌}
use Rattle.std.specs.List.{flat_map}
use Rattle.std.proofs.lemmas.List.{map-append}
use Rattle.graphql_spec.specs.Shown.{Name, Shown}
use Rattle.graphql_spec.specs.Positions.{Span as Place}
use Rattle.graphql_spec.specs.Inputs.{Input, null, scalar, enumerated, variable, list, object, InputItems, no_items, item, InputFields, no_fields, input_field}
use Rattle.graphql_spec.specs.Documents.{Argument, Definition, Word}
use Rattle.graphql_spec.specs.VariableUses.{names_used, variables_in, variables_in_fields, variables_in_items}
use Rattle.graphql_spec.specs.Written.{argument_lists}
use Rattle.juniper_syntax.specs.Positions.{view_span}
use Rattle.juniper_syntax.specs.declared.position.Spanning.{Spanning}
use Rattle.juniper_syntax.specs.declared.position.Span.{Span}
use Rattle.juniper_syntax.specs.InputView.{view_input, view_items, view_fields}
use Rattle.juniper_syntax.specs.declared.input.InputValue.{InputValue}
use Rattle.juniper_type_rules.specs.Variables.{names_of_words, variable_words, words_given, words_in_fields, words_in_items, words_used}

-- a name at a place
pub same-word : (n m : Name) (a b : Place) → n ≡ m → a ≡ b → (let w : Word = record { item = n; span = a } in let v : Word = record { item = m; span = b } in w
    ≡ v)
same-word n m a b e f = rw (e, f) refl

-- ## Items and fields of the code

module _ {S : Type 0} (shown : S → Shown) where
  abbrev pub words_of_item : Spanning (InputValue S) Span → List Word
  words_of_item x = variable_words (view_input shown x.item) (view_span x.span)

  abbrev pub words_of_field : Spanning (String Global) Span × Spanning (InputValue S) Span → List Word
  words_of_field x = variable_words (view_input shown x.1.item) (view_span x.1.span)

  pub items-are : (xs : List (Spanning (InputValue S) Span)) → flat_map words_of_item xs ≡ words_in_items (view_items shown xs)
  unfolding words_in_items
  items-are [] = refl
  items-are (x ∷ xs) = ap (λ l. words_of_item x ++ l) (items-are xs)

  pub fields-are : (xs : List (Spanning (String Global) Span × Spanning (InputValue S) Span)) →
      flat_map words_of_field xs ≡ words_in_fields (view_fields shown xs)
  unfolding words_in_fields
  fields-are [] = refl
  fields-are (x ∷ xs) = ap (λ l. words_of_field x ++ l) (fields-are xs)

-- ## Names without their places

pub names-append : (xs ys : List Word) → names_of_words (xs ++ ys) ≡ names_of_words xs ++ names_of_words ys
names-append xs ys = map-append (λ w. w.item) xs ys

mutual
  unfolding variable_words words_in_items words_in_fields variables_in variables_in_items variables_in_fields

  names-in : (v : Input) (at : Place) → names_of_words (variable_words v at) ≡ variables_in v
  names-in null at = refl
  names-in (scalar s) at = refl
  names-in (enumerated e) at = refl
  names-in (variable x) at = refl
  names-in (list is) at = item-names is
  names-in (object fs) at = field-names fs

  item-names : (is : InputItems) → names_of_words (words_in_items is) ≡ variables_in_items is
  item-names no_items = refl
  item-names (item v at rest) =
      names-append (variable_words v at) (words_in_items rest) ∙ ap₂ (λ a b. a ++ b) (names-in v at) (item-names rest)

  field-names : (fs : InputFields) → names_of_words (words_in_fields fs) ≡ variables_in_fields fs
  field-names no_fields = refl
  field-names (input_field k k_at v v_at rest) =
      names-append (variable_words v v_at) (words_in_fields rest) ∙ ap₂ (λ a b. a ++ b) (names-in v v_at) (field-names rest)

given-names : (a : Argument) → names_of_words (words_given a) ≡ variables_in a.value.item
unfolding words_given
given-names a = names-in a.value.item a.value.span

pub names-flat : {A : Type 0} (f : A → List Word) (g : A → List Name) → ((x : A) → names_of_words (f x) ≡ g x) → (xs : List A) →
    names_of_words (flat_map f xs) ≡ flat_map g xs
names-flat f g same [] = refl
names-flat f g same (x ∷ xs) = names-append (f x) (flat_map f xs) ∙ ap₂ (λ a b. a ++ b) (same x) (names-flat f g same xs)

-- those in a definition
pub used-names : (x : Definition) → names_of_words (words_used x) ≡ names_used x
unfolding words_used names_used
used-names x = names-flat (flat_map words_given) (flat_map (λ a. variables_in a.value.item))
    (λ as'. names-flat words_given (λ a. variables_in a.value.item) given-names as') (argument_lists x)
