-- Fields of object values with the name of an earlier one.
use Rattle.std.proofs.Common.{◌≡◌, false, ◌||◌, List, [], ◌∷◌, ◌++◌, Option, Some, None, map, String, Global, string_bytes, refl, sym, ap, ap₂, ◌∙◌}
use Rattle.std.specs.List.{flat_map, list_any}
use Rattle.graphql_spec.specs.Shown.{Shown}
use Rattle.graphql_spec.specs.Positions.{Spanned}
use Rattle.graphql_spec.specs.Documents.{Argument, Definition, VariableDefinition, Word}
use Rattle.graphql_spec.specs.Inputs.{Input, null, scalar, enumerated, variable, list, object, InputItems, no_items, item, InputFields, no_fields, input_field}
use Rattle.graphql_spec.specs.Rules as rules
use Rattle.graphql_spec.specs.Rules.{repeats_input_field, reported}
use Rattle.graphql_spec.specs.Written.{argument_lists, defined_variables, field_repeats, item_repeats, repeats}
use Rattle.juniper_written.proofs.FieldRepeats.{defaults-are, repeats-parts, repeats-split}
use Rattle.juniper_written.specs.FieldNames.{default_repeats, names_of, value_repeats_in, value_repeats_or, values_repeat}
use Rattle.juniper_syntax.specs.Positions.{view_span}
use Rattle.juniper_syntax.specs.declared.position.Spanning.{Spanning}
use Rattle.juniper_syntax.specs.declared.position.Span.{Span}
use Rattle.juniper_syntax.specs.InputView.{view_input, view_items, view_fields}
use Rattle.juniper_syntax.specs.declared.input.InputValue.{InputValue}
use Rattle.juniper_explain.specs.declared.rule.Rule.TheVariants as rule
use Rattle.juniper_explain.specs.Explanations.{Explanation, error_of, has_any, rule_text}
use Rattle.juniper_explain.specs.Nodes.{repeated_fields, repeated_in_default, repeated_in_items, repeated_in_values, repeated_input_fields, repeated_within}
use Rattle.juniper_explain.specs.Words.{field_words}
use Rattle.juniper_explain.proofs.Found.{AreOf, error-is, of-append, of-each}
use Rattle.juniper_explain.proofs.Joined.{has-append, has-each}
use Rattle.juniper_explain.proofs.Repeating.{first-has, of-repeated}

-- ## Items and fields of the code

module _ {S : Type 0} (shown : S → Shown) where
  abbrev pub within_item : Spanning (InputValue S) Span → List Explanation
  within_item x = repeated_within (view_input shown x.item)

  abbrev pub within_field : Spanning (String Global) Span × Spanning (InputValue S) Span → List Explanation
  within_field x = repeated_within (view_input shown x.1.item)

  pub items-are : (xs : List (Spanning (InputValue S) Span)) → flat_map within_item xs ≡ repeated_in_items (view_items shown xs)
  unfolding repeated_in_items
  items-are [] = refl
  items-are (x ∷ xs) = ap (λ l. within_item x ++ l) (items-are xs)

  pub fields-are : (xs : List (Spanning (String Global) Span × Spanning (InputValue S) Span)) →
      flat_map within_field xs ≡ repeated_in_values (view_fields shown xs)
  unfolding repeated_in_values
  fields-are [] = refl
  fields-are (x ∷ xs) = ap (λ l. within_field x ++ l) (fields-are xs)

  -- the name of a field, with its place
  abbrev pub word_of_field : Spanning (String Global) Span × Spanning (InputValue S) Span → Word
  word_of_field x = record { item = string_bytes x.0.item; span = view_span x.0.span }

  pub words-are : (xs : List (Spanning (String Global) Span × Spanning (InputValue S) Span)) → map word_of_field xs ≡ field_words (view_fields shown xs)
  unfolding field_words
  words-are [] = refl
  words-are (x ∷ xs) = ap (λ l. word_of_field x ∷ l) (words-are xs)

-- ## Whether there is any

names-are : (fs : InputFields) → map (λ (w : Word). w.item) (field_words fs) ≡ names_of fs
unfolding field_words names_of
names-are no_fields = refl
names-are (input_field k k_at v v_at rest) = ap (λ l. k ∷ l) (names-are rest)

own-has : (fs : InputFields) → has_any (repeated_fields fs) ≡ repeats (names_of fs)
unfolding repeated_fields
own-has fs = first-has _ _ _ (field_words fs) ∙ ap repeats (names-are fs)

mutual
  unfolding repeated_within repeated_in_items repeated_in_values field_repeats item_repeats values_repeat has_any

  within-has : (v : Input) → has_any (repeated_within v) ≡ field_repeats v
  within-has null = refl
  within-has (scalar s) = refl
  within-has (enumerated e) = refl
  within-has (variable x) = refl
  within-has (list is) = items-has is
  within-has (object fs) = has-append (repeated_fields fs) (repeated_in_values fs) ∙ (ap₂ (λ a b. a || b) (own-has fs) (values-has fs) ∙ sym (repeats-split fs))

  items-has : (is : InputItems) → has_any (repeated_in_items is) ≡ item_repeats is
  items-has no_items = refl
  items-has (item v at rest) = has-append (repeated_within v) (repeated_in_items rest) ∙ ap₂ (λ a b. a || b) (within-has v) (items-has rest)

  values-has : (fs : InputFields) → has_any (repeated_in_values fs) ≡ values_repeat fs
  values-has no_fields = refl
  values-has (input_field k k_at v v_at rest) =
      has-append (repeated_within v) (repeated_in_values rest) ∙ ap₂ (λ a b. a || b) (within-has v) (values-has rest)

default-has : (o : Option (Spanned Input)) → has_any (repeated_in_default o) ≡ value_repeats_or o
unfolding repeated_in_default value_repeats_or has_any
default-has None = refl
default-has (Some v) = within-has v.item

argument-has : (a : Argument) → has_any (repeated_within a.value.item) ≡ value_repeats_in a
unfolding value_repeats_in
argument-has a = within-has a.value.item

variable-has : (v : VariableDefinition) → has_any (repeated_in_default v.default) ≡ default_repeats v
unfolding default_repeats
variable-has v = default-has v.default

-- ## All of them are of the rule

own-of : (fs : InputFields) → AreOf rule.UniqueInputFieldNames (repeated_fields fs)
unfolding repeated_fields
own-of fs = of-repeated _ _ _ (λ n. false) (field_words fs)

mutual
  unfolding repeated_within repeated_in_items repeated_in_values

  within-of : (v : Input) → AreOf rule.UniqueInputFieldNames (repeated_within v)
  within-of null = tt
  within-of (scalar s) = tt
  within-of (enumerated e) = tt
  within-of (variable x) = tt
  within-of (list is) = items-of is
  within-of (object fs) = of-append _ (repeated_fields fs) (repeated_in_values fs) (own-of fs) (values-of fs)

  items-of : (is : InputItems) → AreOf rule.UniqueInputFieldNames (repeated_in_items is)
  items-of no_items = tt
  items-of (item v at rest) = of-append _ (repeated_within v) (repeated_in_items rest) (within-of v) (items-of rest)

  values-of : (fs : InputFields) → AreOf rule.UniqueInputFieldNames (repeated_in_values fs)
  values-of no_fields = tt
  values-of (input_field k k_at v v_at rest) = of-append _ (repeated_within v) (repeated_in_values rest) (within-of v) (values-of rest)

default-of : (o : Option (Spanned Input)) → AreOf rule.UniqueInputFieldNames (repeated_in_default o)
unfolding repeated_in_default
default-of None = tt
default-of (Some v) = within-of v.item

-- the error that is listed
pub input-error : (x : Definition) → error_of x (repeated_input_fields x) ≡ reported (rules.repeats_input_field x) (rule_text rule.UniqueInputFieldNames) x
unfolding repeated_input_fields
input-error x =
    let in_argument : Argument → List Explanation = λ a. repeated_within a.value.item in
    let in_default : VariableDefinition → List Explanation = λ v. repeated_in_default v.default in
    error-is rule.UniqueInputFieldNames x _ _
    (of-append _ (flat_map (flat_map in_argument) (argument_lists x)) (flat_map in_default (defined_variables x))
    (of-each _ (flat_map in_argument) (λ as'. of-each _ in_argument (λ a. within-of a.value.item) as') (argument_lists x))
    (of-each _ in_default (λ v. default-of v.default) (defined_variables x)))
    (has-append (flat_map (flat_map in_argument) (argument_lists x)) (flat_map in_default (defined_variables x))
    ∙ (ap₂ (λ a b. a || b)
    (has-each (flat_map in_argument) (list_any value_repeats_in)
    (λ as'. has-each in_argument value_repeats_in argument-has as') (argument_lists x))
    (has-each in_default default_repeats variable-has (defined_variables x) ∙ sym (defaults-are (defined_variables x)))
    ∙ repeats-parts x (argument_lists x) refl))
