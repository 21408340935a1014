-- Fields of objects that have one name: what is left decides.
use Rattle.std.proofs.Common.{◌≡◌, ℕ, ◌+◌, ◌<◌, ◌≤◌, Bool, true, false, ◌||◌, List, [], ◌∷◌, ◌++◌, length, get_or, drop, map, Option, Some, None, Global}
use Rattle.std.proofs.Common.{String, string_bytes, refl, sym, ap, ap₂, ◌∙◌}
use Rattle.std.specs.List.{list_any, flat_map}
use Rattle.std.proofs.lemmas.List.Folds.{list_any-append}
use Rattle.std.specs.Str.{bytes_eq}
use Rattle.std.proofs.lemmas.List.{drop_all, append_assoc, append-nil}
use Rattle.graphql_spec.specs.Shown.{Shown, Name}
use Rattle.graphql_spec.specs.Positions.{Spanned}
use Rattle.graphql_spec.specs.Documents.{Argument, VariableDefinition, Definition}
use Rattle.graphql_spec.specs.Inputs.{Input, InputFields, no_fields, input_field}
use Rattle.graphql_spec.specs.Rules.{repeats_input_field}
use Rattle.graphql_spec.specs.Fits.{has_field}
use Rattle.graphql_spec.specs.Written.{repeats, field_repeats, item_repeats, fields_repeat, argument_lists, default_values, defined_variables, values_in}
use Rattle.juniper_syntax.specs.declared.position.Spanning.{Spanning}
use Rattle.juniper_syntax.specs.declared.position.Span.{Span}
use Rattle.juniper_syntax.specs.InputView.{view_input, view_items, view_fields}
use Rattle.juniper_syntax.specs.declared.input.InputValue.{InputValue}
use Rattle.juniper_syntax.proofs.Lists.{left-is}
use Rattle.juniper_written.specs.FieldNames.{names_of, values_repeat, value_repeats_in, value_repeats_or, default_repeats}

-- ## Names and values apart

has-any : (k : Name) (fs : InputFields) → has_field k fs ≡ list_any (bytes_eq k) (names_of fs)
unfolding has_field names_of
has-any k no_fields = refl
has-any k (input_field j j_at v v_at rest) = ap (λ b. bytes_eq k j || b) (has-any k rest)

or-four : (a b c d : Bool) → (a || (b || (c || d))) ≡ ((a || c) || (b || d))
or-four true b c d = refl
or-four false true true d = refl
or-four false true false d = refl
or-four false false c d = refl

-- two fields have one name, or it is so within a value
pub repeats-split : (fs : InputFields) → fields_repeat fs ≡ (repeats (names_of fs) || values_repeat fs)
unfolding fields_repeat names_of values_repeat repeats
repeats-split no_fields = refl
repeats-split (input_field k k_at v v_at rest) =
    ap₂ (λ a b. a || (field_repeats v || b)) (has-any k rest) (repeats-split rest)
    ∙ or-four (list_any (bytes_eq k) (names_of rest)) (field_repeats v) (repeats (names_of rest)) (values_repeat rest)

-- ## Loops

module _ {S : Type 0} (shown : S → Shown) where
  abbrev Item : Type 0
  Item = Spanning (InputValue S) Span

  abbrev Field : Type 0
  Field = Spanning (String Global) Span × Spanning (InputValue S) Span

  pub items_pass : (xs : List Item) (i : ℕ) (x : Item) → i < length xs → x ≡ get_or xs i x → field_repeats (view_input shown x.item) ≡ false
      → item_repeats (view_items shown (drop (i + 1) xs)) ≡ item_repeats (view_items shown (drop i xs))
  unfolding item_repeats
  items_pass xs i x below at_i one = rw (left-is xs i x below at_i, one) refl

  pub items_stop : (xs : List Item) (i : ℕ) (x : Item) → i < length xs → x ≡ get_or xs i x → field_repeats (view_input shown x.item) ≡ true
      → true ≡ item_repeats (view_items shown (drop i xs))
  unfolding item_repeats
  items_stop xs i x below at_i one = rw (left-is xs i x below at_i, one) refl

  pub items_done : (xs : List Item) (i : ℕ) → length xs ≤ i → false ≡ item_repeats (view_items shown (drop i xs))
  unfolding item_repeats
  items_done xs i past = let empty : drop i xs ≡ [] = drop_all i xs past in rw empty refl

  pub fields_pass : (xs : List Field) (i : ℕ) (x : Field) → i < length xs → x ≡ get_or xs i x → field_repeats (view_input shown x.1.item) ≡ false
      → values_repeat (view_fields shown (drop (i + 1) xs)) ≡ values_repeat (view_fields shown (drop i xs))
  unfolding values_repeat
  fields_pass xs i x below at_i one = rw (left-is xs i x below at_i, one) refl

  pub fields_stop : (xs : List Field) (i : ℕ) (x : Field) → i < length xs → x ≡ get_or xs i x → field_repeats (view_input shown x.1.item) ≡ true
      → true ≡ values_repeat (view_fields shown (drop i xs))
  unfolding values_repeat
  fields_stop xs i x below at_i one = rw (left-is xs i x below at_i, one) refl

  pub fields_done : (xs : List Field) (i : ℕ) → length xs ≤ i → false ≡ values_repeat (view_fields shown (drop i xs))
  unfolding values_repeat
  fields_done xs i past = let empty : drop i xs ≡ [] = drop_all i xs past in rw empty refl

  -- names that are listed, before those that are left
  pub names_next : (xs : List Field) (i : ℕ) (x : Field) (ns made : List Name) → i < length xs → x ≡ get_or xs i x → made ≡ ns ++ string_bytes x.0.item ∷ []
      → ns ++ names_of (view_fields shown (drop i xs)) ≡ names_of (view_fields shown xs) →
      made ++ names_of (view_fields shown (drop (i + 1) xs)) ≡ names_of (view_fields shown xs)
  unfolding names_of
  names_next xs i x ns made below at_i e so_far =
      ap (λ l. l ++ names_of (view_fields shown (drop (i + 1) xs))) e
      ∙ (append_assoc ns (string_bytes x.0.item ∷ []) (names_of (view_fields shown (drop (i + 1) xs)))
      ∙ (ap (λ l. ns ++ names_of (view_fields shown l)) (sym (left-is xs i x below at_i)) ∙ so_far))

  pub names_done : (xs : List Field) (i : ℕ) (ns : List Name) → length xs ≤ i →
      ns ++ names_of (view_fields shown (drop i xs)) ≡ names_of (view_fields shown xs) → ns ≡ names_of (view_fields shown xs)
  unfolding names_of
  names_done xs i ns past so_far =
      let none : ns ++ names_of (view_fields shown (drop i xs)) ≡ ns = rw (drop_all i xs past) (append-nil ns) in
      sym none ∙ so_far

-- ## A definition's values

values-map : (as' : List Argument) → list_any field_repeats (map (λ a. a.value.item) as') ≡ list_any value_repeats_in as'
unfolding value_repeats_in
values-map [] = refl
values-map (a ∷ as') = ap (λ b. field_repeats a.value.item || b) (values-map as')

lists-flat : (ls : List (List Argument)) → list_any field_repeats (flat_map (λ as'. map (λ a. a.value.item) as') ls) ≡ list_any (list_any value_repeats_in) ls
lists-flat [] = refl
lists-flat (l ∷ ls) =
    list_any-append field_repeats (map (λ a. a.value.item) l) (flat_map (λ as'. map (λ a. a.value.item) as') ls)
    ∙ ap₂ (λ a b. a || b) (values-map l) (lists-flat ls)

default-is : (v : VariableDefinition) (o : Option (Spanned Input)) (vs : List Input) → v.default ≡ o →
    list_any field_repeats (elim o [ None ↦ vs | Some d ↦ d.item ∷ vs ]) ≡ (value_repeats_or o || list_any field_repeats vs)
unfolding value_repeats_or
default-is v None vs is = refl
default-is v (Some d) vs is = refl

pub defaults-are : (vs : List VariableDefinition) → list_any field_repeats (default_values vs) ≡ list_any default_repeats vs
unfolding default_values default_repeats
defaults-are [] = refl
defaults-are (v ∷ vs) = default-is v v.default (default_values vs) refl ∙ ap (λ b. value_repeats_or v.default || b) (defaults-are vs)

pub repeats-parts : (x : Definition) (ls : List (List Argument)) → ls ≡ argument_lists x →
    (list_any (list_any value_repeats_in) ls || list_any field_repeats (default_values (defined_variables x))) ≡ repeats_input_field x
unfolding repeats_input_field values_in
repeats-parts x ls is =
    ap (λ l. list_any (list_any value_repeats_in) l || list_any field_repeats (default_values (defined_variables x))) is
    ∙ (ap (λ b. b || list_any field_repeats (default_values (defined_variables x))) (sym (lists-flat (argument_lists x)))
    ∙ sym (list_any-append field_repeats (flat_map (λ as'. map (λ a. a.value.item) as') (argument_lists x)) (default_values (defined_variables x))))
