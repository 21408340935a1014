-- The variables in values with their positions and places, item by item and field by field; and the same without these places.
use Rattle.std.proofs.Common.{◌≡◌, Bool, false, List, [], ◌∷◌, ◌++◌, Option, Some, None, is_some, String, Global, string_bytes, refl, ap, ap₂, ◌∙◌}
use Rattle.std.specs.List.{flat_map}
use Rattle.std.proofs.lemmas.List.{map-append}
use Rattle.graphql_spec.specs.Shown.{Shown, Name}
use Rattle.graphql_spec.specs.Positions.{Span as At}
use Rattle.graphql_spec.specs.Documents.{Argument, Definition}
use Rattle.graphql_spec.specs.Executable.{input_fields_of}
use Rattle.graphql_spec.specs.Fields.{declaration_in, type_named}
use Rattle.graphql_spec.specs.Inputs.{Input, null, scalar, enumerated, variable, list, object, InputItems, no_items, item, InputFields, no_fields, input_field}
use Rattle.graphql_spec.specs.Placed.{Call, calls}
use Rattle.graphql_spec.specs.Schema.{Schema, Shape, InputDeclaration, scalar_type, enum_type, object_type, interface_type, union_type, input_object_type}
use Rattle.graphql_spec.specs.Schema.{list_type, nullable_type, placeholder}
use Rattle.graphql_spec.specs.Types.{TypeRef, innermost}
use Rattle.graphql_spec.specs.VariableUses.{Use, at_declared, input_fields, item_type, uses_at, uses_in_call, uses_in_fields, uses_in_items}
use Rattle.juniper_syntax.specs.Positions.{view_span}
use Rattle.juniper_syntax.specs.declared.position.Spanning.{Spanning}
use Rattle.juniper_syntax.specs.declared.position.Span.{Span}
use Rattle.juniper_syntax.specs.InputView.{view_input, view_items, view_fields}
use Rattle.juniper_syntax.specs.declared.input.InputValue.{InputValue}
use Rattle.juniper_type_rules.specs.Positions.{Place, places_at, places_in_call, places_in_fields, places_in_items, places_used, uses_of_places}

-- ## Items and fields of the code

-- those in a value that stands at a declaration of this name
abbrev pub places_declared : Schema → List InputDeclaration → Name → Input → At → List Place
places_declared s ds n v at = at_declared (declaration_in ds n) (λ t b. places_at s v at t b)

-- those in an argument
abbrev pub places_given : Schema → List InputDeclaration → Argument → List Place
places_given s ds a = places_declared s ds a.name.item a.value.item a.value.span

module _ {S : Type 0} (shown : S → Shown) (s : Schema) where
  abbrev pub places_of_item : TypeRef → Spanning (InputValue S) Span → List Place
  places_of_item t x = places_at s (view_input shown x.item) (view_span x.span) t false

  abbrev pub places_of_field : List InputDeclaration → Spanning (String Global) Span × Spanning (InputValue S) Span → List Place
  places_of_field ds x = places_declared s ds (string_bytes x.0.item) (view_input shown x.1.item) (view_span x.1.span)

  pub items-are : (t : TypeRef) (xs : List (Spanning (InputValue S) Span)) → flat_map (places_of_item t) xs ≡ places_in_items s (view_items shown xs) t
  unfolding places_in_items
  items-are t [] = refl
  items-are t (x ∷ xs) = ap (λ l. places_of_item t x ++ l) (items-are t xs)

  pub fields-are : (ds : List InputDeclaration) (xs : List (Spanning (String Global) Span × Spanning (InputValue S) Span)) →
      flat_map (places_of_field ds) xs ≡ places_in_fields s (view_fields shown xs) ds
  unfolding places_in_fields
  fields-are ds [] = refl
  fields-are ds (x ∷ xs) = ap (λ l. places_of_field ds x ++ l) (fields-are ds xs)

-- the fields of an input object that is there
pub fields-of : (x : Shape) → input_fields_of x ≡ input_fields (Some x)
unfolding input_fields_of input_fields
fields-of (scalar_type k url) = refl
fields-of (enum_type vs) = refl
fields-of (object_type fs is) = refl
fields-of (interface_type fs is) = refl
fields-of (union_type ms) = refl
fields-of (input_object_type ds) = refl
fields-of (list_type size t) = refl
fields-of (nullable_type t) = refl
fields-of placeholder = refl

-- ## Positions without their places

declared-are : (o : Option InputDeclaration) (f : TypeRef → Bool → List Place) (h : TypeRef → Bool → List Use) →
    ((t : TypeRef) (b : Bool) → uses_of_places (f t b) ≡ h t b) → uses_of_places (at_declared o f) ≡ at_declared o h
unfolding at_declared
declared-are None f h same = refl
declared-are (Some d) f h same = same d.of_type (is_some d.default)

uses-append : (xs ys : List Place) → uses_of_places (xs ++ ys) ≡ uses_of_places xs ++ uses_of_places ys
uses-append xs ys = map-append (λ p. p.used) xs ys

pub uses-flat : {A : Type 0} (f : A → List Place) (h : A → List Use) → ((x : A) → uses_of_places (f x) ≡ h x) → (xs : List A) →
    uses_of_places (flat_map f xs) ≡ flat_map h xs
uses-flat f h same [] = refl
uses-flat f h same (x ∷ xs) = uses-append (f x) (flat_map f xs) ∙ ap₂ (λ a b. a ++ b) (same x) (uses-flat f h same xs)

module _ (s : Schema) where
  mutual
    unfolding places_at places_in_items places_in_fields uses_at uses_in_items uses_in_fields

    at-are : (v : Input) (at : At) (t : TypeRef) (b : Bool) → uses_of_places (places_at s v at t b) ≡ uses_at s v t b
    at-are null at t b = refl
    at-are (scalar x) at t b = refl
    at-are (enumerated e) at t b = refl
    at-are (variable x) at t b = refl
    at-are (list is) at t b = item-uses is (item_type t)
    at-are (object fs) at t b = field-uses fs (input_fields (type_named s (innermost t)))

    item-uses : (is : InputItems) (t : TypeRef) → uses_of_places (places_in_items s is t) ≡ uses_in_items s is t
    item-uses no_items t = refl
    item-uses (item v at rest) t =
        uses-append (places_at s v at t false) (places_in_items s rest t)
        ∙ ap₂ (λ a b. a ++ b) (at-are v at t false) (item-uses rest t)

    field-uses : (fs : InputFields) (ds : List InputDeclaration) → uses_of_places (places_in_fields s fs ds) ≡ uses_in_fields s fs ds
    field-uses no_fields ds = refl
    field-uses (input_field k k_at v v_at rest) ds =
        uses-append (places_declared s ds k v v_at) (places_in_fields s rest ds)
        ∙ ap₂ (λ a b. a ++ b) (declared-are (declaration_in ds k) (λ t b. places_at s v v_at t b) (λ t b. uses_at s v t b) (λ t b. at-are v v_at t b))
        (field-uses rest ds)

  pub call-uses : (c : Call) → uses_of_places (places_in_call s c) ≡ uses_in_call s c
  unfolding places_in_call uses_in_call
  call-uses c = uses-flat (places_given s c.declared) (λ a. at_declared (declaration_in c.declared a.name.item) (λ t b. uses_at s a.value.item t b))
      (λ a. declared-are (declaration_in c.declared a.name.item) (λ t b. places_at s a.value.item a.value.span t b) (λ t b. uses_at s a.value.item t b)
      (λ t b. at-are a.value.item a.value.span t b)) c.given

  -- those in a definition
  pub used-uses : (x : Definition) → uses_of_places (places_used s x) ≡ flat_map (uses_in_call s) (calls s x)
  unfolding places_used
  used-uses x = uses-flat (places_in_call s) (uses_in_call s) call-uses (calls s x)
