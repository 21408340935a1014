-- Variables in arguments, each with its place and with the type of its position (5.8.5).
use Rattle.std.specs.Prelude.{Bool, false, List, [], ◌∷◌, ◌++◌, map}
use Rattle.std.specs.List.{flat_map}
use Rattle.graphql_spec.specs.Positions.{Span}
use Rattle.graphql_spec.specs.Inputs.{Input, variable, list, object, InputItems, no_items, item, InputFields, no_fields, input_field}
use Rattle.graphql_spec.specs.Documents.{Definition}
use Rattle.graphql_spec.specs.Fields.{type_named, declaration_in}
use Rattle.graphql_spec.specs.Placed.{Call, calls}
use Rattle.graphql_spec.specs.Schema.{Schema, InputDeclaration}
use Rattle.graphql_spec.specs.Types.{TypeRef, innermost}
use Rattle.graphql_spec.specs.VariableUses.{Use, at_declared, input_fields, item_type}

-- a variable at a position, and where it is written
pub record Place : Type 0 where
  pub used : Use
  pub span : Span

-- the same, wherever they are written
abbrev pub uses_of_places : List Place → List Use
uses_of_places = map (λ p. p.used)

module _ (s : Schema) where
  -- the variables in a value that stands here, at a type, which may have a default
  unfoldable mutual
    pub places_at : Input → Span → TypeRef → Bool → List Place
    places_at (variable x) at t b = record { used = record { variable = x; place = t; has_default = b }; span = at } ∷ []
    places_at (list is) at t b = places_in_items is (item_type t)
    places_at (object fs) at t b = places_in_fields fs (input_fields (type_named s (innermost t)))
    places_at _ at t b = []

    -- item by item
    pub places_in_items : InputItems → TypeRef → List Place
    places_in_items no_items t = []
    places_in_items (item v at rest) t = places_at v at t false ++ places_in_items rest t

    -- field by field, each at its declaration
    pub places_in_fields : InputFields → List InputDeclaration → List Place
    places_in_fields no_fields ds = []
    places_in_fields (input_field k k_at v v_at rest) ds = at_declared (declaration_in ds k) (λ t b. places_at v v_at t b) ++ places_in_fields rest ds

  -- those in the arguments of one field or directive
  unfoldable pub places_in_call : Call → List Place
  places_in_call c = flat_map (λ a. at_declared (declaration_in c.declared a.name.item) (λ t b. places_at a.value.item a.value.span t b)) c.given

  -- those in the arguments of a definition's fields and directives
  unfoldable pub places_used : Definition → List Place
  places_used x = flat_map places_in_call (calls s x)
