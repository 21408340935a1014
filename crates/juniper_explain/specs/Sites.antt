-- Fields and directives with their arguments, and with what these should meet (5.4).
use Rattle.std.specs.Prelude.{codes, List, [], ◌∷◌, ◌++◌, Option, Some, None}
use Rattle.std.specs.List.{flat_map}
use Rattle.graphql_spec.specs.Shown.{Text}
use Rattle.graphql_spec.specs.Positions.{Position}
use Rattle.graphql_spec.specs.Documents.{Argument, Directive, Definition, written}
use Rattle.graphql_spec.specs.Placed.{Placed, directive_named, placed_in, directives_placed}
use Rattle.graphql_spec.specs.Schema.{Schema, InputDeclaration, FieldDeclaration, DirectiveDeclaration}

-- what is given arguments: how it is called, where it stands, what is declared and what is given
pub record Site : Type 0 where
  pub owner : Text
  pub place : Position
  pub declared : List InputDeclaration
  pub given : List Argument

-- a field that its parent type has: `Query.hero`
unfoldable pub field_site : Placed → Option FieldDeclaration → List Site
field_site p None = []
field_site p (Some d) = record {
  owner = p.parent ++ (codes "." ++ p.head.name.item);
  place = p.head.span.start;
  declared = d.arguments;
  given = written p.head.arguments;
} ∷ []

-- a directive that every schema has: `@skip`
unfoldable pub directive_site : Directive → Option DirectiveDeclaration → List Site
directive_site x None = []
directive_site x (Some d) = record { owner = codes "@" ++ x.name.item; place = x.span.start; declared = d.arguments; given = written x.arguments } ∷ []

-- those of a definition: its fields, then its directives
unfoldable pub sites : Schema → Definition → List Site
sites s x = flat_map (λ p. field_site p p.declared) (placed_in s x) ++ flat_map (λ y. directive_site y (directive_named y.name.item)) (directives_placed s x)
