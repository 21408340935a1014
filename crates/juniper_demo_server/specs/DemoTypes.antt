-- How the demo's types are declared (3.6, 3.7, 3.9).
use Rattle.std.specs.Prelude.{pos, codes, List, [], ◌∷◌, ◌++◌}
use Rattle.juniper.specs.Server.{Declarations, FieldDeclaration, Meta, enum, input_with_default, int, interface, list_type, object, optional, plain_field}
use Rattle.juniper.specs.Server.{plain_input}
use Rattle.juniper.specs.Server.{scalar, type_named}

-- `type Query`
abbrev pub query_declaration : Meta
query_declaration = object (codes "Query") (
    plain_field (codes "id") [] (type_named (codes "ID"))
    ∷ plain_field (codes "name") [] (type_named (codes "String"))
    ∷ plain_field (codes "number") (input_with_default (codes "plus") (optional (type_named (codes "Int"))) (scalar (int (pos 1))) ∷ [])
    (optional (type_named (codes "Int")))
    ∷ plain_field (codes "nothing") [] (optional (type_named (codes "String")))
    ∷ plain_field (codes "fail") [] (optional (type_named (codes "Int")))
    ∷ plain_field (codes "odd") [] (optional (type_named (codes "Int")))
    ∷ plain_field (codes "hero") (plain_input (codes "episode") (optional (type_named (codes "Episode"))) ∷ []) (optional (type_named (codes "Character")))
    ∷ plain_field (codes "mustHero") [] (type_named (codes "Character"))
    ∷ plain_field (codes "ids") [] (optional (list_type (type_named (codes "Int"))))
    ∷ plain_field (codes "grid") [] (optional (list_type (list_type (type_named (codes "Cell")))))
    ∷ plain_field (codes "holes") [] (list_type (list_type (optional (type_named (codes "Cell")))))
    ∷ []) []

-- `type Mutation`
abbrev pub mutation_declaration : Meta
mutation_declaration = object (codes "Mutation") (
    plain_field (codes "add") (plain_input (codes "n") (type_named (codes "Int")) ∷ []) (type_named (codes "Tally"))
    ∷ plain_field (codes "fail") [] (type_named (codes "Int"))
    ∷ []) []

-- `type Tally`
abbrev pub tally_declaration : Meta
tally_declaration = object (codes "Tally") (
    plain_field (codes "total") [] (type_named (codes "Int"))
    ∷ plain_field (codes "count") [] (type_named (codes "Int"))
    ∷ []) []

-- the fields of `interface Character`, which its objects have first
abbrev pub character_fields : List FieldDeclaration
character_fields =
    plain_field (codes "id") [] (type_named (codes "ID"))
    ∷ plain_field (codes "name") [] (type_named (codes "String"))
    ∷ plain_field (codes "appearsIn") [] (list_type (type_named (codes "Episode")))
    ∷ plain_field (codes "friends") [] (optional (list_type (optional (type_named (codes "Character")))))
    ∷ plain_field (codes "secret") [] (type_named (codes "String"))
    ∷ []

-- `interface Character`
abbrev pub character_declaration : Meta
character_declaration = interface (codes "Character") character_fields

-- `type Droid implements Character`
abbrev pub droid_declaration : Meta
droid_declaration = object (codes "Droid") (character_fields ++ plain_field (codes "primaryFunction") [] (optional (type_named (codes "String"))) ∷ [])
    (codes "Character" ∷ [])

-- `type Human implements Character`
abbrev pub human_declaration : Meta
human_declaration = object (codes "Human") (character_fields ++ plain_field (codes "height") [] (optional (type_named (codes "Int"))) ∷ [])
    (codes "Character" ∷ [])

-- `type Cell`
abbrev pub cell_declaration : Meta
cell_declaration = object (codes "Cell") (
    plain_field (codes "a") [] (type_named (codes "Int"))
    ∷ plain_field (codes "b") [] (type_named (codes "Int"))
    ∷ []) []

-- `enum Episode`
abbrev pub episode_declaration : Meta
episode_declaration = enum (codes "Episode") (codes "NEWHOPE" ∷ codes "EMPIRE" ∷ codes "JEDI" ∷ [])

-- the demo's types, each at its name
abbrev pub demo_declarations : Declarations
demo_declarations =
    (codes "Query", query_declaration) ∷ (codes "Mutation", mutation_declaration) ∷ (codes "Tally", tally_declaration)
    ∷ (codes "Character", character_declaration) ∷ (codes "Droid", droid_declaration) ∷ (codes "Human", human_declaration)
    ∷ (codes "Cell", cell_declaration) ∷ (codes "Episode", episode_declaration) ∷ []
