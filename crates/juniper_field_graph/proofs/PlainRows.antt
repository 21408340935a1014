-- worked rows: the fields that are written in small documents, and whether their keys are plain
use Rattle.std.specs.Prelude.{Bool, true, false, codes, map, List, [], ◌∷◌, None, pos, ◌≡◌}
use Rattle.std.specs.List.{flat_map}
use Rattle.std.proofs.Common.{refl}
use Rattle.graphql_spec.specs.Shown.{Name, int}
use Rattle.graphql_spec.specs.Inputs as i
use Rattle.graphql_spec.specs.Documents.{Document, end, query}
use Rattle.graphql_spec.specs.Merging.{definition_merges}
use Rattle.graphql_spec.specs.Placed.{Placed}
use Rattle.graphql_spec.proofs.Demo.{as_field, asking, demo, fragment_on, given_field, leaf_field, on, operation_of, set_field, spread_of}
use Rattle.graphql_spec.proofs.Rows.{outcome}
use Rattle.juniper_field_graph.specs.PlainKeys.{are_plain, has_plain_keys, is_like, placed_on, written_if, written_in, written_on}

-- a field by its parent type and its name
abbrev Named : Type 0
Named = Name × Name

abbrev named : Placed → Named
named x = (x.parent, x.head.name.item)

-- { hero { id ...F } hero { ... on Droid { friends { name } } } } and fragment F on Character { name friends { id } }
abbrev heroes : Document
heroes = operation_of query [] (set_field (codes "hero") 2 (leaf_field (codes "id") 9 (spread_of (codes "F") 12 end))
    (set_field (codes "hero") 19 (on (codes "Droid") 26 (set_field (codes "friends") 41 (leaf_field (codes "name") 51 end) end) end) end))
    ∷ fragment_on (codes "F") (codes "Character") 63 (leaf_field (codes "name") 86 (set_field (codes "friends") 91 (leaf_field (codes "id") 101 end) end)) ∷ []

-- each field stands on its nearest type, and what F holds on F's condition
unfoldable fields_of_heroes : List Named
unfolding outcome written_on written_if written_in placed_on
fields_of_heroes = map named (flat_map (written_in demo) heroes)

fields_are : fields_of_heroes
    ≡ (codes "Query", codes "hero") ∷ (codes "Character", codes "id") ∷ (codes "Query", codes "hero") ∷ (codes "Droid", codes "friends")
    ∷ (codes "Character", codes "name") ∷ (codes "Character", codes "name") ∷ (codes "Character", codes "friends") ∷ (codes "Character", codes "id") ∷ []
unfolding fields_of_heroes
fields_are = refl

-- whether the keys of a document are plain
unfoldable is_plain : Document → Bool
unfolding outcome written_on written_if written_in placed_on is_like are_plain has_plain_keys
is_plain d = has_plain_keys demo d

heroes_are_plain : is_plain heroes ≡ true
unfolding is_plain
heroes_are_plain = refl

-- { id id: name }
other_name : is_plain (asking (leaf_field (codes "id") 2 (as_field (codes "id") (codes "name") 5 end))) ≡ false
unfolding is_plain
other_name = refl

-- { id grid { id: a } }: `ID!` and `Int!`
other_type : is_plain (asking (leaf_field (codes "id") 2 (set_field (codes "grid") 5 (as_field (codes "id") (codes "a") 12 end) end))) ≡ false
unfolding is_plain
other_type = refl

-- { number(plus: n) number(plus: m) }
abbrev numbers : i.Input → i.Input → Document
numbers n m = asking (given_field None (codes "number") (codes "plus") n 2 false end (given_field None (codes "number") (codes "plus") m 20 false end end))

same_arguments : is_plain (numbers (i.scalar (int (pos 1))) (i.scalar (int (pos 1)))) ≡ true
unfolding is_plain
same_arguments = refl

other_arguments : is_plain (numbers (i.scalar (int (pos 1))) (i.scalar (int (pos 2)))) ≡ false
unfolding is_plain
other_arguments = refl

-- { hero { ... on Droid { x: name } ... on Human { x: secret } } }: not plain, though its fields merge
abbrev apart : Document
apart = asking (set_field (codes "hero") 2 (on (codes "Droid") 9 (as_field (codes "x") (codes "name") 24 end)
    (on (codes "Human") 34 (as_field (codes "x") (codes "secret") 49 end) end)) end)

apart_not_plain : is_plain apart ≡ false
unfolding is_plain
apart_not_plain = refl

apart_merges : map (definition_merges demo apart) apart ≡ true ∷ []
unfolding outcome
apart_merges = refl
