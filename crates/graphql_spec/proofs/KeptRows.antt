-- worked rows: schemas that cannot be executed, and what they lose
use Rattle.std.specs.Prelude.{Bool, true, false, not, ◌&&◌, codes, List, [], ◌∷◌, ◌++◌, ◌≡◌, None, is_some, is_none}
use Rattle.std.specs.Str.{bytes_eq}
use Rattle.std.proofs.Common.{refl}
use Rattle.graphql_spec.specs.Shown.{Name}
use Rattle.graphql_spec.specs.Types.{innermost}
use Rattle.graphql_spec.specs.Schema.{FieldDeclaration, object_type, interface_type, union_type, Entry, Schema, plain_field, plain_input}
use Rattle.graphql_spec.specs.Fields.{type_named, is_object, is_possible, field_of, declared_type, declared_arguments, declaration_in, is_named_subtype}
use Rattle.graphql_spec.specs.Executable.{is_executable}
use Rattle.graphql_spec.proofs.Demo.{may, must, all, entry_of, typename_last, demo_entries}
use Rattle.graphql_spec.proofs.Rows.{outcome}

-- the field a
abbrev a_of : Name → FieldDeclaration
a_of t = plain_field (codes "a") [] (may t)

-- interface K { a: t }
abbrev interface_k : Name → Entry
interface_k t = entry_of (codes "K") (interface_type (a_of t ∷ []) [])

-- type P implements n { .. }
abbrev object_p : Name → List FieldDeclaration → Entry
object_p n fs = entry_of (codes "P") (object_type fs (n ∷ []))

-- the entries before those of the demo, with this query type
unfoldable asking_on : Name → List Entry → Schema
asking_on q es = record { entries = es ++ demo_entries; query = q; mutation = None }

abbrev with_entries : List Entry → Schema
with_entries es = asking_on (codes "Query") es

-- V is possible at the field of P, and not at that of K, which P is
unfoldable loses_object : Name → Name → Schema → Bool
loses_object f V s = is_possible s (codes "P") (codes "K") && (is_some (field_of s (codes "K") f)
    && (is_possible s V (innermost (declared_type (field_of s (codes "P") f))) && not (is_possible s V (innermost (declared_type (field_of s (codes "K") f))))))

-- the type n has a field that T, which it is possible at, lacks
unfoldable loses_field : Name → Name → Name → Schema → Bool
loses_field T n f s = is_possible s T n && (is_some (field_of s n f) && is_none (field_of s T f))

-- the field a of K takes an argument that the field of P does not take
unfoldable loses_argument : Name → Schema → Bool
loses_argument k s = is_possible s (codes "P") (codes "K") && (is_some (declaration_in (declared_arguments (field_of s (codes "K") (codes "a"))) k)
    && is_none (declaration_in (declared_arguments (field_of s (codes "P") (codes "a"))) k))

-- T is possible at a and not at b, of which a is a subtype
unfoldable loses_type : Name → Name → Name → Schema → Bool
loses_type T a b s = is_possible s T a && (is_named_subtype s a b && not (is_possible s T b))

-- T is possible at another object type
unfoldable stands_elsewhere : Name → Name → Schema → Bool
stands_elsewhere T n s = is_possible s T n && (is_object (type_named s n) && not (bytes_eq T n))

-- interface K { a: .. }, and an object type P that lists it, whose field has a narrower type, another one, a wider one, a list of
-- wider items, no argument, and which lacks the field
abbrev keeping : Schema
keeping = with_entries (interface_k (codes "Character") ∷ object_p (codes "K") (plain_field (codes "a") [] (must (codes "Droid")) ∷ []) ∷ [])

abbrev other_type : Schema
other_type = with_entries (interface_k (codes "Character") ∷ object_p (codes "K") (a_of (codes "Cell") ∷ []) ∷ [])

abbrev wider_type : Schema
wider_type = with_entries (interface_k (codes "Droid") ∷ object_p (codes "K") (a_of (codes "Character") ∷ []) ∷ [])

abbrev wider_items : Schema
wider_items = with_entries (entry_of (codes "K") (interface_type (plain_field (codes "a") [] (all (may (codes "Droid"))) ∷ []) [])
    ∷ object_p (codes "K") (plain_field (codes "a") [] (all (may (codes "Character"))) ∷ []) ∷ [])

abbrev no_argument : Schema
no_argument = with_entries (entry_of (codes "K") (interface_type
    (plain_field (codes "a") (plain_input (codes "n") (may (codes "Int")) ∷ []) (may (codes "Droid")) ∷ []) [])
    ∷ object_p (codes "K") (a_of (codes "Droid") ∷ []) ∷ [])

abbrev no_field : Schema
no_field = with_entries (interface_k (codes "Character") ∷ object_p (codes "K") [] ∷ [])

fields : (is_executable keeping ≡ true) × (loses_object (codes "a") (codes "Droid") keeping ≡ false)
    × (loses_object (codes "a") (codes "Human") keeping ≡ false)
    × (is_executable other_type ≡ false) × (loses_object (codes "a") (codes "Cell") other_type ≡ true)
    × (is_executable wider_type ≡ false) × (loses_object (codes "a") (codes "Human") wider_type ≡ true)
    × (is_executable wider_items ≡ false) × (loses_object (codes "a") (codes "Human") wider_items ≡ true)
    × (is_executable no_argument ≡ false) × (loses_argument (codes "n") no_argument ≡ true)
    × (is_executable no_field ≡ false) × (loses_field (codes "P") (codes "K") (codes "a") no_field ≡ true)
unfolding outcome asking_on loses_object loses_field loses_argument Rattle.graphql_spec.specs.Tokens.is_name Rattle.graphql_spec.specs.Tokens.starts_name
    Rattle.graphql_spec.specs.Tokens.continues_name
fields = (refl, refl, refl, refl, refl, refl, refl, refl, refl, refl, refl, refl, refl)

-- a union with an interface among its members; an interface whose own interface is not listed with it
abbrev wide_union : Schema
wide_union = with_entries (entry_of (codes "U") (union_type (codes "Character" ∷ [])) ∷ interface_k (codes "U")
    ∷ object_p (codes "K") (a_of (codes "Character") ∷ []) ∷ [])

abbrev half_listed : Schema
half_listed = with_entries (entry_of (codes "J") (interface_type [] []) ∷ entry_of (codes "I") (interface_type [] (codes "J" ∷ []))
    ∷ entry_of (codes "Q") (object_type [] (codes "I" ∷ []))
    ∷ interface_k (codes "J") ∷ object_p (codes "K") (a_of (codes "I") ∷ []) ∷ [])

subtypes : (is_executable wide_union ≡ false) × (loses_type (codes "Droid") (codes "Character") (codes "U") wide_union ≡ true)
    × (loses_object (codes "a") (codes "Droid") wide_union ≡ true)
    × (is_executable half_listed ≡ false) × (loses_type (codes "Q") (codes "I") (codes "J") half_listed ≡ true)
    × (loses_object (codes "a") (codes "Q") half_listed ≡ true)
unfolding outcome asking_on loses_object loses_type Rattle.graphql_spec.specs.Tokens.is_name Rattle.graphql_spec.specs.Tokens.starts_name
    Rattle.graphql_spec.specs.Tokens.continues_name
subtypes = (refl, refl, refl, refl, refl, refl)

-- an object type that lists another one; an interface as the query type; `__typename` of another type
abbrev object_listed : Schema
object_listed = with_entries (object_p (codes "Cell") (plain_field (codes "a") [] (must (codes "Int")) ∷ plain_field (codes "b") [] (must (codes "Int"))
    ∷ typename_last ∷ []) ∷ [])

abbrev wide_query : Schema
wide_query = asking_on (codes "Character") []

abbrev other_typename : Schema
other_typename = with_entries (interface_k (codes "Character") ∷ object_p (codes "K")
    (a_of (codes "Character") ∷ plain_field (codes "__typename") [] (must (codes "Cell")) ∷ []) ∷ [])

others : (is_executable object_listed ≡ false) × (stands_elsewhere (codes "P") (codes "Cell") object_listed ≡ true)
    × (is_executable wide_query ≡ false) × (loses_field (codes "Droid") (codes "Character") (codes "__schema") wide_query ≡ true)
    × (is_executable other_typename ≡ false) × (loses_object (codes "__typename") (codes "Cell") other_typename ≡ true)
unfolding outcome asking_on loses_object loses_field stands_elsewhere Rattle.graphql_spec.specs.Tokens.is_name Rattle.graphql_spec.specs.Tokens.starts_name
    Rattle.graphql_spec.specs.Tokens.continues_name
others = (refl, refl, refl, refl, refl, refl)
