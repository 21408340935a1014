-- A server with a log: how its types are declared, what its fields reply, and what its steps leave (6.2.2, 6.4.2).
use Rattle.std.specs.Prelude.{pos, Bool, ◌||◌, codes, cond, List, [], ◌∷◌, ◌++◌}
use Rattle.std.specs.Cmp.Lexicographic.{pointwise}
use Rattle.std.specs.Str.{bytes_eq}
use Rattle.graphql_spec.specs.Resolvers.{Reply, answered, nothing, leaf}
use Rattle.graphql_spec.specs.Schema.{plain_field}
use Rattle.graphql_spec.specs.Shown.{Name, Text, int, text}
use Rattle.juniper_meta.specs.MetaView.{Meta}
use Rattle.juniper_registry.specs.DeclaredTypes.{object, optional, type_named}

-- the entries, in order
pub record Entries : Type 0 where
  pub entries : List Text

-- `type Query { id: ID!, memory: Int }`
abbrev pub query_declaration : Meta
query_declaration = object (codes "Query") (
    plain_field (codes "id") [] (type_named (codes "ID"))
    ∷ plain_field (codes "memory") [] (optional (type_named (codes "Int")))
    ∷ []) []

-- `type Mutation { note: Int!, lost: Int }`
abbrev pub mutation_declaration : Meta
mutation_declaration = object (codes "Mutation") (
    plain_field (codes "note") [] (type_named (codes "Int"))
    ∷ plain_field (codes "lost") [] (optional (type_named (codes "Int")))
    ∷ []) []

-- what a field of the query replies; `memory` never has the memory for it
abbrev pub query_reply : {N : Type 0} → Name → Reply N
query_reply field = cond (bytes_eq field (codes "id")) (answered (leaf (text (codes "q1")))) (answered nothing)

-- the first entry of a step
abbrev pub begun : Text
begun = codes "A step has begun, and this is the first of its two entries"

-- the second one
abbrev pub done : Text
done = codes "The step is done, and this is the second of its two entries"

-- one more entry, behind the others
abbrev pub with_entry : Entries → Text → Entries
with_entry c t = record { entries = c.entries ++ t ∷ [] }

-- the log after the step of a root field: `note` leaves two entries more; `lost`, which never has the memory for it, would leave none
abbrev pub after_step : Entries → Name → Entries
after_step c field = cond (bytes_eq field (codes "note")) (with_entry (with_entry c begun) done) c

-- what the step replies
abbrev pub step_reply : {N : Type 0} → Name → Reply N
step_reply field = cond (bytes_eq field (codes "note")) (answered (leaf (int (pos 1)))) (answered nothing)

-- where memory is wanting there is none of the two entries, or the first
abbrev pub torn : Entries → Entries → Bool
torn c after = pointwise bytes_eq after.entries c.entries || pointwise bytes_eq after.entries (with_entry c begun).entries
