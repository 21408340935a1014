-- The names of a schema's types, as code has them (4.2.1).
use Rattle.std.specs.Prelude.{ℕ, List, map, take, string_bytes}
use Rattle.graphql_spec.specs.Shown.{Name}
use Rattle.juniper_intro.specs.Numbers.{number_in}
use Rattle.juniper_intro.specs.declared.names.TypeNames.{TypeNames}

-- the names, in their order
abbrev pub names_in : TypeNames → List Name
names_in t = map (λ n. string_bytes n) t.names.items

-- those that are listed
abbrev pub listed_in : TypeNames → List Name
listed_in t = take t.listed (names_in t)

-- the number of a name
abbrev pub number_of : TypeNames → Name → ℕ
number_of t = number_in t.numbers
