-- What stands for replies: nullable values, lists and results (3.11, 3.12, 6.4.4).
use Rattle.std.specs.Prelude.{List, [], ◌∷◌, Option, Some, None, Result, Ok, Err}
use Rattle.graphql_spec.specs.Resolvers.{Error, Trees, no_trees, tree, Reply, answered, failed, nothing, items}

-- a value that may be missing: null where it is
abbrev pub option_reply : {T N : Type 0} → (T → Reply N) → Option T → Reply N
option_reply resolves None = answered nothing
option_reply resolves (Some x) = resolves x

-- a value, or what becomes an error
abbrev pub result_reply : {T E N : Type 0} → (T → Reply N) → (E → Error) → Result T E → Reply N
result_reply resolves becomes (Ok x) = resolves x
result_reply resolves becomes (Err e) = failed (becomes e)

-- the first error among these
abbrev pub first_error : {N : Type 0} → List (Reply N) → Option Error
first_error [] = None
first_error (answered t ∷ rest) = first_error rest
first_error (failed e ∷ rest) = Some e

-- what is answered, in order
abbrev pub all_answered : {N : Type 0} → List (Reply N) → Trees N
all_answered [] = no_trees
all_answered (answered t ∷ rest) = tree t (all_answered rest)
all_answered (failed e ∷ rest) = all_answered rest

-- the error, where there is one, or else these items
abbrev pub items_or : {N : Type 0} → Option Error → Trees N → Reply N
items_or None ts = answered (items ts)
items_or (Some e) ts = failed e

-- a list of these: the first error is the whole answer
abbrev pub list_reply : {N : Type 0} → List (Reply N) → Reply N
list_reply rs = items_or (first_error rs) (all_answered rs)
