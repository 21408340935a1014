-- worked rows of queries of scalars on a small schema, from the document to the answer
use Rattle.std.specs.Prelude.{◌≡◌, ℕ, length, Bool, true, false, codes, List, [], ◌∷◌, ◌++◌, Option, None, Some}
use Rattle.std.proofs.lemmas.Bool.{both_ways}
use Rattle.std.proofs.Common.{refl, sym, ap, inl, inr, arith}
use Rattle.graphql_spec.specs.Shown.{Text, Name, text, boolean}
use Rattle.graphql_spec.specs.Inputs as i
use Rattle.graphql_spec.specs.Inputs.{Variables}
use Rattle.graphql_spec.specs.Types.{named}
use Rattle.graphql_spec.specs.Documents.{Directive, Selections, end, field, query, mutation, operation, Document}
use Rattle.graphql_spec.specs.Schema.{Schema, object_type, plain_field}
use Rattle.graphql_spec.specs.Values.{Value, null, scalar, object, no_entries, entry}
use Rattle.graphql_spec.specs.Resolvers.{World, Reply, answered, failed, leaf, world_of}
use Rattle.graphql_spec.specs.Constants.{Members}
use Rattle.graphql_spec.specs.Errors.{Place, key, index, Listed, keys_only, compare_positions, compare_steps, compare, not_greater, is_least, is_sorted}
use Rattle.graphql_spec.specs.Failures.{Failure, failures_of}
use Rattle.graphql_spec.specs.Nulls.{null_or, standing, reply_standing, key_standing, nulls, nulls_of}
use Rattle.graphql_spec.specs.Execution.{data_of}
use Rattle.graphql_spec.specs.Laws.{Pair, pair_at, pairs, count}
use Rattle.graphql_spec.specs.Walk.{count_listed, told, IsAnswer}
use Rattle.graphql_spec.specs.Fragments.{expand}
use Rattle.graphql_spec.specs.Directives.{passes}
use Rattle.graphql_spec.specs.Selections.{Forest}
use Rattle.graphql_spec.specs.Rules.{RuleError}
use Rattle.graphql_spec.specs.Executable.{is_executable}
use Rattle.graphql_spec.specs.Requests.{Outcome, refused, runs, not_parsed, not_valid, unknown_operation, no_mutation_type, of_document}
use Rattle.graphql_spec.proofs.Demo.{at, span, word, here, leaf_field, as_field, may, must, entry_of, kinds, typename_last, bad, case, first_case, Node, root}
use Rattle.graphql_spec.proofs.Rows.{outcome}

-- ## A schema of scalars and its resolver

unfoldable small : Schema
small = record {
  entries = entry_of (codes "String") (kinds false true false) ∷ entry_of (codes "Boolean") (kinds false false true)
      ∷ entry_of (codes "Int") (kinds true false false) ∷ entry_of (codes "ID") (kinds true true false)
      ∷ entry_of (codes "Query") (object_type (plain_field (codes "id") [] (must (codes "ID")) ∷ plain_field (codes "name") [] (must (codes "String"))
      ∷ plain_field (codes "nothing") [] (may (codes "String"))
      ∷ plain_field (codes "fail") [] (may (codes "Int")) ∷ plain_field (codes "boom") [] (must (codes "Int"))
      ∷ plain_field (codes "odd") [] (may (codes "Int")) ∷ typename_last ∷ []) []) ∷ [];
  query = codes "Query";
  mutation = None;
}

unfoldable reply : Node → Name → Members → Reply Node
reply n f args = first_case (case (codes "id") (answered (leaf (text (codes "q1")))) ∷ case (codes "name") (answered (leaf (text (codes "demo"))))
    ∷ case (codes "fail") (failed (bad (codes "failed"))) ∷ case (codes "boom") (failed (bad (codes "boom")))
    ∷ case (codes "odd") (answered (leaf (text (codes "1")))) ∷ []) f

abbrev none : Variables
none = λ n. None

unfoldable small_world : World Node
small_world = world_of small none (λ n. codes "Query") reply

-- a query that is written as its selection set alone
abbrev asking : Selections → ℕ → Document
asking s n = operation (record { kind = query; name = None; variables = None; directives = []; selections = s; span = span 0 n }) ∷ []

-- what `admits` leaves of selections
unfoldable admitted : Selections → Forest
unfolding outcome
admitted s = expand (passes none) [] s

abbrev directive : Text → Bool → ℕ → Directive
directive d b n =
    record { name = word d n; arguments = Some (here n (record { name = word (codes "if") n; value = here n (i.scalar (boolean b)) } ∷ [])); span = span n n }

abbrev field_with : Text → ℕ → List Directive → Selections → Selections
field_with t n ds rest = field (record { alias = None; name = word t n; arguments = None; directives = ds; has_set = false; span = span n n }) end rest

abbrev str : Text → Value
str t = scalar (text t)

unfoldable gives : Selections → Value
unfolding outcome small small_world reply admitted
gives s = data_of small_world (codes "Query") root (admitted s)

unfoldable failing : Selections → List Failure
unfolding outcome small small_world reply admitted
failing s = failures_of small_world [] [] (codes "Query") root (admitted s)

-- ## Data and failures

-- { id again: id name @skip(if: true) fail id }
first_line : Selections
first_line = leaf_field (codes "id") 2 (as_field (codes "again") (codes "id") 5
    (field_with (codes "name") 15 (directive (codes "skip") true 20 ∷ []) (leaf_field (codes "fail") 36 (leaf_field (codes "id") 41 end))))

first_data : gives first_line ≡ object (entry (codes "id") (str (codes "q1")) (entry (codes "again") (str (codes "q1")) (entry (codes "fail") null no_entries)))
unfolding gives first_line
first_data = refl

first_failures : failing first_line ≡ record {
  path = key (codes "fail") ∷ [];
  starts = at 36 ∷ [];
  error = bad (codes "failed");
  rises_to = key (codes "fail") ∷ [];
} ∷ []
unfolding failing first_line
first_failures = refl

-- { nothing __typename }; { id @skip(if: true) @include(if: true) }; { id @include(if: false) name @include(if: true) }
more_data : (gives (leaf_field (codes "nothing") 2 (leaf_field (codes "__typename") 10 end))
    ≡ object (entry (codes "nothing") null (entry (codes "__typename") (str (codes "Query")) no_entries)))
    × (failing (leaf_field (codes "nothing") 2 (leaf_field (codes "__typename") 10 end)) ≡ [])
    × (gives (field_with (codes "id") 2 (directive (codes "skip") true 5 ∷ directive (codes "include") true 21 ∷ []) end) ≡ object no_entries)
    × (gives (field_with (codes "id") 2 (directive (codes "include") false 5 ∷ [])
    (field_with (codes "name") 24 (directive (codes "include") true 29 ∷ []) end)) ≡ object (entry (codes "name") (str (codes "demo")) no_entries))
unfolding gives failing
more_data = (refl, refl, refl, refl)

-- { a: __typename __typename: id }: a response key alone answers no type's name
aliases : gives (as_field (codes "a") (codes "__typename") 2 (as_field (codes "__typename") (codes "id") 16 end))
    ≡ object (entry (codes "a") (str (codes "Query")) (entry (codes "__typename") (str (codes "q1")) no_entries))
unfolding gives
aliases = refl

-- { id boom }: the null of a non-null field rises to the data; { boom boom fail }: one failure with two occurrences, and another
rising : (gives (leaf_field (codes "id") 2 (leaf_field (codes "boom") 5 end)) ≡ null)
    × (failing (leaf_field (codes "id") 2 (leaf_field (codes "boom") 5 end))
    ≡ record { path = key (codes "boom") ∷ []; starts = at 5 ∷ []; error = bad (codes "boom"); rises_to = [] } ∷ [])
    × (failing (leaf_field (codes "boom") 2 (leaf_field (codes "boom") 7 (leaf_field (codes "fail") 12 end)))
    ≡ record { path = key (codes "boom") ∷ []; starts = at 2 ∷ at 7 ∷ []; error = bad (codes "boom"); rises_to = [] }
    ∷ record { path = key (codes "fail") ∷ []; starts = at 12 ∷ []; error = bad (codes "failed"); rises_to = key (codes "fail") ∷ [] } ∷ [])
unfolding gives failing
rising = (refl, refl, refl)

-- ## The rules, and the choice

unfoldable becomes : Option Name → Option Document → Outcome
unfolding outcome small
becomes n d = of_document small true n none d

abbrev alone : RuleError
alone = record { message = codes "Anonymous operation is not alone"; start = at 0 }

abbrev invalid : Text → Outcome
invalid t = refused (not_valid (record { message = t; start = at 0 } ∷ []))

-- { x }; { a: id a: name }; { x a: id a: name }; { __schema }; { id a: name id }; no text that is spelled
refusals : (becomes None (Some (asking (leaf_field (codes "x") 2 end) 5)) ≡ invalid (codes "Unknown field"))
    × (becomes None (Some (asking (as_field (codes "a") (codes "id") 2 (as_field (codes "a") (codes "name") 8 end)) 17))
    ≡ invalid (codes "Fields cannot be merged"))
    × (becomes None (Some (asking (leaf_field (codes "x") 2 (as_field (codes "a") (codes "id") 4 (as_field (codes "a") (codes "name") 10 end))) 19))
    ≡ invalid (codes "Unknown field"))
    × (becomes None (Some (asking (leaf_field (codes "__schema") 2 end) 12)) ≡ invalid (codes "Selection set does not fit the field"))
    × (becomes None (Some (asking (as_field (codes "a") (codes "id") 2 (leaf_field (codes "name") 8 (as_field (codes "a") (codes "id") 13 end))) 20))
    ≡ runs (asking (as_field (codes "a") (codes "id") 2 (leaf_field (codes "name") 8 (as_field (codes "a") (codes "id") 13 end))) 20)
    (record {
      kind = query;
      name = None;
      variables = None;
      directives = [];
      selections = as_field (codes "a") (codes "id") 2 (leaf_field (codes "name") 8 (as_field (codes "a") (codes "id") 13 end));
      span = span 0 20;
    }) none)
    × (becomes None None ≡ refused not_parsed)
unfolding becomes
refusals = (refl, refl, refl, refl, refl, refl)

-- with the name Q: { id }, and { x }, where the rules come first
names : (becomes (Some (codes "Q")) (Some (asking (leaf_field (codes "id") 2 end) 6)) ≡ refused unknown_operation)
    × (becomes (Some (codes "Q")) (Some (asking (leaf_field (codes "x") 2 end) 5)) ≡ invalid (codes "Unknown field"))
unfolding becomes
names = (refl, refl)

-- { x } { id }; mutation { x } with the name Q, and with none; and nothing at all
abbrev mutating : Document
mutating = operation (record {
  kind = mutation;
  name = None;
  variables = None;
  directives = [];
  selections = leaf_field (codes "x") 14 end;
  span = span 3 17;
}) ∷ []

others : (becomes None (Some (asking (leaf_field (codes "x") 2 end) 5 ++ asking (leaf_field (codes "id") 8 end) 12))
    ≡ refused (not_valid (alone ∷ alone ∷ [])))
    × (becomes (Some (codes "Q")) (Some mutating) ≡ refused unknown_operation)
    × (becomes None (Some mutating) ≡ refused no_mutation_type)
    × (becomes None (Some []) ≡ refused unknown_operation)
unfolding becomes
others = (refl, refl, refl, refl)

is_right : is_executable small ≡ true
unfolding outcome small Rattle.graphql_spec.specs.Tokens.is_name Rattle.graphql_spec.specs.Tokens.starts_name Rattle.graphql_spec.specs.Tokens.continues_name
is_right = refl

-- ## What an answer says

abbrev failed_at : ℕ → Listed
failed_at n = record { path = key (codes "fail") ∷ []; start = at n; error = bad (codes "failed") }

abbrev first_value : Value
first_value = object (entry (codes "id") (str (codes "q1")) (entry (codes "again") (str (codes "q1")) (entry (codes "fail") null no_entries)))

abbrev first_pair : Pair
first_pair = record { path = key (codes "fail") ∷ []; start = at 36; error = bad (codes "failed"); rises_to = key (codes "fail") ∷ [] }

abbrev first_stands : List Place
first_stands = (key (codes "fail") ∷ []) ∷ []

-- which nulls stand for a failure: that of `fail`; `{ nothing }` has a plain one; where the data is null, it
unfoldable standing_in : Selections → List Place
unfolding outcome small small_world reply admitted gives null_or standing reply_standing key_standing nulls nulls_of
standing_in s = null_or [] (named false []) (gives s) (nulls_of small_world [] (codes "Query") root (admitted s))

stands : (standing_in first_line ≡ first_stands) × (standing_in (leaf_field (codes "nothing") 2 end) ≡ [])
    × (standing_in (leaf_field (codes "fail") 2 (leaf_field (codes "boom") 7 end)) ≡ [] ∷ [])
    × (standing_in (leaf_field (codes "odd") 2 end) ≡ (key (codes "odd") ∷ []) ∷ [])
unfolding standing_in first_line
stands = (refl, refl, refl, refl)

abbrev IsFirst : Value → List Listed → Type 0
IsFirst v es = IsAnswer keys_only first_value (record {
  path = key (codes "fail") ∷ [];
  starts = at 36 ∷ [];
  error = bad (codes "failed");
  rises_to = key (codes "fail") ∷ [];
} ∷ []) first_stands v es

-- the value and one error are an answer
is_first : IsFirst first_value (failed_at 36 ∷ [])
unfolding compare_positions compare_steps compare not_greater is_least is_sorted pair_at pairs count count_listed told keys_only
is_first = record {
  is_data = refl;
  sorted = refl;
  belongs = λ x e. elim e [ inl e ↦ (first_pair, inl refl, sym e) | inr e ↦ absurd e ];
  counted = λ p. omega arith;
  none = (λ e. cc, λ e. cc);
  explained = λ to e. elim e [ inl e ↦ (first_pair, inl refl, sym e, inl refl) | inr e ↦ absurd e ];
}

-- no error, the error twice, an error at another field, another message, another value: no answer
not_dropped : IsFirst first_value [] → ⊥
unfolding pair_at pairs
not_dropped a = let e = a.none.0 refl in cc

not_twice : IsFirst first_value (failed_at 36 ∷ failed_at 36 ∷ []) → ⊥
unfolding pair_at pairs count count_listed
not_twice a = let e = a.counted (λ x. true) in omega (arith, e)

not_elsewhere : IsFirst first_value (failed_at 2 ∷ []) → ⊥
unfolding pair_at pairs told keys_only
not_elsewhere a = let b = a.belongs (failed_at 2) (inl refl) in elim b.1
    [ inl e ↦ let f = ap (λ q. q.start.index) e in let g = ap (λ x. x.start.index) b.2 in omega (arith, f, g) | inr e ↦ absurd e ]

not_null : IsFirst null (failed_at 36 ∷ []) → ⊥
not_null a = let e = a.is_data in cc

-- { fail b: fail }: two failures, two errors in order; one of them alone, or both in the other order, are no answer
abbrev failed_as : Text → ℕ → Listed
failed_as k n = record { path = key k ∷ []; start = at n; error = bad (codes "failed") }

abbrev failing_as : Text → ℕ → Failure
failing_as k n = record { path = key k ∷ []; starts = at n ∷ []; error = bad (codes "failed"); rises_to = key k ∷ [] }

abbrev two_nulls : Value
two_nulls = object (entry (codes "fail") null (entry (codes "b") null no_entries))

abbrev two_stand : List Place
two_stand = (key (codes "fail") ∷ []) ∷ (key (codes "b") ∷ []) ∷ []

two_fail : (gives (leaf_field (codes "fail") 2 (as_field (codes "b") (codes "fail") 7 end)) ≡ two_nulls)
    × (failing (leaf_field (codes "fail") 2 (as_field (codes "b") (codes "fail") 7 end)) ≡ failing_as (codes "fail") 2 ∷ failing_as (codes "b") 7 ∷ [])
    × (standing_in (leaf_field (codes "fail") 2 (as_field (codes "b") (codes "fail") 7 end)) ≡ two_stand)
unfolding gives failing standing_in
two_fail = (refl, refl, refl)

abbrev AreTwo : List Listed → Type 0
AreTwo es = IsAnswer keys_only two_nulls (failing_as (codes "fail") 2 ∷ failing_as (codes "b") 7 ∷ []) two_stand two_nulls es

unfoldable first_key_length : Place → ℕ
first_key_length [] = 0
first_key_length (key k ∷ ps) = length k
first_key_length (index n ∷ ps) = 0

not_half : AreTwo (failed_as (codes "fail") 2 ∷ []) → ⊥
unfolding pair_at pairs told keys_only first_key_length
not_half a = let t = a.explained (key (codes "b") ∷ []) (inr (inl refl)) in elim t.1 [
  | inl e ↦ let f = ap (λ q. first_key_length q.rises_to) e in let g = ap first_key_length t.2 in omega (arith, f, g)
  | inr (inl e) ↦ elim t.3 [ inl u ↦ let f = ap (λ q. q.start.index) e in let g = ap (λ x. x.start.index) u in omega (arith, f, g) | inr u ↦ absurd u ]
  | inr (inr e) ↦ absurd e
]

not_unsorted : AreTwo (failed_as (codes "b") 7 ∷ failed_as (codes "fail") 2 ∷ []) → ⊥
unfolding compare_positions compare_steps compare not_greater is_least is_sorted
not_unsorted a = both_ways false refl a.sorted
