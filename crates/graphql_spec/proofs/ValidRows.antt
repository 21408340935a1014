-- worked rows: what validity gives, at small documents
use Rattle.std.specs.Prelude.{ℕ, ◌+◌, pos, true, false, codes, List, [], ◌∷◌, ◌≡◌, None, Some}
use Rattle.std.specs.Str.{bytes_eq}
use Rattle.std.proofs.lemmas.Bool.{both_ways}
use Rattle.std.proofs.Common.{refl, sym, ap, inl, inr}
use Rattle.graphql_spec.specs.Shown.{Text, int, text}
use Rattle.graphql_spec.specs.Inputs as i
use Rattle.graphql_spec.specs.Inputs.{Variables}
use Rattle.graphql_spec.specs.Types.{named}
use Rattle.graphql_spec.specs.Documents.{Selections, end, query, mutation, subscription, Operation, operation, Document, fragments}
use Rattle.graphql_spec.specs.Fragments.{deep_in, deep, expand}
use Rattle.graphql_spec.specs.Directives.{passes}
use Rattle.graphql_spec.specs.Selections.{Forest, Occurrence, chain, occurrences}
use Rattle.graphql_spec.specs.Fields.{is_possible}
use Rattle.graphql_spec.specs.Executable.{is_executable}
use Rattle.graphql_spec.specs.Placed.{root_type}
use Rattle.graphql_spec.specs.Values.{Value, null, scalar, list, object, no_items, item, Entries, no_entries, entry, join}
use Rattle.graphql_spec.specs.Resolvers.{answered, node, World, world_of}
use Rattle.graphql_spec.specs.Execution.{value_of}
use Rattle.graphql_spec.specs.Laws.{Agree, Merges}
use Rattle.graphql_spec.specs.Rules.{at_each, name_errors, rule_errors}
use Rattle.graphql_spec.specs.Requests.{runs, of_document, selected}
use Rattle.graphql_spec.specs.ValidityLaws.{PlacedSet, sets_below, sets_from, sets_in, AreDeclared}
use Rattle.graphql_spec.proofs.Demo.{at, span, word, leaf_field, set_field, as_field, given_field, on, spread_of, fragment_on, demo, Node, root, droid}
use Rattle.graphql_spec.proofs.Demo.{concrete_of, answer_of}
use Rattle.graphql_spec.proofs.Rows.{answer, outcome}
use Rattle.graphql_spec.proofs.ValidRuns.{runs_agree, runs_join, runs_join_below}

-- ## A valid document

-- { id ...F }
abbrev first_set : Selections
first_set = leaf_field (codes "id") 9 (spread_of (codes "F") 12 end)

-- { friends { name } }
abbrev third_set : Selections
third_set = set_field (codes "friends") 41 (leaf_field (codes "name") 51 end) end

-- { ... on Droid { friends { name } } }
abbrev second_set : Selections
second_set = on (codes "Droid") 26 third_set end

-- { hero { id ...F } hero { ... on Droid { friends { name } } } }
abbrev asked : Operation
asked = record {
  kind = query;
  name = None;
  variables = None;
  directives = [];
  selections = set_field (codes "hero") 2 first_set (set_field (codes "hero") 19 second_set end);
  span = span 0 62;
}

-- { name friends { id } }
abbrev held : Selections
held = leaf_field (codes "name") 86 (set_field (codes "friends") 91 (leaf_field (codes "id") 101 end) end)

-- the operation, and fragment F on Character { name friends { id } }
abbrev heroes : Document
heroes = operation asked ∷ fragment_on (codes "F") (codes "Character") 63 held ∷ []

abbrev no_values : Variables
no_values = λ n. None

abbrev set_on : Text → Selections → PlacedSet
set_on t s = record { parent = t; selections = s }

-- the premises: all rules find nothing, the schema can be executed, the request runs
premises : (rule_errors demo true heroes ≡ []) × (is_executable demo ≡ true) × (root_type demo asked.kind ≡ Some (codes "Query"))
unfolding outcome Rattle.graphql_spec.specs.Tokens.is_name Rattle.graphql_spec.specs.Tokens.starts_name Rattle.graphql_spec.specs.Tokens.continues_name
premises = (refl, refl, refl)

-- the sets, each on its type: a field's on the field's innermost type, an inline fragment's and a fragment's on its condition;
-- a field without a set selects nothing
sets : (sets_in demo (operation asked) ≡ set_on (codes "Query") asked.selections ∷ set_on (codes "Character") first_set ∷ set_on (codes "ID") end
    ∷ set_on (codes "Character") second_set
    ∷ set_on (codes "Droid") third_set ∷ set_on (codes "Character") (leaf_field (codes "name") 51 end) ∷ set_on (codes "String") end ∷ [])
    × (sets_in demo (fragment_on (codes "F") (codes "Character") 63 held)
    ≡ set_on (codes "Character") held ∷ set_on (codes "String") end ∷ set_on (codes "Character") (leaf_field (codes "id") 101 end) ∷ set_on (codes "ID") end
    ∷ [])
unfolding outcome sets_in sets_from sets_below
sets = (refl, refl)

-- ## What it gives

-- what the operation selects, in two parts
abbrev part : ℕ → Selections → Forest
part n s = expand (passes no_values) (fragments heroes) (set_field (codes "hero") n s end)

abbrev demo_world : World Node
demo_world = world_of demo no_values concrete_of answer_of

-- the value of the root's node
abbrev value : Forest → Value
value t = value_of demo_world (named false (codes "Query")) (answered (node root)) t

-- the answer in which the hero has these entries
abbrev hero_with : Entries → Value
hero_with es = object (entry (codes "hero") (object es) no_entries)

-- two friends, of whom the second is none; the first has these entries
abbrev friends_with : Entries → Value
friends_with es = list (item (object es) (item null no_items))

abbrev named_droid : Entries → Entries
named_droid es = entry (codes "id") (scalar (text (codes "2001"))) (entry (codes "name") (scalar (text (codes "R2-D2"))) es)

abbrev friend_id : Entries → Entries
friend_id es = entry (codes "id") (scalar (text (codes "1000"))) es

abbrev friend_name : Entries
friend_name = entry (codes "name") (scalar (text (codes "Luke Skywalker"))) no_entries

-- the answers to the first part, to the second, and to both
abbrev first_answer : Value
first_answer = hero_with (named_droid (entry (codes "friends") (friends_with (friend_id no_entries)) no_entries))

abbrev second_answer : Value
second_answer = hero_with (entry (codes "friends") (friends_with friend_name) no_entries)

abbrev whole_answer : Value
whole_answer = hero_with (named_droid (entry (codes "friends") (friends_with (friend_id friend_name)) no_entries))

-- the request runs; each part and the whole are answered, and the answers join
joined : (outcome no_values heroes ≡ runs heroes asked (λ n. None)) × (selected heroes asked no_values ≡ chain (part 2 first_set) (part 19 second_set))
    × (value (part 2 first_set) ≡ first_answer) × (value (part 19 second_set) ≡ second_answer) × (value (selected heroes asked no_values) ≡ whole_answer)
    × (join first_answer second_answer ≡ whole_answer)
unfolding answer outcome
joined = (refl, refl, refl, refl, refl, refl)

-- the law gives the same
by_law : value (selected heroes asked no_values) ≡ join (value (part 2 first_set)) (value (part 19 second_set))
unfolding of_document outcome
by_law = runs_join {N = Node} demo true None no_values (Some heroes) heroes asked no_values joined.0 premises.1 concrete_of answer_of (codes "Query") premises.2
    (part 2 first_set) (part 19 second_set) joined.1 false (answered (node root))

-- the two occurrences of `hero`
abbrev hero_at : ℕ → Selections → Occurrence
hero_at n s = record {
  head = record { alias = None; name = word (codes "hero") n; arguments = None; directives = []; has_set = true; span = span n (n + 4) };
  below = expand (passes no_values) (fragments heroes) s;
}

-- the value of a droid for them
abbrev droid_for : Forest → Value
droid_for t = value_of demo_world (named false (codes "Character")) (answered (node droid)) t

-- the law at their place, and what it says there by hand
by_law_below : droid_for (chain (hero_at 2 first_set).below (hero_at 19 second_set).below)
    ≡ join (droid_for (hero_at 2 first_set).below) (droid_for (hero_at 19 second_set).below)
unfolding answer of_document outcome
by_law_below = ((runs_join_below {N = Node} demo true None no_values (Some heroes) heroes asked no_values joined.0 premises.1 concrete_of answer_of
    (codes "Query") premises.2 1)
    (hero_at 2 first_set) (hero_at 19 second_set) (inl refl) (inr (inl refl)) refl).0 (answered (node droid))

below_by_hand : droid_for (chain (hero_at 2 first_set).below (hero_at 19 second_set).below)
    ≡ object (named_droid (entry (codes "friends") (friends_with (friend_id friend_name)) no_entries))
unfolding answer outcome
below_by_hand = refl

-- mutation { add(n: 1) { total } add(n: k) { count } }
abbrev adding : ℕ → Operation
adding k = record {
  kind = mutation;
  name = None;
  variables = None;
  directives = [];
  selections = given_field None (codes "add") (codes "n") (i.scalar (int (pos 1))) 11 true (leaf_field (codes "total") 23 end)
      (given_field None (codes "add") (codes "n") (i.scalar (int (pos k))) 31 true (leaf_field (codes "count") 43 end) end);
  span = span 0 51;
}

-- with k = 1 it runs, on the mutation type, and its sets are those; with k = 2 its fields cannot be merged
mutations : (outcome no_values (operation (adding 1) ∷ []) ≡ runs (operation (adding 1) ∷ []) (adding 1) (λ n. None))
    × (root_type demo mutation ≡ Some (codes "Mutation"))
    × (sets_in demo (operation (adding 1)) ≡ set_on (codes "Mutation") (adding 1).selections ∷ set_on (codes "Tally") (leaf_field (codes "total") 23 end)
    ∷ set_on (codes "Int") end
    ∷ set_on (codes "Tally") (leaf_field (codes "count") 43 end) ∷ set_on (codes "Int") end ∷ [])
    × (rule_errors demo true (operation (adding 2) ∷ []) ≡ record { message = codes "Fields cannot be merged"; start = at 0 } ∷ [])
    × (sets_in demo (operation (record { kind = subscription; name = None; variables = None; directives = []; selections = held; span = span 0 0 })) ≡ [])
unfolding outcome sets_in sets_from sets_below
mutations = (refl, refl, refl, refl, refl)

-- the two occurrences of `add` for the mutation type
abbrev added : List Occurrence
added = occurrences (is_possible demo) (codes "Mutation") (selected (operation (adding 1) ∷ []) (adding 1) no_values)

-- by the law they agree, to every depth, and each is declared
adding_agrees : (depth : ℕ) → Agree demo_world depth (codes "Mutation") added × AreDeclared demo depth (codes "Mutation") added
unfolding of_document outcome
adding_agrees depth = runs_agree {N = Node} demo true None no_values (Some (operation (adding 1) ∷ [])) (operation (adding 1) ∷ [])
    (adding 1) no_values mutations.0 premises.1 concrete_of answer_of (codes "Mutation") mutations.1 depth

-- ## What it refuses

-- { ...F } fragment F on Query { ...F }: the rules on names find it, and its spreads have no end
abbrev round : Document
round = operation (record { kind = query; name = None; variables = None; directives = []; selections = spread_of (codes "F") 2 end; span = span 0 8 })
    ∷ fragment_on (codes "F") (codes "Query") 9 (spread_of (codes "F") 30 end) ∷ []

endless : (at_each (name_errors demo true round) [] round ≡ record { message = codes "Fragment spreads itself"; start = at 9 } ∷ [])
    × (deep (fragments round) 1 (codes "F") ≡ true)
unfolding outcome deep deep_in
endless = (refl, refl)

-- a field `a` that resolves the field of the name t
abbrev renamed : Text → Occurrence
renamed t = record {
  head = record { alias = Some (word (codes "a") 2); name = word t 5; arguments = None; directives = []; has_set = false; span = span 2 2 };
  below = Forest.end;
}

-- { a: fail a: odd }: the two do not merge for the object type
differ : Merges demo_world (codes "Query") (expand (passes no_values) [] (as_field (codes "a") (codes "fail") 2 (as_field (codes "a") (codes "odd") 2 end))) → ⊥
unfolding outcome answer
differ m = fail-is-odd ((m 1 (codes "Query") refl) (renamed (codes "fail")) (renamed (codes "odd")) (inl refl) (inr (inl refl)) refl).0
  where
    fail-is-odd : codes "fail" ≡ codes "odd" → ⊥
    fail-is-odd e = both_ways (bytes_eq (codes "fail") (codes "odd")) refl (ap (λ z. bytes_eq (codes "fail") z) (sym e))

-- { a: height }: no field of the query type; { hero { a: height } }: none of droids
abbrev hero_height : Occurrence
hero_height = record {
  head = record { alias = None; name = word (codes "hero") 2; arguments = None; directives = []; has_set = true; span = span 2 2 };
  below = Forest.field (renamed (codes "height")).head Forest.end Forest.end;
}

unknown : (AreDeclared demo 1 (codes "Query") (renamed (codes "height") ∷ []) → ⊥) × (AreDeclared demo 2 (codes "Query") (hero_height ∷ []) → ⊥)
unfolding outcome
unknown = (
  λ f. both_ways false refl (f (renamed (codes "height")) (inl refl)).0,
  λ f. both_ways false refl ((f hero_height (inl refl)).1 (codes "Droid") refl (renamed (codes "height")) (inl refl)).0,
)
