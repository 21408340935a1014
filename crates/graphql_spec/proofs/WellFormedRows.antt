-- worked rows: the names of documents, and how deep their brackets nest
use Rattle.std.specs.Prelude.{ℕ, Bool, true, false, codes, cond, ◌==◌, List, [], ◌∷◌, ◌≡◌, Option, None, Some, pos}
use Rattle.std.specs.List.{list_any}
use Rattle.std.proofs.Common.{refl}
use Rattle.graphql_spec.specs.Shown.{Name, Text, int}
use Rattle.graphql_spec.specs.Types.{TypeRef, named, list_of, innermost}
use Rattle.graphql_spec.specs.Inputs.{Input, null, scalar, enumerated, variable, list, object, no_items, item, no_fields, input_field}
use Rattle.graphql_spec.specs.Documents.{Argument, Arguments, Directive, Selections, end, field, spread, inline, VariableDefinition, query, operation, fragment}
use Rattle.graphql_spec.specs.Documents.{Document, written, variables_of}
use Rattle.graphql_spec.specs.Tokens.{starts_name, continues_name, is_name}
use Rattle.graphql_spec.specs.WellFormed.{is_enum_name, is_named, items_are_named, fields_are_named, nests, items_nest, fields_nest}
use Rattle.graphql_spec.specs.WellFormedDocuments.{is_none_or, word_is_named, is_fragment_name, argument_is_named, arguments_are_named, directive_is_named}
use Rattle.graphql_spec.specs.WellFormedDocuments.{directives_are_named, head_is_named, spread_is_named, inline_is_named, selections_are_named, type_is_named}
use Rattle.graphql_spec.specs.WellFormedDocuments.{variable_is_named, operation_is_named, fragment_is_named, definition_is_named, document_is_named}
use Rattle.graphql_spec.specs.WellFormedDocuments.{nests_inside, argument_nests, arguments_nest, directive_nests, directives_nest, head_nests, in_set}
use Rattle.graphql_spec.specs.WellFormedDocuments.{selections_nest, type_nests, variable_nests, variables_nest, set_nests, operation_nests, fragment_nests}
use Rattle.graphql_spec.specs.WellFormedDocuments.{definition_nests, document_nests}
use Rattle.graphql_spec.proofs.Demo.{span, word, here, leaf_field, set_field}

-- ## Names

abbrev argument : Name → Input → Argument
argument k v = record { name = word k 0; value = here 0 v }

-- arguments of which there is one
abbrev one : Name → Input → Arguments
one k v = Some (here 0 (argument k v ∷ []))

abbrev directive : Name → Arguments → Directive
directive k as' = record { name = word k 0; arguments = as'; span = span 0 1 }

-- ...13 @14 ... on 15 @16 { 17 }
abbrev sample_inside : (ℕ → Name) → Selections
sample_inside name = spread (record { name = word (name 13) 0; directives = directive (name 14) None ∷ []; span = span 0 1 })
    (inline (record { condition = Some (word (name 15) 0); directives = directive (name 16) None ∷ []; span = span 0 1 }) (leaf_field (name 17) 0 end) end)

-- 9: 10(11: null) @12 { .. } 18
abbrev sample_set : (ℕ → Name) → Selections
sample_set name = field (record {
  alias = Some (word (name 9) 0);
  name = word (name 10) 0;
  arguments = one (name 11) null;
  directives = directive (name 12) None ∷ [];
  has_set = true;
  span = span 0 1;
})
    (sample_inside name) (leaf_field (name 18) 0 end)

-- $1: [2]! = [3] @4
abbrev sample_variable : (ℕ → Name) → VariableDefinition
sample_variable name = record {
  name = word (name 1) 0;
  of_type = here 0 (list_of true None (named false (name 2)));
  default = Some (here 0 (list (item (enumerated (name 3)) (span 0 1) no_items)));
  directives = directive (name 4) None ∷ [];
}

-- query 0(..) @5(6: {7: $8}) { .. }  fragment 19 on 20 @21 { 22 }
sample : (ℕ → Name) → Document
sample name = operation (record {
  kind = query;
  name = Some (word (name 0) 0);
  variables = Some (here 0 (sample_variable name ∷ []));
  directives = directive (name 5) (one (name 6) (object (input_field (name 7) (span 0 1) (variable (name 8)) (span 0 1) no_fields))) ∷ [];
  selections = sample_set name;
  span = span 0 1;
}) ∷ fragment (record {
  name =
      word (name 19) 0;
  condition = word (name 20) 0;
  directives = directive (name 21) None ∷ [];
  selections = leaf_field (name 22) 0 end;
  span = span 0 1;
}) ∷ []

abbrev places : List ℕ
places = 0 ∷ 1 ∷ 2 ∷ 3 ∷ 4 ∷ 5 ∷ 6 ∷ 7 ∷ 8 ∷ 9 ∷ 10 ∷ 11 ∷ 12 ∷ 13 ∷ 14 ∷ 15 ∷ 16 ∷ 17 ∷ 18 ∷ 19 ∷ 20 ∷ 21 ∷ 22 ∷ []

-- the sample with this word at the place k, and `_a1` everywhere else, is named
at_place : Text → ℕ → Bool
at_place w k = document_is_named (sample (λ i. cond (i == k) w (codes "_a1")))

-- those of the places at which the test fails
failing_places : (ℕ → Bool) → List ℕ → List ℕ
failing_places test [] = []
failing_places test (k ∷ ks) = cond (test k) (failing_places test ks) (k ∷ failing_places test ks)

-- a word with a space, an empty one or one that begins with a digit stands nowhere; `true`, `false` and `null` are names
-- but no values of enums; `on` is a name, but of no fragment; `query` may stand anywhere
names : (at_place (codes "a") 23 ≡ true) × (list_any (at_place (codes "a b")) places ≡ false) × (list_any (at_place []) places ≡ false)
    × (list_any (at_place (codes "1a")) places ≡ false)
    × (failing_places (at_place (codes "true")) places ≡ 3 ∷ []) × (failing_places (at_place (codes "false")) places ≡ 3 ∷ [])
    × (failing_places (at_place (codes "null")) places ≡ 3 ∷ [])
    × (failing_places (at_place (codes "on")) places ≡ 13 ∷ 19 ∷ []) × (failing_places (at_place (codes "query")) places ≡ [])
unfolding at_place sample failing_places innermost written variables_of starts_name continues_name is_name is_enum_name is_named items_are_named
    fields_are_named is_none_or word_is_named is_fragment_name argument_is_named arguments_are_named directive_is_named directives_are_named head_is_named
    spread_is_named inline_is_named selections_are_named type_is_named variable_is_named operation_is_named fragment_is_named definition_is_named
    document_is_named
names = (refl, refl, refl, refl, refl, refl, refl, refl, refl)

-- ## Nesting

abbrev asks : Option (List VariableDefinition) → List Directive → Selections → Document
asks vs ds s = operation (record {
  kind = query;
  name = None;
  variables = elim vs [ None ↦ None | Some xs ↦ Some (here 0 xs) ];
  directives = ds;
  selections = s;
  span = span 0 1;
}) ∷ []

abbrev a_field : Arguments → List Directive → Selections
a_field as' ds = field (record { alias = None; name = word (codes "a") 0; arguments = as'; directives = ds; has_set = false; span = span 0 1 }) end end

abbrev plain : Selections
plain = leaf_field (codes "a") 0 end

abbrev one_variable : TypeRef → Option Input → List Directive → List VariableDefinition
one_variable t v ds =
    record { name = word (codes "v") 0; of_type = here 0 t; default = elim v [ None ↦ None | Some x ↦ Some (here 0 x) ]; directives = ds } ∷ []

abbrev listed : Input → Input
listed v = list (item v (span 0 1) no_items)

abbrev one_int : Input
one_int = scalar (int (pos 1))

-- n brackets suffice, and with m one more would be needed
needs : ℕ → ℕ → Document → Bool
needs n m d = cond (document_nests n d) (cond (document_nests m d) false true) false

-- { a }, and those that are written above each
selections : (needs 1 0 (asks None [] plain) ≡ true)
    -- { a { a { a } } a { a } }
    × (needs 3 2 (asks None [] (set_field (codes "a") 0 (set_field (codes "a") 0 plain end) (set_field (codes "a") 0 plain end))) ≡ true)
    -- { a a { a { a } } }
    × (needs 3 2 (asks None [] (leaf_field (codes "a") 0 (set_field (codes "a") 0 (set_field (codes "a") 0 plain end) end))) ≡ true)
    -- { ... { a } }
    × (needs 2 1 (asks None [] (inline (record { condition = None; directives = []; span = span 0 1 }) plain end)) ≡ true)
    -- { ...a }
    × (needs 1 0 (asks None [] (spread (record { name = word (codes "a") 0; directives = []; span = span 0 1 }) end)) ≡ true)
unfolding needs is_none_or nests_inside argument_nests arguments_nest directive_nests directives_nest head_nests in_set selections_nest type_nests
    variable_nests variables_nest set_nests operation_nests fragment_nests definition_nests document_nests nests items_nest fields_nest
selections = (refl, refl, refl, refl, refl)

-- { a(x: 1) }, and those that are written above each
arguments : (needs 2 1 (asks None [] (a_field (one (codes "x") one_int) [])) ≡ true)
    -- { a(x: [[]]) }
    × (needs 4 3 (asks None [] (a_field (one (codes "x") (listed (list no_items))) [])) ≡ true)
    -- { a @a(x: {x: []}) }
    × (needs 4 3 (asks None [] (a_field None (directive (codes "a")
    (one (codes "x") (object (input_field (codes "x") (span 0 1) (list no_items) (span 0 1) no_fields))) ∷ []))) ≡ true)
    -- { ...a @a @a(x: 1) }
    × (needs 2 1 (asks None [] (spread (record {
      name = word (codes "a") 0;
      directives = directive (codes "a") None ∷ directive (codes "a") (one (codes "x") one_int) ∷ [];
      span = span 0 1;
    }) end)) ≡ true)
    -- { ... @a(x: [1]) { a } }
    × (needs 3 2 (asks None [] (inline (record {
      condition = None;
      directives = directive (codes "a") (one (codes "x") (listed one_int)) ∷ [];
      span = span 0 1;
    }) plain end)) ≡ true)
unfolding needs is_none_or nests_inside argument_nests arguments_nest directive_nests directives_nest head_nests in_set selections_nest type_nests
    variable_nests variables_nest set_nests operation_nests fragment_nests definition_nests document_nests nests items_nest fields_nest
arguments = (refl, refl, refl, refl, refl)

-- query ($v: Int) { a }, and those that are written above each
definitions : (needs 1 0 (asks (Some (one_variable (named false (codes "Int")) None [])) [] plain) ≡ true)
    -- query ($v: [[Int]]) { a }
    × (needs 3 2 (asks (Some (one_variable (list_of true None (list_of false None (named true (codes "Int")))) None [])) [] plain) ≡ true)
    -- query ($v: Int = [[[]]]) { a }
    × (needs 4 3 (asks (Some (one_variable (named false (codes "Int")) (Some (listed (listed (list no_items)))) [])) [] plain) ≡ true)
    -- query ($v: Int @a(x: [1])) { a }
    × (needs 3 2 (asks (Some (one_variable (named false (codes "Int")) None (directive (codes "a") (one (codes "x") (listed one_int)) ∷ []))) [] plain) ≡ true)
    -- query @a(x: [1]) { a }
    × (needs 2 1 (asks None (directive (codes "a") (one (codes "x") (listed one_int)) ∷ []) plain) ≡ true)
    -- fragment a on a @a(x: [1]) { a }
    × (needs 2 1 (fragment (record {
      name = word (codes "a") 0;
      condition = word (codes "a") 0;
      directives = directive (codes "a") (one (codes "x") (listed one_int)) ∷ [];
      selections = plain;
      span = span 0 1;
    }) ∷ []) ≡ true)
    -- fragment a on a { a { a } }
    × (needs 2 1 (fragment (record {
      name = word (codes "a") 0;
      condition = word (codes "a") 0;
      directives = [];
      selections = set_field (codes "a") 0 plain end;
      span = span 0 1;
    }) ∷ []) ≡ true)
unfolding needs is_none_or nests_inside argument_nests arguments_nest directive_nests directives_nest head_nests in_set selections_nest type_nests
    variable_nests variables_nest set_nests operation_nests fragment_nests definition_nests document_nests nests items_nest fields_nest
definitions = (refl, refl, refl, refl, refl, refl, refl)
