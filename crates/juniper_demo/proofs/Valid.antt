-- The request's document is valid (5).
use Rattle.std.specs.Prelude.{◌≡◌, true, false, codes, List, [], ◌∷◌, Option, Some}
use Rattle.std.proofs.Common.{refl}
use Rattle.graphql_spec.specs.Shown.{Name, same_bool}
use Rattle.graphql_spec.specs.Types.{named, required, innermost}
use Rattle.graphql_spec.specs.Documents.{Definition, operation, word_name, name_or, response_key, written, variables_of, operations, fragments}
use Rattle.graphql_spec.specs.Schema.{Schema, Entry, plain_field, plain_input}
use Rattle.graphql_spec.specs.BuiltIns.{directives, condition_arguments, selection_places, must}
use Rattle.graphql_spec.specs.Arguments.{written_meaning}
use Rattle.graphql_spec.specs.Constants.{same_members}
use Rattle.graphql_spec.specs.Directives.{admits}
use Rattle.graphql_spec.specs.Selections.{depth}
use Rattle.graphql_spec.specs.Fragments.{expand, plain, contents, spreads}
use Rattle.graphql_spec.specs.Fields.{is_leaf, is_composite, declaration_in, declared_type, accepts_kind}
use Rattle.graphql_spec.specs.Fits.{fits, through, scalar_fits}
use Rattle.graphql_spec.specs.Written.{own_directives, all_directives, all_conditions, argument_lists, values_in, default_values, defined_variables}
use Rattle.graphql_spec.specs.Written.{directives_in, conditions, heads, selections_of, repeats, field_repeats}
use Rattle.graphql_spec.specs.Placed.{Placed, Call, placed, placed_in, if_declared, root_type, directives_placed, placed_directives, calls, field_calls}
use Rattle.graphql_spec.specs.Placed.{directive_calls, directive_named, directive_in}
use Rattle.graphql_spec.specs.Overlap.{fields}
use Rattle.graphql_spec.specs.Merging.{definition_merges, set_merges, sets_merge, each_pair, each_two, same_key, merge, shapes_agree, types_agree, type_at}
use Rattle.graphql_spec.specs.Merging.{fields_at, may_meet, same_name, same_arguments}
use Rattle.graphql_spec.specs.VariableUses.{all_allowed, all_defined, uses, uses_in_call, at_declared, uses_at, parts, as_definitions, reached, names_used}
use Rattle.graphql_spec.specs.VariableUses.{variables_in, definition_of}
use Rattle.graphql_spec.specs.Rules.{has_unknown_field, has_wrong_set, set_is_wrong, has_unknown_argument, gives_unknown, lacks_argument, gives_too_few}
use Rattle.graphql_spec.specs.Rules.{must_be_written, has_wrong_argument, gives_wrong, misuses_variable, has_root, cannot_merge, rule_errors, name_errors}
use Rattle.graphql_spec.specs.Rules.{type_errors, use_errors, first_found, at_each, reported, repeats_operation, is_not_alone, repeats_fragment}
use Rattle.graphql_spec.specs.Rules.{spreads_unknown, spreads_itself, repeats_variable, repeats_argument, repeats_input_field, has_unknown_directive}
use Rattle.graphql_spec.specs.Rules.{has_unknown_type, has_other_condition, has_other_variable, has_wrong_default, variable_types, uses_undefined}
use Rattle.graphql_spec.specs.Rules.{looks_at_schema}
use Rattle.juniper_demo.proofs.Request.{the_document, the_operation, the_directive, the_argument, first_id, again, skipped, failing, last_id}
use Rattle.juniper_demo.proofs.Declared.{Declares, queried, id_field, name_field, fail_field}

module _ (es : List Entry) (m : Option Name) (known : Declares (queried es m)) where
  abbrev s : Schema
  s = queried es m

  abbrev x : Definition
  x = operation the_operation

  abbrev all_placed : List Placed
  all_placed = record { parent = codes "Query"; head = first_id; declared = Some id_field }
      ∷ record { parent = codes "Query"; head = again; declared = Some id_field }
      ∷ record { parent = codes "Query"; head = skipped; declared = Some name_field }
      ∷ record { parent = codes "Query"; head = failing; declared = Some fail_field }
      ∷ record { parent = codes "Query"; head = last_id; declared = Some id_field } ∷ []

  fields_are_placed : placed_in s x ≡ all_placed
  unfolding placed_in placed root_type if_declared plain_field innermost
  fields_are_placed = rw (known.id, known.name, known.fail) refl

  directive_is_placed : directives_placed s x ≡ the_directive ∷ []
  unfolding directives_placed placed_directives root_type if_declared own_directives variables_of plain_field innermost
  directive_is_placed = rw (known.id, known.name, known.fail) refl

  all_known : has_unknown_field s x ≡ false
  unfolding has_unknown_field
  all_known = rw fields_are_placed refl

  sets_are_right : has_wrong_set s x ≡ false
  unfolding has_wrong_set set_is_wrong is_composite innermost plain_field
  sets_are_right = rw (fields_are_placed, known.ids, known.strings, known.ints) refl

  -- a field without arguments, and `@skip(if: true)`
  abbrev bare : Call
  bare = record { declared = []; given = [] }

  abbrev skipping : Call
  skipping = record { declared = plain_input (codes "if") (named true (codes "Boolean")) ∷ []; given = the_argument ∷ [] }

  all_calls : calls s x ≡ bare ∷ bare ∷ bare ∷ bare ∷ bare ∷ skipping ∷ []
  unfolding calls field_calls directive_calls directive_named directive_in directives condition_arguments selection_places must plain_field written
  all_calls = rw (fields_are_placed, directive_is_placed) refl

  arguments_are_known : has_unknown_argument s x ≡ false
  unfolding has_unknown_argument gives_unknown declaration_in plain_input
  arguments_are_known = rw all_calls refl

  arguments_are_there : lacks_argument s x ≡ false
  unfolding lacks_argument gives_too_few must_be_written required plain_input
  arguments_are_there = rw all_calls refl

  arguments_fit : has_wrong_argument s x ≡ false
  unfolding has_wrong_argument gives_wrong declaration_in plain_input fits through scalar_fits accepts_kind
  arguments_fit = rw (all_calls, known.booleans) refl

  variables_may_stand : misuses_variable s the_document x ≡ false
  unfolding misuses_variable has_root root_type all_allowed uses uses_in_call at_declared uses_at declaration_in plain_input parts as_definitions reached
      fragments variables_of
  variables_may_stand = rw all_calls refl

  fields_merge : cannot_merge s the_document x ≡ false
  unfolding cannot_merge definition_merges root_type set_merges sets_merge fragments expand plain contents admits depth fields each_pair each_two same_key
      response_key name_or merge shapes_agree types_agree type_at fields_at declared_type innermost may_meet same_name same_arguments written_meaning written
      same_members plain_field same_bool is_leaf
  fields_merge = rw (known.id, known.ids) refl

  pub is_valid : rule_errors s false the_document ≡ []
  unfolding rule_errors name_errors type_errors use_errors first_found at_each reported repeats_operation is_not_alone repeats_fragment spreads_unknown
      spreads_itself repeats_variable repeats_argument repeats_input_field has_unknown_directive has_unknown_type has_other_condition has_other_variable
      has_wrong_default variable_types uses_undefined looks_at_schema all_defined parts reached as_definitions names_used variables_in argument_lists
      values_in default_values defined_variables all_directives all_conditions own_directives directives_in conditions heads selections_of spreads repeats
      field_repeats operations fragments variables_of written word_name directive_named directive_in directives definition_of has_root root_type
  is_valid = rw (
    all_known,
    sets_are_right,
    arguments_are_known,
    arguments_are_there,
    arguments_fit,
    variables_may_stand,
    fields_merge,
  ) refl
