-- The nodes that violate each rule, of a definition (5): by the tests of the rules, at the node.
use Rattle.std.specs.Prelude.{Bool, not, ◌&&◌, ◌||◌, cond, codes, false, List, [], ◌∷◌, ◌++◌, Option, Some, None, map}
use Rattle.std.specs.List.{flat_map, list_any}
use Rattle.std.specs.Option.{is_none}
use Rattle.std.specs.Str.{bytes_eq}
use Rattle.graphql_spec.specs.Shown.{Name, Text}
use Rattle.graphql_spec.specs.Positions.{Spanned}
use Rattle.graphql_spec.specs.Inputs.{Input, list, object, InputItems, no_items, item, InputFields, no_fields, input_field}
use Rattle.graphql_spec.specs.Types.{TypeRef, innermost, type_text}
use Rattle.graphql_spec.specs.Display.{display}
use Rattle.graphql_spec.specs.Documents.{Head, Argument, Definition, operation, fragment, Document, Operation, Word, Directive, VariableDefinition}
use Rattle.graphql_spec.specs.Documents.{fragments, variables_of, word_name}
use Rattle.graphql_spec.specs.Fragments.{fragment_of}
use Rattle.graphql_spec.specs.Schema.{Schema, InputDeclaration, FieldDeclaration}
use Rattle.graphql_spec.specs.Fields.{type_named, is_composite, is_input, fields_of, declaration_in}
use Rattle.graphql_spec.specs.Fits.{fits}
use Rattle.graphql_spec.specs.Placed.{Placed, directive_named, placed_in}
use Rattle.graphql_spec.specs.Rules.{repeats_operation, is_not_alone, repeats_fragment, spreads_itself}
use Rattle.graphql_spec.specs.Rules.{set_is_wrong, must_be_written, uses_undefined, misuses_variable, cannot_merge, looks_at_schema}
use Rattle.graphql_spec.specs.Rules.{is_introspection}
use Rattle.graphql_spec.specs.VariableUses.{definition_of, may_stand, parts}
use Rattle.graphql_spec.specs.Written.{all_directives, argument_lists, defined_variables, heads, selections_of}
use Rattle.juniper_type_rules.specs.Positions.{Place, places_used}
use Rattle.juniper_type_rules.specs.Variables.{words_used}
use Rattle.juniper_explain.specs.declared.rule.Rule.{Rule}
use Rattle.juniper_explain.specs.declared.rule.Rule.TheVariants as rule
use Rattle.juniper_explain.specs.Explanations.{Explanation, Judgement, explanations_at, first_judged, found, judged, named, whole}
use Rattle.juniper_explain.specs.Nearest.{suggested}
use Rattle.juniper_explain.specs.Sites.{Site, sites}
use Rattle.juniper_explain.specs.Words.{condition_words, definition_word, directive_word, field_words, spread_words, type_word}

-- ## Names

-- an operation with an earlier operation's name
unfoldable pub repeated_operation : List Definition → Definition → List Explanation
repeated_operation earlier x =
    named (repeats_operation earlier x) rule.UniqueOperationNames (definition_word x) (codes "Operation name `") (codes "` is not unique")

-- an operation without name beside another operation
unfoldable pub other_operation : Document → Definition → List Explanation
other_operation d x = whole (is_not_alone d x) rule.LoneAnonymousOperation x

-- a fragment with an earlier fragment's name
unfoldable pub repeated_fragment : List Definition → Definition → List Explanation
repeated_fragment earlier x = named (repeats_fragment earlier x) rule.UniqueFragmentNames (definition_word x) (codes "Fragment name `")
    (codes "` is not unique")

-- a spread of no fragment
unfoldable pub unknown_spread : Document → Word → List Explanation
unknown_spread d w = named (is_none (fragment_of (fragments d) w.item)) rule.KnownFragmentNames w (codes "Unknown fragment `") (codes "`")

-- a fragment that its own spreads reach
unfoldable pub own_spread : Document → Definition → List Explanation
own_spread d x = named (spreads_itself d x) rule.NoFragmentCycles (definition_word x) (codes "Fragment `") (codes "` spreads itself")

-- a directive that no schema has
unfoldable pub unknown_directive : Directive → List Explanation
unknown_directive x = named (is_none (directive_named x.name.item)) rule.KnownDirectives (directive_word x) (codes "Unknown directive `@") (codes "`")

-- an unknown type, of a condition or a variable
unfoldable pub unknown_type : Schema → Word → List Explanation
unknown_type s w = named (is_none (type_named s w.item)) rule.KnownTypeNames w (codes "Unknown type `") (codes "`")

-- the names that were seen, or stand earlier in the list
unfoldable pub repeated : Rule → Text → Text → (Name → Bool) → List Word → List Explanation
repeated r before after seen [] = []
repeated r before after seen (w ∷ ws) = named (seen w.item) r w before after ++ repeated r before after (λ n. bytes_eq w.item n || seen n) ws

-- variables with the name of an earlier one
unfoldable pub repeated_of : List VariableDefinition → List Explanation
repeated_of vs = repeated rule.UniqueVariableNames (codes "Variable name `$") (codes "` is not unique") (λ n. false) (map (λ v. v.name) vs)

-- those of a definition
unfoldable pub repeated_variables : Definition → List Explanation
repeated_variables x = repeated_of (defined_variables x)

-- arguments with the name of an earlier one at the same field or directive
unfoldable pub repeated_in : List Argument → List Explanation
repeated_in as' = repeated rule.UniqueArgumentNames (codes "Argument name `") (codes "` is not unique") (λ n. false) (map (λ a. a.name) as')

-- those of a definition
unfoldable pub repeated_arguments : Definition → List Explanation
repeated_arguments x = flat_map repeated_in (argument_lists x)

-- fields of an object value with the name of an earlier one
unfoldable pub repeated_fields : InputFields → List Explanation
repeated_fields fs = repeated rule.UniqueInputFieldNames (codes "Input field name `") (codes "` is not unique") (λ n. false) (field_words fs)

-- those of each object in a value, at any depth: an object's own before those within its fields
unfoldable mutual
  pub repeated_within : Input → List Explanation
  repeated_within (list is) = repeated_in_items is
  repeated_within (object fs) = repeated_fields fs ++ repeated_in_values fs
  repeated_within _ = []

  -- item by item
  pub repeated_in_items : InputItems → List Explanation
  repeated_in_items no_items = []
  repeated_in_items (item v at rest) = repeated_within v ++ repeated_in_items rest

  -- field by field
  pub repeated_in_values : InputFields → List Explanation
  repeated_in_values no_fields = []
  repeated_in_values (input_field k k_at v v_at rest) = repeated_within v ++ repeated_in_values rest

-- those in a default, where there is one
unfoldable pub repeated_in_default : Option (Spanned Input) → List Explanation
repeated_in_default None = []
repeated_in_default (Some v) = repeated_within v.item

-- those in the arguments of a definition, and in the defaults of its variables
unfoldable pub repeated_input_fields : Definition → List Explanation
repeated_input_fields x =
    flat_map (flat_map (λ a. repeated_within a.value.item)) (argument_lists x) ++ flat_map (λ v. repeated_in_default v.default) (defined_variables x)

-- the unknown types of a definition's conditions and variables
unfoldable pub unknown_types : Schema → Definition → List Explanation
unknown_types s x = flat_map (unknown_type s) (condition_words x) ++ flat_map (λ v. unknown_type s (type_word v)) (defined_variables x)

-- what the rules on names find inside a definition, rule by rule
unfoldable pub inside_findings : Schema → Document → Definition → List (List Explanation)
inside_findings s d x =
    flat_map (unknown_spread d) (spread_words (selections_of x))
    ∷ own_spread d x
    ∷ repeated_variables x
    ∷ repeated_arguments x
    ∷ repeated_input_fields x
    ∷ flat_map unknown_directive (all_directives x)
    ∷ unknown_types s x
    ∷ []

-- what the rules on names find at a definition, rule by rule
unfoldable pub name_findings : Schema → Document → List Definition → Definition → List (List Explanation)
name_findings s d earlier x = repeated_operation earlier x ∷ other_operation d x ∷ repeated_fragment earlier x ∷ inside_findings s d x

-- ## Types

-- a condition that is no object, interface or union
unfoldable pub other_condition : Schema → Word → List Explanation
other_condition s w =
    named (not (is_composite (type_named s w.item))) rule.FragmentsOnCompositeTypes w (codes "Fragment on `")
    (codes "`, which is no object, interface or union")

-- a variable whose innermost type is no scalar, enum or input object
unfoldable pub other_variable : Schema → VariableDefinition → List Explanation
other_variable s v = found (not (is_input (type_named s (innermost v.of_type.item)))) rule.VariablesAreInputTypes v.name.span.start
    (codes "Variable `$" ++ (v.name.item ++ (codes "` is of `" ++ (type_text v.of_type.item ++ codes "`, which is no input type"))))

-- those among the conditions and the variables of a definition
abbrev pub other_conditions : Schema → Definition → List Explanation
other_conditions s x = flat_map (other_condition s) (condition_words x)

abbrev pub other_variables : Schema → Definition → List Explanation
other_variables s x = flat_map (other_variable s) (defined_variables x)

-- a name that may have been meant
unfoldable pub suggestion : Option Name → Text
suggestion None = []
suggestion (Some k) = codes ", did you mean `" ++ (k ++ codes "`?")

-- a field that its parent type lacks
unfoldable pub unknown_field : Schema → Placed → List Explanation
unknown_field s p = found (is_none p.declared) rule.FieldsOnCorrectType p.head.span.start
    (codes "Unknown field `" ++ (p.head.name.item ++ (codes "` of `" ++ (p.parent ++ (codes "`"
    ++ suggestion (suggested p.head.name.item (map (λ f. f.name) (fields_of (type_named s p.parent)))))))))

-- what is said of a field with a selection set, and of one without
unfoldable pub set_text : Bool → Text
set_text has = cond has (codes "`, which has no fields") (codes "`, so it needs a selection set")

-- a field whose selection set does not fit its type
unfoldable pub wrong_set : Schema → Placed → Option FieldDeclaration → List Explanation
wrong_set s p None = []
wrong_set s p (Some d) = found (set_is_wrong s p.head.has_set d.of_type) rule.ScalarLeafs p.head.span.start
    (codes "Field `" ++ (p.head.name.item ++ (codes "` is of `" ++ (type_text d.of_type ++ set_text p.head.has_set))))

-- an argument that is not declared
unfoldable pub unknown_argument : Site → Argument → List Explanation
unknown_argument i a = found (is_none (declaration_in i.declared a.name.item)) rule.KnownArgumentNames a.name.span.start
    (codes "Unknown argument `" ++ (a.name.item ++ (codes "` of `" ++ (i.owner ++ (codes "`"
    ++ suggestion (suggested a.name.item (map (λ d. d.name) i.declared)))))))

-- a non-null argument without default that is not given
unfoldable pub missing_argument : Site → InputDeclaration → List Explanation
missing_argument i d = found (must_be_written d && not (list_any (λ a. bytes_eq d.name a.name.item) i.given)) rule.ProvidedNonNullArguments i.place
    (codes "Argument `" ++ (d.name ++ (codes "` of `" ++ (i.owner ++ (codes "` is missing; it is `" ++ (type_text d.of_type ++ codes "`"))))))

-- a value that does not fit its declared argument
unfoldable pub wrong_argument : Schema → Site → Argument → Option InputDeclaration → List Explanation
wrong_argument s i a None = []
wrong_argument s i a (Some d) = found (not (fits s false a.value.item d.of_type)) rule.ArgumentsOfCorrectType a.value.span.start
    (codes "Value `" ++ (display a.value.item ++ (codes "` of `" ++ (a.name.item ++ (codes "` is no `" ++ (type_text d.of_type ++ codes "`"))))))

-- the same, where it is declared
abbrev pub wrong_at : Schema → Site → Argument → List Explanation
wrong_at s i = λ a. wrong_argument s i a (declaration_in i.declared a.name.item)

-- a default that does not fit the type of the variable of a name
unfoldable pub misfit : Schema → Name → Spanned Input → TypeRef → List Explanation
misfit s n w t = found (not (fits s false w.item t)) rule.DefaultValuesOfCorrectType w.span.start
    (codes "Default `" ++ (display w.item ++ (codes "` of `$" ++ (n ++ (codes "` is no `" ++ (type_text t ++ codes "`"))))))

-- a variable's default that does not fit
unfoldable pub wrong_default : Schema → VariableDefinition → Option (Spanned Input) → List Explanation
wrong_default s v None = []
wrong_default s v (Some w) = misfit s v.name.item w v.of_type.item

-- the arguments of fields and directives that are not declared, that are missing, and whose values do not fit
unfoldable pub unknown_arguments : List Site → List Explanation
unknown_arguments is = flat_map (λ i. flat_map (unknown_argument i) i.given) is

unfoldable pub missing_arguments : List Site → List Explanation
missing_arguments is = flat_map (λ i. flat_map (missing_argument i) i.declared) is

unfoldable pub wrong_arguments : Schema → List Site → List Explanation
wrong_arguments s is = flat_map (λ i. flat_map (wrong_at s i) i.given) is

-- what the rules on types find at a definition, rule by rule
unfoldable pub type_findings : Schema → List Definition → Definition → List (List Explanation)
type_findings s earlier x =
    other_conditions s x
    ∷ other_variables s x
    ∷ flat_map (unknown_field s) (placed_in s x)
    ∷ flat_map (λ p. wrong_set s p p.declared) (placed_in s x)
    ∷ unknown_arguments (sites s x)
    ∷ missing_arguments (sites s x)
    ∷ wrong_arguments s (sites s x)
    ∷ flat_map (λ v. wrong_default s v v.default) (defined_variables x)
    ∷ []

-- ## Uses

-- these, where the rule is violated
unfoldable pub where_found : Bool → List Explanation → List Explanation
where_found violated es = cond violated es []

-- what is said of a variable that an operation does not define
unfoldable pub undefined_text : Option Name → Text
undefined_text None = codes "` is not defined"
undefined_text (Some n) = codes "` is not defined by operation `" ++ (n ++ codes "`")

-- a variable that an operation does not define
unfoldable pub undefined_name : Operation → Word → List Explanation
undefined_name o w = named (is_none (definition_of (variables_of o) w.item)) rule.NoUndefinedVariables w (codes "Variable `$") (undefined_text (word_name o.name))

-- those of an operation, in itself and in the fragments that it reaches
unfoldable pub undefined_variables : Document → Definition → List Explanation
undefined_variables d (operation o) = flat_map (undefined_name o) (flat_map words_used (parts d o))
undefined_variables d (fragment f) = []

-- a variable of this definition where it may not stand
unfoldable pub misused_at : VariableDefinition → Place → List Explanation
misused_at v p = found (not (may_stand v p.used)) rule.VariablesInAllowedPosition p.span.start
    (codes "Variable `$" ++ (p.used.variable ++ (codes "` of type `" ++ (type_text v.of_type.item
    ++ (codes "` cannot stand where `" ++ (type_text p.used.place ++ codes "` is expected"))))))

-- one of these variables, where it may not stand
unfoldable pub misused_by : List VariableDefinition → Place → List Explanation
misused_by vs p = elim (definition_of vs p.used.variable) [ None ↦ [] | Some v ↦ misused_at v p ]

-- those of an operation, in itself and in the fragments that it reaches
unfoldable pub misused_variables : Schema → Document → Definition → List Explanation
misused_variables s d (operation o) = flat_map (misused_by (variables_of o)) (flat_map (places_used s) (parts d o))
misused_variables s d (fragment f) = []

-- a field `__schema` or `__type`
unfoldable pub introspection_field : Head → List Explanation
introspection_field h = named (is_introspection h.name.item) rule.DisableIntrospection h.name (codes "Introspection is disabled, and with it `") (codes "`")

-- what the rules on uses find at a definition, rule by rule
unfoldable pub use_findings : Schema → Bool → Document → List Definition → Definition → List (List Explanation)
use_findings s disabled d earlier x =
    where_found (uses_undefined s d x) (undefined_variables d x)
    ∷ where_found (misuses_variable s d x) (misused_variables s d x)
    ∷ whole (cannot_merge s d x) rule.OverlappingFieldsCanBeMerged x
    ∷ where_found (looks_at_schema s disabled x) (flat_map introspection_field (heads (selections_of x)))
    ∷ []

-- ## The whole document

module _ (s : Schema) (disabled : Bool) (d : Document) where
  -- each definition with what is found there, in the first phase that finds something
  unfoldable pub judgements : List Judgement
  judgements = first_judged (judged (name_findings s d) [] d)
      (first_judged (judged (type_findings s) [] d) (judged (use_findings s disabled d) [] d))

  -- all that is found
  unfoldable pub explanations : List Explanation
  explanations = flat_map explanations_at judgements
