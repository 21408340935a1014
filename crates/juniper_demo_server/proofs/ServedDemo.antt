-- The demo's schema is executable, and what is made of the demo's types is this schema.
use Rattle.std.specs.Option.{option_and_then}
use Rattle.std.proofs.Common.{◌≡◌, true, codes, true≢false, [], Option, None, Some, Result, Ok, Err, IfOk, IfErr, refl, ap, ◌∙◌, sym, subst, bytes_eq, inl, inr}
use Rattle.std.proofs.lemmas.Bool.{cases_Bool}
use Rattle.graphql_spec.specs.BuiltIns.{value_named}
use Rattle.graphql_spec.specs.Schema.{Schema, plain_field, plain_input}
use Rattle.graphql_spec.specs.Fits.{fits, through, scalar_fits}
use Rattle.graphql_spec.specs.Inputs.{is_const}
use Rattle.graphql_spec.specs.Types.{innermost, nullable, same_type, required}
use Rattle.graphql_spec.specs.Tokens.{is_name, starts_name, continues_name}
use Rattle.graphql_spec.specs.Shown.{Name, same_bool}
use Rattle.graphql_spec.specs.Fields.{field_in, is_subtype, is_named_subtype, accepts_kind, entry_in, or_else, typename_field, shape_of, entry_named}
use Rattle.graphql_spec.specs.Fields.{type_named, is_object, is_interface, is_composite, is_leaf, is_input, interfaces_of, members_of, fields_of}
use Rattle.graphql_spec.specs.Executable.{implements_field, values_of, input_fields_of, shape_fields, names_differ, is_filled, is_reserved}
use Rattle.graphql_spec.specs.Executable.{no_declarations, is_typename_field, input_is_free, field_is_free, is_own_name, entry_is_named, entries_are_named}
use Rattle.graphql_spec.specs.Executable.{mutation_is_apart, roots_are_objects, ends_in_output, ends_in_input, field_is_known, types_are_known}
use Rattle.graphql_spec.specs.Executable.{input_names_differ, is_value_name, entry_names_differ, all_names_differ, implements, interfaces_are_met}
use Rattle.graphql_spec.specs.Executable.{default_is_right, defaults_fit, accepts_just, scalar_if_there, built_ins_are_right, is_executable}
use Rattle.graphql_spec.proofs.Lists.{same_true}
use Rattle.juniper_meta.specs.MetaView.{is_placeholder}
use Rattle.juniper_intro.specs.Roots.{IsSchemaOf, Makes}
use Rattle.juniper_intro.specs.declared.error.RootError.{RootError}
use Rattle.juniper_intro.specs.declared.error.RootError.TheVariants.{NotExecutable, Memory}
use Rattle.juniper_words.specs.Data.{Declarations, collide, nowhere, with_all}
use Rattle.juniper_registry.specs.Entries.{Table}
use Rattle.juniper_schema.specs.SchemaView.{with_built_ins}
use Rattle.juniper_words.specs.Served.{Serves}
use Rattle.juniper_demo_server.specs.DemoSchema.{IsDemoSchema, demo_schema}
use Rattle.juniper_demo_server.specs.DemoTypes.{demo_declarations}
use Rattle.juniper_demo_server.proofs.RegisteredTypes.{apart, demo_types, gathered_at}

demo_is_executable : is_executable demo_schema ≡ true
unfolding typename_field is_const fits through scalar_fits accepts_kind type_named or_else required plain_field innermost same_type is_name starts_name
    continues_name same_bool entry_in shape_of entry_named is_object is_interface is_composite is_leaf is_input interfaces_of members_of fields_of values_of
    input_fields_of shape_fields names_differ is_filled is_reserved no_declarations is_typename_field input_is_free field_is_free is_own_name entry_is_named
    entries_are_named mutation_is_apart roots_are_objects ends_in_output ends_in_input field_is_known types_are_known input_names_differ is_value_name
    entry_names_differ all_names_differ implements interfaces_are_met default_is_right defaults_fit accepts_just scalar_if_there built_ins_are_right
    is_executable plain_input value_named nullable implements_field field_in is_subtype is_named_subtype
demo_is_executable = refl

-- the demo's types, with the built-in scalars, are the entries of its schema
completed : (n : Name) → with_built_ins n (entry_in demo_types n) ≡ entry_in demo_schema.entries n
unfolding entry_in is_placeholder
completed n = elim (cases_Bool (bytes_eq n (codes "String"))) [
  | inl e ↦ at (codes "String") (sym (same_true n (codes "String") e)) refl
  | inr e ↦ elim (cases_Bool (bytes_eq n (codes "Boolean"))) [
    | inl f ↦ at (codes "Boolean") (sym (same_true n (codes "Boolean") f)) refl
    | inr f ↦ elim (cases_Bool (bytes_eq n (codes "Int"))) [
      | inl g ↦ at (codes "Int") (sym (same_true n (codes "Int") g)) refl
      | inr g ↦ elim (cases_Bool (bytes_eq n (codes "ID"))) [
        | inl h ↦ at (codes "ID") (sym (same_true n (codes "ID") h)) refl
        | inr h ↦ rw (e, f, g, h) refl
      ]
    ]
  ]
]
  where
    at : (k : Name) → k ≡ n → with_built_ins k (entry_in demo_types k) ≡ entry_in demo_schema.entries k →
        with_built_ins n (entry_in demo_types n) ≡ entry_in demo_schema.entries n
    at k is same = subst (λ m. with_built_ins m (entry_in demo_types m) ≡ entry_in demo_schema.entries m) is same

-- a table of the demo's types
abbrev IsDemo : Table → Type 0
IsDemo types = (n : Name) → types n ≡ entry_in demo_types n

-- a name that is there
abbrev name_or_empty : Option Name → Name
name_or_empty None = []
name_or_empty (Some n) = n

-- a schema that is made of the demo's types is the demo's
made_is_demo : (types : Table) (s : Schema) → IsDemo types → IsSchemaOf types (Some (codes "Query")) (Some (codes "Mutation")) s → IsDemoSchema s
made_is_demo types s at made = record {
  same = record {
    entries = λ n. sym (made.held n ∙ (ap (with_built_ins n) (at n) ∙ completed n));
    query = ap name_or_empty made.query_is;
    mutation = ap (option_and_then (λ m. m)) made.mutation_is;
  };
  distinct = made.distinct;
}

-- the demo's schema is one that is made so
demo_is_made : (types : Table) → IsDemo types → IsSchemaOf types (Some (codes "Query")) (Some (codes "Mutation")) demo_schema
unfolding names_differ
demo_is_made types at = record { held = λ n. sym (ap (with_built_ins n) (at n) ∙ completed n); distinct = refl; query_is = refl; mutation_is = refl }

-- so it is never refused as one that cannot be executed
refused_for_memory : {A : Type 0} (schema : A → Schema) (types : Table) → IsDemo types → (e : RootError) →
    Makes schema types (Some (codes "Query")) (Some (codes "Mutation")) (Err e) → e ≡ Memory
refused_for_memory schema types at NotExecutable refused = absurd (true≢false (sym demo_is_executable ∙ refused demo_schema (demo_is_made types at)))
refused_for_memory schema types at Memory refused = refl

-- what is made of the demo's declarations
demo_at : (ds : Declarations) → ds ≡ demo_declarations → IsDemo (with_all ds nowhere)
demo_at ds is n = ap (λ (from : Declarations). with_all from nowhere n) is ∙ gathered_at n

module _ {A : Type 0} (schema : A → Schema) (ds : Declarations) (is : ds ≡ demo_declarations) where
  -- a root over them has the demo's schema
  pub served_is_demo : (r : Result A RootError) → Serves schema ds (codes "Mutation") r → IfOk r (λ root. IsDemoSchema (schema root))
  served_is_demo (Ok root) made = made_is_demo (with_all ds nowhere) (schema root) (demo_at ds is) made.1.0
  served_is_demo (Err e) refused = tt

  -- and is refused for want of memory alone
  pub unserved_for_memory : (r : Result A RootError) → Serves schema ds (codes "Mutation") r → IfErr r (λ e. e ≡ Memory)
  unserved_for_memory (Ok root) made = tt
  unserved_for_memory (Err Memory) refused = refl
  unserved_for_memory (Err NotExecutable) (inl taken) = absurd (true≢false (sym taken ∙ (ap (λ from. collide from nowhere) is ∙ apart)))
  unserved_for_memory (Err NotExecutable) (inr refused) = refused_for_memory schema (with_all ds nowhere) (demo_at ds is) NotExecutable refused
