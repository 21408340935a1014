-- What an executor shows (6.4.2).
use Rattle.std.specs.Prelude.{◌≡◌, ℕ, List, [], ◌∷◌, ◌++◌, IsTrue, Option, Some, option_map, String}
use Rattle.std.specs.Borrow.{Bor}
use Rattle.std.specs.HashMap.{HashMap, get_by}
use Rattle.std.specs.Str.{bytes_eq}
use Rattle.std.specs.declared.alloc.Global.{Global}
use Rattle.std.specs.declared.cmp.PartialEq.{Ghosts as Equality}
use Rattle.std.specs.declared.fmt.Debug.{Ghosts as Shows}
use Rattle.std.specs.declared.hash.BuildHasherDefault.{BuildHasherDefault}
use Rattle.std.specs.declared.hash.FoldHasher.{FoldHasher}
use Rattle.graphql_spec.specs.Positions.{Position}
use Rattle.graphql_spec.specs.Shown.{Shown, Name}
use Rattle.graphql_spec.specs.Arguments.{coerced_arguments}
use Rattle.graphql_spec.specs.Constants.{Members}
use Rattle.graphql_spec.specs.Documents.{response_key, written}
use Rattle.graphql_spec.specs.Errors.{Place, key}
use Rattle.graphql_spec.specs.Executable.{is_executable}
use Rattle.graphql_spec.specs.Fields.{declared_arguments, field_of, is_possible}
use Rattle.graphql_spec.specs.Schema.{FieldDeclaration, Schema}
use Rattle.graphql_spec.specs.Selections.{Occurrence}
use Rattle.graphql_spec.specs.Types.{innermost}
use Rattle.juniper_syntax.specs.Positions.{view_position}
use Rattle.juniper_syntax.specs.declared.position.Span.{Span}
use Rattle.juniper_syntax.specs.declared.position.Spanning.{Spanning}
use Rattle.juniper_syntax.specs.declared.ast.Field.{Field}
use Rattle.juniper_syntax.specs.declared.ast.Fragment.{Fragment}
use Rattle.juniper_syntax.specs.declared.input.InputValue.{InputValue}
use Rattle.juniper_syntax.specs.declared.scalar.ScalarValue.{Ghosts as Scalars}
use Rattle.juniper_syntax.specs.InputView.{view_variables}
use Rattle.juniper_lookahead.specs.Expansion.{occurrence_at}
use Rattle.juniper_lookahead.specs.Sites.{IsFirstOf, IsWholeGroup, view_fields}
use Rattle.juniper_lookahead.specs.declared.occurrences.Enclosing.{Enclosing}
use Rattle.juniper_lookahead.specs.declared.occurrences.Occurrence.{Occurrence as CodeOccurrence}
use Rattle.juniper_conversions.specs.PathView.{path_place}
use Rattle.juniper_meta.specs.MetaView.{Meta}
use Rattle.juniper_schema.specs.MadeTypes.{around, view_made}
use Rattle.juniper_schema.specs.SchemaView.{meta_named, view_schema}
use Rattle.juniper_conversions.specs.declared.field_path.FieldPath.{FieldPath}
use Rattle.juniper_schema.specs.declared.schema.SchemaType.{SchemaType}
use Rattle.juniper_schema.specs.declared.type_type.TypeType.{TypeType}
use Rattle.juniper_types.specs.declared.executor.Executor.{Executor}

-- a type is the one that a field declares, with what the schema declares at its name (3.4.1, 3.6)
abbrev pub IsDeclaredType : {S : Type 0} → (S → Shown) → Schema → Name → Name → TypeType S → Type 0
IsDeclaredType shown s T name made = (f : FieldDeclaration) (m : Meta) → field_of s T name ≡ Some f → meta_named s (innermost f.of_type) ≡ Some m →
    view_made shown made ≡ around m f.of_type

-- the last step of a path is this response key (7.1.2)
pub record IsStepOf (k : Name) (at : Place) : Type 0 where
  pub above : Place
  pub is : at ≡ above ++ key k ∷ []

module _ {C S : Type 0} {scalar : Scalars S} {equality : Equality S} {shows : Shows S} where
  -- the context of the request
  abbrev pub context_of : Executor C S scalar equality shows → C
  context_of e = e.context.now

  -- the schema
  abbrev pub schema_of : Executor C S scalar equality shows → SchemaType S scalar equality shows
  schema_of e = e.schema.now

  -- the values of the variables
  abbrev pub variables_of : Executor C S scalar equality shows → HashMap (String Global) (InputValue S) (BuildHasherDefault FoldHasher)
  variables_of e = e.variables.now

  -- the fragments of the document by name
  abbrev pub fragments_of : Executor C S scalar equality shows → HashMap (Bor (List ℕ)) (Bor (Fragment S)) (BuildHasherDefault FoldHasher)
  fragments_of e = e.fragments.now

  -- the path from the root to the field now resolved
  abbrev pub path_of : Executor C S scalar equality shows → FieldPath
  path_of e = e.path.now

  -- the type that the field is declared with
  abbrev pub type_of : Executor C S scalar equality shows → TypeType S
  type_of e = e.declared_type.now

  -- the name of the object type that the field is resolved at
  abbrev pub concrete_of : Executor C S scalar equality shows → Name
  concrete_of e = e.concrete_type.now

  -- the selections that the field is among, one slice after the other
  abbrev pub enclosing_of : Executor C S scalar equality shows → List (Enclosing S)
  enclosing_of e = e.enclosing.now

  -- the field as it is written: its occurrences, in order
  abbrev pub occurrences_of : Executor C S scalar equality shows → List (CodeOccurrence S)
  occurrences_of e = e.occurrences.now

  -- the first of them
  abbrev pub occurrence_of : Executor C S scalar equality shows → Spanning (Field S) Span
  occurrence_of e = e.first.now

  -- its start
  abbrev pub start_of : Executor C S scalar equality shows → Position
  start_of e = view_position e.first.now.span.start

  -- its occurrences, with what is selected below each
  abbrev pub view_occurrences : (S → Shown) → Executor C S scalar equality shows → List Occurrence
  view_occurrences shown e = view_fields shown e.variables.now e.fragments.now e.occurrences.now

  -- the first of them, with what is selected below it
  abbrev pub view_occurrence : (S → Shown) → Executor C S scalar equality shows → Occurrence
  view_occurrence shown e = occurrence_at shown e.variables.now e.fragments.now e.first.now

  -- The executor is that of a field of this name with these arguments (6.4.1), whose occurrences are all that the selections around
  -- it hold of one response key for its object type, in order (6.3.2). It shows the type that the field declares, a path whose last
  -- step is the response key, and a schema that can be executed.
  pub record IsAskedFor (shown : S → Shown) (e : Executor C S scalar equality shows) (name : Name) (given : Members) : Type 0 where
    pub is_named : (view_occurrence shown e).head.name.item ≡ name
    pub is_given : given ≡ coerced_arguments (declared_arguments (field_of (view_schema shown e.schema.now) e.concrete_type.now name))
        (view_variables shown e.variables.now) (written (view_occurrence shown e).head.arguments)
    pub first : IsFirstOf e.first.now e.occurrences.now
    pub whole : IsWholeGroup shown (is_possible (view_schema shown e.schema.now)) e.variables.now e.fragments.now e.concrete_type.now e.enclosing.now
        e.occurrences.now
    pub shows_type : IsDeclaredType shown (view_schema shown e.schema.now) e.concrete_type.now name e.declared_type.now
    pub is_placed : IsStepOf (response_key (view_occurrence shown e).head) (path_place e.path.now)
    pub executable : IsTrue (is_executable (view_schema shown e.schema.now))

-- the fragment that the map has at a name
abbrev pub fragment_at : {S H : Type 0} → HashMap (Bor (List ℕ)) (Bor (Fragment S)) H → Name → Option (Fragment S)
fragment_at fragments name = option_map (λ f. f.now) (get_by (λ n. bytes_eq name n.now) fragments)
