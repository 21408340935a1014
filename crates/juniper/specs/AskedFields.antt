-- Which field of an object type an executor is for, and with which arguments it is asked (6.4.1).
use Rattle.std.specs.Prelude.{◌≡◌, IsTrue, Some}
use Rattle.std.specs.declared.cmp.PartialEq.{Ghosts as Equality}
use Rattle.std.specs.declared.fmt.Debug.{Ghosts as Shows}
use Rattle.graphql_spec.specs.Arguments.{coerced_arguments}
use Rattle.graphql_spec.specs.Constants.{Members}
use Rattle.graphql_spec.specs.Documents.{response_key, written}
use Rattle.graphql_spec.specs.Executable.{is_executable}
use Rattle.graphql_spec.specs.Fields.{declared_arguments, field_of, is_possible}
use Rattle.graphql_spec.specs.Schema.{FieldDeclaration}
use Rattle.graphql_spec.specs.Shown.{Name, Shown}
use Rattle.graphql_spec.specs.Types.{innermost}
use Rattle.juniper_conversions.specs.PathView.{path_place}
use Rattle.juniper_lookahead.specs.Sites.{IsFirstOf, IsWholeGroup}
use Rattle.juniper_meta.specs.MetaView.{Meta}
use Rattle.juniper_schema.specs.MadeTypes.{around, view_made}
use Rattle.juniper_schema.specs.SchemaView.{meta_named, view_schema}
use Rattle.juniper_syntax.specs.InputView.{view_variables}
use Rattle.juniper_syntax.specs.declared.scalar.ScalarValue.{Ghosts as Scalars}
use Rattle.juniper_types.specs.ExecutorView.{IsStepOf, concrete_of, enclosing_of, fragments_of, occurrence_of, occurrences_of, path_of, schema_of}
use Rattle.juniper_types.specs.ExecutorView.{type_of, variables_of, view_occurrence}
use Rattle.juniper_types.specs.declared.executor.Executor.{Executor}

module _ {C S : Type 0} {scalar : Scalars S} {equality : Equality S} {shows : Shows S} (shown : S → Shown) (e : Executor C S scalar equality shows) where
  -- the name of the field
  abbrev pub asked_name : Name
  asked_name = (view_occurrence shown e).head.name.item

  -- the values of its arguments
  abbrev pub asked_arguments : Members
  asked_arguments =
      coerced_arguments (declared_arguments (field_of (view_schema shown (schema_of e)) (concrete_of e) asked_name)) (view_variables shown (variables_of e))
      (written (view_occurrence shown e).head.arguments)

  -- The schema can be executed, and declares the field so for the object type, of a type that the executor shows; the first occurrence is
  -- the field, all of them are what the selections around it hold of its response key (6.3.2), and with that key the path ends.
  pub record IsOfField (f : FieldDeclaration) (m : Meta) : Type 0 where
    pub executable : IsTrue (is_executable (view_schema shown (schema_of e)))
    pub declared : field_of (view_schema shown (schema_of e)) (concrete_of e) asked_name ≡ Some f
    pub known : meta_named (view_schema shown (schema_of e)) (innermost f.of_type) ≡ Some m
    pub shows_type : view_made shown (type_of e) ≡ around m f.of_type
    pub first : IsFirstOf (occurrence_of e) (occurrences_of e)
    pub whole : IsWholeGroup shown (is_possible (view_schema shown (schema_of e))) (variables_of e) (fragments_of e) (concrete_of e) (enclosing_of e)
        (occurrences_of e)
    pub placed : IsStepOf (response_key (view_occurrence shown e).head) (path_place (path_of e))
