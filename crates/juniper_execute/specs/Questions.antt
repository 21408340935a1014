-- What is asked of all nodes of an object type alike (3.6, 6.4.1).
use Rattle.std.specs.Prelude.{◌≡◌, IfSome, option_map, string_bytes}
use Rattle.std.specs.declared.cmp.PartialEq.{Ghosts as Equality}
use Rattle.std.specs.declared.fmt.Debug.{Ghosts as Shows}
use Rattle.graphql_spec.specs.Arguments.{coerced_arguments}
use Rattle.graphql_spec.specs.Constants.{Members}
use Rattle.graphql_spec.specs.Documents.{Head, response_key, written}
use Rattle.graphql_spec.specs.Fields.{declared_arguments, declared_type, field_of, is_possible}
use Rattle.graphql_spec.specs.Inputs.{Variables}
use Rattle.graphql_spec.specs.Schema.{Schema}
use Rattle.graphql_spec.specs.Shown.{Name, Shown}
use Rattle.juniper_conversions.specs.PathView.{path_place}
use Rattle.juniper_lookahead.specs.Expansion.{IsAcyclic, VariableMap}
use Rattle.juniper_lookahead.specs.Sites.{IsFirstOf, IsWholeGroup}
use Rattle.juniper_meta.specs.MetaView.{view_field}
use Rattle.juniper_syntax.specs.declared.position.Span.{Span}
use Rattle.juniper_syntax.specs.declared.position.Spanning.{Spanning}
use Rattle.juniper_schema.specs.SchemaView.{view_schema}
use Rattle.juniper_schema.specs.declared.schema.SchemaType.{SchemaType}
use Rattle.juniper_syntax.specs.InputView.{view_variables}
use Rattle.juniper_syntax.specs.TypeView.{view_type}
use Rattle.juniper_syntax.specs.declared.ast.Field.{Field}
use Rattle.juniper_syntax.specs.declared.scalar.ScalarValue.{Ghosts as Scalars}
use Rattle.juniper_types.specs.ExecutorView.{IsDeclaredType, IsStepOf}
use Rattle.juniper_values.specs.ArgumentView.{view_arguments}
use Rattle.juniper_walk.specs.FieldWords.{head_of}
use Rattle.juniper_walk.specs.declared.asking.Site.{Site}
use Rattle.juniper_execute.specs.declared.question.Question.{Question}

-- ## Only private clauses cite what follows

-- the values of the arguments that a field of an object type is asked with (6.4.1)
abbrev pub meant_arguments : Schema → Variables → Name → Head → Members
meant_arguments s vars T h = coerced_arguments (declared_arguments (field_of s T h.name.item)) vars (written h.arguments)

-- what a field, as it is written, asks of the nodes of an object type: what it declares, its type as code has it and as resolvers are
-- shown it, and its arguments (6.4.1)
pub record IsQuestion {S : Type 0} (shown : S → Shown) (s : Schema) (vars : Variables) (T : Name) (h : Head) (q : Question S) : Type 0 where
  pub declaration : option_map (λ f. view_field shown f.now) q.declaration ≡ field_of s T h.name.item
  pub declared : view_type (λ n. string_bytes n) q.declared.now ≡ declared_type (field_of s T h.name.item)
  pub shows : IsDeclaredType shown s T h.name.item q.shown
  pub given : IfSome q.arguments (λ a. view_arguments shown a ≡ meant_arguments s vars T h)

-- A field is asked of nodes of an object type by its question, as it is written first; its occurrences are all that the selections around
-- them hold of one response key (6.3.2), with which the path ends, and no spread leads back to its own fragment (5.5.2.2).
pub record IsFieldAsked {S : Type 0} {scalar : Scalars S} {equality : Equality S} {shows : Shows S} (shown : S → Shown) (s : SchemaType S scalar equality shows)
    (vars : VariableMap S) (T : Name) (q : Question S) (at : Site S) (f : Spanning (Field S) Span) : Type 0 where
  pub question : IsQuestion shown (view_schema shown s) (view_variables shown vars) T (head_of shown f) q
  pub acyclic : IsAcyclic shown at.fragments.now
  pub first : IsFirstOf f at.occurrences.now
  pub path : IsStepOf (response_key (head_of shown f)) (path_place at.path.now)
  pub whole : IsWholeGroup shown (is_possible (view_schema shown s)) vars at.fragments.now T at.enclosing.now at.occurrences.now
