-- What a resolver is asked for at a field.
use Rattle.std.proofs.Common.{◌≡◌, ◌<◌, Bool, List, [], ◌∷◌, ◌++◌, IsTrue, drop, length, sym, ap, ◌∙◌, subst, arith}
use Rattle.std.specs.declared.cmp.PartialEq.{Ghosts as Equality}
use Rattle.std.specs.declared.fmt.Debug.{Ghosts as Shows}
use Rattle.graphql_spec.specs.Shown.{Shown, Name}
use Rattle.graphql_spec.specs.Arguments.{coerced_arguments}
use Rattle.graphql_spec.specs.Constants.{Members}
use Rattle.graphql_spec.specs.Documents.{Head, response_key, written}
use Rattle.graphql_spec.specs.Executable.{is_executable}
use Rattle.graphql_spec.specs.Errors.{Place, key}
use Rattle.graphql_spec.specs.Selections.{Occurrence}
use Rattle.graphql_spec.specs.Execution.{reply_of, reply_to, type_of}
use Rattle.graphql_spec.specs.Fields.{declared_arguments, field_of, is_possible}
use Rattle.graphql_spec.specs.Resolvers.{World}
use Rattle.juniper_syntax.specs.declared.position.Span.{Span}
use Rattle.juniper_syntax.specs.declared.position.Spanning.{Spanning}
use Rattle.juniper_syntax.specs.InputView.{view_variables}
use Rattle.juniper_syntax.specs.declared.ast.Field.{Field}
use Rattle.juniper_syntax.specs.declared.scalar.ScalarValue.{Ghosts as Scalars}
use Rattle.juniper_lookahead.specs.Collected.{view_all, view_collected}
use Rattle.juniper_lookahead.specs.Expansion.{FragmentsByName, VariableMap, occurrence_at}
use Rattle.juniper_lookahead.specs.Sites.{IsFirstOf, IsWholeGroup, view_fields}
use Rattle.juniper_lookahead.specs.declared.collecting.Collector.{Collector}
use Rattle.juniper_lookahead.specs.declared.occurrences.Enclosing.{Enclosing}
use Rattle.juniper_lookahead.specs.declared.occurrences.Occurrence.{Occurrence as CodeOccurrence}
use Rattle.juniper_schema.specs.SchemaView.{view_schema}
use Rattle.juniper_conversions.specs.PathView.{path_place}
use Rattle.juniper_conversions.specs.declared.field_path.FieldPath.{FieldPath}
use Rattle.juniper_schema.specs.declared.schema.SchemaType.{SchemaType}
use Rattle.juniper_schema.specs.declared.type_type.TypeType.{TypeType}
use Rattle.juniper_types.specs.ExecutorView.{IsAskedFor, IsDeclaredType, IsStepOf, concrete_of, enclosing_of, fragments_of, occurrence_of, occurrences_of}
use Rattle.juniper_types.specs.ExecutorView.{path_of, schema_of, variables_of}
use Rattle.juniper_types.specs.ExecutorView as executing
use Rattle.juniper_types.specs.declared.executor.Executor.{Executor}
use Rattle.juniper_walk.specs.Asking.{IsAskedOf, IsPathOf}
use Rattle.juniper_walk.specs.FieldWords.{head_of}

-- a list with a first has one at least
pub first-bound : {S : Type 0} (os : List (CodeOccurrence S)) (f : Spanning (Field S) Span) → IsFirstOf f os → 0 < length os
first-bound [] f first = absurd first
first-bound (o ∷ os) f first = omega arith

-- and one first alone
pub first-same : {S : Type 0} (os : List (CodeOccurrence S)) (f g : Spanning (Field S) Span) → IsFirstOf f os → IsFirstOf g os → f ≡ g
first-same [] f g first other = absurd first
first-same (o ∷ os) f g first other = sym first ∙ other

-- the first of some fields, and the others, are all of them
pub group-whole : {S P : Type 0} (shown : S → Shown) (c : Collector S P) (f : Spanning (Field S) Span) (os others : List (CodeOccurrence S)) →
    IsFirstOf f os → others ≡ drop 1 os → view_collected shown c f ∷ view_all shown c others ≡ view_all shown c os
group-whole shown c f [] others first rest = absurd first
group-whole shown c f (o ∷ os) others first rest =
    ap (λ x. view_collected shown c x ∷ view_all shown c others) (sym first)
    ∙ ap (λ xs. view_collected shown c o.field.now ∷ view_all shown c xs) rest

module _ {S : Type 0} (shown : S → Shown) (vars : VariableMap S) (m : FragmentsByName S) where
  -- the path of a group is that of its first
  pub first-placed : (os : List (CodeOccurrence S)) (f : Spanning (Field S) Span) (at : Place) → IsFirstOf f os →
      IsPathOf (view_fields shown vars m os) at → IsStepOf (response_key (head_of shown f)) at
  unfolding occurrence_at
  first-placed [] f at first p = absurd first
  first-placed (o ∷ os) f at first p =
      let e : occurrence_at shown vars m o.field.now ∷ view_fields shown vars m os ≡ p.first ∷ p.others = p.some in
      let same : p.first ≡ occurrence_at shown vars m o.field.now = cc in
      subst (λ (x : Spanning (Field S) Span). IsStepOf (response_key (head_of shown x)) at) first
      (record { above = p.above; is = p.is ∙ ap (λ (x : Occurrence). p.above ++ key (response_key x.head) ∷ []) same })

  -- a whole group has one field at least
  pub whole-bound : (possible : Name → Name → Bool) (T : Name) (es : List (Enclosing S)) (os : List (CodeOccurrence S)) →
      IsWholeGroup shown possible vars m T es os → 0 < length os
  whole-bound possible T es [] whole = let e = whole.some in absurd cc
  whole-bound possible T es (o ∷ os) whole = omega arith

  -- what a group asks is asked for its first
  pub first-asked : {Q : Type 0} (asks : Head → Q → Type 0) (os : List (CodeOccurrence S)) (f : Spanning (Field S) Span) (q : Q) → IsFirstOf f os →
      IsAskedOf asks (view_fields shown vars m os) q → asks (head_of shown f) q
  unfolding occurrence_at
  first-asked asks [] f q first a = absurd first
  first-asked asks (o ∷ os) f q first a =
      let e : occurrence_at shown vars m o.field.now ∷ view_fields shown vars m os ≡ a.first ∷ a.others = a.some in
      let same : a.first ≡ occurrence_at shown vars m o.field.now = cc in
      subst (λ (x : Spanning (Field S) Span). asks (head_of shown x) q) first (subst (λ h. asks h q) (ap (λ (x : Occurrence). x.head) same) a.asked)

  module _ {N : Type 0} (W : World N) (T : Name) where
    -- the type and the reply of a group are those of its first (6.4.2)
    pub first-type : (os : List (CodeOccurrence S)) (f : Spanning (Field S) Span) → IsFirstOf f os →
        W.field_type T (head_of shown f).name.item ≡ type_of W T (view_fields shown vars m os)
    unfolding occurrence_at type_of
    first-type [] f first = absurd first
    first-type (o ∷ os) f first = ap (λ (x : Spanning (Field S) Span). W.field_type T (head_of shown x).name.item) (sym first)

    pub first-reply : (n : N) (os : List (CodeOccurrence S)) (f : Spanning (Field S) Span) → IsFirstOf f os →
        reply_to W T n (head_of shown f) ≡ reply_of W T n (view_fields shown vars m os)
    unfolding occurrence_at reply_of
    first-reply n [] f first = absurd first
    first-reply n (o ∷ os) f first = ap (λ (x : Spanning (Field S) Span). reply_to W T n (head_of shown x)) (sym first)

module _ {C S : Type 0} {scalar : Scalars S} {equality : Equality S} {shows : Shows S} (shown : S → Shown) (e : Executor C S scalar equality shows) where
  pub asked-at : (s : SchemaType S scalar equality shows) (vars : VariableMap S) (m : FragmentsByName S) (T : Name) (es : List (Enclosing S))
      (os : List (CodeOccurrence S)) (f : Spanning (Field S) Span) (declared : TypeType S) (at : FieldPath) (name : Name) (given : Members) →
      schema_of e ≡ s → variables_of e ≡ vars → fragments_of e ≡ m → concrete_of e ≡ T → enclosing_of e ≡ es → occurrences_of e ≡ os →
      occurrence_of e ≡ f → executing.type_of e ≡ declared → path_of e ≡ at → IsFirstOf f os →
      (occurrence_at shown vars m f).head.name.item ≡ name →
      given ≡ coerced_arguments (declared_arguments (field_of (view_schema shown s) T name)) (view_variables shown vars)
      (written (occurrence_at shown vars m f).head.arguments) →
      IsWholeGroup shown (is_possible (view_schema shown s)) vars m T es os → IsDeclaredType shown (view_schema shown s) T name declared →
      IsStepOf (response_key (occurrence_at shown vars m f).head) (path_place at) → IsTrue (is_executable (view_schema shown s)) →
      IsAskedFor shown e name given
  asked-at s vars m T es os f declared at name given of_schema of_variables of_fragments of_concrete of_enclosing of_occurrences of_occurrence of_type of_path
      first is_named is_given whole shows placed executable =
      record {
        is_named = rw (of_variables, of_fragments, of_occurrence) is_named;
        is_given = rw (of_schema, of_variables, of_fragments, of_concrete, of_occurrence) is_given;
        first = rw (of_occurrence, of_occurrences) first;
        whole = rw (of_schema, of_variables, of_fragments, of_concrete, of_enclosing, of_occurrences) whole;
        shows_type = rw (of_schema, of_concrete, of_type) shows;
        is_placed = rw (of_variables, of_fragments, of_occurrence, of_path) placed;
        executable = rw of_schema executable;
      }
