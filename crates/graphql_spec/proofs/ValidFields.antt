-- Of a valid document execution meets declared fields only.
use Rattle.std.specs.Prelude.{◌≡◌, ℕ, Bool, true, List, [], ◌++◌, zero, suc, Some, None, IsTrue}
use Rattle.std.proofs.Common.{refl, inl, subst}
use Rattle.graphql_spec.specs.Shown.{Name}
use Rattle.graphql_spec.specs.Types.{innermost}
use Rattle.graphql_spec.specs.Documents.{Directive, Operation, Document, operation, fragments}
use Rattle.graphql_spec.specs.Placed.{root_type}
use Rattle.graphql_spec.specs.Laws.{In}
use Rattle.graphql_spec.specs.Selections.{Occurrence, occurrences}
use Rattle.graphql_spec.specs.Fragments.{expand}
use Rattle.graphql_spec.specs.Schema.{Schema}
use Rattle.graphql_spec.specs.Fields.{field_of, declared_type, is_possible}
use Rattle.graphql_spec.specs.Executable.{is_executable}
use Rattle.graphql_spec.specs.Resolvers.{World, world_of, answered, nothing}
use Rattle.graphql_spec.specs.Overlap.{Field, fields, fields_below, MayMerge, KeepsTypes, names_object, declares_field}
use Rattle.graphql_spec.specs.ValidityLaws.{PlacedSet, IsValidDocument, AreDeclared, ValidFieldsAreDeclared}
use Rattle.graphql_spec.proofs.Grouping.{in_first}
use Rattle.graphql_spec.proofs.Overlap.{parented, Covers, below-covered}
use Rattle.graphql_spec.proofs.Thin.{thin-fields, thin-merges, expand-thin}
use Rattle.graphql_spec.proofs.KeptTypes.{fields_are_kept, schemas_keep_types}
use Rattle.graphql_spec.proofs.KnownSpreads.{there}
use Rattle.graphql_spec.proofs.ValidSets.{operation-set, valid_sets_may_merge}

module _ (s : Schema) (e : IsTrue (is_executable s)) where
  -- one world of the schema; what is possible is the same in all
  unfoldable here : World (Unit {0})
  here = world_of s (λ x. None) (λ m. []) (λ m f args. answered nothing)

  keeps : KeepsTypes here (names_object s) (declares_field s)
  unfolding here
  keeps = schemas_keep_types s e (λ x. None) (λ m. []) (λ m f args. answered nothing)

  -- a field that the type n has is one of the object type T that is possible there
  kept-field : (T n f : Name) → IsTrue (is_possible s T n) → IsTrue (declares_field s n f) → IsTrue (declares_field s T f)
  kept-field T n f p g = let q = there (field_of s n f) g in let h = fields_are_kept s e T n f q.0 p q.1 in rw (h.1) refl

  -- what is selected below a field
  abbrev below_of : Field → List Field
  below_of x = fields_below (λ T f. declared_type (field_of s T f)) (names_object s) (declares_field s) x

  -- the occurrence is declared for T, and what it selects is to the depth d
  abbrev IsDeclared : ℕ → Name → Occurrence → Type 0
  IsDeclared d T o = IsTrue (declares_field s T o.head.name.item)
      × ((U : Name) → IsTrue (is_possible s U (innermost (declared_type (field_of s T o.head.name.item)))) →
      AreDeclared s d U (occurrences (is_possible s) U o.below))

  -- fields that merge are declared
  are-declared : (d : ℕ) (T : Name) (os : List Occurrence) (xs : List Field) → Covers here (names_object s) (declares_field s) keeps T os xs →
      MayMerge (λ T f. declared_type (field_of s T f)) (names_object s) (declares_field s) d xs → AreDeclared s d T os
  unfolding here world_of
  are-declared zero T os xs c m = tt
  are-declared (suc d) T os xs c m = λ o i.
      let a = c o i in
      let r = m a.0 a.0 a.1 a.1 refl (inl refl) in
      subst (IsDeclared d T) a.2 (
        kept-field T a.0.parent a.0.occurrence.head.name.item a.3 r.3,
        λ U p. are-declared d U (occurrences (is_possible s) U a.0.occurrence.below) (below_of a.0 ++ below_of a.0)
            (λ y j. let b = below-covered here (names_object s) (declares_field s) keeps T U a.0 a.3 r.3 p y j in
            (b.0, in_first b.0 (below_of a.0) (below_of a.0) b.1, b.2, b.3)) r.2,
      )

pub valid_fields_are_declared : ValidFieldsAreDeclared
unfolding here world_of
valid_fields_are_declared s e disabled d valid passes x i set j T p n =
    let some = expand passes (fragments d) set.selections in
    let all = expand (λ y. true) (fragments d) set.selections in
    are-declared s e n T (occurrences (is_possible s) T some) (fields set.parent some) (λ o k. parented (is_possible s) T set.parent some o p k)
    (thin-merges (λ T f. declared_type (field_of s T f)) (names_object s) (declares_field s) n (fields set.parent some) (fields set.parent all)
    (thin-fields set.parent (expand-thin passes (λ y. true) (λ y q. refl) (fragments d) set.selections)) (valid_sets_may_merge s disabled d valid x i set j n))

-- what an operation selects on its root type
pub operation_is_declared : (s : Schema) → IsTrue (is_executable s) → (disabled : Bool) (d : Document) → IsValidDocument s disabled d →
    (passes : Directive → Bool) →
    (o : Operation) → In (operation o) d → (root : Name) → root_type s o.kind ≡ Some root → (T : Name) → IsTrue (is_possible s T root) → (n : ℕ) →
    AreDeclared s n T (occurrences (is_possible s) T (expand passes (fragments d) o.selections))
operation_is_declared s e disabled d valid passes o i root r T p n =
    let set : PlacedSet = record { parent = root; selections = o.selections } in
    valid_fields_are_declared s e disabled d valid passes (operation o) i set (operation-set s o root r) T p n
