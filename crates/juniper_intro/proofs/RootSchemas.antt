-- A root's schema, and what its nodes reply.
use Rattle.std.proofs.Common.{◌≡◌, true, false, Option, Some, sym, ◌∙◌, inl, inr, subst}
use Rattle.std.proofs.lemmas.Bool.{cases_Bool}
use Rattle.std.proofs.lemmas.Option.{same_Some}
use Rattle.graphql_spec.proofs.Reordered.{order_is_open}
use Rattle.graphql_spec.specs.Executable.{IsSameSchema, is_executable}
use Rattle.graphql_spec.specs.Schema.{Schema}
use Rattle.graphql_spec.specs.Shown.{Name}
use Rattle.juniper_registry.specs.Entries.{Table}
use Rattle.juniper_intro.specs.Roots.{IsSchemaOf}

-- two schemas of one registry and the same names are the same
pub same-schema : (types : Table) (query mutation : Option Name) (s z : Schema) → IsSchemaOf types query mutation s → IsSchemaOf types query mutation z →
    IsSameSchema s z
same-schema types query mutation s z a b = record {
  entries = λ n. a.held n ∙ sym (b.held n);
  query = same_Some s.query z.query (sym a.query_is ∙ b.query_is);
  mutation = same_Some s.mutation z.mutation (sym a.mutation_is ∙ b.mutation_is);
}

pub never-executable : (types : Table) (q m : Name) (s z : Schema) (query mutation : Option Name) → IsSchemaOf types (Some q) (Some m) s → query ≡ Some q →
    mutation ≡ Some m →
    IsSchemaOf types query mutation z → is_executable s ≡ false → is_executable z ≡ false
never-executable types q m s z query mutation a qe me b n =
    let b' : IsSchemaOf types (Some q) (Some m) z = subst (λ x. IsSchemaOf types x (Some m) z) qe (subst (λ y. IsSchemaOf types query y z) me b) in
    elim (cases_Bool (is_executable z)) [
      | inl e ↦ let t : is_executable s ≡ true = order_is_open z s (same-schema types (Some q) (Some m) z s b' a) a.distinct e in
          let f : true ≡ false = sym t ∙ n in absurd (cc)
      | inr e ↦ e
    ]
