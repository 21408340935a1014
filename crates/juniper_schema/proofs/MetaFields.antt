-- The field of a name: a declared one, or one of those that types have beside (4.1, 4.2).
use Rattle.std.specs.Prelude.{Bool, true, false, ◌≡◌, [], ◌∷◌, Option, Some, None, cond, ◌||◌}
use Rattle.std.specs.Str.{bytes_eq}
use Rattle.std.proofs.Common.{refl}
use Rattle.graphql_spec.specs.Shown.{Name}
use Rattle.graphql_spec.specs.Schema.{FieldDeclaration, Schema, Shape, plain_field}
use Rattle.graphql_spec.specs.Fields.{field_in, field_of, fields_of, is_composite, meta_fields, or_else, root_fields, type_named, typename, typename_field}

pub declared_first : (s : Schema) (T f : Name) (o : Option Shape) → type_named s T ≡ o → (d : FieldDeclaration) → Some d ≡ field_in (fields_of o) f →
    Some d ≡ field_of s T f
unfolding field_of or_else
declared_first s T f o e d h = rw (e, ← h) refl

pub then_own : (s : Schema) (T f : Name) (o : Option Shape) → type_named s T ≡ o → None ≡ field_in (fields_of o) f → true ≡ is_composite o →
    (r : Option FieldDeclaration) →
    r ≡ field_in (typename_field ∷ cond (bytes_eq T s.query) root_fields []) f → r ≡ field_of s T f
unfolding field_of or_else meta_fields
then_own s T f o e h c r is = rw (e, ← h, ← c) is

pub has_none : (s : Schema) (T f : Name) (o : Option Shape) → type_named s T ≡ o → None ≡ field_in (fields_of o) f → false ≡ is_composite o →
    None ≡ field_of s T f
unfolding field_of or_else meta_fields field_in
has_none s T f o e h c = rw (e, ← h, ← c) refl

pub no_type : (s : Schema) (T f : Name) → type_named s T ≡ None → None ≡ field_of s T f
unfolding field_of or_else meta_fields field_in fields_of is_composite
no_type s T f e = rw (e) refl

-- `__typename` is found first, whatever follows; another name is found among the query type's own two alone
pub found_there : (f : Name) (q : Bool) → true ≡ (bytes_eq f typename || q) →
    field_in (typename_field ∷ root_fields) f ≡ field_in (typename_field ∷ cond q root_fields []) f
unfolding field_in typename_field plain_field
found_there f q e = go f q (bytes_eq f typename) refl e
  where
    go : (f : Name) (q b : Bool) → bytes_eq f typename ≡ b → true ≡ (b || q) →
        field_in (typename_field ∷ root_fields) f ≡ field_in (typename_field ∷ cond q root_fields []) f
    go f true b e h = refl
    go f false true e h = rw (e) refl
    go f false false e h = cc

pub found_nowhere : (f : Name) (q : Bool) → false ≡ (bytes_eq f typename || q) → None ≡ field_in (typename_field ∷ cond q root_fields []) f
unfolding field_in typename_field plain_field
found_nowhere f q e = go f q (bytes_eq f typename) refl e
  where
    go : (f : Name) (q b : Bool) → bytes_eq f typename ≡ b → false ≡ (b || q) → None ≡ field_in (typename_field ∷ cond q root_fields []) f
    go f true true e h = cc
    go f true false e h = cc
    go f false true e h = cc
    go f false false e h = rw (e) refl
