-- Names of entries and of types of introspection.
use Rattle.std.proofs.Common.{◌≡◌, true, false, not, cond, List, [], ◌∷◌, map, Option, Some, None, bytes_eq}
use Rattle.std.proofs.Common.{refl, sym, ap, subst, ◌∙◌, inl, inr}
use Rattle.std.specs.List.{list_all, list_any}
use Rattle.std.proofs.lemmas.Bool.{and_parts, both_ways, cases_Bool, not-true}
use Rattle.std.proofs.lemmas.Option.{none-some, same_Some}
use Rattle.graphql_spec.specs.Shown.{Name}
use Rattle.graphql_spec.specs.Schema.{Entry, Schema}
use Rattle.graphql_spec.specs.BuiltIns.{introspection_types, schema_type, type_type, field_type, input_value_type, enum_value_type}
use Rattle.graphql_spec.specs.BuiltIns.{directive_type, type_kind_type}
use Rattle.graphql_spec.specs.BuiltIns.{location_type, object_entry, enum_entry}
use Rattle.graphql_spec.specs.Fields.{entry_in, entry_named, or_else, shape_of, type_named}
use Rattle.graphql_spec.specs.Executable.{is_reserved, names_differ}
use Rattle.graphql_spec.proofs.Lists.{same_true}
use Rattle.juniper_schema.specs.Searching.{IsApart, introspection_names, times}

-- ## Types of introspection

built_names : map (λ e. e.key) introspection_types ≡ introspection_names
unfolding introspection_types introspection_names schema_type type_type field_type input_value_type enum_value_type directive_type type_kind_type location_type
    object_entry enum_entry
built_names = refl

all_reserved : list_all is_reserved introspection_names ≡ true
unfolding introspection_names is_reserved
all_reserved = refl

all_differ : names_differ introspection_names ≡ true
unfolding introspection_names names_differ
all_differ = refl

-- a name that none has is found nowhere
absent : (n : Name) (es : List Entry) → list_any (bytes_eq n) (map (λ e. e.key) es) ≡ false → (entry_in es n ≡ None) × (times n es ≡ 0)
unfolding entry_in times
absent n [] h = (refl, refl)
absent n (e ∷ es) h = elim (cases_Bool (bytes_eq n e.key)) [
  | inl y ↦ absurd (both_ways true (rw y at h) refl)
  | inr f ↦ let rest = absent n es (rw f at h) in (rw f rest.0, rw f rest.1)
]

-- of names that differ each stands once
once : (n : Name) (es : List Entry) → names_differ (map (λ e. e.key) es) ≡ true → times n es ≡ cond (list_any (bytes_eq n) (map (λ e. e.key) es)) 1 0
unfolding names_differ times
once n [] differ = refl
once n (e ∷ es) differ =
    let both = and_parts (not (list_any (bytes_eq e.key) (map (λ x. x.key) es))) _ differ in
    elim (cases_Bool (bytes_eq n e.key)) [
      | inl y ↦ rw (y, (absent n es (subst (λ k. list_any (bytes_eq k) (map (λ x. x.key) es) ≡ false) (sym (same_true n e.key y)) (not-true _ both.0))).1) refl
      | inr f ↦ rw f (once n es both.1)
    ]

-- introspection has a name once or not at all
pub times_once : (n : Name) → times n introspection_types ≡ cond (list_any (bytes_eq n) introspection_names) 1 0
times_once n = once n introspection_types (ap names_differ built_names ∙ all_differ) ∙ ap (λ ns. cond (list_any (bytes_eq n) ns) 1 0) built_names

free_differs : (n : Name) (ns : List Name) → list_all is_reserved ns ≡ true → is_reserved n ≡ false → list_any (bytes_eq n) ns ≡ false
free_differs n [] all free = refl
free_differs n (m ∷ ms) all free = let both = and_parts (is_reserved m) _ all in elim (cases_Bool (bytes_eq n m)) [
  | inl y ↦ absurd (both_ways (is_reserved m) (subst (λ k. is_reserved k ≡ false) (same_true n m y) free) both.0)
  | inr f ↦ rw f (free_differs n ms both.1 free)
]

-- a name that is not reserved is none of introspection's
none_built : (n : Name) → is_reserved n ≡ false → entry_in introspection_types n ≡ None
none_built n free = (absent n introspection_types (ap (list_any (bytes_eq n)) built_names ∙ free_differs n introspection_names all_reserved free)).0

-- ## Entries

none_reserved : (n : Name) (es : List Entry) → list_all (λ e. not (is_reserved e.key)) es ≡ true → is_reserved n ≡ true → entry_in es n ≡ None
unfolding entry_in
none_reserved n [] all reserved = refl
none_reserved n (e ∷ es) all reserved = let both = and_parts (not (is_reserved e.key)) _ all in elim (cases_Bool (bytes_eq n e.key)) [
  | inl y ↦ absurd (both_ways (is_reserved e.key) (not-true _ both.0) (subst (λ k. is_reserved k ≡ true) (same_true n e.key y) reserved))
  | inr f ↦ rw f (none_reserved n es both.1 reserved)
]

-- no entry has a reserved name
pub reserved_named : (s : Schema) (n : Name) → IsApart s → is_reserved n ≡ true → entry_named s n ≡ None
unfolding entry_named shape_of
reserved_named s n apart reserved = ap shape_of (none_reserved n s.entries apart reserved)

or_else_none : {X : Type 0} (o p : Option X) → p ≡ None → or_else o p ≡ o
unfolding or_else
or_else_none None p e = e
or_else_none (Some x) p e = refl

-- what stands at a name that is not reserved is an entry
pub free_named : (s : Schema) (n : Name) → is_reserved n ≡ false → type_named s n ≡ entry_named s n
unfolding type_named entry_named
free_named s n free = ap shape_of (or_else_none (entry_in s.entries n) (entry_in introspection_types n) (none_built n free))

pub free_entry : (s : Schema) (n : Name) → is_reserved n ≡ false → or_else (entry_in s.entries n) (entry_in introspection_types n) ≡ entry_in s.entries n
free_entry s n free = or_else_none (entry_in s.entries n) (entry_in introspection_types n) (none_built n free)

pub entry_key : (es : List Entry) (n : Name) (e : Entry) → entry_in es n ≡ Some e → e.key ≡ n
unfolding entry_in
entry_key [] n e is = absurd (none-some e is)
entry_key (x ∷ es) n e is = elim (cases_Bool (bytes_eq n x.key)) [
  | inl y ↦ ap (λ z. z.key) (sym (same_Some x e (rw y at is))) ∙ sym (same_true n x.key y)
  | inr f ↦ entry_key es n e (rw f at is)
]
