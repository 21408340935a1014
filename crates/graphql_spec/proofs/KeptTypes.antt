-- a schema that can be executed keeps types
use Rattle.std.specs.Prelude.{Bool, true, false, not, ◌&&◌, ◌||◌, codes, map, List, [], ◌∷◌, ◌≡◌, ◌⊎◌, Option, Some, None, IsTrue}
use Rattle.std.specs.List.{list_all, list_any}
use Rattle.std.specs.Option.{is_some}
use Rattle.std.specs.Str.{bytes_eq}
use Rattle.std.proofs.lemmas.Bool.{cases_Bool, both_ways, and_parts, and_from, or_cases, or_left, or_right}
use Rattle.std.proofs.Common.{refl, sym, ap, ◌∙◌, inl, inr, subst}
use Rattle.graphql_spec.specs.Shown.{Name, same_bool}
use Rattle.graphql_spec.specs.Types.{TypeRef, named, list_of, innermost, same_type}
use Rattle.graphql_spec.specs.Schema.{InputDeclaration, FieldDeclaration, Shape, scalar_type, enum_type, object_type, interface_type, union_type}
use Rattle.graphql_spec.specs.Schema.{input_object_type, list_type, nullable_type, placeholder, Entry, Schema, plain_field}
use Rattle.graphql_spec.specs.Documents.{written}
use Rattle.graphql_spec.specs.Resolvers.{world_of}
use Rattle.graphql_spec.specs.Fields.{entry_in, shape_of, or_else, entry_named, type_named, is_object, is_interface, is_composite, interfaces_of, members_of}
use Rattle.graphql_spec.specs.Fields.{fields_of, is_possible, field_in, typename, typename_field, meta_fields, field_of, declared_type, declared_arguments}
use Rattle.graphql_spec.specs.Fields.{declaration_in, is_named_subtype, is_subtype}
use Rattle.graphql_spec.specs.Executable.{values_of, input_fields_of, shape_fields, names_differ, is_filled, is_own_name, input_names_differ, is_value_name}
use Rattle.graphql_spec.specs.Executable.{is_reserved, is_typename_field, field_is_free, no_declarations, entry_is_named, entries_are_named, roots_are_objects}
use Rattle.graphql_spec.specs.Executable.{types_are_known, entry_names_differ, all_names_differ, takes_argument, may_be_left_out, implements_field, implements}
use Rattle.graphql_spec.specs.Executable.{interfaces_are_met, is_executable}
use Rattle.graphql_spec.specs.Tokens.{is_name}
use Rattle.graphql_spec.specs.Laws.{ObjectsStandAlone, KeepsArguments, FieldsAreKept, ObjectsAreKept}
use Rattle.graphql_spec.specs.Overlap.{names_object, declares_field, SchemasKeepTypes, SchemasMerge}
use Rattle.graphql_spec.proofs.Lists.{same_true, same_refl}
use Rattle.graphql_spec.proofs.Coercion.{same_arguments_seen}
use Rattle.graphql_spec.proofs.Thin.{written_merges}
use Rattle.graphql_spec.proofs.Keeping.{entry_all, options, or_else_parts, any_in, introspection_joins_none, Implementing, implementing, lists_interface, alone}

-- ## The clauses that are needed

record Kept (s : Schema) : Type 0 where
  pub are_named : entries_are_named s ≡ true
  pub has_roots : roots_are_objects s ≡ true
  pub all_differ : all_names_differ s ≡ true
  pub met : interfaces_are_met s ≡ true

kept : (s : Schema) → IsTrue (is_executable s) → Kept s
unfolding is_executable
kept s e =
    let a = and_parts (entries_are_named s) _ e in
    let b = and_parts (roots_are_objects s) _ a.1 in
    let c = and_parts (types_are_known s) _ b.1 in
    let d = and_parts (all_names_differ s) _ c.1 in
    let i = and_parts (interfaces_are_met s) _ d.1 in record { are_named = a.0; has_roots = b.0; all_differ = d.0; met = i.0 }

-- ## Entries and types

-- a type that has an entry
type_of_entry : (s : Schema) (n : Name) (x : Entry) → entry_in s.entries n ≡ Some x → type_named s n ≡ Some x.shape
unfolding type_named shape_of or_else
type_of_entry s n x q = rw q refl

-- an entry that is an interface
interface_entry : (s : Schema) (n : Name) → is_interface (entry_named s n) ≡ true → type_named s n ≡ entry_named s n
unfolding type_named entry_named shape_of or_else is_interface
interface_entry s n e = elim (options (entry_in s.entries n)) [ inl q ↦ absurd (both_ways false refl (rw q at e)) | inr (x, q) ↦ rw q refl ]

-- an entry that is an object
object_entry : (s : Schema) (n : Name) → is_object (entry_named s n) ≡ true → (x : Entry) × (entry_in s.entries n ≡ Some x)
unfolding entry_named shape_of is_object
object_entry s n e = elim (options (entry_in s.entries n)) [ inl q ↦ absurd (both_ways false refl (rw q at e)) | inr (x, q) ↦ (x, q) ]

pub object_type_named : (s : Schema) (n : Name) → is_object (entry_named s n) ≡ true → is_object (type_named s n) ≡ true
unfolding type_named entry_named shape_of or_else is_object
object_type_named s n e = elim (options (entry_in s.entries n)) [ inl q ↦ absurd (both_ways false refl (rw q at e)) | inr (x, q) ↦ rw q (rw q at e) ]

interface_no_object : (x : Option Shape) → is_interface x ≡ true → is_object x ≡ false
unfolding is_object is_interface
interface_no_object (Some (object_type fs is)) e = absurd (both_ways false refl e)
interface_no_object None e = refl
interface_no_object (Some (scalar_type k u)) e = refl
interface_no_object (Some (enum_type vs)) e = refl
interface_no_object (Some (interface_type fs is)) e = refl
interface_no_object (Some (union_type ms)) e = refl
interface_no_object (Some (input_object_type ds)) e = refl
interface_no_object (Some (list_type n t)) e = refl
interface_no_object (Some (nullable_type t)) e = refl
interface_no_object (Some placeholder) e = refl

object_is_composite : (x : Option Shape) → is_object x ≡ true → is_composite x ≡ true
unfolding is_object is_composite
object_is_composite (Some (object_type fs is)) e = refl
object_is_composite None e = absurd (both_ways false refl e)
object_is_composite (Some (scalar_type k u)) e = absurd (both_ways false refl e)
object_is_composite (Some (enum_type vs)) e = absurd (both_ways false refl e)
object_is_composite (Some (interface_type fs is)) e = absurd (both_ways false refl e)
object_is_composite (Some (union_type ms)) e = absurd (both_ways false refl e)
object_is_composite (Some (input_object_type ds)) e = absurd (both_ways false refl e)
object_is_composite (Some (list_type n t)) e = absurd (both_ways false refl e)
object_is_composite (Some (nullable_type t)) e = absurd (both_ways false refl e)
object_is_composite (Some placeholder) e = absurd (both_ways false refl e)

-- what a union is not
record Union (x : Option Shape) : Type 0 where
  pub no_object : is_object x ≡ false
  pub no_fields : fields_of x ≡ []
  pub no_interfaces : interfaces_of x ≡ []

with_members : (x : Option Shape) (m : Name) → list_any (bytes_eq m) (members_of x) ≡ true → Union x
unfolding is_object fields_of interfaces_of members_of
with_members (Some (union_type ms)) m e = record { no_object = refl; no_fields = refl; no_interfaces = refl }
with_members None m e = absurd (both_ways false refl e)
with_members (Some (scalar_type k u)) m e = absurd (both_ways false refl e)
with_members (Some (enum_type vs)) m e = absurd (both_ways false refl e)
with_members (Some (object_type fs is)) m e = absurd (both_ways false refl e)
with_members (Some (interface_type fs is)) m e = absurd (both_ways false refl e)
with_members (Some (input_object_type ds)) m e = absurd (both_ways false refl e)
with_members (Some (list_type n t)) m e = absurd (both_ways false refl e)
with_members (Some (nullable_type t)) m e = absurd (both_ways false refl e)
with_members (Some placeholder) m e = absurd (both_ways false refl e)

-- a field that is found passes what all pass, and has its name
field_all : (P : FieldDeclaration → Bool) (fs : List FieldDeclaration) (f : Name) (g : FieldDeclaration) → list_all P fs ≡ true → field_in fs f ≡ Some g →
    (P g ≡ true) × (f ≡ g.name)
unfolding field_in
field_all P [] f g a h = cc
field_all P (x ∷ fs) f g a h = let p = and_parts (P x) (list_all P fs) a in elim (cases_Bool (bytes_eq f x.name)) [
  | inl q ↦ let z = rw q at h in let w : x ≡ g = cc in (subst (λ y. P y ≡ true) w p.0, same_true f x.name q ∙ ap (λ y. y.name) w)
  | inr q ↦ field_all P fs f g p.1 (rw q at h)
]

nowhere : (f : Name) (g : FieldDeclaration) → field_in [] f ≡ Some g → ⊥
unfolding field_in
nowhere f g d = cc

-- a field that is declared is the type's
declared_field : (s : Schema) (n f : Name) (x : Option Shape) (g : FieldDeclaration) → type_named s n ≡ x → field_in (fields_of x) f ≡ Some g →
    field_of s n f ≡ Some g
unfolding field_of or_else
declared_field s n f x g q e = rw (q, e) refl

-- ## Arguments

declaration_passes : (P : InputDeclaration → Bool) (ds : List InputDeclaration) (k : Name) (a : InputDeclaration) → list_all P ds ≡ true →
    declaration_in ds k ≡ Some a → P a ≡ true
unfolding declaration_in
declaration_passes P [] k a p e = cc
declaration_passes P (d ∷ ds) k a p e = let c = and_parts (P d) (list_all P ds) p in elim (cases_Bool (bytes_eq k d.name)) [
  | inl q ↦ let z = rw q at e in let w : d ≡ a = cc in subst (λ y. P y ≡ true) w c.0
  | inr q ↦ declaration_passes P ds k a c.1 (rw q at e)
]

declaration_name : (ds : List InputDeclaration) (k : Name) (a : InputDeclaration) → declaration_in ds k ≡ Some a → k ≡ a.name
unfolding declaration_in
declaration_name [] k a e = cc
declaration_name (d ∷ ds) k a e = elim (cases_Bool (bytes_eq k d.name)) [
  | inl q ↦ let z = rw q at e in let w : d ≡ a = cc in same_true k d.name q ∙ ap (λ y. y.name) w
  | inr q ↦ declaration_name ds k a (rw q at e)
]

same_type_refl : (t : TypeRef) → same_type t t ≡ true
unfolding same_type same_bool
same_type_refl (named true n) = same_refl n
same_type_refl (named false n) = same_refl n
same_type_refl (list_of true size t) = same_type_refl t
same_type_refl (list_of false size t) = same_type_refl t

arguments_refl : (as' : List InputDeclaration) → KeepsArguments as' as'
unfolding may_be_left_out
arguments_refl as' = (
  λ k a e. (a, e, same_type_refl a.of_type),
  λ k b e. or_left (is_some (declaration_in as' b.name)) _ (rw (sym (declaration_name as' k b e), e) refl),
)

arguments-kept : (as' bs : List InputDeclaration) → list_all (takes_argument bs) as' ≡ true → list_all (may_be_left_out as') bs ≡ true → KeepsArguments as' bs
unfolding takes_argument
arguments-kept as' bs p q = (
  λ k a e. there k a (declaration_in bs k) refl (subst (λ z. elim (declaration_in bs z) [ None ↦ false | Some x ↦ same_type x.of_type a.of_type ] ≡ true)
      (sym (declaration_name as' k a e)) (declaration_passes (takes_argument bs) as' k a p e)),
  λ k b e. declaration_passes (may_be_left_out as') bs k b q e,
)
  where
    there : (k : Name) (a : InputDeclaration) (o : Option InputDeclaration) → declaration_in bs k ≡ o →
        elim o [ None ↦ false | Some x ↦ same_type x.of_type a.of_type ] ≡ true →
        (b : InputDeclaration) × (declaration_in bs k ≡ Some b) × IsTrue (same_type b.of_type a.of_type)
    there k a None w t = absurd (both_ways false refl t)
    there k a (Some b) w t = (b, w, t)

-- `__typename: String!`
record IsTypename (g : FieldDeclaration) : Type 0 where
  pub is_string : g.of_type ≡ named true (codes "String")
  pub takes_nothing : g.arguments ≡ []

typename_is : IsTypename typename_field
unfolding typename_field plain_field
typename_is = record { is_string = refl; takes_nothing = refl }

-- ## Parts of clauses

members_pass : (s : Schema) (x : Shape) → entry_names_differ s x ≡ true → list_all (λ m. is_object (entry_named s m)) (members_of (Some x)) ≡ true
unfolding entry_names_differ
members_pass s x e =
    let a = and_parts (names_differ (map (λ f. f.name) (shape_fields x))) _ e in
    let b = and_parts (list_all (λ f. input_names_differ f.arguments) (shape_fields x)) _ a.1 in
    let c = and_parts (input_names_differ (input_fields_of x)) _ b.1 in
    let d = and_parts (names_differ (map (λ v. v.name) (values_of x))) _ c.1 in
    let f = and_parts (list_all (λ v. is_value_name v.name) (values_of x)) _ d.1 in
    let g = and_parts (names_differ (interfaces_of (Some x))) _ f.1 in (and_parts (names_differ (members_of (Some x))) _ g.1).1

fields_are_free : (e : Entry) → entry_is_named e ≡ true → list_all field_is_free (shape_fields e.shape) ≡ true
unfolding entry_is_named
fields_are_free e n =
    let a = and_parts (is_filled e.shape) _ n in
    let b = and_parts (is_own_name e.key e.name) _ a.1 in
    let c = and_parts (is_name e.key) _ b.1 in
    let d = and_parts (not (is_reserved e.key)) _ c.1 in (and_parts (list_all field_is_free (shape_fields e.shape)) _ d.1).0

pub as_string : (t : TypeRef) → same_type t (named true (codes "String")) ≡ true → t ≡ named true (codes "String")
unfolding same_type same_bool
as_string (named true n) e = ap (named true) (same_true n (codes "String") e)
as_string (named false n) e = absurd (both_ways false refl e)
as_string (list_of r m t) e = absurd (both_ways false refl e)

none_declared : (as' : List InputDeclaration) → no_declarations as' ≡ true → as' ≡ []
unfolding no_declarations
none_declared [] e = refl
none_declared (a ∷ as') e = absurd (both_ways false refl e)

-- ## Subtypes

named_refl : (s : Schema) (a : Name) → is_named_subtype s a a ≡ true
unfolding is_named_subtype
named_refl s a = or_left (bytes_eq a a) _ (same_refl a)

subtype_refl : (s : Schema) (t : TypeRef) → is_subtype s t t ≡ true
unfolding is_subtype
subtype_refl s (named true n) = named_refl s n
subtype_refl s (named false n) = named_refl s n
subtype_refl s (list_of true size t) = subtype_refl s t
subtype_refl s (list_of false size t) = subtype_refl s t

-- what is inside is a subtype too
subtype_inside : (s : Schema) (t u : TypeRef) → is_subtype s t u ≡ true → is_named_subtype s (innermost t) (innermost u) ≡ true
unfolding is_subtype innermost
subtype_inside s (named r a) (named q b) e = (and_parts _ (is_named_subtype s a b) e).1
subtype_inside s (list_of r m t) (list_of q n u) e = subtype_inside s t u (and_parts _ (is_subtype s t u) e).1
subtype_inside s (named r a) (list_of q n u) e = absurd (both_ways false refl e)
subtype_inside s (list_of r m t) (named q b) e = absurd (both_ways false refl e)

-- ## Possible types

-- how an object type is possible at a type
abbrev Possible : Schema → Name → Name → Type 0
Possible s T n = (T ≡ n) ⊎ ((list_any (bytes_eq n) (interfaces_of (type_named s T)) ≡ true) ⊎ (list_any (bytes_eq T) (members_of (type_named s n)) ≡ true))

possible_cases : (s : Schema) (T n : Name) → IsTrue (is_possible s T n) → (is_object (type_named s T) ≡ true) × Possible s T n
unfolding is_possible
possible_cases s T n p =
    let a = and_parts (is_object (type_named s T)) _ p in (
      a.0,
      elim (or_cases (bytes_eq T n) _ a.1) [
        | inl q ↦ inl (same_true T n q)
        | inr q ↦
            inr (or_cases (list_any (bytes_eq n) (interfaces_of (type_named s T))) _ q)
      ],
    )

possible_listed : (s : Schema) (T n : Name) → is_object (type_named s T) ≡ true → list_any (bytes_eq n) (interfaces_of (type_named s T)) ≡ true →
    IsTrue (is_possible s T n)
unfolding is_possible
possible_listed s T n o e =
    and_from (is_object (type_named s T)) _ o (or_right (bytes_eq T n) _ (or_left (list_any (bytes_eq n) (interfaces_of (type_named s T))) _ e))

possible_member : (s : Schema) (T n : Name) → is_object (type_named s T) ≡ true → list_any (bytes_eq T) (members_of (type_named s n)) ≡ true →
    IsTrue (is_possible s T n)
unfolding is_possible
possible_member s T n o e =
    and_from (is_object (type_named s T)) _ o (or_right (bytes_eq T n) _ (or_right (list_any (bytes_eq n) (interfaces_of (type_named s T))) _ e))

module _ (s : Schema) (k : Kept s) where
  -- a union's members are objects
  member_is_object : (T n : Name) → list_any (bytes_eq T) (members_of (type_named s n)) ≡ true → is_object (entry_named s T) ≡ true
  unfolding type_named shape_of or_else all_names_differ
  member_is_object T n e = elim (options (entry_in s.entries n)) [
    | inl q ↦ absurd (both_ways false refl (rw (introspection_joins_none n) at (rw q at e)))
    | inr (x, q) ↦ let z : list_any (bytes_eq T) (members_of (Some x.shape)) ≡ true = rw q at e in
        any_in (λ m. is_object (entry_named s m)) T (members_of (Some x.shape)) z
        (members_pass s x.shape (entry_all (λ e. entry_names_differ s e.shape) s.entries n x k.all_differ q))
  ]

  -- an interface's own interfaces are listed with it
  lists_further : (T a b : Name) → list_any (bytes_eq a) (interfaces_of (type_named s T)) ≡ true →
      list_any (bytes_eq b) (interfaces_of (type_named s a)) ≡ true →
      list_any (bytes_eq b) (interfaces_of (type_named s T)) ≡ true
  unfolding implements
  lists_further T a b i j =
      let m = implementing s k.met T a i in
      let p = and_parts (is_interface (entry_named s a)) _ m.meets in
      let q = and_parts _ _ p.1 in
      let r = and_parts (list_all (λ j. list_any (bytes_eq j) (interfaces_of (Some m.entry.shape))) (interfaces_of (entry_named s a))) _ q.1 in
      subst (λ z. list_any (bytes_eq b) (interfaces_of z) ≡ true) (sym (type_of_entry s T m.entry m.entry_is))
      (any_in (λ j. list_any (bytes_eq j) (interfaces_of (Some m.entry.shape))) b (interfaces_of (entry_named s a))
      (subst (λ z. list_any (bytes_eq b) (interfaces_of z) ≡ true) (interface_entry s a p.0) j) r.0)

  objects-kept : (T a b : Name) → IsTrue (is_possible s T a) → IsTrue (is_named_subtype s a b) → IsTrue (is_possible s T b)
  unfolding is_named_subtype
  objects-kept T a b p e = let c = possible_cases s T a p in elim (or_cases (bytes_eq a b) _ e) [
    | inl q ↦ subst (λ z. IsTrue (is_possible s T z)) (same_true a b q) p
    | inr q ↦ elim (or_cases (list_any (bytes_eq b) (interfaces_of (type_named s a))) _ q) [
      | inl j ↦ elim c.1 [
        | inl w ↦ possible_listed s T b c.0 (subst (λ z. list_any (bytes_eq b) (interfaces_of (type_named s z)) ≡ true) (sym w) j)
        | inr (inl i) ↦ possible_listed s T b c.0 (lists_further T a b i j)
        | inr (inr m) ↦ absurd (both_ways false refl (rw ((with_members (type_named s a) T m).no_interfaces) at j))
      ]
      | inr m ↦ let w : T ≡ a = alone s k.met T a p (object_type_named s a (member_is_object a b m)) in
          possible_member s T b c.0 (subst (λ z. list_any (bytes_eq z) (members_of (type_named s b)) ≡ true) (sym w) m)
    ]
  ]

  -- ## Fields

  query_is_object : is_object (entry_named s s.query) ≡ true
  unfolding roots_are_objects
  query_is_object = (and_parts (is_object (entry_named s s.query)) _ k.has_roots).0

  not_query : (n : Name) → is_object (type_named s n) ≡ false → bytes_eq n s.query ≡ false
  not_query n o = elim (cases_Bool (bytes_eq n s.query)) [
    | inl q ↦ absurd (both_ways (is_object (type_named s n)) o (subst (λ z. is_object (type_named s z) ≡ true) (sym (same_true n s.query q))
        (object_type_named s s.query query_is_object)))
    | inr q ↦ q
  ]

  -- what is no object has beside its declared fields `__typename` alone
  meta_typename : (n f : Name) (g : FieldDeclaration) → is_object (type_named s n) ≡ false → field_in (meta_fields s n) f ≡ Some g →
      (f ≡ typename) × IsTypename g
  unfolding meta_fields field_in typename_field plain_field
  meta_typename n f g o e = elim (cases_Bool (is_composite (type_named s n))) [
    | inl c ↦ let e' = rw c at e in elim (cases_Bool (bytes_eq f typename)) [
      | inl t ↦ let h : Some typename_field ≡ Some g = rw t at e' in let w : typename_field ≡ g = cc in (same_true f typename t, subst IsTypename w typename_is)
      | inr t ↦ let h = rw (t, not_query n o) at e' in cc
    ]
    | inr c ↦ let e' : None ≡ Some g = rw c at e in cc
  ]

  -- where it is declared, `__typename` is a `String!`
  typename_string : (T : Name) (x : Entry) → entry_in s.entries T ≡ Some x → (h : FieldDeclaration) → field_in (fields_of (Some x.shape)) typename ≡ Some h →
      IsTypename h
  unfolding entries_are_named shape_fields field_is_free is_typename_field is_reserved
  typename_string T x q h e =
      let a = field_all field_is_free (fields_of (Some x.shape)) typename h (fields_are_free x (entry_all entry_is_named s.entries T x k.are_named q)) e in
      let b = and_parts (not (is_reserved h.name) || is_typename_field h) _ a.0 in
      let c : (same_type h.of_type (named true (codes "String")) && no_declarations h.arguments) ≡ true = rw (sym a.1) at b.0 in
      let d = and_parts (same_type h.of_type (named true (codes "String"))) _ c in
      record { is_string = as_string h.of_type d.0; takes_nothing = none_declared h.arguments d.1 }

  -- an object type with an entry has a field `__typename: String!`
  has_typename : (T : Name) (x : Entry) → is_object (type_named s T) ≡ true → entry_in s.entries T ≡ Some x →
      (h : FieldDeclaration) × (field_of s T typename ≡ Some h) × IsTypename h
  unfolding field_of or_else meta_fields field_in typename_field plain_field
  has_typename T x o q = elim (options (field_in (fields_of (type_named s T)) typename)) [
    | inl e ↦ (typename_field, rw (e, object_is_composite (type_named s T) o) refl, typename_is)
    | inr (h, e) ↦ (h, rw e refl, typename_string T x q h (subst (λ z. field_in (fields_of z) typename ≡ Some h) (type_of_entry s T x q) e))
  ]

  -- a field of T that keeps the field g of another type
  abbrev Keeps : Name → Name → FieldDeclaration → Type 0
  Keeps T f g = (h : FieldDeclaration) × (field_of s T f ≡ Some h) × IsTrue (is_subtype s h.of_type g.of_type) × KeepsArguments g.arguments h.arguments

  keeps_typename : (T n f : Name) (x : Entry) (g : FieldDeclaration) → is_object (type_named s T) ≡ true → entry_in s.entries T ≡ Some x →
      is_object (type_named s n) ≡ false →
      field_in (meta_fields s n) f ≡ Some g → Keeps T f g
  keeps_typename T n f x g o q i e =
      let m = meta_typename n f g i e in let h = has_typename T x o q in (
        h.0,
        subst (λ z. field_of s T z ≡ Some h.0) (sym m.0) h.1,
        subst (λ z. IsTrue (is_subtype s h.0.of_type z)) (h.2.is_string ∙ sym m.1.is_string) (subtype_refl s h.0.of_type),
        subst (λ z. KeepsArguments z h.0.arguments) (h.2.takes_nothing ∙ sym m.1.takes_nothing) (arguments_refl h.0.arguments),
      )

  keeps_by : (T f : Name) (g : FieldDeclaration) (x : Entry) → entry_in s.entries T ≡ Some x → (o : Option FieldDeclaration) →
      field_in (fields_of (Some x.shape)) f ≡ o →
      implements_field s o g ≡ true → Keeps T f g
  unfolding implements_field
  keeps_by T f g x q None w i = absurd (both_ways false refl i)
  keeps_by T f g x q (Some h) w i =
      let a = and_parts (is_subtype s h.of_type g.of_type) _ i in
      let b = and_parts (list_all (takes_argument h.arguments) g.arguments) _ a.1 in
      (h, declared_field s T f (Some x.shape) h (type_of_entry s T x q) w, a.0, arguments-kept g.arguments h.arguments b.0 b.1)

  -- a declared field of an interface
  keeps_declared : (T n f : Name) (g : FieldDeclaration) → Implementing s T n → field_in (fields_of (type_named s n)) f ≡ Some g → Keeps T f g
  unfolding implements shape_fields
  keeps_declared T n f g m e =
      let p = and_parts (is_interface (entry_named s n)) _ m.meets in
      let q = and_parts _ _ p.1 in
      let r = and_parts _ (list_all (λ g. implements_field s (field_in (fields_of (Some m.entry.shape)) g.name) g) (fields_of (entry_named s n))) q.1 in
      let a = field_all (λ g. implements_field s (field_in (fields_of (Some m.entry.shape)) g.name) g) (fields_of (entry_named s n)) f g r.1
      (subst (λ z. field_in (fields_of z) f ≡ Some g) (interface_entry s n p.0) e) in
      keeps_by T f g m.entry m.entry_is (field_in (fields_of (Some m.entry.shape)) f) refl
      (subst (λ z. implements_field s (field_in (fields_of (Some m.entry.shape)) z) g ≡ true) (sym a.1) a.0)

  fields-kept : (T n f : Name) (g : FieldDeclaration) → IsTrue (is_possible s T n) → field_of s n f ≡ Some g → Keeps T f g
  unfolding field_of
  fields-kept T n f g p e = let c = possible_cases s T n p in elim c.1 [
    | inl w ↦ (g, subst (λ z. field_of s z f ≡ Some g) (sym w) e, subtype_refl s g.of_type, arguments_refl g.arguments)
    | inr (inl i) ↦ let m = implementing s k.met T n i in elim (or_else_parts (field_in (fields_of (type_named s n)) f) (field_in (meta_fields s n) f) g e) [
      | inl d ↦ keeps_declared T n f g m d
      | inr d ↦ keeps_typename T n f m.entry g c.0 m.entry_is (no_object n (lists_interface s k.met T n i)) d
    ]
    | inr (inr i) ↦ let u = with_members (type_named s n) T i in let x = object_entry s T (member_is_object T n i) in
        elim (or_else_parts (field_in (fields_of (type_named s n)) f) (field_in (meta_fields s n) f) g e) [
          | inl d ↦ absurd (nowhere f g (subst (λ z. field_in z f ≡ Some g) u.no_fields d))
          | inr d ↦ keeps_typename T n f x.0 g c.0 x.1 u.no_object d
        ]
  ]
    where
      no_object : (n : Name) → is_interface (entry_named s n) ≡ true → is_object (type_named s n) ≡ false
      no_object n i = subst (λ z. is_object z ≡ false) (sym (interface_entry s n i)) (interface_no_object (entry_named s n) i)

-- ## The laws

pub objects_stand_alone : ObjectsStandAlone
objects_stand_alone s e T n p o = alone s (kept s e).met T n p o

pub fields_are_kept : FieldsAreKept
fields_are_kept s e T n f g p h = fields-kept s (kept s e) T n f g p h

pub objects_are_kept : ObjectsAreKept
objects_are_kept s e T a b p h = objects-kept s (kept s e) T a b p h

pub schemas_keep_types : {N : Type 0} → SchemasKeepTypes N
unfolding world_of declared_type
schemas_keep_types s e vars concrete answer = record {
  alone = λ U n p o. objects_stand_alone s e U n p o;
  alike = λ U h i q a. rw q (same_arguments_seen (declared_arguments (field_of s U i.name.item)) vars (written h.arguments)
      (written i.arguments) a.first_differ a.second_differ a.same);
  narrower = λ U n f V p d v. narrow U n f V p v (options (field_of s n f)) d;
}
  where
    narrow : (U n f V : Name) → IsTrue (is_possible s U n) → IsTrue (is_possible s V (innermost (declared_type (field_of s U f)))) →
        (field_of s n f ≡ None) ⊎ ((g : FieldDeclaration) × (field_of s n f ≡ Some g)) → IsTrue (is_some (field_of s n f)) →
        IsTrue (is_possible s V (innermost (declared_type (field_of s n f))))
    narrow U n f V p v (inl q) d = absurd (both_ways false refl (rw q at d))
    narrow U n f V p v (inr (g, q)) d =
        let h = fields_are_kept s e U n f g p q in
        rw q (objects_are_kept s e V (innermost h.0.of_type) (innermost g.of_type) (rw h.1 at v) (subtype_inside s h.0.of_type g.of_type h.2))

pub schemas_merge : {N : Type 0} → SchemasMerge N
unfolding world_of
schemas_merge s e vars concrete answer passes fragments n set m =
    written_merges (world_of s vars concrete answer) (names_object s) (declares_field s) (schemas_keep_types s e vars concrete answer) passes fragments n set m
