-- What is asked of an executable schema does not depend on the order of its entries.
use Rattle.std.specs.Prelude.{◌≡◌, Bool, true, false, not, ◌&&◌, ◌||◌, codes, map, List, [], ◌∷◌, Option, Some, None}
use Rattle.std.specs.List.{list_all, list_any}
use Rattle.std.specs.Str.{bytes_eq}
use Rattle.std.proofs.lemmas.Bool.{cases_Bool, both_ways, and_parts}
use Rattle.std.proofs.lemmas.Option.{none-some}
use Rattle.std.proofs.Common.{refl, sym, ap, ap₂, ◌∙◌, inl, inr, subst}
use Rattle.graphql_spec.specs.Shown.{Name}
use Rattle.graphql_spec.specs.Types.{TypeRef, named, list_of, innermost}
use Rattle.graphql_spec.specs.Inputs.{Input, null, scalar, enumerated, variable, list, object, InputItems, no_items, item, InputFields, no_fields, input_field}
use Rattle.graphql_spec.specs.Inputs.{is_const, count_items}
use Rattle.graphql_spec.specs.Schema.{Schema, Entry, Shape, FieldDeclaration, InputDeclaration}
use Rattle.graphql_spec.specs.Fields.{entry_in, shape_of, or_else, entry_named, type_named, is_object, is_leaf, is_composite, is_input, interfaces_of}
use Rattle.graphql_spec.specs.Fields.{is_named_subtype, is_subtype, declaration_in, field_in}
use Rattle.graphql_spec.specs.Fits.{size_met, through, scalar_fits, enum_fits, input_object_fits, all_written, fits_declared, has_field, fits, all_fit}
use Rattle.graphql_spec.specs.Fits.{fields_fit}
use Rattle.graphql_spec.specs.BuiltIns.{introspection_types}
use Rattle.graphql_spec.specs.Executable.{names_differ, shape_fields, input_fields_of, entry_is_named, entries_are_named, mutation_is_apart, roots_are_objects}
use Rattle.graphql_spec.specs.Executable.{ends_in_output, ends_in_input, field_is_known, types_are_known, entry_names_differ, all_names_differ}
use Rattle.graphql_spec.specs.Executable.{implements_field, implements, interfaces_are_met, default_is_right, defaults_fit, built_ins_are_right, is_executable}
use Rattle.graphql_spec.specs.Executable.{IsSameSchema, OrderIsOpen}
use Rattle.graphql_spec.proofs.Keeping.{entry_all}
use Rattle.graphql_spec.proofs.Lists.{same_true, same_refl}

-- ## Entries in another order

-- what holds of all entries holds of one that is found
-- an entry that is found has the key
found_key : (es : List Entry) (n : Name) (e : Entry) → entry_in es n ≡ Some e → list_any (bytes_eq n) (map (λ x. x.key) es) ≡ true
unfolding entry_in
found_key [] n e is = absurd (none-some e is)
found_key (x ∷ es) n e is = elim (cases_Bool (bytes_eq n x.key)) [
  | inl y ↦ rw y refl
  | inr y ↦ rw y (found_key es n e (rw y at is))
]

not_parts : (a b : Bool) → (not a && b) ≡ true → (a ≡ false) × (b ≡ true)
not_parts true b e = absurd (both_ways false refl e)
not_parts false b e = (refl, e)

-- what is found behind an entry of another key is found with it in front
found_behind : (d : Entry) (ds : List Entry) (n : Name) (e : Entry) → list_any (bytes_eq d.key) (map (λ x. x.key) ds) ≡ false → entry_in ds n ≡ Some e →
    entry_in (d ∷ ds) n ≡ Some e
unfolding entry_in
found_behind d ds n e apart is = elim (cases_Bool (bytes_eq n d.key)) [
  | inl y ↦ absurd (both_ways (list_any (bytes_eq d.key) (map (λ x. x.key) ds)) apart
      (subst (λ k. list_any (bytes_eq k) (map (λ x. x.key) ds) ≡ true) (same_true n d.key y) (found_key ds n e is)))
  | inr y ↦ rw y is
]

found_in_front : (d : Entry) (ds : List Entry) → entry_in (d ∷ ds) d.key ≡ Some d
unfolding entry_in
found_in_front d ds = rw (same_refl d.key) refl

-- what holds of each entry that is found holds of all, where their keys differ
all_found : (P : Entry → Bool) (ds : List Entry) → names_differ (map (λ x. x.key) ds) ≡ true → ((n : Name) (e : Entry) → entry_in ds n ≡ Some e → P e ≡ true) →
    list_all P ds ≡ true
unfolding names_differ
all_found P [] differ h = refl
all_found P (d ∷ ds) differ h =
    let both = not_parts (list_any (bytes_eq d.key) (map (λ x. x.key) ds)) (names_differ (map (λ x. x.key) ds)) differ in
    rw (h d.key d (found_in_front d ds)) (all_found P ds both.1 (λ n e is. h n e (found_behind d ds n e both.0 is)))

-- so what holds of all entries holds of the same in another order
all_moved : (P : Entry → Bool) (es ds : List Entry) → names_differ (map (λ x. x.key) ds) ≡ true → ((n : Name) → entry_in es n ≡ entry_in ds n) →
    list_all P es ≡ true → list_all P ds ≡ true
all_moved P es ds differ same all = all_found P ds differ (λ n e is. entry_all P es n e all (same n ∙ is))

-- ## What is looked up

abbrev option_test : {A : Type 0} → (A → Bool) → Option A → Bool
option_test test o = elim o [ None ↦ true | Some v ↦ test v ]

module _ (s z : Schema) (same : (n : Name) → entry_in s.entries n ≡ entry_in z.entries n) where
  entry_same : (n : Name) → entry_named s n ≡ entry_named z n
  unfolding entry_named
  entry_same n = ap shape_of (same n)

  type_same : (n : Name) → type_named s n ≡ type_named z n
  unfolding type_named
  type_same n = ap (λ o. shape_of (or_else o (entry_in introspection_types n))) (same n)

  mutual
    unfolding fits all_fit fields_fit

    fits_same : (v : Input) (t : TypeRef) → fits s false v t ≡ fits z false v t
    fits_same null t = refl
    fits_same (scalar x) t = ap (λ f. through f t) (λ i n. (ap (scalar_fits false x) (type_same n)) i)
    fits_same (enumerated e) t = ap (λ f. through f t) (λ i n. (ap (enum_fits e) (type_same n)) i)
    fits_same (variable x) t = refl
    fits_same (list is) (named r n) = refl
    fits_same (list is) (list_of r size t) = ap (λ b. size_met size (count_items is) && b) (all_fit_same is t)
    fits_same (object fs) t = ap (λ f. through f t) (λ i n. (ap₂ (λ (f : List InputDeclaration → Bool) x. input_object_fits (λ ds. all_written fs ds && f ds) x)
        (λ j ds. (fields_fit_same fs ds) j) (type_same n)) i)

    all_fit_same : (is : InputItems) (t : TypeRef) → all_fit s false is t ≡ all_fit z false is t
    all_fit_same no_items t = refl
    all_fit_same (item v at rest) t = ap₂ (λ a b. a && b) (fits_same v t) (all_fit_same rest t)

    fields_fit_same : (fs : InputFields) (ds : List InputDeclaration) → fields_fit s false fs ds ≡ fields_fit z false fs ds
    fields_fit_same no_fields ds = refl
    fields_fit_same (input_field k k_at v v_at rest) ds = ap₂ (λ (f : TypeRef → Bool) b. (not (has_field k rest) && fits_declared f (declaration_in ds k)) && b)
        (λ i t. (fits_same v t) i) (fields_fit_same rest ds)

  subtype_same : (t u : TypeRef) → is_subtype s t u ≡ is_subtype z t u
  unfolding is_subtype is_named_subtype
  subtype_same (named r a) (named q b) = rw (type_same a, type_same b) refl
  subtype_same (named r a) (list_of q size u) = refl
  subtype_same (list_of r size t) (named q b) = refl
  subtype_same (list_of r size t) (list_of q size' u) = ap (λ b. (not q || r) && b) (subtype_same t u)

  input_same : (d : InputDeclaration) → ends_in_input s d ≡ ends_in_input z d
  unfolding ends_in_input
  input_same d = ap is_input (entry_same (innermost d.of_type))

  known_same : (f : FieldDeclaration) → field_is_known s f ≡ field_is_known z f
  unfolding field_is_known ends_in_output
  known_same f = rw (entry_same (innermost f.of_type)) (ap (λ p. (is_leaf (entry_named z (innermost f.of_type))
      || is_composite (entry_named z (innermost f.of_type))) && list_all p f.arguments) (λ i d. (input_same d) i))

  -- a name of an object
  names_object : Schema → Name → Bool
  names_object r m = is_object (entry_named r m)

  members_same : names_object s ≡ names_object z
  unfolding names_object
  members_same = λ i m. (ap is_object (entry_same m)) i

  differ_same : (x : Shape) → entry_names_differ s x ≡ entry_names_differ z x
  unfolding entry_names_differ names_object
  differ_same x = rw members_same refl

  implements_field_same : (o : Option FieldDeclaration) (g : FieldDeclaration) → implements_field s o g ≡ implements_field z o g
  unfolding implements_field
  implements_field_same None g = refl
  implements_field_same (Some f) g = rw (subtype_same f.of_type g.of_type) refl

  implements_same : (k : Name) (x : Shape) (i : Name) → implements s k x i ≡ implements z k x i
  unfolding implements
  implements_same k x i =
      let own : FieldDeclaration → Bool = λ g. implements_field s (field_in (shape_fields x) g.name) g in
      let other : FieldDeclaration → Bool = λ g. implements_field z (field_in (shape_fields x) g.name) g in
      let fields : own ≡ other = λ j g. (implements_field_same (field_in (shape_fields x) g.name) g) j in
      rw (entry_same i, fields) refl

  default_same : (d : InputDeclaration) → default_is_right s d ≡ default_is_right z d
  unfolding default_is_right
  default_same d = ap (λ (f : Input → Bool). option_test (λ v. is_const v && f v) d.default) (λ i v. (fits_same v d.of_type) i)

-- ## Executable schemas

module _ (s z : Schema) (is : IsSameSchema s z) (differ : names_differ (map (λ e. e.key) z.entries) ≡ true) where
  moved : (P Q : Entry → Bool) → ((e : Entry) → P e ≡ Q e) → list_all P s.entries ≡ true → list_all Q z.entries ≡ true
  moved P Q same all = all_moved Q s.entries z.entries differ is.entries (sym (ap (λ f. list_all f s.entries) (λ i e. (same e) i)) ∙ all)

  named_moves : entries_are_named s ≡ true → entries_are_named z ≡ true
  unfolding entries_are_named
  named_moves e = moved entry_is_named entry_is_named (λ x. refl) e

  apart_same : (o : Option Name) → mutation_is_apart s o ≡ mutation_is_apart z o
  unfolding mutation_is_apart
  apart_same None = refl
  apart_same (Some m) = rw (entry_same s z is.entries m, is.query) refl

  roots_same : roots_are_objects s ≡ roots_are_objects z
  unfolding roots_are_objects
  roots_same = ap₂ (λ a b. is_object a && b) (entry_same s z is.entries s.query ∙ ap (entry_named z) is.query)
      (apart_same s.mutation ∙ ap (mutation_is_apart z) is.mutation)

  known_moves : types_are_known s ≡ true → types_are_known z ≡ true
  unfolding types_are_known
  known_moves e = moved _ _ (λ x. ap₂ (λ f g. list_all f (shape_fields x.shape) && list_all g (input_fields_of x.shape))
      (λ i f. (known_same s z is.entries f) i) (λ i d. (input_same s z is.entries d) i)) e

  differ_moves : all_names_differ s ≡ true → all_names_differ z ≡ true
  unfolding all_names_differ
  differ_moves e = moved _ _ (λ x. differ_same s z is.entries x.shape) e

  interfaces_move : interfaces_are_met s ≡ true → interfaces_are_met z ≡ true
  unfolding interfaces_are_met
  interfaces_move e = moved _ _ (λ x. ap (λ f. list_all f (interfaces_of (Some x.shape))) (λ i n. (implements_same s z is.entries x.key x.shape n) i)) e

  defaults_move : defaults_fit s ≡ true → defaults_fit z ≡ true
  unfolding defaults_fit
  defaults_move e = moved _ _ (λ x. ap (λ p. list_all (λ f. list_all p f.arguments) (shape_fields x.shape) && list_all p (input_fields_of x.shape))
      (λ i d. (default_same s z is.entries d) i)) e

  built_ins_same : built_ins_are_right s ≡ built_ins_are_right z
  unfolding built_ins_are_right
  built_ins_same = let same = entry_same s z is.entries in rw (same (codes "String"), same (codes "Boolean"), same (codes "Int"), same (codes "ID")) refl

  both : (a b : Bool) → a ≡ true → b ≡ true → (a && b) ≡ true
  both a b e f = rw (e, f) refl

  executable_moves : is_executable s ≡ true → is_executable z ≡ true
  unfolding is_executable
  executable_moves e =
      let a = and_parts (entries_are_named s) _ e in
      let b = and_parts (roots_are_objects s) _ a.1 in
      let c = and_parts (types_are_known s) _ b.1 in
      let d = and_parts (all_names_differ s) _ c.1 in
      let i = and_parts (interfaces_are_met s) _ d.1 in
      let f = and_parts (defaults_fit s) _ i.1 in
      both (entries_are_named z) _ (named_moves a.0) (both (roots_are_objects z) _ (sym roots_same ∙ b.0)
      (both (types_are_known z) _ (known_moves c.0) (both (all_names_differ z) _ (differ_moves d.0)
      (both (interfaces_are_met z) _ (interfaces_move i.0) (both (defaults_fit z) _ (defaults_move f.0) (sym built_ins_same ∙ f.1))))))

pub order_is_open : OrderIsOpen
order_is_open s z is differ e = executable_moves s z is differ e
