-- What is known in a schema that can be executed.
use Rattle.std.proofs.Common.{◌≡◌, ◌&&◌, ℕ, Bool, true, false, not, codes, map, List, [], ◌∷◌, Option, Some, None, IsTrue, refl, sym, ap, ◌∙◌, inl, inr, subst}
use Rattle.std.proofs.lemmas.Bool.{cases_Bool, both_ways, and_parts, and_from, or_cases, not-true}
use Rattle.std.specs.List.{list_all, list_any, filter}
use Rattle.std.specs.Option.{is_some}
use Rattle.std.specs.Str.{bytes_eq}
use Rattle.graphql_spec.specs.Shown.{Name, same_bool, text, boolean}
use Rattle.graphql_spec.specs.Types.{TypeRef, innermost}
use Rattle.graphql_spec.specs.Schema.{ScalarKinds, InputDeclaration, FieldDeclaration, Shape, scalar_type, enum_type, object_type, interface_type, union_type}
use Rattle.graphql_spec.specs.Schema.{input_object_type, list_type, nullable_type, placeholder, Entry, Schema, plain_field, plain_input}
use Rattle.graphql_spec.specs.BuiltIns.{maybe, must, maybe_all, must_all, object_entry, enum_entry, field_without, include_deprecated, old_flag, schema_type}
use Rattle.graphql_spec.specs.BuiltIns.{type_type, field_type, input_value_type, enum_value_type, directive_type, type_kind_type, location_type}
use Rattle.graphql_spec.specs.BuiltIns.{introspection_types}
use Rattle.graphql_spec.specs.Fields.{entry_in, shape_of, or_else, entry_named, type_named, is_object, is_interface, is_composite, is_leaf, is_input}
use Rattle.graphql_spec.specs.Fields.{interfaces_of, members_of, fields_of, accepts, leaf_accepts, accepts_kind}
use Rattle.graphql_spec.specs.Executable.{values_of, input_fields_of, names_differ, input_names_differ, is_value_name, shape_fields, is_filled, is_reserved}
use Rattle.graphql_spec.specs.Executable.{entry_is_named, entries_are_named, mutation_is_apart, roots_are_objects, ends_in_output, ends_in_input}
use Rattle.graphql_spec.specs.Executable.{field_is_known, types_are_known, entry_names_differ, all_names_differ, implements, interfaces_are_met, defaults_fit}
use Rattle.graphql_spec.specs.Executable.{accepts_just, scalar_if_there, built_ins_are_right, is_executable}
use Rattle.graphql_spec.specs.Executable as ex
use Rattle.graphql_spec.specs.Laws.{In}
use Rattle.graphql_spec.proofs.Lists.{same_true, same_refl}
use Rattle.graphql_spec.proofs.Keeping.{entry_all, options, any_in, introspection_lists_none, introspection_joins_none}
use Rattle.graphql_spec.specs.Introspected.{declaration_of, declared_kind}
use Rattle.graphql_spec.specs.IntrospectionLaws.{knows, knows_input, knows_field}

-- ## Lists

pub all-in : {A : Type 0} (P : A → Bool) (xs : List A) (x : A) → list_all P xs ≡ true → In x xs → P x ≡ true
all-in P [] x a i = absurd i
all-in P (y ∷ xs) x a (inl e) = subst (λ z. P z ≡ true) (sym e) (and_parts (P y) (list_all P xs) a).0
all-in P (y ∷ xs) x a (inr i) = all-in P xs x (and_parts (P y) (list_all P xs) a).1 i

pub all-from : {A : Type 0} (P : A → Bool) (xs : List A) → ((x : A) → In x xs → P x ≡ true) → list_all P xs ≡ true
all-from P [] f = refl
all-from P (x ∷ xs) f = and_from (P x) (list_all P xs) (f x (inl refl)) (all-from P xs (λ y i. f y (inr i)))

pub all-more : {A : Type 0} (P Q : A → Bool) (xs : List A) → ((x : A) → P x ≡ true → Q x ≡ true) → list_all P xs ≡ true → list_all Q xs ≡ true
all-more P Q xs f a = all-from Q xs (λ x i. f x (all-in P xs x a i))

pub in-filter : {A : Type 0} (P : A → Bool) (xs : List A) (x : A) → In x (filter P xs) → In x xs
in-filter P [] x i = absurd i
in-filter P (y ∷ xs) x i = elim (cases_Bool (P y)) [
  | inl e ↦ elim (rw e at i) [ inl q ↦ inl q | inr j ↦ inr (in-filter P xs x j) ]
  | inr e ↦ inr (in-filter P xs x (rw e at i))
]

-- ## The clauses that are needed

pub record Executable (s : Schema) : Type 0 where
  pub are_named : entries_are_named s ≡ true
  pub has_roots : roots_are_objects s ≡ true
  pub are_known : types_are_known s ≡ true
  pub all_differ : all_names_differ s ≡ true
  pub met : interfaces_are_met s ≡ true
  pub built_in : built_ins_are_right s ≡ true

pub executable : (s : Schema) → IsTrue (is_executable s) → Executable s
unfolding is_executable
executable s e =
    let a = and_parts (entries_are_named s) _ e in
    let b = and_parts (roots_are_objects s) _ a.1 in
    let c = and_parts (types_are_known s) _ b.1 in
    let d = and_parts (all_names_differ s) _ c.1 in
    let i = and_parts (interfaces_are_met s) _ d.1 in
    let j = and_parts (defaults_fit s) _ i.1 in record { are_named = a.0; has_roots = b.0; are_known = c.0; all_differ = d.0; met = i.0; built_in = j.1 }

-- an entry that is found stands at its key
entry-key : (es : List Entry) (n : Name) (e : Entry) → entry_in es n ≡ Some e → n ≡ e.key
unfolding entry_in
entry-key [] n e h = cc
entry-key (x ∷ es) n e h = elim (cases_Bool (bytes_eq n x.key)) [
  | inl q ↦ let z = rw q at h in let w : x ≡ e = cc in same_true n x.key q ∙ ap (λ y. y.key) w
  | inr q ↦ entry-key es n e (rw q at h)
]

-- an entry of the list is found, or one before it of its key
entry-found : (es : List Entry) (e : Entry) → In e es → (x : Entry) × (entry_in es e.key ≡ Some x)
unfolding entry_in
entry-found [] e i = absurd i
entry-found (x ∷ es) e i = elim (cases_Bool (bytes_eq e.key x.key)) [
  | inl q ↦ (x, rw q refl)
  | inr q ↦ elim i [
    | inl w ↦ absurd (both_ways (bytes_eq e.key x.key) q (subst (λ z. bytes_eq e.key z.key ≡ true) w (same_refl e.key)))
    | inr j ↦ let r = entry-found es e j in (r.0, rw q r.1)
  ]
]

kind-filled : (x : Shape) → is_filled x ≡ true → is_some (declared_kind (Some x)) ≡ true
unfolding is_filled declared_kind
kind-filled (scalar_type k u) e = refl
kind-filled (enum_type vs) e = refl
kind-filled (object_type fs is) e = refl
kind-filled (interface_type fs is) e = refl
kind-filled (union_type ms) e = refl
kind-filled (input_object_type ds) e = refl
kind-filled (list_type n t) e = absurd (both_ways false refl e)
kind-filled (nullable_type t) e = absurd (both_ways false refl e)
kind-filled placeholder e = absurd (both_ways false refl e)

none-leaf : is_leaf None ≡ false
unfolding is_leaf
none-leaf = refl

leaf-scalar : (o : Option Shape) (k : ScalarKinds) (u : Option (List ℕ)) → o ≡ Some (scalar_type k u) → is_leaf o ≡ true
unfolding is_leaf
leaf-scalar o k u e = rw e refl

-- the fields of an input object
unfoldable pub inputs_of : Option Shape → List InputDeclaration
inputs_of None = []
inputs_of (Some y) = input_fields_of y

no_inputs : List InputDeclaration → Bool
no_inputs [] = true
no_inputs (d ∷ ds) = false

none-passes : (P : InputDeclaration → Bool) (ds : List InputDeclaration) → no_inputs ds ≡ true → list_all P ds ≡ true
unfolding no_inputs
none-passes P [] e = refl
none-passes P (d ∷ ds) e = absurd (both_ways false refl e)

module _ (s : Schema) (x : Executable s) where
  -- an entry is of some kind, and its name is not reserved
  entry-named : (n : Name) (e : Entry) → entry_in s.entries n ≡ Some e → (is_filled e.shape ≡ true) × (is_reserved e.key ≡ false)
  unfolding entries_are_named entry_is_named
  entry-named n e h =
      let a = and_parts (is_filled e.shape) _ (entry_all entry_is_named s.entries n e x.are_named h) in
      let b = and_parts (ex.is_own_name e.key e.name) _ a.1 in
      let c = and_parts (Rattle.graphql_spec.specs.Tokens.is_name e.key) _ b.1 in
      let d = and_parts (not (is_reserved e.key)) _ c.1 in (a.0, not-true (is_reserved e.key) d.0)

  pub entry-known : (n : Name) (e : Entry) → entry_in s.entries n ≡ Some e → knows s n ≡ true
  unfolding knows declaration_of or_else shape_of
  entry-known n e h = rw h (kind-filled e.shape (entry-named n e h).0)

  -- a reserved name is no entry's
  pub reserved-free : (n : Name) → is_reserved n ≡ true → entry_in s.entries n ≡ None
  reserved-free n r = elim (options (entry_in s.entries n)) [
    | inl q ↦ q
    | inr (e, q) ↦ absurd (both_ways (is_reserved n) (subst (λ z. is_reserved z ≡ false) (sym (entry-key s.entries n e q)) (entry-named n e q).1) r)
  ]

  -- what passes a test as an entry is known
  test-known : (P : Option Shape → Bool) (n : Name) → P None ≡ false → P (entry_named s n) ≡ true → knows s n ≡ true
  unfolding entry_named shape_of
  test-known P n none p = elim (options (entry_in s.entries n)) [ inl q ↦ absurd (both_ways (P None) none (rw q at p)) | inr (e, q) ↦ entry-known n e q ]

  pub in-entries : (e : Entry) → In e s.entries → knows s e.key ≡ true
  in-entries e i = let r = entry-found s.entries e i in entry-known e.key r.0 r.1

  pub query-known : knows s s.query ≡ true
  unfolding roots_are_objects is_object
  query-known = test-known is_object s.query refl (and_parts (is_object (entry_named s s.query)) _ x.has_roots).0

  pub object-known : (n : Name) → is_object (entry_named s n) ≡ true → knows s n ≡ true
  unfolding is_object
  object-known n e = test-known is_object n refl e

  pub interface-known : (n : Name) → is_interface (entry_named s n) ≡ true → knows s n ≡ true
  unfolding is_interface
  interface-known n e = test-known is_interface n refl e

  pub mutation-known : (m : Name) → s.mutation ≡ Some m → knows s m ≡ true
  unfolding roots_are_objects mutation_is_apart
  mutation-known m e = let a = and_parts (is_object (entry_named s s.query)) _ x.has_roots in
      object-known m (and_parts (is_object (entry_named s m)) (not (bytes_eq m s.query)) (subst (λ z. mutation_is_apart s z ≡ true) e a.1)).0

  input-known : (d : InputDeclaration) → ends_in_input s d ≡ true → knows_input s d ≡ true
  unfolding ends_in_input knows_input is_input
  input-known d e = test-known is_input (innermost d.of_type) refl e

  output-known : (t : TypeRef) → ends_in_output s t ≡ true → knows s (innermost t) ≡ true
  unfolding ends_in_output is_leaf is_composite
  output-known t e = elim (or_cases (is_leaf (entry_named s (innermost t))) _ e)
      [ inl a ↦ test-known is_leaf (innermost t) refl a | inr a ↦ test-known is_composite (innermost t) refl a ]

  field-known : (f : FieldDeclaration) → field_is_known s f ≡ true → knows_field s f ≡ true
  unfolding field_is_known knows_field
  field-known f e = let a = and_parts (ends_in_output s f.of_type) _ e in
      and_from (knows s (innermost f.of_type)) _ (output-known f.of_type a.0) (all-more (ends_in_input s) (knows_input s) f.arguments input-known a.1)

  -- ## The types of introspection

  -- the names that they speak of
  spoken : List Name
  spoken = codes "String" ∷ codes "Boolean" ∷ codes "__Schema" ∷ codes "__Type" ∷ codes "__Field" ∷ codes "__InputValue" ∷ codes "__EnumValue"
      ∷ codes "__Directive" ∷ codes "__TypeKind" ∷ codes "__DirectiveLocation" ∷ []

  -- a scalar that takes texts or booleans
  scalar-of : (i t b : Bool) (o : Option Shape) → accepts_just i t b o ≡ true →
      (k : ScalarKinds) × (u : Option (List ℕ)) × (o ≡ Some (scalar_type k u)) × (same_bool t k.text ≡ true) × (same_bool b k.boolean ≡ true)
  unfolding accepts_just
  scalar-of i t b (Some (scalar_type k u)) e =
      let p = and_parts (same_bool i k.int) _ e in
      let q = and_parts (same_bool t k.text) (same_bool b k.boolean) p.1 in (k, u, refl, q.0, q.1)
  scalar-of i t b None e = absurd (both_ways false refl e)
  scalar-of i t b (Some (enum_type vs)) e = absurd (both_ways false refl e)
  scalar-of i t b (Some (object_type fs is)) e = absurd (both_ways false refl e)
  scalar-of i t b (Some (interface_type fs is)) e = absurd (both_ways false refl e)
  scalar-of i t b (Some (union_type ms)) e = absurd (both_ways false refl e)
  scalar-of i t b (Some (input_object_type ds)) e = absurd (both_ways false refl e)
  scalar-of i t b (Some (list_type n w)) e = absurd (both_ways false refl e)
  scalar-of i t b (Some (nullable_type w)) e = absurd (both_ways false refl e)
  scalar-of i t b (Some placeholder) e = absurd (both_ways false refl e)

  pub string-is : (k : ScalarKinds) × (u : Option (List ℕ)) × (entry_named s (codes "String") ≡ Some (scalar_type k u)) × (k.text ≡ true)
  unfolding built_ins_are_right same_bool
  string-is =
      let a = and_parts (accepts_just false true false (entry_named s (codes "String"))) _ x.built_in in
      let r = scalar-of false true false (entry_named s (codes "String")) a.0 in (r.0, r.1, r.2, r.3)

  pub boolean-is : (k : ScalarKinds) × (u : Option (List ℕ)) × (entry_named s (codes "Boolean") ≡ Some (scalar_type k u)) × (k.boolean ≡ true)
  unfolding built_ins_are_right same_bool
  boolean-is =
      let a = and_parts (accepts_just false true false (entry_named s (codes "String"))) _ x.built_in in
      let b = and_parts (accepts_just false false true (entry_named s (codes "Boolean"))) _ a.1 in
      let r = scalar-of false false true (entry_named s (codes "Boolean")) b.0 in (r.0, r.1, r.2, r.4)

  -- what is declared as an entry is the type of its name
  entry-type : (n : Name) (y : Shape) → entry_named s n ≡ Some y → type_named s n ≡ Some y
  unfolding entry_named type_named shape_of or_else
  entry-type n y e = elim (options (entry_in s.entries n)) [ inl q ↦ absurd (cc (rw q at e)) | inr (z, q) ↦ rw q (rw q at e) ]

  pub texts-fit : (t : List ℕ) → accepts s (codes "String") (text t) ≡ true
  unfolding accepts leaf_accepts accepts_kind
  texts-fit t = let r = string-is in rw (entry-type (codes "String") (scalar_type r.0 r.1) r.2) (r.3)

  pub booleans-fit : (b : Bool) → accepts s (codes "Boolean") (boolean b) ≡ true
  unfolding accepts leaf_accepts accepts_kind
  booleans-fit b = let r = boolean-is in rw (entry-type (codes "Boolean") (scalar_type r.0 r.1) r.2) (r.3)

  pub string-known : knows s (codes "String") ≡ true
  string-known = let r = string-is in test-known is_leaf (codes "String") none-leaf (leaf-scalar (entry_named s (codes "String")) r.0 r.1 r.2)

  pub boolean-known : knows s (codes "Boolean") ≡ true
  boolean-known = let r = boolean-is in test-known is_leaf (codes "Boolean") none-leaf (leaf-scalar (entry_named s (codes "Boolean")) r.0 r.1 r.2)

  -- the type of a reserved name is that of introspection
  pub reserved-type : (n : Name) → is_reserved n ≡ true → type_named s n ≡ shape_of (entry_in introspection_types n)
  unfolding type_named or_else
  reserved-type n r = rw (reserved-free n r) refl

  reserved-known : (n : Name) → is_reserved n ≡ true → is_some (declared_kind (shape_of (entry_in introspection_types n))) ≡ true → knows s n ≡ true
  unfolding knows declaration_of or_else
  reserved-known n r e = rw (reserved-free n r) e

  spoken-known : list_all (knows s) spoken ≡ true
  unfolding spoken is_reserved declared_kind shape_of entry_in introspection_types schema_type type_type field_type input_value_type enum_value_type
      directive_type type_kind_type location_type object_entry enum_entry
  spoken-known = and_from (knows s (codes "String")) _ string-known (and_from (knows s (codes "Boolean")) _ boolean-known
      (and_from (knows s (codes "__Schema")) _ (reserved-known (codes "__Schema") refl refl)
      (and_from (knows s (codes "__Type")) _ (reserved-known (codes "__Type") refl refl)
      (and_from (knows s (codes "__Field")) _ (reserved-known (codes "__Field") refl refl)
      (and_from (knows s (codes "__InputValue")) _ (reserved-known (codes "__InputValue") refl refl)
      (and_from (knows s (codes "__EnumValue")) _ (reserved-known (codes "__EnumValue") refl refl)
      (and_from (knows s (codes "__Directive")) _ (reserved-known (codes "__Directive") refl refl)
      (and_from (knows s (codes "__TypeKind")) _ (reserved-known (codes "__TypeKind") refl refl)
      (and_from (knows s (codes "__DirectiveLocation")) _ (reserved-known (codes "__DirectiveLocation") refl refl) refl)))))))))

  pub is_spoken : Name → Bool
  is_spoken n = list_any (bytes_eq n) spoken

  pub spoken-is : (n : Name) → is_spoken n ≡ true → knows s n ≡ true
  unfolding is_spoken
  spoken-is n e = any_in (knows s) n spoken e spoken-known

  -- the keys, fields and arguments of the types of introspection
  speaks_field : FieldDeclaration → Bool
  speaks_field f = is_spoken (innermost f.of_type) && list_all (λ d. is_spoken (innermost d.of_type)) f.arguments

  speaks-field : (f : FieldDeclaration) → speaks_field f ≡ true → knows_field s f ≡ true
  unfolding speaks_field knows_field knows_input
  speaks-field f e = let a = and_parts (is_spoken (innermost f.of_type)) _ e in
      and_from (knows s (innermost f.of_type)) _ (spoken-is (innermost f.of_type) a.0)
      (all-more (λ d. is_spoken (innermost d.of_type)) (knows_input s) f.arguments (λ d p. spoken-is (innermost d.of_type) p) a.1)

  introspection-keys : list_all (λ e. is_spoken e.key) introspection_types ≡ true
  unfolding is_spoken spoken introspection_types schema_type type_type field_type input_value_type enum_value_type directive_type type_kind_type location_type
      object_entry enum_entry
  introspection-keys = refl

  introspection-fields : list_all (λ e. list_all speaks_field (shape_fields e.shape)) introspection_types ≡ true
  unfolding is_spoken spoken speaks_field shape_fields fields_of innermost introspection_types schema_type type_type field_type input_value_type enum_value_type
      directive_type type_kind_type location_type object_entry enum_entry plain_field plain_input field_without old_flag include_deprecated maybe must maybe_all
      must_all
  introspection-fields = refl

  pub in-introspection : (e : Entry) → In e introspection_types → knows s e.key ≡ true
  in-introspection e i = spoken-is e.key (all-in (λ e. is_spoken e.key) introspection_types e introspection-keys i)

  -- ## What a declared type speaks of

  -- the types of fields and of their arguments, the interfaces, the members, the types of input fields
  pub record Speaks (y : Option Shape) : Type 0 where
    pub fields : list_all (knows_field s) (fields_of y) ≡ true
    pub interfaces : list_all (knows s) (interfaces_of y) ≡ true
    pub members : list_all (knows s) (members_of y) ≡ true
    pub inputs : list_all (knows_input s) (inputs_of y) ≡ true

  members-last : (y : Shape) → entry_names_differ s y ≡ true → list_all (λ m. is_object (entry_named s m)) (members_of (Some y)) ≡ true
  unfolding entry_names_differ
  members-last y e =
      let a = and_parts (names_differ (map (λ f. f.name) (shape_fields y))) _ e in
      let b = and_parts (list_all (λ f. input_names_differ f.arguments) (shape_fields y)) _ a.1 in
      let c = and_parts (input_names_differ (input_fields_of y)) _ b.1 in
      let d = and_parts (names_differ (map (λ v. v.name) (values_of y))) _ c.1 in
      let f = and_parts (list_all (λ v. is_value_name v.name) (values_of y)) _ d.1 in
      let g = and_parts (names_differ (interfaces_of (Some y))) _ f.1 in (and_parts (names_differ (members_of (Some y))) _ g.1).1

  entry-speaks : (n : Name) (e : Entry) → entry_in s.entries n ≡ Some e → Speaks (Some e.shape)
  unfolding types_are_known all_names_differ entry_names_differ interfaces_are_met implements inputs_of shape_fields
  entry-speaks n e h =
      let a = and_parts (list_all (field_is_known s) (shape_fields e.shape)) _
      (entry_all (λ z. list_all (field_is_known s) (shape_fields z.shape) && list_all (ends_in_input s) (input_fields_of z.shape)) s.entries n e x.are_known
      h) in
      let b : list_all (implements s e.key e.shape) (interfaces_of (Some e.shape))
      ≡ true = entry_all (λ z. list_all (implements s z.key z.shape) (interfaces_of (Some z.shape))) s.entries n e x.met h in record {
        fields = all-more (field_is_known s) (knows_field s) (fields_of (Some e.shape)) field-known a.0;
        interfaces = all-more (implements s e.key e.shape) (knows s) (interfaces_of (Some e.shape))
            (λ i p. interface-known i (and_parts (is_interface (entry_named s i)) _ p).0) b;
        members = all-more (λ m. is_object (entry_named s m)) (knows s) (members_of (Some e.shape)) object-known
            (members-last e.shape (entry_all (λ z. entry_names_differ s z.shape) s.entries n e x.all_differ h));
        inputs = all-more (ends_in_input s) (knows_input s) (input_fields_of e.shape) input-known a.1;
      }

  no-inputs : list_all (λ e. no_inputs (input_fields_of e.shape)) introspection_types ≡ true
  unfolding no_inputs input_fields_of introspection_types schema_type type_type field_type input_value_type enum_value_type directive_type type_kind_type
      location_type object_entry enum_entry
  no-inputs = refl

  introspection-speaks : (n : Name) (e : Entry) → entry_in introspection_types n ≡ Some e → Speaks (Some e.shape)
  unfolding inputs_of shape_fields shape_of
  introspection-speaks n e h = record {
    fields = all-more speaks_field (knows_field s) (fields_of (Some e.shape)) speaks-field
        (entry_all (λ z. list_all speaks_field (shape_fields z.shape)) introspection_types n e introspection-fields h);
    interfaces = subst (λ z. list_all (knows s) z ≡ true) (sym (subst (λ z. interfaces_of (shape_of z) ≡ []) h (introspection_lists_none n))) refl;
    members = subst (λ z. list_all (knows s) z ≡ true) (sym (subst (λ z. members_of (shape_of z) ≡ []) h (introspection_joins_none n))) refl;
    inputs = none-passes (knows_input s) (input_fields_of e.shape) (entry_all (λ z. no_inputs (input_fields_of z.shape)) introspection_types n e no-inputs h);
  }

  pub none-speaks : Speaks None
  unfolding inputs_of fields_of interfaces_of members_of
  none-speaks = record { fields = refl; interfaces = refl; members = refl; inputs = refl }

  -- what is declared at a name
  pub speaks : (n : Name) → Speaks (shape_of (declaration_of s n))
  unfolding declaration_of or_else shape_of
  speaks n = elim (options (entry_in s.entries n)) [
    | inl q ↦ elim (options (entry_in introspection_types n)) [ inl r ↦ rw (q, r) none-speaks | inr (e, r) ↦ rw (q, r) (introspection-speaks n e r) ]
    | inr (e, q) ↦ rw q (entry-speaks n e q)
  ]

  introspection-kinds : list_all (λ e. is_some (declared_kind (Some e.shape))) introspection_types ≡ true
  unfolding declared_kind introspection_types schema_type type_type field_type input_value_type enum_value_type directive_type type_kind_type location_type
      object_entry enum_entry
  introspection-kinds = refl

  -- what is declared is of some kind
  pub declared-known : (n : Name) → is_some (declaration_of s n) ≡ true → knows s n ≡ true
  unfolding knows declaration_of or_else shape_of
  declared-known n e = elim (options (entry_in s.entries n)) [
    | inl q ↦ elim (options (entry_in introspection_types n)) [
      | inl r ↦ absurd (both_ways false refl (rw (q, r) at e))
      | inr (y, r) ↦ rw (q, r) (entry_all (λ z. is_some (declared_kind (Some z.shape))) introspection_types n y introspection-kinds r)
    ]
    | inr (y, q) ↦ entry-known n y q
  ]
