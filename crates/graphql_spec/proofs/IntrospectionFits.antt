-- What nodes of introspection answer fits the declared types of their fields.
use Rattle.std.proofs.Common.{◌≡◌, ◌||◌, ◌++◌, Bool, true, false, codes, map, List, [], ◌∷◌, Option, Some, None, refl, sym, inl, inr, subst}
use Rattle.std.proofs.lemmas.Bool.{cases_Bool, both_ways, and_parts, and_from}
use Rattle.std.specs.List.{list_all, filter}
use Rattle.std.specs.Option.{is_some, option_and_then}
use Rattle.std.specs.Str.{bytes_eq}
use Rattle.graphql_spec.specs.Shown.{Text, Name, text}
use Rattle.graphql_spec.specs.Types.{TypeRef, named, list_of, innermost}
use Rattle.graphql_spec.specs.Inputs.{Input}
use Rattle.graphql_spec.specs.Constants.{Members}
use Rattle.graphql_spec.specs.Schema.{InputDeclaration, FieldDeclaration, EnumValue, DirectiveDeclaration, Shape, scalar_type, enum_type, object_type}
use Rattle.graphql_spec.specs.Schema.{interface_type, union_type, input_object_type, list_type, nullable_type, placeholder, Entry, Schema, plain_field}
use Rattle.graphql_spec.specs.Schema.{plain_input}
use Rattle.graphql_spec.specs.BuiltIns.{maybe, must, maybe_all, must_all, object_entry, value_named, enum_entry, field_without, old_flag, schema_type}
use Rattle.graphql_spec.specs.BuiltIns.{type_type, field_type, input_value_type, enum_value_type, directive_type, type_kind_type, location_type}
use Rattle.graphql_spec.specs.BuiltIns.{introspection_types, condition_arguments, selection_places, directives}
use Rattle.graphql_spec.specs.Fields.{entry_in, shape_of, type_named, is_object, fields_of, interfaces_of, members_of, is_possible, accepts, leaf_accepts}
use Rattle.graphql_spec.specs.Fields.{enum_accepts, declares_value, field_in}
use Rattle.graphql_spec.specs.Executable.{input_fields_of, is_reserved}
use Rattle.graphql_spec.specs.Display.{display}
use Rattle.graphql_spec.specs.Resolvers.{Tree, nothing, leaf, items, node, Trees, no_trees, tree}
use Rattle.graphql_spec.specs.Laws.{In}
use Rattle.graphql_spec.proofs.Lists.{same_refl}
use Rattle.graphql_spec.proofs.Grouping.{in_append}
use Rattle.graphql_spec.specs.TypeList.{has_listed_name, comes_before, put_in_order, in_order, type_list}
use Rattle.graphql_spec.specs.Introspected.{is_deprecated, reason_of, own_name, of_type, declaration_of, declared_as, declared_kind, kind_of, description_of}
use Rattle.graphql_spec.specs.Introspected.{url_of, lists_field, own_fields, listed_fields, listed_interfaces, is_implementer, implementers, possible_types}
use Rattle.graphql_spec.specs.Introspected.{lists_value, own_values, listed_values, listed_inputs}
use Rattle.graphql_spec.specs.Introspection.{Introspected, schema_node, type_node, field_node, input_node, value_node, directive_node, introspection_type, says}
use Rattle.graphql_spec.specs.Introspection.{tells, each, all_of, if_any, answer_at, a_type, type_called, an_input, includes_deprecated, schema_answers}
use Rattle.graphql_spec.specs.Introspection.{type_answers, field_answers, input_answers, value_answers, stands_on, directive_answers, answers_of, introspect}
use Rattle.graphql_spec.specs.IntrospectionLaws.{knows, knows_input, knows_field, is_location, is_node_of}
use Rattle.graphql_spec.proofs.KnownTypes.{Executable, all-in, all-from, in-filter, query-known, mutation-known, in-entries, in-introspection, texts-fit}
use Rattle.graphql_spec.proofs.KnownTypes.{booleans-fit, string-known, boolean-known, reserved-type, inputs_of, Speaks, none-speaks, speaks}

-- ## Lists in order

in-put : {A : Type 0} (before : A → A → Bool) (x y : A) (ys : List A) → In y (put_in_order before x ys) → In y (x ∷ ys)
unfolding put_in_order
in-put before x y [] i = i
in-put before x y (z ∷ ys) i = elim (cases_Bool (before z x)) [
  | inl e ↦ elim (rw e at i) [ inl q ↦ inr (inl q) | inr j ↦ elim (in-put before x y ys j) [ inl q ↦ inl q | inr k ↦ inr (inr k) ] ]
  | inr e ↦ rw e at i
]

in-order : {A : Type 0} (before : A → A → Bool) (xs : List A) (y : A) → In y (in_order before xs) → In y xs
unfolding in_order
in-order before [] y i = i
in-order before (x ∷ xs) y i = elim (in-put before x y (in_order before xs) i) [ inl q ↦ inl q | inr j ↦ inr (in-order before xs y j) ]

-- what stands in a list of what was made of another
in-map : {A B : Type 0} (f : A → B) (xs : List A) (y : B) → In y (map f xs) → (x : A) × In x xs × (y ≡ f x)
in-map f [] y i = absurd i
in-map f (x ∷ xs) y (inl e) = (x, inl refl, e)
in-map f (x ∷ xs) y (inr i) = let r = in-map f xs y i in (r.0, inr r.1, r.2)

module _ (s : Schema) where
  -- ## Trees that fit

  unfoldable mutual
    -- nothing fails at the tree's place, and its nodes are of the schema
    pub Fits : TypeRef → Tree Introspected → Type 0
    Fits (named r n) nothing = r ≡ false
    Fits (list_of r size t) nothing = r ≡ false
    Fits (named r n) (leaf v) = accepts s n v ≡ true
    Fits (list_of r size t) (leaf v) = ⊥
    Fits (named r n) (node x) = (is_possible s (introspection_type x) n ≡ true) × (is_node_of s x ≡ true)
    Fits (list_of r size t) (node x) = ⊥
    Fits (named r n) (items ts) = ⊥
    Fits (list_of r size t) (items ts) = FitAll t ts

    pub FitAll : TypeRef → Trees Introspected → Type 0
    FitAll t no_trees = Unit {0}
    FitAll t (tree a rest) = Fits t a × FitAll t rest

  -- the answers stand in the order of the declared fields, and fit their types
  abbrev Match : List FieldDeclaration → List (Name × Tree Introspected) → Type 0
  Match [] [] = Unit {0}
  Match [] (a ∷ as') = ⊥
  Match (g ∷ gs) [] = ⊥
  Match (g ∷ gs) (a ∷ as') = (g.name ≡ a.0) × Fits g.of_type a.1 × Match gs as'

  match-fits : (gs : List FieldDeclaration) (as' : List (Name × Tree Introspected)) → Match gs as' → (f : Name) (g : FieldDeclaration) →
      field_in gs f ≡ Some g → Fits g.of_type (answer_at f as')
  unfolding field_in answer_at
  match-fits [] [] m f g e = absurd (cc)
  match-fits [] (a ∷ as') m f g e = absurd m
  match-fits (h ∷ gs) [] m f g e = absurd m
  match-fits (h ∷ gs) (a ∷ as') m f g e = elim (cases_Bool (bytes_eq f h.name)) [
    | inl q ↦ let z = rw q at e in let w : h ≡ g = cc in let p : bytes_eq f a.0 ≡ true = subst (λ k. bytes_eq f k ≡ true) m.0 q in
        rw p (subst (λ k. Fits k.of_type a.1) w m.1)
    | inr q ↦ let p : bytes_eq f a.0 ≡ false = subst (λ k. bytes_eq f k ≡ false) m.0 q in rw p (match-fits gs as' m.2 f g (rw q at e))
  ]

  fit-each : {A : Type 0} (f : A → Tree Introspected) (t : TypeRef) (xs : List A) → ((y : A) → In y xs → Fits t (f y)) → FitAll t (each f xs)
  unfolding each Fits
  fit-each f t [] g = tt
  fit-each f t (y ∷ xs) g = (g y (inl refl), fit-each f t xs (λ z i. g z (inr i)))

  module _ (x : Executable s) where
    -- the object types of introspection are possible at themselves
    introspection-object : (T : Name) → is_reserved T ≡ true → is_object (shape_of (entry_in introspection_types T)) ≡ true → is_possible s T T ≡ true
    unfolding is_possible
    introspection-object T r o =
        and_from (is_object (type_named s T)) _ (subst (λ z. is_object z ≡ true) (sym (reserved-type s x T r)) o) (rw (same_refl T) refl)

    own-type : (y : Introspected) → is_possible s (introspection_type y) (introspection_type y) ≡ true
    unfolding introspection_type is_reserved is_object shape_of entry_in introspection_types schema_type type_type field_type input_value_type enum_value_type
        directive_type type_kind_type location_type object_entry enum_entry
    own-type schema_node = introspection-object (codes "__Schema") refl refl
    own-type (type_node t) = introspection-object (codes "__Type") refl refl
    own-type (field_node f) = introspection-object (codes "__Field") refl refl
    own-type (input_node d) = introspection-object (codes "__InputValue") refl refl
    own-type (value_node v) = introspection-object (codes "__EnumValue") refl refl
    own-type (directive_node d) = introspection-object (codes "__Directive") refl refl

    -- a node at its own type
    pub fit-node : (r : Bool) (y : Introspected) → is_node_of s y ≡ true → Fits (named r (introspection_type y)) (node y)
    unfolding Fits
    fit-node r y e = (own-type y, e)

    fit-type : (r : Bool) (t : TypeRef) → knows s (innermost t) ≡ true → Fits (named r (codes "__Type")) (a_type t)
    unfolding a_type is_node_of introspection_type
    fit-type r t e = fit-node r (type_node t) e

    pub fit-called : (r : Bool) (n : Name) → knows s n ≡ true → Fits (named r (codes "__Type")) (type_called n)
    unfolding type_called innermost
    fit-called r n e = fit-type r (named false n) e

    fit-field : (r : Bool) (f : FieldDeclaration) → knows_field s f ≡ true → Fits (named r (codes "__Field")) (node (field_node f))
    unfolding is_node_of introspection_type
    fit-field r f e = fit-node r (field_node f) e

    fit-input : (r : Bool) (d : InputDeclaration) → knows_input s d ≡ true → Fits (named r (codes "__InputValue")) (an_input d)
    unfolding an_input is_node_of introspection_type
    fit-input r d e = fit-node r (input_node d) e

    fit-value : (r : Bool) (v : EnumValue) → Fits (named r (codes "__EnumValue")) (node (value_node v))
    unfolding is_node_of introspection_type
    fit-value r v = fit-node r (value_node v) refl

    fit-text : (r : Bool) (t : Text) → Fits (named r (codes "String")) (says t)
    unfolding says Fits
    fit-text r t = texts-fit s x t

    fit-texts : (o : Option Text) → Fits (named false (codes "String")) (if_any says o)
    unfolding if_any Fits
    fit-texts None = refl
    fit-texts (Some t) = fit-text false t

    fit-flag : (r : Bool) (b : Bool) → Fits (named r (codes "Boolean")) (tells b)
    unfolding tells Fits
    fit-flag r b = booleans-fit s x b

    -- a list of what fits, and a list or null
    fit-all : {A : Type 0} (r : Bool) (n : Name) (f : A → Tree Introspected) (xs : List A) → ((y : A) → In y xs → Fits (named true n) (f y)) →
        Fits (list_of r None (named true n)) (all_of f xs)
    unfolding all_of Fits
    fit-all r n f xs g = fit-each f (named true n) xs g

    -- ## `__Schema`

    pub types-known : (e : Entry) → In e (type_list s) → knows s e.key ≡ true
    unfolding type_list
    types-known e i = elim (in_append e s.entries introspection_types
        (in-filter has_listed_name (s.entries ++ introspection_types) e
        (in-order comes_before (filter has_listed_name (s.entries ++ introspection_types)) e i))) [
          | inl j ↦ in-entries s x e j
          | inr j ↦ in-introspection s x e j
        ]

    fit-mutation : (o : Option Name) → s.mutation ≡ o → Fits (named false (codes "__Type")) (if_any type_called o)
    unfolding if_any Fits
    fit-mutation None e = refl
    fit-mutation (Some m) e = fit-called false m (mutation-known s x m e)

    directives-known : (d : DirectiveDeclaration) → In d directives → is_node_of s (directive_node d) ≡ true
    unfolding directives condition_arguments selection_places plain_input is_node_of is_location knows_input innermost maybe must leaf_accepts enum_accepts
        declares_value location_type enum_entry value_named
    directives-known d (inl e) = rw (e, string-known s x) refl
    directives-known d (inr (inl e)) = rw (e, boolean-known s x) refl
    directives-known d (inr (inr (inl e))) = rw (e, boolean-known s x) refl
    directives-known d (inr (inr (inr (inl e)))) = rw (e, string-known s x) refl
    directives-known d (inr (inr (inr (inr i)))) = absurd i

    fit-directive : (r : Bool) (d : DirectiveDeclaration) → is_node_of s (directive_node d) ≡ true →
        Fits (named r (codes "__Directive")) (node (directive_node d))
    unfolding introspection_type
    fit-directive r d e = fit-node r (directive_node d) e

    schema-match : Match (fields_of (Some schema_type.shape)) (schema_answers s)
    unfolding fields_of schema_type object_entry field_without plain_field maybe must maybe_all must_all schema_answers Fits
    schema-match = (
      refl,
      refl,
      (
        refl,
        fit-all true (codes "__Type") (λ (e : Entry). type_called e.key) (type_list s) (λ e i. fit-called true e.key (types-known e i)),
        (
          refl,
          fit-called true s.query (query-known s x),
          (
            refl,
            fit-mutation s.mutation refl,
            (
              refl,
              refl,
              (
                refl,
                fit-all true (codes "__Directive") (λ (d : DirectiveDeclaration). node (directive_node d)) directives
                    (λ d i. fit-directive true d (directives-known d i)),
                tt,
              ),
            ),
          ),
        ),
      ),
    )

    -- ## `__Type`

    kinds-fit : (k : Text) → leaf_accepts (Some type_kind_type.shape) (text k) ≡ true → accepts s (codes "__TypeKind") (text k) ≡ true
    unfolding accepts is_reserved shape_of entry_in introspection_types schema_type type_type field_type input_value_type enum_value_type directive_type
        type_kind_type object_entry enum_entry
    kinds-fit k e = rw (reserved-type s x (codes "__TypeKind") refl) e

    fit-declared_kind : (o : Option Shape) → is_some (declared_kind o) ≡ true → Fits (named true (codes "__TypeKind")) (if_any says (declared_kind o))
    unfolding declared_kind if_any says Fits leaf_accepts enum_accepts declares_value type_kind_type enum_entry value_named
    fit-declared_kind (Some (scalar_type k u)) e = kinds-fit (codes "SCALAR") refl
    fit-declared_kind (Some (enum_type vs)) e = kinds-fit (codes "ENUM") refl
    fit-declared_kind (Some (object_type fs is)) e = kinds-fit (codes "OBJECT") refl
    fit-declared_kind (Some (interface_type fs is)) e = kinds-fit (codes "INTERFACE") refl
    fit-declared_kind (Some (union_type ms)) e = kinds-fit (codes "UNION") refl
    fit-declared_kind (Some (input_object_type ds)) e = kinds-fit (codes "INPUT_OBJECT") refl
    fit-declared_kind (Some (list_type n t)) e = absurd (both_ways false refl e)
    fit-declared_kind (Some (nullable_type t)) e = absurd (both_ways false refl e)
    fit-declared_kind (Some placeholder) e = absurd (both_ways false refl e)
    fit-declared_kind None e = absurd (both_ways false refl e)

    fit-kind : (t : TypeRef) → knows s (innermost t) ≡ true → Fits (named true (codes "__TypeKind")) (if_any says (kind_of s t))
    unfolding kind_of if_any says Fits knows innermost leaf_accepts enum_accepts declares_value type_kind_type enum_entry value_named
    fit-kind (named true n) e = kinds-fit (codes "NON_NULL") refl
    fit-kind (named false n) e = fit-declared_kind (shape_of (declaration_of s n)) e
    fit-kind (list_of true size t) e = kinds-fit (codes "NON_NULL") refl
    fit-kind (list_of false size t) e = kinds-fit (codes "LIST") refl

    fit-inside : (t : TypeRef) → knows s (innermost t) ≡ true → Fits (named false (codes "__Type")) (if_any a_type (of_type t))
    unfolding of_type if_any Fits innermost
    fit-inside (named true n) e = fit-type false (named false n) e
    fit-inside (named false n) e = refl
    fit-inside (list_of true size t) e = fit-type false (list_of false size t) e
    fit-inside (list_of false size t) e = fit-type false t e

    -- the lists of what is declared
    fit-fields : (b : Bool) (o : Option Shape) → list_all (knows_field s) (fields_of o) ≡ true →
        Fits (list_of false None (named true (codes "__Field"))) (if_any (all_of (λ (f : FieldDeclaration). node (field_node f))) (listed_fields b o))
    unfolding fields_of own_fields listed_fields if_any Fits
    fit-fields b (Some (scalar_type k u)) e = refl
    fit-fields b (Some (enum_type vs)) e = refl
    fit-fields b (Some (object_type fs is)) e = fit-all false (codes "__Field") (λ (f : FieldDeclaration). node (field_node f)) (filter (lists_field b) fs)
        (λ f i. fit-field true f (all-in (knows_field s) fs f e (in-filter (lists_field b) fs f i)))
    fit-fields b (Some (interface_type fs is)) e = fit-all false (codes "__Field") (λ (f : FieldDeclaration). node (field_node f)) (filter (lists_field b) fs)
        (λ f i. fit-field true f (all-in (knows_field s) fs f e (in-filter (lists_field b) fs f i)))
    fit-fields b (Some (union_type ms)) e = refl
    fit-fields b (Some (input_object_type ds)) e = refl
    fit-fields b (Some (list_type n t)) e = refl
    fit-fields b (Some (nullable_type t)) e = refl
    fit-fields b (Some placeholder) e = refl
    fit-fields b None e = refl

    fit-names : (ns : List Name) → list_all (knows s) ns ≡ true → Fits (list_of false None (named true (codes "__Type"))) (all_of type_called ns)
    fit-names ns e = fit-all false (codes "__Type") type_called ns (λ n i. fit-called true n (all-in (knows s) ns n e i))

    fit-interfaces : (o : Option Shape) → list_all (knows s) (interfaces_of o) ≡ true →
        Fits (list_of false None (named true (codes "__Type"))) (if_any (all_of type_called) (listed_interfaces o))
    unfolding interfaces_of listed_interfaces if_any Fits
    fit-interfaces (Some (scalar_type k u)) e = refl
    fit-interfaces (Some (enum_type vs)) e = refl
    fit-interfaces (Some (object_type fs is)) e = fit-names is e
    fit-interfaces (Some (interface_type fs is)) e = fit-names is e
    fit-interfaces (Some (union_type ms)) e = refl
    fit-interfaces (Some (input_object_type ds)) e = refl
    fit-interfaces (Some (list_type n t)) e = refl
    fit-interfaces (Some (nullable_type t)) e = refl
    fit-interfaces (Some placeholder) e = refl
    fit-interfaces None e = refl

    pub implementers-known : (n : Name) → list_all (knows s) (implementers s n) ≡ true
    unfolding implementers
    implementers-known n = all-from (knows s) (map (λ e. e.key) (in_order comes_before (filter (is_implementer n) s.entries))) (λ k i.
        let r = in-map (λ (e : Entry). e.key) (in_order comes_before (filter (is_implementer n) s.entries)) k i in
        subst (λ z. knows s z ≡ true) (sym r.2) (in-entries s x r.0 (in-filter (is_implementer n) s.entries r.0
        (in-order comes_before (filter (is_implementer n) s.entries) r.0 r.1))))

    fit-possible : (n : Name) (o : Option Shape) → list_all (knows s) (members_of o) ≡ true →
        Fits (list_of false None (named true (codes "__Type"))) (if_any (all_of type_called) (possible_types s n o))
    unfolding members_of possible_types if_any Fits
    fit-possible m (Some (scalar_type k u)) e = refl
    fit-possible m (Some (enum_type vs)) e = refl
    fit-possible m (Some (object_type fs is)) e = refl
    fit-possible m (Some (interface_type fs is)) e = fit-names (implementers s m) (implementers-known m)
    fit-possible m (Some (union_type ms)) e = fit-names ms e
    fit-possible m (Some (input_object_type ds)) e = refl
    fit-possible m (Some (list_type n t)) e = refl
    fit-possible m (Some (nullable_type t)) e = refl
    fit-possible m (Some placeholder) e = refl
    fit-possible m None e = refl

    fit-values : (b : Bool) (o : Option Shape) → Fits (list_of false None (named true (codes "__EnumValue")))
        (if_any (all_of (λ (v : EnumValue). node (value_node v))) (listed_values b o))
    unfolding own_values listed_values if_any Fits
    fit-values b (Some (scalar_type k u)) = refl
    fit-values b (Some (enum_type vs)) =
        fit-all false (codes "__EnumValue") (λ (v : EnumValue). node (value_node v)) (filter (lists_value b) vs) (λ v i. fit-value true v)
    fit-values b (Some (object_type fs is)) = refl
    fit-values b (Some (interface_type fs is)) = refl
    fit-values b (Some (union_type ms)) = refl
    fit-values b (Some (input_object_type ds)) = refl
    fit-values b (Some (list_type n t)) = refl
    fit-values b (Some (nullable_type t)) = refl
    fit-values b (Some placeholder) = refl
    fit-values b None = refl

    fit-inputs : (o : Option Shape) → list_all (knows_input s) (inputs_of o) ≡ true →
        Fits (list_of false None (named true (codes "__InputValue"))) (if_any (all_of an_input) (listed_inputs o))
    unfolding listed_inputs if_any Fits inputs_of input_fields_of
    fit-inputs (Some (scalar_type k u)) e = refl
    fit-inputs (Some (enum_type vs)) e = refl
    fit-inputs (Some (object_type fs is)) e = refl
    fit-inputs (Some (interface_type fs is)) e = refl
    fit-inputs (Some (union_type ms)) e = refl
    fit-inputs (Some (input_object_type ds)) e = fit-all false (codes "__InputValue") an_input ds (λ d i. fit-input true d (all-in (knows_input s) ds d e i))
    fit-inputs (Some (list_type n t)) e = refl
    fit-inputs (Some (nullable_type t)) e = refl
    fit-inputs (Some placeholder) e = refl
    fit-inputs None e = refl

    pub declared-speaks : (t : TypeRef) → Speaks s x (shape_of (declared_as s t))
    unfolding declared_as own_name shape_of
    declared-speaks (named false n) = speaks s x n
    declared-speaks (named true n) = none-speaks s x
    declared-speaks (list_of r size t) = none-speaks s x

    fit-possible_of : (t : TypeRef) (o : Option Shape) → list_all (knows s) (members_of o) ≡ true →
        Fits (list_of false None (named true (codes "__Type"))) (if_any (all_of type_called) (option_and_then (λ n. possible_types s n o) (own_name t)))
    unfolding own_name if_any Fits
    fit-possible_of (named false n) o e = fit-possible n o e
    fit-possible_of (named true n) o e = refl
    fit-possible_of (list_of r size t) o e = refl

    -- the type of a reference: a name alone is declared, and all else is not
    type-match : (t : TypeRef) → knows s (innermost t) ≡ true → (args : Members) → Match (fields_of (Some type_type.shape)) (type_answers s t args)
    unfolding fields_of type_type object_entry field_without plain_field maybe must maybe_all must_all type_answers
    type-match t e args =
        let o : Option Shape = shape_of (declared_as s t) in
        let k = declared-speaks t in (
          refl,
          fit-kind t e,
          (
            refl,
            fit-texts (own_name t),
            (
              refl,
              fit-texts (description_of (declared_as s t)),
              (
                refl,
                fit-texts (url_of o),
                (
                  refl,
                  fit-texts (url_of o),
                  (
                    refl,
                    fit-fields (includes_deprecated args) o k.fields,
                    (
                      refl,
                      fit-interfaces o k.interfaces,
                      (
                        refl,
                        fit-possible_of t o k.members,
                        (
                          refl,
                          fit-values (includes_deprecated args) o,
                          (
                            refl,
                            fit-inputs o k.inputs,
                            (refl, fit-inside t e, tt),
                          ),
                        ),
                      ),
                    ),
                  ),
                ),
              ),
            ),
          ),
        )

    -- ## `__Field`, `__InputValue`, `__EnumValue`, `__Directive`

    fit-arguments : (ds : List InputDeclaration) → list_all (knows_input s) ds ≡ true →
        Fits (list_of true None (named true (codes "__InputValue"))) (all_of an_input ds)
    fit-arguments ds e = fit-all true (codes "__InputValue") an_input ds (λ d i. fit-input true d (all-in (knows_input s) ds d e i))

    field-match : (f : FieldDeclaration) → knows_field s f ≡ true → Match (fields_of (Some field_type.shape)) (field_answers f)
    unfolding fields_of field_type object_entry field_without plain_field maybe must must_all field_answers knows_field
    field-match f e =
        let k = and_parts (knows s (innermost f.of_type)) _ e in (
          refl,
          fit-text true f.name,
          (
            refl,
            fit-texts f.description,
            (
              refl,
              fit-arguments f.arguments k.1,
              (
                refl,
                fit-type true f.of_type k.0,
                (
                  refl,
                  fit-flag true (is_deprecated f.deprecation),
                  (refl, fit-texts (reason_of f.deprecation), tt),
                ),
              ),
            ),
          ),
        )

    fit-default : (o : Option Input) → Fits (named false (codes "String")) (if_any (λ v. says (display v)) o)
    unfolding if_any Fits
    fit-default None = refl
    fit-default (Some v) = fit-text false (display v)

    input-match : (d : InputDeclaration) → knows_input s d ≡ true → Match (fields_of (Some input_value_type.shape)) (input_answers d)
    unfolding fields_of input_value_type object_entry field_without plain_field maybe must input_answers knows_input
    input-match d e = (refl, fit-text true d.name, (refl, fit-texts d.description, (refl, fit-type true d.of_type e, (refl, fit-default d.default, tt))))

    value-match : (v : EnumValue) → Match (fields_of (Some enum_value_type.shape)) (value_answers v)
    unfolding fields_of enum_value_type object_entry field_without plain_field maybe must value_answers
    value-match v = (
      refl,
      fit-text true v.name,
      (
        refl,
        fit-texts v.description,
        (refl, fit-flag true (is_deprecated v.deprecation), (refl, fit-texts (reason_of v.deprecation), tt)),
      ),
    )

    locations-fit : (k : Text) → is_location k ≡ true → accepts s (codes "__DirectiveLocation") (text k) ≡ true
    unfolding is_location accepts is_reserved shape_of entry_in introspection_types schema_type type_type field_type input_value_type enum_value_type
        directive_type type_kind_type object_entry enum_entry location_type
    locations-fit k e = rw (reserved-type s x (codes "__DirectiveLocation") refl) e

    fit-location : (r : Bool) (k : Text) → is_location k ≡ true → Fits (named r (codes "__DirectiveLocation")) (says k)
    unfolding says Fits
    fit-location r k e = locations-fit k e

    directive-match : (d : DirectiveDeclaration) → is_node_of s (directive_node d) ≡ true → Match (fields_of (Some directive_type.shape)) (directive_answers d)
    unfolding fields_of directive_type object_entry field_without old_flag plain_field maybe must must_all directive_answers is_node_of Fits
    directive-match d e =
        let k = and_parts (list_all is_location d.locations) (list_all (knows_input s) d.arguments) e in (
          refl,
          fit-text true d.name,
          (
            refl,
            refl,
            (
              refl,
              fit-all true (codes "__DirectiveLocation") says d.locations (λ l i. fit-location true l (all-in is_location d.locations l k.0 i)),
              (
                refl,
                fit-arguments d.arguments k.1,
                (
                  refl,
                  fit-flag true false,
                  (
                    refl,
                    fit-flag true (stands_on d (codes "QUERY")),
                    (
                      refl,
                      fit-flag true (stands_on d (codes "FRAGMENT_DEFINITION")
                          || (stands_on d (codes "INLINE_FRAGMENT") || stands_on d (codes "FRAGMENT_SPREAD"))),
                      (refl, fit-flag true (stands_on d (codes "FIELD")), tt),
                    ),
                  ),
                ),
              ),
            ),
          ),
        )

    -- ## Nodes

    -- what introspection declares at the type of a node
    unfoldable pub introspection_fields : Introspected → List FieldDeclaration
    introspection_fields y = fields_of (shape_of (entry_in introspection_types (introspection_type y)))

    answers-match : (y : Introspected) → is_node_of s y ≡ true → (args : Members) → Match (introspection_fields y) (answers_of s y args)
    unfolding introspection_fields introspection_type shape_of entry_in introspection_types schema_type type_type field_type input_value_type enum_value_type
        directive_type type_kind_type location_type object_entry enum_entry answers_of is_node_of
    answers-match schema_node e args = schema-match
    answers-match (type_node t) e args = type-match t e args
    answers-match (field_node f) e args = field-match f e
    answers-match (input_node d) e args = input-match d e
    answers-match (value_node v) e args = value-match v
    answers-match (directive_node d) e args = directive-match d e

    pub answers-fit : (y : Introspected) → is_node_of s y ≡ true → (args : Members) (f : Name) (g : FieldDeclaration) →
        field_in (introspection_fields y) f ≡ Some g → Fits g.of_type (introspect s y f args)
    unfolding introspect
    answers-fit y e args f g h = match-fits (introspection_fields y) (answers_of s y args) (answers-match y e args) f g h

    pub type-reserved : (y : Introspected) → is_reserved (introspection_type y) ≡ true
    unfolding is_reserved introspection_type
    type-reserved schema_node = refl
    type-reserved (type_node t) = refl
    type-reserved (field_node f) = refl
    type-reserved (input_node d) = refl
    type-reserved (value_node v) = refl
    type-reserved (directive_node d) = refl
