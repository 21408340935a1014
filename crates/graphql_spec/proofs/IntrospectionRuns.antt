-- Nothing fails where a schema is asked about itself.
use Rattle.std.proofs.Common.{◌≡◌, ◌||◌, ◌++◌, ℕ, zero, suc, true, false, not, codes, List, [], ◌∷◌, Option, Some, None, IsTrue, refl, sym, ap, ap₂, ◌∙◌, inl}
use Rattle.std.proofs.Common.{inr, subst}
use Rattle.std.proofs.lemmas.Bool.{cases_Bool, both_ways, and_parts, or_cases, not-true}
use Rattle.std.specs.List.{list_all, flat_map}
use Rattle.std.specs.Option.{is_some}
use Rattle.std.specs.Str.{bytes_eq}
use Rattle.graphql_spec.specs.Shown.{Name, text}
use Rattle.graphql_spec.specs.Types.{TypeRef, named, list_of, required, innermost, same_type}
use Rattle.graphql_spec.specs.Inputs.{Variables}
use Rattle.graphql_spec.specs.Constants.{Members, find}
use Rattle.graphql_spec.specs.Positions.{Position}
use Rattle.graphql_spec.specs.Documents.{Head}
use Rattle.graphql_spec.specs.Schema.{FieldDeclaration, Shape, scalar_type, enum_type, object_type, interface_type, union_type, input_object_type, list_type}
use Rattle.graphql_spec.specs.Schema.{nullable_type, placeholder, Entry, Schema, plain_field, plain_input}
use Rattle.graphql_spec.specs.BuiltIns.{object_entry, enum_entry, field_without, old_flag, schema_type, type_type, field_type, input_value_type}
use Rattle.graphql_spec.specs.BuiltIns.{enum_value_type, directive_type, type_kind_type, location_type, introspection_types}
use Rattle.graphql_spec.specs.Fields.{entry_in, shape_of, or_else, entry_named, type_named, is_object, is_composite, fields_of, is_possible, field_in, typename}
use Rattle.graphql_spec.specs.Fields.{typename_field, root_fields, meta_fields, field_of, declared_type}
use Rattle.graphql_spec.specs.Executable.{is_filled, is_own_name, shape_fields, field_is_free, is_typename_field, entry_is_named, entries_are_named}
use Rattle.graphql_spec.specs.Executable.{is_reserved, roots_are_objects}
use Rattle.graphql_spec.specs.Tokens.{is_name}
use Rattle.graphql_spec.specs.Errors.{Place, key, index}
use Rattle.graphql_spec.specs.Selections.{depth, Occurrence, occurrences, keys, with_key, all_below}
use Rattle.graphql_spec.specs.Resolvers.{Tree, nothing, leaf, items, node, Trees, no_trees, tree, Reply, answered, World, world_of}
use Rattle.graphql_spec.specs.Execution.{type_of, reply_to, reply_of}
use Rattle.graphql_spec.specs.Failures.{Failure, landing, starts_of, faults, all_faults, reply_faults, key_failures, failures, failures_of}
use Rattle.graphql_spec.specs.Laws.{In, Agree}
use Rattle.graphql_spec.specs.Overlap.{declares_field}
use Rattle.graphql_spec.specs.ValidityLaws.{AreDeclared}
use Rattle.graphql_spec.specs.Placed.{root_type}
use Rattle.graphql_spec.specs.Requests.{selected}
use Rattle.graphql_spec.proofs.ValidRuns.{runs_agree}
use Rattle.graphql_spec.proofs.Lists.{same_true, same_refl}
use Rattle.graphql_spec.proofs.Keeping.{or_else_parts}
use Rattle.graphql_spec.proofs.Grouping.{in_first, in_second, in_with_key, in_below}
use Rattle.graphql_spec.proofs.Keeping.{entry_all, options}
use Rattle.graphql_spec.proofs.KeptTypes.{as_string}
use Rattle.graphql_spec.specs.Rules.{is_introspection}
use Rattle.graphql_spec.specs.SeenNodes.{map_tree, map_reply}
use Rattle.graphql_spec.specs.Introspected.{declaration_of}
use Rattle.graphql_spec.specs.Introspection.{RootedNode, root, user, introspected, rooted_concrete, rooted_answer, rooted_world, user_reply, root_answers}
use Rattle.graphql_spec.specs.Introspection.{answer_at, if_any, given_text, type_if_known, Introspected, schema_node, type_node, field_node, input_node}
use Rattle.graphql_spec.specs.Introspection.{value_node, directive_node, introspection_type, introspect}
use Rattle.graphql_spec.specs.IntrospectionLaws.{is_users, IntrospectionAddsNone, asks_schema, LookingNeverFails, is_node_of, introspection_world, RepliesFit}
use Rattle.graphql_spec.specs.IntrospectionLaws.{IntrospectionNeverFails}
use Rattle.graphql_spec.proofs.SeenNodes.{selects-any, reply_faults-seen, failures-seen}
use Rattle.graphql_spec.proofs.KnownTypes.{all-in, declared-known, Executable, executable, texts-fit, reserved-free, reserved-type}
use Rattle.graphql_spec.proofs.IntrospectionFits.{fit-called, fit-node, Fits, FitAll, introspection_fields, answers-fit, type-reserved}

module _ (s : Schema) (x : Executable s) (vars : Variables) where
  abbrev W : World Introspected
  W = introspection_world s vars

  -- ## The fields of introspection types

  -- the query type is none of them
  not-query : (T : Name) → is_reserved T ≡ true → bytes_eq T s.query ≡ false
  unfolding roots_are_objects entry_named is_object shape_of
  not-query T r = elim (cases_Bool (bytes_eq T s.query)) [
    | inl q ↦ let e : entry_in s.entries s.query ≡ None = subst (λ z. entry_in s.entries z ≡ None) (same_true T s.query q) (reserved-free s x T r) in
        absurd (both_ways false refl (rw e at (and_parts (is_object (entry_named s s.query)) _ x.has_roots).0))
    | inr q ↦ q
  ]

  meta-none : (T f : Name) → bytes_eq T s.query ≡ false → bytes_eq f typename ≡ false → field_in (meta_fields s T) f ≡ None
  unfolding meta_fields field_in typename_field plain_field
  meta-none T f q e = elim (cases_Bool (is_composite (type_named s T))) [ inl c ↦ rw (c, q, e) refl | inr c ↦ rw c refl ]

  own-field : (y : Introspected) (f : Name) (g : FieldDeclaration) → bytes_eq f typename ≡ false → field_of s (introspection_type y) f ≡ Some g →
      field_in (introspection_fields s x y) f ≡ Some g
  unfolding field_of introspection_fields
  own-field y f g e h =
      elim (or_else_parts (field_in (fields_of (type_named s (introspection_type y))) f) (field_in (meta_fields s (introspection_type y)) f) g h) [
        | inl a ↦ subst (λ z. field_in (fields_of z) f ≡ Some g) (reserved-type s x (introspection_type y) (type-reserved s x y)) a
        | inr b ↦ absurd (none-some g (sym (meta-none (introspection_type y) f (not-query (introspection_type y) (type-reserved s x y)) e) ∙ b))
      ]
    where
      none-some : (g : FieldDeclaration) → None ≡ Some g → ⊥
      none-some g e = cc

  typename-at : (T : Name) → is_reserved T ≡ true → field_in (fields_of (shape_of (entry_in introspection_types T))) typename ≡ None →
      is_composite (shape_of (entry_in introspection_types T)) ≡ true → field_of s T typename ≡ Some typename_field
  unfolding field_of meta_fields or_else field_in typename_field plain_field
  typename-at T r e c = rw (reserved-type s x T r, e, c) refl

  typename-type : (y : Introspected) → field_of s (introspection_type y) typename ≡ Some typename_field
  unfolding introspection_type is_reserved field_in fields_of is_composite shape_of entry_in introspection_types schema_type type_type field_type
      input_value_type enum_value_type directive_type type_kind_type location_type object_entry enum_entry field_without old_flag plain_field
  typename-type schema_node = typename-at (codes "__Schema") refl refl refl
  typename-type (type_node t) = typename-at (codes "__Type") refl refl refl
  typename-type (field_node f) = typename-at (codes "__Field") refl refl refl
  typename-type (input_node d) = typename-at (codes "__InputValue") refl refl refl
  typename-type (value_node v) = typename-at (codes "__EnumValue") refl refl refl
  typename-type (directive_node d) = typename-at (codes "__Directive") refl refl refl

  -- ## Replies

  -- the reply to a declared field is a tree that fits
  record Fitting (y : Introspected) (h : Head) : Type 0 where
    pub tree_is : Tree Introspected
    pub reply_is : reply_to W (introspection_type y) y h ≡ answered tree_is
    pub fits : Fits s (W.field_type (introspection_type y) h.name.item) tree_is

  reply-fitting : (y : Introspected) → is_node_of s y ≡ true → (h : Head) → IsTrue (declares_field s (introspection_type y) h.name.item) → Fitting y h
  unfolding introspection_world world_of reply_to declared_type Fits typename_field plain_field
  reply-fitting y e h d = elim (cases_Bool (bytes_eq h.name.item typename)) [
    | inl q ↦ record {
      tree_is = leaf (text (introspection_type y));
      reply_is = rw q refl;
      fits = subst (λ z. Fits s (declared_type z) (leaf (text (introspection_type y))))
          (sym (subst (λ z. field_of s (introspection_type y) z ≡ Some typename_field) (sym (same_true h.name.item typename q)) (typename-type y)))
          (texts-fit s x (introspection_type y));
    }
    | inr q ↦ elim (options (field_of s (introspection_type y) h.name.item)) [
      | inl n ↦ absurd (both_ways false refl (rw n at d))
      | inr (g, f) ↦ record {
        tree_is = introspect s y h.name.item (W.arguments (introspection_type y) h);
        reply_is = rw q refl;
        fits = subst (λ z. Fits s (declared_type z) (introspect s y h.name.item (W.arguments (introspection_type y) h))) (sym f)
            (answers-fit s x y e (W.arguments (introspection_type y) h) h.name.item g (own-field y h.name.item g q f));
      }
    ]
  ]

  -- nothing fails at a tree that fits, nor below it where nothing fails at its nodes
  module _ (at : Place → Place → Name → Introspected → List Failure) where
    -- nothing fails at the nodes that are possible at a name
    abbrev NoneAt : Name → Type 0
    NoneAt n = (place to : Place) (y : Introspected) → is_node_of s y ≡ true → is_possible s (introspection_type y) n ≡ true →
        at place to (introspection_type y) y ≡ []

    mutual
      unfolding faults Fits introspection_world world_of required innermost

      faults-none : (here : Place) (starts : List Position) (above : Place) (t : TypeRef) (a : Tree Introspected) → Fits s t a → NoneAt (innermost t) →
          faults W at here starts above t a ≡ []
      faults-none here starts above (named r n) nothing f none = rw f refl
      faults-none here starts above (list_of r size t) nothing f none = rw f refl
      faults-none here starts above (named r n) (leaf v) f none = rw f refl
      faults-none here starts above (list_of r size t) (leaf v) f none = absurd f
      faults-none here starts above (named r n) (node y) (p, e) none = rw p (none here (landing (named r n) here above) y e p)
      faults-none here starts above (list_of r size t) (node y) f none = absurd f
      faults-none here starts above (named r n) (items ts) f none = absurd f
      faults-none here starts above (list_of r size t) (items ts) f none = faults-none_all here 0 starts (landing (list_of r size t) here above) t ts f none

      faults-none_all : (here : Place) (i : ℕ) (starts : List Position) (above : Place) (t : TypeRef) (ts : Trees Introspected) → FitAll s t ts →
          NoneAt (innermost t) → all_faults W at here i starts above t ts ≡ []
      faults-none_all here i starts above t no_trees f none = refl
      faults-none_all here i starts above t (tree a rest) (f, g) none =
          ap₂ (λ us vs. us ++ vs) (faults-none (here ++ index i ∷ []) starts above t a f none) (faults-none_all here (suc i) starts above t rest g none)

    reply-none : (here above : Place) (starts : List Position) (y : Introspected) (h : Head) → Fitting y h →
        NoneAt (innermost (W.field_type (introspection_type y) h.name.item)) →
        reply_faults W at here starts above (W.field_type (introspection_type y) h.name.item) (reply_to W (introspection_type y) y h) ≡ []
    unfolding reply_faults
    reply-none here above starts y h f none =
        rw (f.reply_is) (faults-none here starts above (W.field_type (introspection_type y) h.name.item) f.tree_is f.fits none)

  -- ## Objects

  -- what is declared below one occurrence of a key is declared below all of it
  declared-below : (d : ℕ) (T U : Name) (o : Occurrence) (os : List Occurrence) → ((p : Occurrence) → In p os → p.head.name.item ≡ o.head.name.item) →
      AreDeclared s (suc d) T os →
      IsTrue (is_possible s U (innermost (declared_type (field_of s T o.head.name.item)))) → AreDeclared s d U (occurrences (is_possible s) U (all_below os))
  declared-below zero T U o os same a p = tt
  declared-below (suc d) T U o os same a p = λ q i.
      let r = in_below q (is_possible s) U os i in
      (a r.0 r.1).1 U (subst (λ z. IsTrue (is_possible s U (innermost (declared_type (field_of s T z))))) (sym (same r.0 r.1)) p) q r.2

  part-declared : (d : ℕ) (T k : Name) (os : List Occurrence) → AreDeclared s d T os → AreDeclared s d T (with_key k os)
  part-declared zero T k os a = tt
  part-declared (suc d) T k os a = λ o i. a o (in_with_key o k os i).0

  flat-none : {A : Type 0} (f : Name → List A) (ks : List Name) → ((k : Name) → f k ≡ []) → flat_map f ks ≡ []
  flat-none f [] e = refl
  flat-none f (k ∷ ks) e = rw (e k) (flat-none f ks e)

  agree-all : (d : ℕ) (U : Name) (os : List Occurrence) → ((p q : Occurrence) → In p os → In q os →
      Agree W d U (occurrences W.possible U p.below ++ occurrences W.possible U q.below)) → Agree W d U (occurrences W.possible U (all_below os))
  agree-all zero U os c = tt
  agree-all (suc d) U os c = λ p q i j e.
      let a = in_below p W.possible U os i in
      let b = in_below q W.possible U os j in
      c a.0 b.0 a.1 b.1 p q (in_first p (occurrences W.possible U a.0.below) (occurrences W.possible U b.0.below) a.2)
      (in_second q (occurrences W.possible U a.0.below) (occurrences W.possible U b.0.below) b.2) e

  -- nothing fails below nodes of the schema, to the depth d
  abbrev NeverAt : ℕ → Type 0
  NeverAt d = (y : Introspected) → is_node_of s y ≡ true → (os : List Occurrence) → Agree W d (introspection_type y) os →
      AreDeclared s d (introspection_type y) os → (here above : Place) →
      failures W d here above (introspection_type y) y os ≡ []

  -- the occurrences of one key
  record IsGroup (d : ℕ) (T : Name) (os : List Occurrence) : Type 0 where
    pub same : (p q : Occurrence) → In p os → In q os → p.head.name.item ≡ q.head.name.item
    pub agree : (p q : Occurrence) → In p os → In q os → (U : Name) → IsTrue (W.possible U (innermost (W.field_type T p.head.name.item))) →
        Agree W d U (occurrences W.possible U p.below ++ occurrences W.possible U q.below)
    pub declared : AreDeclared s (suc d) T os

  group-of : (d : ℕ) (T k : Name) (os : List Occurrence) → Agree W (suc d) T os → AreDeclared s (suc d) T os → IsGroup d T (with_key k os)
  group-of d T k os c a = record {
    same = λ p q i j. (both p q i j).0;
    agree = λ p q i j. (both p q i j).2;
    declared = part-declared (suc d) T k os a;
  }
    where
      both : (p q : Occurrence) → In p (with_key k os) → In q (with_key k os) →
          (p.head.name.item ≡ q.head.name.item) × (W.arguments T p.head ≡ W.arguments T q.head)
          × ((U : Name) → IsTrue (W.possible U (innermost (W.field_type T p.head.name.item))) →
          Agree W d U (occurrences W.possible U p.below ++ occurrences W.possible U q.below))
      both p q i j = let u = in_with_key p k os i in let v = in_with_key q k os j in c p q u.0 v.0 (sym u.1 ∙ v.1)

  group-none : (d : ℕ) → NeverAt d → (y : Introspected) → is_node_of s y ≡ true → (os : List Occurrence) → IsGroup d (introspection_type y) os →
      (here above : Place) →
      key_failures W (failures W d) here above (introspection_type y) y os ≡ []
  unfolding key_failures type_of reply_of reply_faults faults required introspection_world world_of
  group-none d ih y e [] g here above = refl
  group-none d ih y e (o ∷ os) g here above =
      reply-none (λ place to U n. failures W d place to U n (occurrences (is_possible s) U (all_below (o ∷ os)))) here above (starts_of (o ∷ os)) y o.head
      (reply-fitting y e o.head (g.declared o (inl refl)).0)
      (λ place to n k p. ih n k (occurrences (is_possible s) (introspection_type n) (all_below (o ∷ os)))
      (agree-all d (introspection_type n) (o ∷ os) (λ u v i j. g.agree u v i j (introspection_type n)
      (subst (λ z. IsTrue (is_possible s (introspection_type n) (innermost (declared_type (field_of s (introspection_type y) z)))))
      (g.same o u (inl refl) i) p)))
      (declared-below d (introspection_type y) (introspection_type n) o (o ∷ os) (λ u i. g.same u o i (inl refl)) g.declared p) place to)

  never : (d : ℕ) → NeverAt d
  unfolding failures
  never zero y e os c a here above = refl
  never (suc d) y e os c a here above =
      flat-none (λ k. key_failures W (failures W d) (here ++ key k ∷ []) above (introspection_type y) y (with_key k os)) (keys os)
      (λ k. group-none d (never d) y e (with_key k os) (group-of d (introspection_type y) k os c a) (here ++ key k ∷ []) above)

pub replies_fit : RepliesFit
replies_fit s e vars y k h d here above starts = let x = executable s e in
    reply-none s x vars (λ place to T n. []) here above starts y h (reply-fitting s x vars y k h d) (λ place to n k p. refl)

pub introspection_never_fails : IntrospectionNeverFails
introspection_never_fails s e vars y k d os c a here above = never s (executable s e) vars d y k os c a here above

-- ## The root

-- a field that is found among free ones is free, and has its name
found-free : (fs : List FieldDeclaration) (f : Name) (g : FieldDeclaration) → list_all field_is_free fs ≡ true → field_in fs f ≡ Some g →
    (field_is_free g ≡ true) × (f ≡ g.name)
unfolding field_in
found-free [] f g a h = cc
found-free (y ∷ fs) f g a h = let p = and_parts (field_is_free y) (list_all field_is_free fs) a in elim (cases_Bool (bytes_eq f y.name)) [
  | inl q ↦ let z = rw q at h in let w : y ≡ g = cc in (subst (λ k. field_is_free k ≡ true) w p.0, same_true f y.name q ∙ ap (λ k. k.name) w)
  | inr q ↦ found-free fs f g p.1 (rw q at h)
]

module _ {N : Type 0} (s : Schema) (x : Executable s) (vars : Variables) (top : N) (concrete : N → Name) (answer : N → Name → Members → Reply N) where
  abbrev V : World (RootedNode N)
  V = world_of s vars (rooted_concrete top concrete) (rooted_answer top s answer)

  -- ## The fields of the query type

  query-entry : (y : Entry) × (entry_in s.entries s.query ≡ Some y)
  unfolding roots_are_objects entry_named is_object shape_of
  query-entry = elim (options (entry_in s.entries s.query)) [
    | inl q ↦ absurd (both_ways false refl (rw q at (and_parts (is_object (entry_named s s.query)) _ x.has_roots).0))
    | inr r ↦ r
  ]

  query-object : is_composite (type_named s s.query) ≡ true
  unfolding roots_are_objects entry_named type_named or_else shape_of is_object is_composite
  query-object = let r = query-entry in rw r.1 (composite r.0.shape (rw r.1 at (and_parts (is_object (entry_named s s.query)) _ x.has_roots).0))
    where
      composite : (y : Shape) → is_object (Some y) ≡ true → is_composite (Some y) ≡ true
      composite (scalar_type k u) e = absurd (both_ways false refl e)
      composite (enum_type vs) e = absurd (both_ways false refl e)
      composite (object_type fs is) e = refl
      composite (interface_type fs is) e = refl
      composite (union_type ms) e = refl
      composite (input_object_type ds) e = absurd (both_ways false refl e)
      composite (list_type n t) e = absurd (both_ways false refl e)
      composite (nullable_type t) e = absurd (both_ways false refl e)
      composite placeholder e = absurd (both_ways false refl e)

  -- a declared field whose name is reserved is `__typename: String!`
  reserved-field : (f : Name) (g : FieldDeclaration) → is_reserved f ≡ true → field_in (fields_of (type_named s s.query)) f ≡ Some g →
      (is_typename_field g ≡ true) × (f ≡ g.name)
  unfolding type_named or_else shape_of entries_are_named entry_is_named shape_fields field_is_free
  reserved-field f g r e =
      let q = query-entry in
      let a = and_parts (is_filled q.0.shape) _ (entry_all entry_is_named s.entries s.query q.0 x.are_named q.1) in
      let b = and_parts (is_own_name q.0.key q.0.name) _ a.1 in
      let c = and_parts (is_name q.0.key) _ b.1 in
      let d = and_parts (not (is_reserved q.0.key)) _ c.1 in
      let i = and_parts (list_all field_is_free (shape_fields q.0.shape)) _ d.1 in
      let h = found-free (fields_of (Some q.0.shape)) f g i.0 (rw q.1 at e) in
      elim (or_cases (not (is_reserved g.name)) (is_typename_field g) (and_parts (not (is_reserved g.name) || is_typename_field g) _ h.0).0) [
        | inl u ↦ absurd (both_ways (is_reserved f) (subst (λ z. is_reserved z ≡ false) (sym h.1) (not-true (is_reserved g.name) u)) r)
        | inr u ↦ (u, h.1)
      ]

  -- `__typename`, declared or not, is a `String!`
  typename-fits : (g : FieldDeclaration) → field_of s s.query typename ≡ Some g → Fits s g.of_type (leaf (text s.query))
  unfolding field_of meta_fields field_in typename_field plain_field is_typename_field Fits is_reserved
  typename-fits g e = elim (or_else_parts (field_in (fields_of (type_named s s.query)) typename) (field_in (meta_fields s s.query) typename) g e) [
    | inl a ↦ let b = and_parts (bytes_eq g.name typename) _ (reserved-field typename g refl a).0 in
        subst (λ z. Fits s z (leaf (text s.query))) (sym (as_string g.of_type (and_parts (same_type g.of_type (named true (codes "String"))) _ b.1).0))
        (texts-fit s x s.query)
    | inr b ↦ let c : Some typename_field ≡ Some g = rw query-object at b in let w : typename_field ≡ g = cc in
        subst (λ z. Fits s z.of_type (leaf (text s.query))) w (texts-fit s x s.query)
  ]

  type-fits : (o : Option Name) → Fits s (named false (codes "__Type")) (if_any (type_if_known s) o)
  unfolding if_any type_if_known Fits
  type-fits None = refl
  type-fits (Some n) = elim (cases_Bool (is_some (declaration_of s n))) [ inl e ↦ rw e (fit-called s x false n (declared-known s x n e)) | inr e ↦ rw e refl ]

  -- neither of the two fields is declared
  not-declared : (f : Name) (g : FieldDeclaration) → is_reserved f ≡ true → bytes_eq f typename ≡ false →
      field_in (fields_of (type_named s s.query)) f ≡ Some g → ⊥
  unfolding is_typename_field
  not-declared f g r e h = let a = reserved-field f g r h in both_ways (bytes_eq f typename) e
      (subst (λ z. bytes_eq z typename ≡ true) (sym a.1) (and_parts (bytes_eq g.name typename) _ a.0).0)

  schema-fits : (g : FieldDeclaration) (args : Members) → field_of s s.query (codes "__schema") ≡ Some g →
      Fits s g.of_type (answer_at (codes "__schema") (root_answers s args))
  unfolding field_of meta_fields field_in root_fields typename_field plain_field plain_input is_reserved answer_at root_answers is_node_of introspection_type
  schema-fits g args e =
      elim (or_else_parts (field_in (fields_of (type_named s s.query)) (codes "__schema")) (field_in (meta_fields s s.query) (codes "__schema")) g e) [
        | inl a ↦ absurd (not-declared (codes "__schema") g refl refl a)
        | inr b ↦ let c = rw (query-object, same_refl s.query) at b in let w : plain_field (codes "__schema") [] (named true (codes "__Schema")) ≡ g = cc in
            subst (λ z. Fits s z.of_type (node schema_node)) w (fit-node s x true schema_node refl)
      ]

  named-fits : (g : FieldDeclaration) (args : Members) → field_of s s.query (codes "__type") ≡ Some g →
      Fits s g.of_type (answer_at (codes "__type") (root_answers s args))
  unfolding field_of meta_fields field_in root_fields typename_field plain_field plain_input is_reserved answer_at root_answers
  named-fits g args e =
      elim (or_else_parts (field_in (fields_of (type_named s s.query)) (codes "__type")) (field_in (meta_fields s s.query) (codes "__type")) g e) [
        | inl a ↦ absurd (not-declared (codes "__type") g refl refl a)
        | inr b ↦ let c = rw (query-object, same_refl s.query) at b in
            let w : plain_field (codes "__type") (plain_input (codes "name") (named true (codes "String")) ∷ []) (named false (codes "__Type")) ≡ g = cc in
            subst (λ z. Fits s z.of_type (if_any (type_if_known s) (given_text (find (codes "name") args)))) w
            (type-fits (given_text (find (codes "name") args)))
      ]

  -- the two fields of the query type (4.2)
  fit-root : (f : Name) (g : FieldDeclaration) (args : Members) → is_introspection f ≡ true → field_of s s.query f ≡ Some g →
      Fits s g.of_type (answer_at f (root_answers s args))
  unfolding is_introspection
  fit-root f g args i e = elim (or_cases (bytes_eq f (codes "__schema")) (bytes_eq f (codes "__type")) i) [
    | inl q ↦ let w : f ≡ codes "__schema" = same_true f (codes "__schema") q in
        subst (λ z. Fits s g.of_type (answer_at z (root_answers s args))) (sym w) (schema-fits g args (subst (λ z. field_of s s.query z ≡ Some g) w e))
    | inr q ↦ let w : f ≡ codes "__type" = same_true f (codes "__type") q in
        subst (λ z. Fits s g.of_type (answer_at z (root_answers s args))) (sym w) (named-fits g args (subst (λ z. field_of s s.query z ≡ Some g) w e))
  ]

  own-types : (y : Introspected) → introspection_type y ≡ rooted_concrete top concrete (introspected y)
  unfolding rooted_concrete
  own-types y = refl

  own-replies : (y : Introspected) (f : Name) (args : Members) → IsTrue true →
      map_reply introspected (answered (introspect s y f args)) ≡ rooted_answer top s answer (introspected y) f args
  unfolding map_reply rooted_answer
  own-replies y f args e = refl

  -- below the root the nodes are those of introspection alone
  failures-alike : (d : ℕ) (place to : Place) (U : Name) (y : Introspected) (os : List Occurrence) →
      failures (introspection_world s vars) d place to U y os ≡ failures V d place to U (introspected y) os
  unfolding introspection_world
  failures-alike d place to U y os = failures-seen s vars introspected introspection_type (λ y f args. answered (introspect s y f args))
      (rooted_concrete top concrete) (rooted_answer top s answer)
      own-types (λ f. true) own-replies d place to U y os (λ o i. (refl, selects-any o.below))

  -- ## The replies of the root and of users' nodes

  module _ (m : RootedNode N) (asks : (f : Name) (args : Members) → is_introspection f ≡ true →
      rooted_answer top s answer m f args ≡ answered (map_tree introspected (answer_at f (root_answers s args)))) where
    record RootFitting (h : Head) : Type 0 where
      pub tree_is : Tree Introspected
      pub reply_is : reply_to V s.query m h ≡ map_reply introspected (answered tree_is)
      pub fits : Fits s (declared_type (field_of s s.query h.name.item)) tree_is

    root-fitting : (o : Occurrence) → asks_schema o ≡ true → IsTrue (declares_field s s.query o.head.name.item) → RootFitting o.head
    unfolding asks_schema world_of reply_to map_reply map_tree declared_type
    root-fitting o k d = elim (options (field_of s s.query o.head.name.item)) [
      | inl n ↦ absurd (both_ways false refl (rw n at d))
      | inr (g, f) ↦ elim (cases_Bool (bytes_eq o.head.name.item typename)) [
        | inl q ↦ record {
          tree_is = leaf (text s.query);
          reply_is = rw q refl;
          fits = subst (λ z. Fits s (declared_type z) (leaf (text s.query))) (sym f)
              (typename-fits g (subst (λ z. field_of s s.query z ≡ Some g) (same_true o.head.name.item typename q) f));
        }
        | inr q ↦ let i = asked o k q in record {
          tree_is = answer_at o.head.name.item (root_answers s (V.arguments s.query o.head));
          reply_is = rw (q, asks o.head.name.item (V.arguments s.query o.head) i) refl;
          fits = subst (λ z. Fits s (declared_type z) (answer_at o.head.name.item (root_answers s (V.arguments s.query o.head)))) (sym f)
              (fit-root o.head.name.item g (V.arguments s.query o.head) i f);
        }
      ]
    ]
      where
        asked : (o : Occurrence) → asks_schema o ≡ true → bytes_eq o.head.name.item typename ≡ false → is_introspection o.head.name.item ≡ true
        asked o k q = elim (or_cases (is_introspection o.head.name.item) (bytes_eq o.head.name.item typename) k)
            [ inl i ↦ i | inr u ↦ absurd (both_ways (bytes_eq o.head.name.item typename) q u) ]

    root-group-none : (d : ℕ) (os : List Occurrence) → IsGroup s x vars d s.query os → ((o : Occurrence) → In o os → asks_schema o ≡ true) →
        (here above : Place) → key_failures V (failures V d) here above s.query m os ≡ []
    unfolding key_failures type_of reply_of reply_faults faults required world_of introspection_world
    root-group-none d [] g k here above = refl
    root-group-none d (o ∷ os) g k here above =
        let f = root-fitting o (k o (inl refl)) (g.declared o (inl refl)).0 in
        let t : TypeRef = declared_type (field_of s s.query o.head.name.item) in
        rw (f.reply_is) (sym (reply_faults-seen s vars introspected introspection_type (λ y f args. answered (introspect s y f args))
        (rooted_concrete top concrete) (rooted_answer top s answer) own-types
        (λ place to U n. failures (introspection_world s vars) d place to U n (occurrences (is_possible s) U (all_below (o ∷ os))))
        (λ place to U n. failures V d place to U n (occurrences (is_possible s) U (all_below (o ∷ os))))
        (λ place to U y. failures-alike d place to U y (occurrences (is_possible s) U (all_below (o ∷ os)))) here (starts_of (o ∷ os)) above t
        (answered f.tree_is))
        ∙ faults-none s x vars (λ place to U n. failures (introspection_world s vars) d place to U n (occurrences (is_possible s) U (all_below (o ∷ os)))) here
        (starts_of (o ∷ os)) above t f.tree_is f.fits
        (λ place to n k p. never s x vars d n k (occurrences (is_possible s) (introspection_type n) (all_below (o ∷ os)))
        (agree-all s x vars d (introspection_type n) (o ∷ os) (λ u v i j. g.agree u v i j (introspection_type n)
        (subst (λ z. IsTrue (is_possible s (introspection_type n) (innermost (declared_type (field_of s s.query z))))) (g.same o u (inl refl) i) p)))
        (declared-below s x vars d s.query (introspection_type n) o (o ∷ os) (λ u i. g.same u o i (inl refl)) g.declared p) place to))

  root-asks : (f : Name) (args : Members) → is_introspection f ≡ true →
      rooted_answer top s answer root f args ≡ answered (map_tree introspected (answer_at f (root_answers s args)))
  unfolding rooted_answer user_reply
  root-asks f args i = rw i refl

  users-ask : (m : RootedNode N) → is_users m ≡ true → (f : Name) (args : Members) → is_introspection f ≡ true →
      rooted_answer top s answer m f args ≡ answered (map_tree introspected (answer_at f (root_answers s args)))
  unfolding rooted_answer user_reply is_users
  users-ask root u f args i = rw i refl
  users-ask (user n) u f args i = rw i refl
  users-ask (introspected y) u f args i = absurd (both_ways false refl u)

  pub adds-none : (m : RootedNode N) → is_users m ≡ true → (d : ℕ) (os : List Occurrence) → Agree V (suc d) s.query os → AreDeclared s (suc d) s.query os →
      (k : Name) → list_all asks_schema (with_key k os) ≡ true → (here above : Place) →
      key_failures V (failures V d) here above s.query m (with_key k os) ≡ []
  unfolding world_of introspection_world
  adds-none m u d os c a k e here above =
      root-group-none m (users-ask m u) d (with_key k os) (group-of s x vars d s.query k os c a) (λ o i. all-in asks_schema (with_key k os) o e i) here above

  root-never : (d : ℕ) (os : List Occurrence) → Agree V d s.query os → AreDeclared s d s.query os → list_all asks_schema os ≡ true → (here above : Place) →
      failures V d here above s.query root os ≡ []
  unfolding failures world_of introspection_world
  root-never zero os c a k here above = refl
  root-never (suc d) os c a k here above =
      flat-none s x vars (λ k. key_failures V (failures V d) (here ++ key k ∷ []) above s.query root (with_key k os)) (keys os)
      (λ n. root-group-none root root-asks d (with_key n os) (group-of s x vars d s.query n os c a) (λ o i. all-in asks_schema os o k (in_with_key o n os i).0)
      (here ++ key n ∷ []) above)

pub looking_never_fails : {N : Type 0} → LookingNeverFails N
unfolding failures_of world_of rooted_world root_type
looking_never_fails s e disabled n given read d o vars r is_query looks top concrete answer =
    let a = runs_agree s disabled n given read d o vars r e (rooted_concrete top concrete) (rooted_answer top s answer) s.query
    (subst (λ k. root_type s k ≡ Some s.query) (sym is_query) refl) (depth (selected d o vars)) in
    root-never s (executable s e) vars top concrete answer (depth (selected d o vars)) (occurrences (is_possible s) s.query (selected d o vars)) a.0 a.1 looks
    [] []

pub introspection_adds_none : {N : Type 0} → IntrospectionAddsNone N
unfolding rooted_world
introspection_adds_none s e vars top concrete answer m u d os c a k looks here above =
    adds-none s (executable s e) vars top concrete answer m u d os c a k looks here above
