-- Nodes that are held by numbers answer what the nodes that they mean answer.
use Rattle.std.proofs.Common.{◌≡◌, ◌⊎◌, ◌++◌, ◌+◌, ℕ, suc, Bool, true, false, cond, codes, length, List, [], ◌∷◌, Option, Some, None, get_or, refl, sym, ap}
use Rattle.std.proofs.Common.{ap₂, ◌∙◌, inl, inr, subst, append_assoc}
use Rattle.std.specs.Prelude.{option_map, unwrap_or}
use Rattle.std.proofs.lemmas.Bool.{cases_Bool}
use Rattle.std.proofs.lemmas.List.{get_or_at, length-append}
use Rattle.std.specs.List.{list_all, filter, enumerate_from}
use Rattle.std.specs.Option.{is_some, option_and_then}
use Rattle.std.specs.Str.{bytes_eq}
use Rattle.graphql_spec.specs.Shown.{Text, Name}
use Rattle.graphql_spec.specs.Types.{TypeRef, named, list_of}
use Rattle.graphql_spec.specs.Inputs.{Input}
use Rattle.graphql_spec.specs.Constants.{Members, find}
use Rattle.graphql_spec.specs.Display.{display}
use Rattle.graphql_spec.specs.Schema.{InputDeclaration, FieldDeclaration, EnumValue, DirectiveDeclaration, Shape, scalar_type, enum_type, object_type}
use Rattle.graphql_spec.specs.Schema.{interface_type, union_type, input_object_type, list_type, nullable_type, placeholder, Entry, Schema}
use Rattle.graphql_spec.specs.BuiltIns.{value_named, directives}
use Rattle.graphql_spec.specs.Fields.{shape_of, interfaces_of, members_of}
use Rattle.graphql_spec.specs.Resolvers.{Tree, nothing, leaf, items, node, Trees, no_trees, tree, Reply, answered, failed}
use Rattle.graphql_spec.specs.Rules.{is_introspection}
use Rattle.graphql_spec.specs.Laws.{In}
use Rattle.graphql_spec.proofs.Keeping.{options}
use Rattle.graphql_spec.specs.TypeList.{type_list}
use Rattle.graphql_spec.specs.SeenNodes.{map_tree, map_trees, map_reply}
use Rattle.graphql_spec.specs.Introspected.{reason_of, own_name, of_type, declaration_of, declared_as, declared_kind, kind_of, description_of, url_of}
use Rattle.graphql_spec.specs.Introspected.{lists_field, own_fields, listed_fields, listed_interfaces, implementers, possible_types, lists_value, own_values}
use Rattle.graphql_spec.specs.Introspected.{listed_values, listed_inputs}
use Rattle.graphql_spec.specs.Introspection.{Introspected, type_node, field_node, input_node, value_node, directive_node, introspection_type, says, tells, each}
use Rattle.graphql_spec.specs.Introspection.{all_of, if_any, answer_at, a_type, type_called, an_input, includes_deprecated, schema_answers, type_answers}
use Rattle.graphql_spec.specs.Introspection.{field_answers, input_answers, value_answers, directive_answers, answers_of, introspect, given_text, type_if_known}
use Rattle.graphql_spec.specs.Introspection.{root_answers, RootedNode, introspected, user_reply}
use Rattle.graphql_spec.specs.IntrospectionLaws.{knows, introspection_world}
use Rattle.juniper_intro.specs.Handles.{InputPlace, of_field, of_input_object, of_directive, TypePlace, Handle, schema_handle, type_handle, field_handle}
use Rattle.juniper_intro.specs.Handles.{input_handle, value_handle, directive_handle, handle_type, no_field, no_input, no_directive, numbered, taken_off}
use Rattle.juniper_intro.specs.Handles.{shape_at, field_at, value_at, directive_at, input_at, reference_at, meant, called, inputs_at, schema_held, type_held}
use Rattle.juniper_intro.specs.Handles.{field_held, input_held, value_held, directive_held, held_answers, held_answer, AllAreNamed, held_world, NumbersServe}
use Rattle.juniper_intro.specs.Handles.{root_held, held_user_reply, held_reply, HeldNodesServe}
use Rattle.graphql_spec.proofs.IntrospectionFits.{types-known, implementers-known, declared-speaks}
use Rattle.graphql_spec.proofs.KnownTypes.{declared-known, Executable, executable, all-in, query-known, mutation-known}
use Rattle.graphql_spec.proofs.SeenNodes.{selects-any, seen_alike}

-- ## Numbers

-- what has a number stands there
at-number : {A : Type 0} (before xs : List A) (n : ℕ) (d : A) (p : ℕ × A) → length before ≡ n → In p (enumerate_from n xs) → get_or (before ++ xs) p.0 d ≡ p.1
at-number before [] n d p l i = absurd i
at-number before (x ∷ xs) n d p l (inl e) = rw e (get_or_at before x xs d n l)
at-number before (x ∷ xs) n d p l (inr i) = subst (λ z. get_or z p.0 d ≡ p.1) (append_assoc before (x ∷ []) xs)
    (at-number (before ++ x ∷ []) xs (n + 1) d p (length-append before (x ∷ []) ∙ ap (λ k. k + 1) l) i)

-- ## Trees

module _ (m : Handle → Introspected) where
  -- answers of one name each, where the one's are the other's
  abbrev Same : List (Name × Tree Handle) → List (Name × Tree Introspected) → Type 0
  Same [] [] = Unit {0}
  Same [] (b ∷ bs) = ⊥
  Same (a ∷ as') [] = ⊥
  Same (a ∷ as') (b ∷ bs) = (a.0 ≡ b.0) × (map_tree m a.1 ≡ b.1) × Same as' bs

  same-answer : (as' : List (Name × Tree Handle)) (bs : List (Name × Tree Introspected)) → Same as' bs → (f : Name) →
      map_tree m (answer_at f as') ≡ answer_at f bs
  unfolding answer_at map_tree
  same-answer [] [] e f = refl
  same-answer [] (b ∷ bs) e f = absurd e
  same-answer (a ∷ as') [] e f = absurd e
  same-answer (a ∷ as') (b ∷ bs) (k, t, e) f = elim (cases_Bool (bytes_eq f a.0)) [
    | inl q ↦ let r : bytes_eq f b.0 ≡ true = subst (λ z. bytes_eq f z ≡ true) k q in rw (q, r) t
    | inr q ↦ let r : bytes_eq f b.0 ≡ false = subst (λ z. bytes_eq f z ≡ false) k q in rw (q, r) (same-answer as' bs e f)
  ]

  same-texts : (o : Option Text) → map_tree m (if_any says o) ≡ if_any says o
  unfolding if_any says map_tree
  same-texts None = refl
  same-texts (Some t) = refl

  same-default : (o : Option Input) → map_tree m (if_any (λ v. says (display v)) o) ≡ if_any (λ v. says (display v)) o
  unfolding if_any says map_tree
  same-default None = refl
  same-default (Some v) = refl

  -- a list of one tree each, and of those that pass a test, by their numbers
  same-each : {A : Type 0} (f : A → Tree Handle) (g : A → Tree Introspected) (xs : List A) → ((x : A) → In x xs → map_tree m (f x) ≡ g x) →
      map_trees m (each f xs) ≡ each g xs
  unfolding each map_tree
  same-each f g [] e = refl
  same-each f g (x ∷ xs) e = ap₂ tree (e x (inl refl)) (same-each f g xs (λ y i. e y (inr i)))

  same-all : {A : Type 0} (f : A → Tree Handle) (g : A → Tree Introspected) (xs : List A) → ((x : A) → In x xs → map_tree m (f x) ≡ g x) →
      map_tree m (all_of f xs) ≡ all_of g xs
  unfolding all_of map_tree
  same-all f g xs e = ap items (same-each f g xs e)

  same-passed : {A : Type 0} (passes : A → Bool) (f : ℕ → Handle) (g : A → Introspected) (n : ℕ) (xs : List A) →
      ((p : ℕ × A) → In p (enumerate_from n xs) → m (f p.0) ≡ g p.1) →
      map_trees m (each (λ (p : ℕ × A). node (f p.0)) (filter (λ (p : ℕ × A). passes p.1) (enumerate_from n xs))) ≡ each (λ x. node (g x)) (filter passes xs)
  unfolding each map_tree
  same-passed passes f g n [] e = refl
  same-passed passes f g n (x ∷ xs) e = elim (cases_Bool (passes x)) [
    | inl q ↦ rw q (ap₂ tree (ap node (e (n, x) (inl refl))) (same-passed passes f g (n + 1) xs (λ p i. e p (inr i))))
    | inr q ↦ rw q (same-passed passes f g (n + 1) xs (λ p i. e p (inr i)))
  ]

  same-enumerated : {A : Type 0} (f : ℕ → Handle) (g : A → Introspected) (n : ℕ) (xs : List A) →
      ((p : ℕ × A) → In p (enumerate_from n xs) → m (f p.0) ≡ g p.1) →
      map_trees m (each (λ (p : ℕ × A). node (f p.0)) (enumerate_from n xs)) ≡ each (λ x. node (g x)) xs
  unfolding each map_tree
  same-enumerated f g n [] e = refl
  same-enumerated f g n (x ∷ xs) e = ap₂ tree (ap node (e (n, x) (inl refl))) (same-enumerated f g (n + 1) xs (λ p i. e p (inr i)))

module _ (s : Schema) (x : Executable s) (names : List Name) (number : Name → ℕ) (all : AllAreNamed s names number) where
  abbrev M : Handle → Introspected
  M = meant s names

  known-declared : (n : Name) → knows s n ≡ true → is_some (declaration_of s n) ≡ true
  unfolding knows declared_kind shape_of
  known-declared n e = of (declaration_of s n) e
    where
      of : (o : Option Entry) → is_some (declared_kind (shape_of o)) ≡ true → is_some o ≡ true
      of None e = e
      of (Some y) e = refl

  name-at : (n : Name) → is_some (declaration_of s n) ≡ true → get_or names (number n) [] ≡ n
  name-at n e = all n e

  same-called : (n : Name) → knows s n ≡ true → map_tree M (called number n) ≡ type_called n
  unfolding map_tree called type_called a_type meant reference_at taken_off
  same-called n e = ap (λ k. node (type_node (named false k))) (name-at n (known-declared n e))

  same-names : (ns : List Name) → list_all (knows s) ns ≡ true → map_tree M (all_of (called number) ns) ≡ all_of type_called ns
  same-names ns e = same-all M (called number) type_called ns (λ n i. same-called n (all-in (knows s) ns n e i))

  same-inputs : (place : ℕ → InputPlace) (ds : List InputDeclaration) → ((k : ℕ) → input_at s names (place k) ≡ get_or ds k no_input) →
      map_tree M (inputs_at place ds) ≡ all_of an_input ds
  unfolding map_tree inputs_at all_of an_input meant
  same-inputs place ds e =
      ap items (same-enumerated M (λ k. input_handle (place k)) input_node 0 ds (λ p i. ap input_node (e p.0 ∙ at-number [] ds 0 no_input p refl i)))

  same-mutation : (o : Option Name) → s.mutation ≡ o → map_tree M (if_any (called number) o) ≡ if_any type_called o
  unfolding if_any map_tree
  same-mutation None e = refl
  same-mutation (Some n) e = same-called n (mutation-known s x n e)

  same-schema : Same M (schema_held s names number) (schema_answers s)
  unfolding schema_held schema_answers map_tree all_of meant directive_at
  same-schema = (
    refl,
    refl,
    (
      refl,
      same-all M (λ (e : Entry). called number e.key) (λ (e : Entry). type_called e.key) (type_list s) (λ e i. same-called e.key (types-known s x e i)),
      (
        refl,
        same-called s.query (query-known s x),
        (
          refl,
          same-mutation s.mutation refl,
          (
            refl,
            refl,
            (
              refl,
              ap items (same-enumerated M (λ k. directive_handle k) (λ (d : DirectiveDeclaration). directive_node d) 0 directives
                  (λ p i. ap directive_node (at-number [] directives 0 no_directive p refl i))),
              tt,
            ),
          ),
        ),
      ),
    ),
  )

  -- ## Types

  -- a type of which something is declared has the number of its name
  abbrev Stands : Option Shape → ℕ → Type 0
  Stands o i = (o ≡ None) ⊎ (shape_at s names i ≡ o)

  stands : (t : TypeRef) → Stands (shape_of (declared_as s t)) (number (unwrap_or (own_name t) []))
  unfolding declared_as own_name shape_of shape_at
  stands (named true n) = inl refl
  stands (list_of r size t) = inl refl
  stands (named false n) = elim (options (declaration_of s n)) [
    | inl q ↦ inl (rw q refl)
    | inr (e, q) ↦ inr (ap (λ k. shape_of (declaration_of s k)) (name-at n (rw q refl)))
  ]

  same-fields : (b : Bool) (o : Option Shape) (i : ℕ) → Stands o i →
      map_tree M (if_any (all_of (λ (p : ℕ × FieldDeclaration). node (field_handle i p.0))) (option_map (numbered (lists_field b)) (own_fields o)))
      ≡ if_any (all_of (λ (f : FieldDeclaration). node (field_node f))) (listed_fields b o)
  unfolding map_tree if_any all_of numbered listed_fields own_fields meant field_at
  same-fields b o i (inl e) = rw e refl
  same-fields b o i (inr e) = elim (options (own_fields o)) [
    | inl q ↦ rw q refl
    | inr (fs, q) ↦ rw q (ap items (same-passed M (lists_field b) (λ k. field_handle i k) field_node 0 fs
        (λ p k. ap field_node (ap (λ y. get_or (unwrap_or y []) p.0 no_field) (ap own_fields e ∙ q) ∙ at-number [] fs 0 no_field p refl k))))
  ]

  same-values : (b : Bool) (o : Option Shape) (i : ℕ) → Stands o i →
      map_tree M (if_any (all_of (λ (p : ℕ × EnumValue). node (value_handle i p.0))) (option_map (numbered (lists_value b)) (own_values o)))
      ≡ if_any (all_of (λ (v : EnumValue). node (value_node v))) (listed_values b o)
  unfolding map_tree if_any all_of numbered listed_values own_values meant value_at
  same-values b o i (inl e) = rw e refl
  same-values b o i (inr e) = elim (options (own_values o)) [
    | inl q ↦ rw q refl
    | inr (vs, q) ↦ rw q (ap items (same-passed M (lists_value b) (λ k. value_handle i k) value_node 0 vs
        (λ p k. ap value_node (ap (λ y. get_or (unwrap_or y []) p.0 (value_named [])) (ap own_values e ∙ q) ∙ at-number [] vs 0 (value_named []) p refl k))))
  ]

  same-input_fields : (o : Option Shape) (i : ℕ) → Stands o i → map_tree M (if_any (inputs_at (of_input_object i)) (listed_inputs o))
      ≡ if_any (all_of an_input) (listed_inputs o)
  unfolding map_tree if_any listed_inputs input_at
  same-input_fields o i (inl e) = rw e refl
  same-input_fields o i (inr e) = elim (options (listed_inputs o)) [
    | inl q ↦ rw q refl
    | inr (ds, q) ↦ rw q (same-inputs (of_input_object i) ds (λ k. ap (λ y. get_or (unwrap_or y []) k no_input) (ap listed_inputs e ∙ q)))
  ]

  same-interfaces : (o : Option Shape) → list_all (knows s) (interfaces_of o) ≡ true →
      map_tree M (if_any (all_of (called number)) (listed_interfaces o)) ≡ if_any (all_of type_called) (listed_interfaces o)
  unfolding map_tree if_any listed_interfaces interfaces_of
  same-interfaces (Some (scalar_type k u)) e = refl
  same-interfaces (Some (enum_type vs)) e = refl
  same-interfaces (Some (object_type fs is)) e = same-names is e
  same-interfaces (Some (interface_type fs is)) e = same-names is e
  same-interfaces (Some (union_type ms)) e = refl
  same-interfaces (Some (input_object_type ds)) e = refl
  same-interfaces (Some (list_type k t)) e = refl
  same-interfaces (Some (nullable_type t)) e = refl
  same-interfaces (Some placeholder) e = refl
  same-interfaces None e = refl

  same-possible : (n : Name) (o : Option Shape) → list_all (knows s) (members_of o) ≡ true →
      map_tree M (if_any (all_of (called number)) (possible_types s n o)) ≡ if_any (all_of type_called) (possible_types s n o)
  unfolding map_tree if_any possible_types members_of
  same-possible n (Some (scalar_type k u)) e = refl
  same-possible n (Some (enum_type vs)) e = refl
  same-possible n (Some (object_type fs is)) e = refl
  same-possible n (Some (interface_type fs is)) e = same-names (implementers s n) (implementers-known s x n)
  same-possible n (Some (union_type ms)) e = same-names ms e
  same-possible n (Some (input_object_type ds)) e = refl
  same-possible n (Some (list_type k t)) e = refl
  same-possible n (Some (nullable_type t)) e = refl
  same-possible n (Some placeholder) e = refl
  same-possible n None e = refl

  same-possible_of : (t : TypeRef) (o : Option Shape) → list_all (knows s) (members_of o) ≡ true →
      map_tree M (if_any (all_of (called number)) (option_and_then (λ n. possible_types s n o) (own_name t)))
      ≡ if_any (all_of type_called) (option_and_then (λ n. possible_types s n o) (own_name t))
  unfolding map_tree if_any own_name
  same-possible_of (named false n) o e = same-possible n o e
  same-possible_of (named true n) o e = refl
  same-possible_of (list_of r size t) o e = refl

  same-inside : (place : TypePlace) (d : ℕ) → map_tree M (if_any (λ u. node (type_handle place (suc d))) (of_type (taken_off d (reference_at s names place))))
      ≡ if_any a_type (of_type (taken_off d (reference_at s names place)))
  unfolding map_tree if_any a_type meant taken_off
  same-inside place d = elim (options (of_type (taken_off d (reference_at s names place)))) [
    | inl q ↦ rw q refl
    | inr (u, q) ↦ rw q (ap (λ y. node (type_node (unwrap_or y (taken_off d (reference_at s names place))))) q)
  ]

  same-type : (place : TypePlace) (d : ℕ) (args : Members) → Same M (held_answers s names number (type_handle place d) args)
      (type_answers s (taken_off d (reference_at s names place)) args)
  unfolding held_answers type_held type_answers
  same-type place d args =
      let t : TypeRef = taken_off d (reference_at s names place) in
      let o : Option Shape = shape_of (declared_as s t) in
      let i : ℕ = number (unwrap_or (own_name t) []) in
      let k = declared-speaks s x t in
      let b : Bool = includes_deprecated args in (
        refl,
        same-texts M (kind_of s t),
        (
          refl,
          same-texts M (own_name t),
          (
            refl,
            same-texts M (description_of (declared_as s t)),
            (
              refl,
              same-texts M (url_of o),
              (
                refl,
                same-texts M (url_of o),
                (
                  refl,
                  same-fields b o i (stands t),
                  (
                    refl,
                    same-interfaces o k.interfaces,
                    (
                      refl,
                      same-possible_of t o k.members,
                      (
                        refl,
                        same-values b o i (stands t),
                        (
                          refl,
                          same-input_fields o i (stands t),
                          (refl, same-inside place d, tt),
                        ),
                      ),
                    ),
                  ),
                ),
              ),
            ),
          ),
        ),
      )

  -- ## The others

  same-field : (i j : ℕ) → Same M (field_held i j (field_at s names i j)) (field_answers (field_at s names i j))
  unfolding field_held field_answers map_tree says tells meant reference_at taken_off input_at a_type
  same-field i j = let f : FieldDeclaration = field_at s names i j in (
    refl,
    refl,
    (
      refl,
      same-texts M f.description,
      (
        refl,
        same-inputs (of_field i j) f.arguments (λ k. refl),
        (refl, refl, (refl, refl, (refl, same-texts M (reason_of f.deprecation), tt))),
      ),
    ),
  )

  same-input : (place : InputPlace) → Same M (input_held place (input_at s names place)) (input_answers (input_at s names place))
  unfolding input_held input_answers map_tree says meant reference_at taken_off a_type
  same-input place =
      let d : InputDeclaration = input_at s names place in (refl, refl, (refl, same-texts M d.description, (refl, refl, (refl, same-default M d.default, tt))))

  same-value : (v : EnumValue) → Same M (value_held v) (value_answers v)
  unfolding value_held value_answers map_tree says tells
  same-value v = (refl, refl, (refl, same-texts M v.description, (refl, refl, (refl, same-texts M (reason_of v.deprecation), tt))))

  same-directive : (i : ℕ) → Same M (directive_held i (directive_at i)) (directive_answers (directive_at i))
  unfolding directive_held directive_answers map_tree says tells input_at
  same-directive i = let d : DirectiveDeclaration = directive_at i in (
    refl,
    refl,
    (
      refl,
      refl,
      (
        refl,
        same-all M says says d.locations (λ k j. refl),
        (refl, same-inputs (of_directive i) d.arguments (λ k. refl), (refl, refl, (refl, refl, (refl, refl, (refl, refl, tt))))),
      ),
    ),
  )

  same-answers : (h : Handle) (args : Members) → Same M (held_answers s names number h args) (answers_of s (M h) args)
  unfolding held_answers answers_of meant
  same-answers schema_handle args = same-schema
  same-answers (type_handle place d) args = same-type place d args
  same-answers (field_handle i j) args = same-field i j
  same-answers (input_handle place) args = same-input place
  same-answers (value_handle i j) args = same-value (value_at s names i j)
  same-answers (directive_handle i) args = same-directive i

  pub same-held : (h : Handle) (f : Name) (args : Members) → map_tree M (held_answer s names number h f args) ≡ introspect s (M h) f args
  unfolding held_answer introspect
  same-held h f args = same-answer M (held_answers s names number h args) (answers_of s (M h) args) (same-answers h args) f

  same-known : (n : Name) → map_tree M (cond (is_some (declaration_of s n)) (called number n) nothing) ≡ type_if_known s n
  unfolding map_tree type_if_known
  same-known n = elim (cases_Bool (is_some (declaration_of s n))) [ inl e ↦ rw e (same-called n (declared-known s x n e)) | inr e ↦ rw e refl ]

  same-if_known : (o : Option Text) → map_tree M (if_any (λ n. cond (is_some (declaration_of s n)) (called number n) nothing) o) ≡ if_any (type_if_known s) o
  unfolding if_any map_tree
  same-if_known None = refl
  same-if_known (Some n) = same-known n

  same-root : (args : Members) → Same M (root_held s names number args) (root_answers s args)
  unfolding root_held root_answers map_tree meant
  same-root args = (refl, refl, (refl, same-if_known (given_text (find (codes "name") args)), tt))

  pub root-held : (f : Name) (args : Members) → map_tree M (answer_at f (root_held s names number args)) ≡ answer_at f (root_answers s args)
  root-held f args = same-answer M (root_held s names number args) (root_answers s args) (same-root args) f

-- ## Nodes seen twice

-- texts have no nodes
pub texts_alike : {A B : Type 0} (h : A → B) (o : Option Text) → map_tree h (if_any says o) ≡ if_any says o
unfolding if_any says map_tree
texts_alike h None = refl
texts_alike h (Some t) = refl

module _ {A B C : Type 0} (f : A → B) (g : B → C) where
  mutual
    unfolding map_tree

    map-twice : (a : Tree A) → map_tree g (map_tree f a) ≡ map_tree (λ y. g (f y)) a
    map-twice nothing = refl
    map-twice (leaf v) = refl
    map-twice (items ts) = ap items (map-twice_all ts)
    map-twice (node n) = refl

    map-twice_all : (ts : Trees A) → map_trees g (map_trees f ts) ≡ map_trees (λ y. g (f y)) ts
    map-twice_all no_trees = refl
    map-twice_all (tree a rest) = ap₂ tree (map-twice a) (map-twice_all rest)

  pub map-reply_twice : (r : Reply A) → map_reply g (map_reply f r) ≡ map_reply (λ y. g (f y)) r
  unfolding map_reply
  map-reply_twice (answered a) = ap answered (map-twice a)
  map-reply_twice (failed e) = refl

pub held_nodes_serve : {N R : Type 0} → HeldNodesServe N R
unfolding held_user_reply held_reply user_reply map_reply
held_nodes_serve {N} {R} s e names number all of_user of_handle sees sees_user sees_handle = (
  users,
  λ h f args. handles (held_answer s names number h f args)
      ∙ ap (λ t. answered (map_tree introspected t)) (same-held s (executable s e) names number all h f args),
)
  where
    handles : (a : Tree Handle) → map_reply sees (answered (map_tree of_handle a)) ≡ answered (map_tree introspected (map_tree (meant s names) a))
    handles a = ap answered (map-twice of_handle sees a ∙ (ap (λ (f : Handle → RootedNode N). map_tree f a) (λ i h. sees_handle h i)
        ∙ sym (map-twice (meant s names) introspected a)))

    users : (top : N) (answer : N → Name → Members → Reply N) (n : N) (f : Name) (args : Members) →
        map_reply sees (held_user_reply of_user of_handle s names number answer n f args) ≡ user_reply top s answer n f args
    users top answer n f args = elim (cases_Bool (is_introspection f)) [
      | inl q ↦ rw q (handles (answer_at f (root_held s names number args))
          ∙ ap (λ t. answered (map_tree introspected t)) (root-held s (executable s e) names number all f args))
      | inr q ↦ rw q (map-reply_twice of_user sees (answer n f args) ∙ ap (λ (g : N → RootedNode N). map_reply g (answer n f args)) (λ i m. sees_user m i))
    ]

pub handle-type : (s : Schema) (names : List Name) (h : Handle) → handle_type h ≡ introspection_type (meant s names h)
unfolding handle_type introspection_type meant
handle-type s names schema_handle = refl
handle-type s names (type_handle place d) = refl
handle-type s names (field_handle i j) = refl
handle-type s names (input_handle place) = refl
handle-type s names (value_handle i j) = refl
handle-type s names (directive_handle i) = refl

pub numbers_serve : NumbersServe
unfolding held_world introspection_world map_reply
numbers_serve s e names number all vars T h selected = seen_alike s vars (meant s names) (λ f. true) handle_type
    (λ h f args. answered (held_answer s names number h f args)) introspection_type (λ x f args. answered (introspect s x f args))
    (handle-type s names) (λ m f args p. ap answered (same-held s (executable s e) names number all m f args)) T h selected (selects-any selected)
