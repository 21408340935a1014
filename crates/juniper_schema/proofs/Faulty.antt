-- What is found first is the first fault.
use Rattle.std.proofs.Common.{◌≡◌, Bool, true, false, not, ◌&&◌, ◌⊎◌, cond, codes, List, [], ◌∷◌, map, Option, Some, None, option_map}
use Rattle.std.proofs.Common.{MatchOption, bytes_eq, refl, sym, ap, subst, ◌∙◌, inl, inr}
use Rattle.std.specs.List.{list_all, list_any}
use Rattle.std.specs.Option.{is_none, option_or}
use Rattle.std.proofs.lemmas.Bool.{and_from, and_left, and_parts, and_right, both_ways, cases_Bool, false_from_ne_true, or_from, or_left, or_right}
use Rattle.std.proofs.lemmas.Option.{none-some, same_Some}
use Rattle.graphql_spec.specs.Shown.{Name}
use Rattle.graphql_spec.specs.Schema.{Entry, Schema}
use Rattle.graphql_spec.specs.Fields.{entry_named, interfaces_of, is_object, members_of}
use Rattle.graphql_spec.specs.Executable.{accepts_just, all_names_differ, built_ins_are_right, default_is_right, defaults_fit, entries_are_named}
use Rattle.graphql_spec.specs.Executable.{entry_is_named}
use Rattle.graphql_spec.specs.Executable.{entry_names_differ, input_fields_of, interfaces_are_met, is_executable, mutation_is_apart}
use Rattle.graphql_spec.specs.Executable.{roots_are_objects, scalar_if_there}
use Rattle.graphql_spec.specs.Executable.{shape_fields, types_are_known, values_of}
use Rattle.graphql_spec.specs.Executable.{ends_in_input, field_is_free, field_is_known, implements, input_is_free, input_names_differ, is_filled, is_own_name}
use Rattle.graphql_spec.specs.Executable.{is_reserved, is_value_name, names_differ}
use Rattle.graphql_spec.specs.Tokens.{is_name}
use Rattle.graphql_spec.proofs.Lists.{same_refl, same_true}
use Rattle.juniper_schema.specs.declared.faults.fault.Demand.{Demand}
use Rattle.juniper_schema.specs.declared.faults.fault.Demand.TheVariants.{EntryNames, RootTypes, KnownTypes, DistinctNames, Interfaces, Defaults, BuiltInScalars}
use Rattle.juniper_schema.specs.Faults.{Fault, IsFirstFault, entry_fails, fails_at, fails_named, field_meets, input_meets, interface_meets}
use Rattle.juniper_schema.specs.Faults.{is_met, member_meets, met_before}
use Rattle.juniper_schema.specs.Faults.{own_meets, root_fails, scalar_fails, value_meets}
use Rattle.juniper_schema.specs.Searching.{at_type, fault_among, fault_of, fault_unless, first_failing, first_fault, first_member, mutation_fault}
use Rattle.juniper_schema.specs.Searching.{root_fault, scalar_fault}

-- ## One of two answers

or_none : {X : Type 0} (a b : Option X) → option_or a b ≡ None → (a ≡ None) × (b ≡ None)
or_none None b e = (refl, e)
or_none (Some x) b e = absurd (none-some x (sym e))

or_some : {X : Type 0} (a b : Option X) (x : X) → option_or a b ≡ Some x → (a ≡ Some x) ⊎ ((a ≡ None) × (b ≡ Some x))
or_some None b x e = inr (refl, e)
or_some (Some y) b x e = inl e

-- an answer that tells a failure of a test
record Tells {X : Type 0} (passes : Bool) (At : X → Type 0) (o : Option X) : Type 0 where
  none : o ≡ None → passes ≡ true
  some : (x : X) → o ≡ Some x → (passes ≡ false) × At x

tells_or : {X : Type 0} (p q : Bool) (A B : X → Type 0) (a b : Option X) → Tells p A a → Tells q B b → Tells (p && q) (λ x. A x ⊎ B x) (option_or a b)
tells_or p q A B a b t u = record {
  none = λ e. let both = or_none a b e in and_from p q (t.none both.0) (u.none both.1);
  some = λ x e. elim (or_some a b x e) [
    | inl is ↦ let told = t.some x is in (and_left p q told.0, inl told.1)
    | inr both ↦ let told = u.some x both.1 in (and_right p q told.0, inr told.1)
  ];
}

tells_more : {X : Type 0} (p q : Bool) (A B : X → Type 0) (o : Option X) → p ≡ q → ((x : X) → A x → B x) → Tells p A o → Tells q B o
tells_more p q A B o same more t = record { none = λ e. sym same ∙ t.none e; some = λ x e. let told = t.some x e in (sym same ∙ told.0, more x told.1) }

-- ## One entry

tells_failing : {X : Type 0} (name : X → Name) (test : X → Bool) (xs : List X) → Tells (list_all test xs) (λ m. fails_named name test m xs ≡ true)
    (first_failing name test xs)
tells_failing name test [] = record { none = λ e. refl; some = λ x e. absurd (none-some x e) }
tells_failing name test (y ∷ ys) = go (tells_failing name test ys) (test y) refl
  where
    go : Tells (list_all test ys) (λ m. fails_named name test m ys ≡ true) (first_failing name test ys) → (b : Bool) → test y ≡ b → Tells (test y
        && list_all test ys) (λ m. fails_named name test m (y ∷ ys) ≡ true)
        (cond (test y) (first_failing name test ys) (Some (name y)))
    go rest true is = record {
      none = λ e. and_from (test y) _ is (rest.none (rw is at e));
      some = λ m e. let told = rest.some m (rw is at e) in (and_right (test y) _ told.0, or_right (bytes_eq m (name y) && not (test y)) _ told.1);
    }
    go rest false is = record {
      none = λ e. absurd (none-some (name y) (sym (rw is at e)));
      some = λ m e. let same = same_Some (name y) m (rw is at e) in (
        and_left (test y) _ is,
        or_left (bytes_eq m (name y) && not (test y)) _
            (and_from (bytes_eq m (name y)) (not (test y)) (subst (λ k. bytes_eq k (name y) ≡ true) same (same_refl (name y))) (ap not is)),
      );
    }

module _ (s : Schema) (d : Demand) (e : Entry) where
  -- its parts pass
  abbrev parts_pass : Bool
  parts_pass = (((list_all (field_meets s d) (shape_fields e.shape) && list_all (input_meets s d) (input_fields_of e.shape))
      && list_all (value_meets d) (values_of e.shape)) && list_all (interface_meets s d e) (interfaces_of (Some e.shape)))
      && list_all (member_meets s d) (members_of (Some e.shape))

  -- it passes
  abbrev passes : Bool
  passes = own_meets d e && parts_pass

  abbrev FaultIn : Fault → Type 0
  FaultIn f = (f.demand ≡ d) × (bytes_eq f.type_name e.key ≡ true) × (entry_fails s d e f.member ≡ true)

  tells_member : Tells parts_pass (λ m. entry_fails s d e (Some m) ≡ true) (first_member s d e)
  unfolding entry_fails
  tells_member = tells_more parts_pass parts_pass _ _ (first_member s d e) refl (λ m told. elim told [
    | inl told ↦ elim told [
      | inl told ↦ elim told [
        | inl told ↦ elim told [
          | inl told ↦ or_left (fails_named (λ f. f.name) (field_meets s d) m (shape_fields e.shape)) _ told
          | inr told ↦ or_right (fails_named (λ f. f.name) (field_meets s d) m (shape_fields e.shape)) _ (or_left _ _ told)
        ]
        | inr told ↦ or_right (fails_named (λ f. f.name) (field_meets s d) m (shape_fields e.shape)) _
            (or_right (fails_named (λ i. i.name) (input_meets s d) m (input_fields_of e.shape)) _ (or_left _ _ told))
      ]
      | inr told ↦ or_right (fails_named (λ f. f.name) (field_meets s d) m (shape_fields e.shape)) _
          (or_right (fails_named (λ i. i.name) (input_meets s d) m (input_fields_of e.shape)) _
          (or_right (fails_named (λ v. v.name) (value_meets d) m (values_of e.shape)) _ (or_left _ _ told)))
    ]
    | inr told ↦ or_right (fails_named (λ f. f.name) (field_meets s d) m (shape_fields e.shape)) _
        (or_right (fails_named (λ i. i.name) (input_meets s d) m (input_fields_of e.shape)) _
        (or_right (fails_named (λ v. v.name) (value_meets d) m (values_of e.shape)) _
        (or_right (fails_named (λ i. i) (interface_meets s d e) m (interfaces_of (Some e.shape))) _ told)))
  ]) (tells_or _ _ _ _ _ _ (tells_or _ _ _ _ _ _ (tells_or _ _ _ _ _ _ (tells_or _ _ _ _ _ _
      (tells_failing (λ f. f.name) (field_meets s d) (shape_fields e.shape))
      (tells_failing (λ i. i.name) (input_meets s d) (input_fields_of e.shape)))
      (tells_failing (λ v. v.name) (value_meets d) (values_of e.shape)))
      (tells_failing (λ i. i) (interface_meets s d e) (interfaces_of (Some e.shape))))
      (tells_failing (λ i. i) (member_meets s d) (members_of (Some e.shape))))

  tells_fault : Tells passes FaultIn (fault_of s d e)
  unfolding fault_of entry_fails
  tells_fault = go (own_meets d e) refl (first_member s d e) refl
    where
      made : Name → Fault
      made m = record { demand = d; type_name = e.key; member = Some m }

      own : Fault
      own = record { demand = d; type_name = e.key; member = None }

      go : (b : Bool) → own_meets d e ≡ b → (o : Option Name) → first_member s d e ≡ o →
          Tells passes FaultIn (cond (own_meets d e) (option_map made (first_member s d e)) (Some own))
      go false is o at = record {
        none = λ h. absurd (none-some own (sym (rw is at h)));
        some = λ f h. let same = same_Some own f (rw is at h) in (and_left (own_meets d e) _ is, subst FaultIn same (refl, same_refl e.key, ap not is));
      }
      go true is None at = record {
        none = λ h. and_from (own_meets d e) _ is (tells_member.none at);
        some = λ f h. absurd (none-some f (rw (is, at) at h));
      }
      go true is (Some m) at = record {
        none = λ h. absurd (none-some (made m) (sym (rw (is, at) at h)));
        some = λ f h. let told = tells_member.some m at in (
          and_right (own_meets d e) _ told.0,
          subst FaultIn (same_Some (made m) f (rw (is, at) at h)) (refl, same_refl e.key, told.1),
        );
      }

-- ## All entries

module _ (s : Schema) (d : Demand) where
  -- the fault is one of these entries
  abbrev FaultAmong : List Entry → Fault → Type 0
  FaultAmong es f = (f.demand ≡ d) × (list_any (λ e. bytes_eq f.type_name e.key && entry_fails s d e f.member) es ≡ true)

  tells_first : (es : List Entry) → Tells (list_all (passes s d) es) (FaultAmong es) (first_fault s d es)
  tells_first [] = record { none = λ h. refl; some = λ f h. absurd (none-some f h) }
  tells_first (e ∷ es) = tells_more (passes s d e && list_all (passes s d) es) (list_all (passes s d) (e ∷ es)) _ (FaultAmong (e ∷ es))
      (option_or (fault_of s d e) (first_fault s d es)) refl
      (λ f told. elim told [
        | inl told ↦ (told.0, or_left _ _ (and_from (bytes_eq f.type_name e.key) _ told.1 told.2))
        | inr told ↦ (told.0, or_right (bytes_eq f.type_name e.key && entry_fails s d e f.member) _ told.1)
      ]) (tells_or _ _ _ _ _ _ (tells_fault s d e) (tells_first es))

-- these entries are those of the schema, in whatever order
abbrev pub AreEntries : Schema → List Entry → Type 0
AreEntries s es = (test : Entry → Bool) → list_all test es ≡ list_all test s.entries

all_not : {X : Type 0} (test : X → Bool) (xs : List X) → list_any test xs ≡ not (list_all (λ x. not (test x)) xs)
all_not test [] = refl
all_not test (x ∷ xs) = elim (cases_Bool (test x)) [ inl e ↦ rw e refl | inr e ↦ rw e (all_not test xs) ]

any_same : (s : Schema) (es : List Entry) → AreEntries s es → (test : Entry → Bool) → list_any test es ≡ list_any test s.entries
any_same s es same test = all_not test es ∙ (ap not (same (λ e. not (test e))) ∙ sym (all_not test s.entries))

-- ## One clause

all_true : {X : Type 0} (xs : List X) → list_all (λ x. true) xs ≡ true
all_true [] = refl
all_true (x ∷ xs) = all_true xs

regroup_names : (a b c k f i v : Bool) → (a && (b && (c && (k && (f && (i && v)))))) ≡ ((a && (b && (c && k))) && ((((f && i) && v) && true) && true))
regroup_names true true true true true true true = refl
regroup_names true true true true true true false = refl
regroup_names true true true true true false v = refl
regroup_names true true true true false i v = refl
regroup_names true true true false f i v = refl
regroup_names true true false k f i v = refl
regroup_names true false c k f i v = refl
regroup_names false b c k f i v = refl

regroup_parts : (f i : Bool) → (f && i) ≡ (true && ((((f && i) && true) && true) && true))
regroup_parts true true = refl
regroup_parts true false = refl
regroup_parts false i = refl

regroup_differ : (f g i v w n m o : Bool) → (f && (g && (i && (v && (w && (n && (m && o))))))) ≡ ((f && (i && (v && (n && m)))) && ((((g && true) && w)
    && true) && o))
regroup_differ true true true true true true true o = refl
regroup_differ true true true true true true false o = refl
regroup_differ true true true true true false m o = refl
regroup_differ true true true true false true true o = refl
regroup_differ true true true true false true false o = refl
regroup_differ true true true true false false m o = refl
regroup_differ true true true false w n m o = refl
regroup_differ true true false v w n m o = refl
regroup_differ true false true true w true true o = refl
regroup_differ true false true true w true false o = refl
regroup_differ true false true true w false m o = refl
regroup_differ true false true false w n m o = refl
regroup_differ true false false v w n m o = refl
regroup_differ false g i v w n m o = refl

regroup_interfaces : (i : Bool) → i ≡ (true && ((((true && true) && true) && i) && true))
regroup_interfaces true = refl
regroup_interfaces false = refl

regroup_scalars : (a b c d : Bool) → (((a && b) && c) && d) ≡ (a && (b && (c && d)))
regroup_scalars true true true d = refl
regroup_scalars true true false d = refl
regroup_scalars true false c d = refl
regroup_scalars false b c d = refl

none_fails : {X : Type 0} (test : X → Bool) (xs : List X) → list_all test xs ≡ true → list_any (λ x. not (test x)) xs ≡ false
none_fails test [] all = refl
none_fails test (x ∷ xs) all = let both = and_parts (test x) _ all in or_from (not (test x)) _ (ap not both.0) (none_fails test xs both.1)

not_all : {X : Type 0} (test : X → Bool) (xs : List X) → list_any (λ x. not (test x)) xs ≡ true → list_all test xs ≡ false
not_all test xs any = false_from_ne_true (list_all test xs) (λ all. both_ways _ (none_fails test xs all) any)

module _ (s : Schema) where
  named_passes : (e : Entry) → entry_is_named e ≡ passes s EntryNames e
  unfolding entry_is_named own_meets field_meets input_meets value_meets interface_meets member_meets
  named_passes e = rw (all_true (interfaces_of (Some e.shape)), all_true (members_of (Some e.shape)))
      (regroup_names (is_filled e.shape) (is_own_name e.key e.name) (is_name e.key) (not (is_reserved e.key)) (list_all field_is_free (shape_fields e.shape))
      (list_all input_is_free (input_fields_of e.shape)) (list_all (λ v. not (is_reserved v.name)) (values_of e.shape)))

  known_passes : (e : Entry) → (list_all (field_is_known s) (shape_fields e.shape) && list_all (ends_in_input s) (input_fields_of e.shape))
      ≡ passes s KnownTypes e
  unfolding own_meets field_meets input_meets value_meets interface_meets member_meets
  known_passes e = rw (all_true (values_of e.shape), all_true (interfaces_of (Some e.shape)), all_true (members_of (Some e.shape)))
      (regroup_parts (list_all (field_is_known s) (shape_fields e.shape)) (list_all (ends_in_input s) (input_fields_of e.shape)))

  differ_passes : (e : Entry) → entry_names_differ s e.shape ≡ passes s DistinctNames e
  unfolding entry_names_differ own_meets field_meets input_meets value_meets interface_meets member_meets
  differ_passes e = rw (all_true (input_fields_of e.shape), all_true (interfaces_of (Some e.shape)))
      (regroup_differ (names_differ (map (λ f. f.name) (shape_fields e.shape))) (list_all (λ f. input_names_differ f.arguments) (shape_fields e.shape))
      (input_names_differ (input_fields_of e.shape)) (names_differ (map (λ v. v.name) (values_of e.shape))) (list_all (λ v. is_value_name v.name)
      (values_of e.shape))
      (names_differ (interfaces_of (Some e.shape))) (names_differ (members_of (Some e.shape)))
      (list_all (λ m. is_object (entry_named s m)) (members_of (Some e.shape))))

  interfaces_pass : (e : Entry) → list_all (implements s e.key e.shape) (interfaces_of (Some e.shape)) ≡ passes s Interfaces e
  unfolding own_meets field_meets input_meets value_meets interface_meets member_meets
  interfaces_pass e = rw (
    all_true (shape_fields e.shape),
    all_true (input_fields_of e.shape),
    all_true (values_of e.shape),
    all_true (members_of
        (Some e.shape)),
  )
      (regroup_interfaces (list_all (implements s e.key e.shape) (interfaces_of (Some e.shape))))

  defaults_pass : (e : Entry) → (list_all (λ f. list_all (default_is_right s) f.arguments) (shape_fields e.shape)
      && list_all (default_is_right s) (input_fields_of e.shape)) ≡ passes s Defaults e
  unfolding own_meets field_meets input_meets value_meets interface_meets member_meets
  defaults_pass e = rw (all_true (values_of e.shape), all_true (interfaces_of (Some e.shape)), all_true (members_of (Some e.shape)))
      (regroup_parts (list_all (λ f. list_all (default_is_right s) f.arguments) (shape_fields e.shape)) (list_all (default_is_right s)
      (input_fields_of e.shape)))

  -- a clause of entries holds where all of them pass
  all_same : (d : Demand) (test : Entry → Bool) → ((e : Entry) → test e ≡ passes s d e) → list_all (passes s d) s.entries ≡ list_all test s.entries
  all_same d test same = ap (λ t. list_all t s.entries) (λ i e. (sym (same e)) i)

  -- what is told of a clause: its demand, and where it fails
  abbrev Says : Demand → Option Fault → Type 0
  Says d o = Tells (is_met s d) (λ f. (f.demand ≡ d) × (fails_at s f ≡ true)) o

  says : (d : Demand) → is_met s d ≡ list_all (passes s d) s.entries → ((f : Fault) → f.demand ≡ d →
      list_any (λ e. bytes_eq f.type_name e.key && entry_fails s d e f.member) s.entries ≡ true → fails_at s f ≡ true) →
      (es : List Entry) → AreEntries s es → Says d (first_fault s d es)
  says d met at es same = tells_more (list_all (passes s d) es) (is_met s d) (FaultAmong s d es) _ (first_fault s d es) (same (passes s d) ∙ sym met)
      (λ f told. (told.0, at f told.0 (sym (any_same s es same _) ∙ told.1))) (tells_first s d es)

  says_named : (es : List Entry) → AreEntries s es → Says EntryNames (first_fault s EntryNames es)
  unfolding is_met entries_are_named fails_at
  says_named = says EntryNames (sym (all_same EntryNames entry_is_named named_passes)) (λ f is fails. rw is fails)

  says_known : (es : List Entry) → AreEntries s es → Says KnownTypes (first_fault s KnownTypes es)
  unfolding is_met types_are_known fails_at
  says_known = says KnownTypes (sym (all_same KnownTypes _ known_passes)) (λ f is fails. rw is fails)

  says_distinct : (es : List Entry) → AreEntries s es → Says DistinctNames (first_fault s DistinctNames es)
  unfolding is_met all_names_differ fails_at
  says_distinct = says DistinctNames (sym (all_same DistinctNames _ differ_passes)) (λ f is fails. rw is fails)

  says_interfaces : (es : List Entry) → AreEntries s es → Says Interfaces (first_fault s Interfaces es)
  unfolding is_met interfaces_are_met fails_at
  says_interfaces = says Interfaces (sym (all_same Interfaces _ interfaces_pass)) (λ f is fails. rw is fails)

  says_defaults : (es : List Entry) → AreEntries s es → Says Defaults (first_fault s Defaults es)
  unfolding is_met defaults_fit fails_at
  says_defaults = says Defaults (sym (all_same Defaults _ defaults_pass)) (λ f is fails. rw is fails)

  -- ## Roots and scalars

  tells_unless : (b : Bool) (d : Demand) (n : Name) → Tells b (λ f. (b ≡ false) × (f ≡ at_type d n)) (fault_unless b d n)
  tells_unless true d n = record { none = λ h. refl; some = λ f h. absurd (none-some f h) }
  tells_unless false d n = record { none = λ h. absurd (none-some (at_type d n) (sym h)); some = λ f h. (refl, (refl, sym (same_Some (at_type d n) f h))) }

  -- the root type fails itself
  abbrev FailsAtRoot : Fault → Type 0
  FailsAtRoot f = (f.demand ≡ RootTypes) × ((is_none f.member && root_fails s f.type_name) ≡ true)

  mutation_part : Tells (mutation_is_apart s s.mutation) FailsAtRoot (mutation_fault s s.mutation)
  unfolding mutation_fault mutation_is_apart root_fails entry_named
  mutation_part = go s.mutation refl
    where
      go : (o : Option Name) → s.mutation ≡ o → Tells (mutation_is_apart s o) FailsAtRoot (mutation_fault s o)
      go None is = record { none = λ h. refl; some = λ f h. absurd (none-some f h) }
      go (Some m) is = tells_more (mutation_is_apart s (Some m)) (mutation_is_apart s (Some m)) _ _ (mutation_fault s (Some m)) refl
          (λ f told. (
            ap (λ g. g.demand) told.1,
            subst (λ g. (is_none g.member && root_fails s g.type_name) ≡ true) (sym told.1)
                (rw is (or_right (bytes_eq m s.query && not (is_object (entry_named s m))) _ (and_from (bytes_eq m m) _ (same_refl m) (ap not told.0)))),
          ))
          (tells_unless (mutation_is_apart s (Some m)) RootTypes m)

  says_roots : Says RootTypes (root_fault s)
  unfolding is_met roots_are_objects root_fault fails_at root_fails
  says_roots = tells_more (is_object (entry_named s s.query) && mutation_is_apart s s.mutation) (roots_are_objects s) _ _ (root_fault s) refl
      (λ f told. elim told [
        | inl told ↦ (
          ap (λ g. g.demand) told.1,
          rw (told.1) (or_left (bytes_eq s.query s.query && not (is_object (entry_named s s.query))) _
              (and_from (bytes_eq s.query s.query) _ (same_refl s.query) (ap not told.0))),
        )
        | inr told ↦ (told.0, rw (told.0) told.1)
      ]) (tells_or _ _ _ _ _ _ (tells_unless (is_object (entry_named s s.query)) RootTypes s.query) mutation_part)

  -- the scalar of this name is not right
  abbrev ScalarFault : Bool → Name → Fault → Type 0
  ScalarFault b n f = (b ≡ false) × (f ≡ at_type BuiltInScalars n)

  scalar_place : (n : Name) (f : Fault) → f ≡ at_type BuiltInScalars n → scalar_fails s n ≡ true → (f.demand ≡ BuiltInScalars) × (fails_at s f ≡ true)
  unfolding fails_at
  scalar_place n f is fails = (ap (λ g. g.demand) is, rw is fails)

  says_scalars : Says BuiltInScalars (scalar_fault s)
  unfolding is_met built_ins_are_right scalar_fault scalar_fails
  says_scalars = tells_more _ (built_ins_are_right s) _ _ (scalar_fault s) (regroup_scalars (accepts_just false true false (entry_named s (codes "String")))
      (accepts_just false false true (entry_named s (codes "Boolean"))) (scalar_if_there true false false (entry_named s (codes "Int")))
      (scalar_if_there true true false (entry_named s (codes "ID"))))
      (λ f told. elim told [
        | inl told ↦ elim told [
          | inl told ↦ elim told [
            | inl told ↦ scalar_place (codes "String") f told.1 (rw (told.0) refl)
            | inr told ↦ scalar_place (codes "Boolean") f told.1 (rw (told.0) refl)
          ]
          | inr told ↦ scalar_place (codes "Int") f told.1 (rw (told.0) refl)
        ]
        | inr told ↦ scalar_place (codes "ID") f told.1 (rw (told.0) refl)
      ]) (tells_or _ _ _ _ _ _ (tells_or _ _ _ _ _ _ (tells_or _ _ _ _ _ _
      (tells_unless (accepts_just false true false (entry_named s (codes "String"))) BuiltInScalars (codes "String"))
      (tells_unless (accepts_just false false true (entry_named s (codes "Boolean"))) BuiltInScalars (codes "Boolean")))
      (tells_unless (scalar_if_there true false false (entry_named s (codes "Int"))) BuiltInScalars (codes "Int")))
      (tells_unless (scalar_if_there true true false (entry_named s (codes "ID"))) BuiltInScalars (codes "ID")))

  -- ## All clauses

  -- what is told of a clause and those before it
  record Upto (d : Demand) (o : Option Fault) : Type 0 where
    none : o ≡ None → (met_before s d && is_met s d) ≡ true
    some : (f : Fault) → o ≡ Some f → IsFirstFault s f

  then_next : (d c : Demand) (o p : Option Fault) → met_before s c ≡ (met_before s d && is_met s d) → Upto d o → Says c p → Upto c (option_or o p)
  then_next d c o p follows before told = record {
    none = λ h. let both = or_none o p h in and_from (met_before s c) _ (follows ∙ before.none both.0) (told.none both.1);
    some = λ f h. elim (or_some o p f h) [
      | inl is ↦ before.some f is
      | inr both ↦ let at = told.some f both.1 in record {
        before = ap (met_before s) at.1.0 ∙ (follows ∙ before.none both.0);
        fails = ap (is_met s) at.1.0 ∙ at.0;
        place = at.1.1;
      }
    ];
  }

  first_clause : (o : Option Fault) → Says EntryNames o → Upto EntryNames o
  unfolding met_before
  first_clause o told = record {
    none = λ h. told.none h;
    some = λ f h. let at = told.some f h in record { before = ap (met_before s) at.1.0; fails = ap (is_met s) at.1.0 ∙ at.0; place = at.1.1 };
  }

  all_clauses : (es : List Entry) → AreEntries s es → Upto BuiltInScalars (fault_among s es)
  unfolding fault_among met_before is_met
  all_clauses es same =
      then_next Defaults BuiltInScalars _ _ refl (then_next Interfaces Defaults _ _ refl (then_next DistinctNames Interfaces _ _ refl
      (then_next KnownTypes DistinctNames _ _ refl (then_next RootTypes KnownTypes _ _ refl (then_next EntryNames RootTypes _ _ refl
      (first_clause (first_fault s EntryNames es) (says_named es same)) says_roots) (says_known es same)) (says_distinct es same)) (says_interfaces es same))
      (says_defaults es same)) says_scalars

  all_met : (met_before s BuiltInScalars && is_met s BuiltInScalars) ≡ true → is_executable s ≡ true
  unfolding met_before is_met is_executable
  all_met all =
      let g = and_parts _ (built_ins_are_right s) all in
      let f = and_parts _ (defaults_fit s) g.0 in
      let e = and_parts _ (interfaces_are_met s) f.0 in
      let d = and_parts _ (all_names_differ s) e.0 in
      let c = and_parts _ (types_are_known s) d.0 in
      let b = and_parts (entries_are_named s) (roots_are_objects s) c.0 in
      and_from (entries_are_named s) _ b.0 (and_from (roots_are_objects s) _ b.1 (and_from (types_are_known s) _ c.1
      (and_from (all_names_differ s) _ d.1 (and_from (interfaces_are_met s) _ e.1 (and_from (defaults_fit s) (built_ins_are_right s) f.1 g.1)))))

  -- a fault that is found is the first, and where none is found the schema can be executed
  pub finds_first : (es : List Entry) → AreEntries s es → MatchOption (fault_among s es) (is_executable s ≡ true) (IsFirstFault s)
  finds_first es same = go (fault_among s es) (all_clauses es same)
    where
      go : (o : Option Fault) → Upto BuiltInScalars o → MatchOption o (is_executable s ≡ true) (IsFirstFault s)
      go None told = all_met (told.none refl)
      go (Some f) told = told.some f refl

  -- an entry of a reserved name is a fault by itself
  pub reserved_is_first : (n : Name) → is_reserved n ≡ true →
      ((test : Entry → Bool) → ((e : Entry) → bytes_eq n e.key ≡ true → test e ≡ true) → list_any test s.entries ≡ true) → IsFirstFault s (at_type EntryNames n)
  unfolding met_before is_met fails_at entries_are_named own_meets entry_fails
  reserved_is_first n reserved stands = record {
    before = refl;
    fails = sym (all_same EntryNames entry_is_named named_passes) ∙ not_all (passes s EntryNames) s.entries (stands (λ e. not (passes s EntryNames e))
        (λ e y. ap not (unnamed e y)));
    place = stands _ (λ e y. and_from (bytes_eq n e.key) _ y (ap not (not_own e y)));
  }
    where
      not_own : (e : Entry) → bytes_eq n e.key ≡ true → own_meets EntryNames e ≡ false
      not_own e y = and_right (is_filled e.shape) _ (and_right (is_own_name e.key e.name) _ (and_right (is_name e.key) _
          (ap not (subst (λ k. is_reserved k ≡ true) (same_true n e.key y) reserved))))

      unnamed : (e : Entry) → bytes_eq n e.key ≡ true → passes s EntryNames e ≡ false
      unnamed e y = and_left (own_meets EntryNames e) _ (not_own e y)
