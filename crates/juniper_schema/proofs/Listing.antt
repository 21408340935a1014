-- The names that a schema lists, and its entries.
use Rattle.std.proofs.Common.{◌≡◌, ℕ, suc, ◌+◌, ◌==◌, Bool, true, false, not, ◌&&◌, ◌||◌, cond, codes, List, [], ◌∷◌, ◌++◌, map, Option, Some}
use Rattle.std.proofs.Common.{None, bytes_eq, arith}
use Rattle.std.proofs.Common.{refl, sym, ap, subst, ◌∙◌, inl, inr}
use Rattle.std.specs.List.{list_all, list_any, filter}
use Rattle.std.proofs.lemmas.Bool.{and_parts, and_from, both_ways, cases_Bool, eqb-false, eqb-true, false_from_ne_true, not-false, not-true}
use Rattle.std.proofs.lemmas.Bool.{not_from_false, or_from, or_left, or_right}
use Rattle.std.proofs.lemmas.List.Folds.{list_all-append, list_any-append}
use Rattle.std.proofs.lemmas.Option.{none-some, same_Some}
use Rattle.graphql_spec.specs.Shown.{Name}
use Rattle.graphql_spec.specs.Schema.{Entry, Schema}
use Rattle.graphql_spec.specs.BuiltIns.{introspection_types}
use Rattle.graphql_spec.specs.Fields.{entry_in}
use Rattle.graphql_spec.specs.Executable.{is_reserved, names_differ}
use Rattle.graphql_spec.specs.TypeList.{comes_before, has_listed_name, in_order, is_listed, put_in_order, type_list}
use Rattle.graphql_spec.proofs.Lists.{same_refl, same_true}
use Rattle.juniper_schema.specs.Faults.{NamesDiffer}
use Rattle.juniper_schema.specs.Searching.{IsApart, entries_at, entries_of, entry_list, first_taken, is_taken, times, times_listed}

-- ## Lists in order

swap_counts : (a b : Bool) (t : ℕ) → cond b (suc (cond a (suc t) t)) (cond a (suc t) t) ≡ cond a (suc (cond b (suc t) t)) (cond b (suc t) t)
swap_counts true true t = refl
swap_counts true false t = refl
swap_counts false true t = refl
swap_counts false false t = refl

swap_tests : (a b c : Bool) → (b || (a || c)) ≡ (a || (b || c))
swap_tests true true c = refl
swap_tests true false c = refl
swap_tests false true c = refl
swap_tests false false c = refl

module _ (before : Entry → Entry → Bool) where
  times_placed : (n : Name) (x : Entry) (ys : List Entry) → times n (put_in_order before x ys) ≡ times n (x ∷ ys)
  unfolding put_in_order times
  times_placed n x [] = refl
  times_placed n x (y ∷ ys) = elim (cases_Bool (before y x)) [
    | inl e ↦ rw e (ap (λ t. cond (bytes_eq n y.key) (suc t) t) (times_placed n x ys) ∙ swap_counts (bytes_eq n x.key) (bytes_eq n y.key) (times n ys))
    | inr e ↦ rw e refl
  ]

  times_in_order : (n : Name) (xs : List Entry) → times n (in_order before xs) ≡ times n xs
  unfolding in_order times
  times_in_order n [] = refl
  times_in_order n (x ∷ xs) = times_placed n x (in_order before xs) ∙ ap (λ t. cond (bytes_eq n x.key) (suc t) t) (times_in_order n xs)

  any_placed : (test : Entry → Bool) (x : Entry) (ys : List Entry) → list_any test (put_in_order before x ys) ≡ list_any test (x ∷ ys)
  unfolding put_in_order
  any_placed test x [] = refl
  any_placed test x (y ∷ ys) = elim (cases_Bool (before y x)) [
    | inl e ↦ rw e (ap (λ b. test y || b) (any_placed test x ys) ∙ swap_tests (test x) (test y) (list_any test ys))
    | inr e ↦ rw e refl
  ]

  any_in_order : (test : Entry → Bool) (xs : List Entry) → list_any test (in_order before xs) ≡ list_any test xs
  unfolding in_order
  any_in_order test [] = refl
  any_in_order test (x ∷ xs) = any_placed test x (in_order before xs) ∙ ap (λ b. test x || b) (any_in_order test xs)

-- ## How often a name stands in a list

times_append : (n : Name) (xs ys : List Entry) → times n (xs ++ ys) ≡ times n xs + times n ys
unfolding times
times_append n [] ys = omega arith
times_append n (x ∷ xs) ys = elim (cases_Bool (bytes_eq n x.key)) [
  | inl e ↦ rw e (omega (arith, times_append n xs ys))
  | inr e ↦ rw e (times_append n xs ys)
]

times_filter : (n : Name) (xs : List Entry) → is_listed n ≡ true → times n (filter has_listed_name xs) ≡ times n xs
unfolding times
times_filter n [] listed = refl
times_filter n (x ∷ xs) listed = elim (cases_Bool (is_listed x.key)) [
  | inl e ↦ rw e (ap (λ t. cond (bytes_eq n x.key) (suc t) t) (times_filter n xs listed))
  | inr e ↦
      let other : bytes_eq n x.key ≡ false = elim (cases_Bool (bytes_eq n x.key)) [
        | inl y ↦ absurd (both_ways (is_listed x.key) e (subst (λ k. is_listed k ≡ true) (same_true n x.key y) listed))
        | inr y ↦ y
      ] in rw (e, other) (times_filter n xs listed)
]

times_keys : (n : Name) (xs : List Entry) → times_listed n (map (λ e. e.key) xs) ≡ times n xs
unfolding times times_listed
times_keys n [] = refl
times_keys n (x ∷ xs) = ap (λ t. cond (bytes_eq n x.key) (suc t) t) (times_keys n xs)

-- a listed name stands in the list as often as in the entries and in introspection together
times_in_list : (s : Schema) (n : Name) → is_listed n ≡ true → times_listed n (map (λ e. e.key) (type_list s)) ≡ times n s.entries + times n introspection_types
unfolding type_list
times_in_list s n listed = times_keys n (type_list s) ∙ (times_in_order comes_before n (filter has_listed_name (s.entries ++ introspection_types))
    ∙ (times_filter n (s.entries ++ introspection_types) listed ∙ times_append n s.entries introspection_types))

-- ## Names that begin with two underscores

reserved_is_listed : (n : Name) → is_reserved n ≡ true → is_listed n ≡ true
unfolding is_reserved
reserved_is_listed [] r = absurd (both_ways false refl r)
reserved_is_listed (a ∷ []) r = absurd (both_ways false refl r)
reserved_is_listed (a ∷ (b ∷ rest)) r =
    let both = and_parts (a == 95) (b == 95) r in rw (eqb-true a 95 both.0, eqb-true b 95 both.1) refl

-- ## No entry has a reserved name

none_taken : (ns ms : List Name) (n : Name) → first_taken ns ms ≡ None → is_taken ns n ≡ true → times_listed n ms ≡ 0
unfolding first_taken times_listed
none_taken ns [] n none taken = refl
none_taken ns (m ∷ ms) n none taken = elim (cases_Bool (bytes_eq n m)) [
  | inl e ↦ absurd (none-some m (sym (rw (subst (λ k. is_taken ns k ≡ true) (same_true n m e) taken) at none)))
  | inr e ↦ elim (cases_Bool (is_taken ns m)) [
    | inl t ↦ absurd (none-some m (sym (rw t at none)))
    | inr f ↦ rw e (none_taken ns ms n (rw f at none) taken)
  ]
]

-- what is taken is an entry's
taken_counts : (s : Schema) (n : Name) → is_taken (map (λ e. e.key) (type_list s)) n ≡ true → times n s.entries ≡ 0 → ⊥
taken_counts s n taken zero =
    let both = and_parts (is_reserved n) _ taken in
    eqb-false (times_listed n (map (λ e. e.key) (type_list s))) (times n introspection_types) (not-true _ both.1)
    (omega (arith, times_in_list s n (reserved_is_listed n both.0), zero))

untaken_counts : (s : Schema) (n : Name) → is_reserved n ≡ true → is_taken (map (λ e. e.key) (type_list s)) n ≡ false → times n s.entries ≡ 0
untaken_counts s n reserved free =
    let same = eqb-true (times_listed n (map (λ e. e.key) (type_list s))) (times n introspection_types) (not-false _ (rw reserved at free)) in
    omega (arith, times_in_list s n (reserved_is_listed n reserved), same)

none_counts : (s : Schema) → first_taken (map (λ e. e.key) (type_list s)) (map (λ e. e.key) (type_list s)) ≡ None → (n : Name) → is_reserved n ≡ true →
    times n s.entries ≡ 0
none_counts s none n reserved = elim (cases_Bool (is_taken (map (λ e. e.key) (type_list s)) n)) [
  | inl t ↦ omega (arith, times_in_list s n (reserved_is_listed n reserved), none_taken _ (map (λ e. e.key) (type_list s)) n none t)
  | inr f ↦ untaken_counts s n reserved f
]

apart_from : (es : List Entry) → ((n : Name) → is_reserved n ≡ true → times n es ≡ 0) → list_all (λ e. not (is_reserved e.key)) es ≡ true
unfolding times
apart_from [] none = refl
apart_from (e ∷ es) none = elim (cases_Bool (is_reserved e.key)) [
  | inl r ↦ let zero = none e.key r in absurd (omega (arith, rw (same_refl e.key) at zero))
  | inr f ↦ rw f (apart_from es (λ n r. behind n (none n r)))
]
  where
    behind : (n : Name) → cond (bytes_eq n e.key) (suc (times n es)) (times n es) ≡ 0 → times n es ≡ 0
    behind n zero = elim (cases_Bool (bytes_eq n e.key)) [ inl y ↦ absurd (omega (arith, rw y at zero)) | inr f ↦ rw f at zero ]

-- where no name is taken, no entry has a reserved one
pub none_is_apart : (s : Schema) (ns : List Name) → ns ≡ map (λ e. e.key) (type_list s) → None ≡ first_taken ns ns → IsApart s
none_is_apart s ns is none = apart_from s.entries (none_counts s (sym (subst (λ ms. None ≡ first_taken ms ms) is none)))

found_taken : (ns ms : List Name) (n : Name) → first_taken ns ms ≡ Some n → is_taken ns n ≡ true
unfolding first_taken
found_taken ns [] n is = absurd (none-some n is)
found_taken ns (m ∷ ms) n is = elim (cases_Bool (is_taken ns m)) [
  | inl t ↦ subst (λ k. is_taken ns k ≡ true) (same_Some m n (rw t at is)) t
  | inr f ↦ found_taken ns ms n (rw f at is)
]

any_counted : (n : Name) (test : Entry → Bool) (es : List Entry) → (times n es ≡ 0 → ⊥) → ((e : Entry) → bytes_eq n e.key ≡ true → test e ≡ true) →
    list_any test es ≡ true
unfolding times
any_counted n test [] some holds = absurd (some refl)
any_counted n test (e ∷ es) some holds = elim (cases_Bool (bytes_eq n e.key)) [
  | inl y ↦ rw (holds e y) refl
  | inr f ↦ or_right (test e) (list_any test es) (any_counted n test es (rw f at some) holds)
]

-- a name that is taken is reserved, and what holds of all entries of that name holds of one
pub taken_stands : (s : Schema) (ns : List Name) (n : Name) → ns ≡ map (λ e. e.key) (type_list s) → Some n ≡ first_taken ns ns →
    (is_reserved n ≡ true) × ((test : Entry → Bool) → ((e : Entry) → bytes_eq n e.key ≡ true → test e ≡ true) → list_any test s.entries ≡ true)
taken_stands s ns n is found =
    let taken = subst (λ ms. is_taken ms n ≡ true) is (found_taken ns ns n (sym found)) in
    ((and_parts (is_reserved n) _ taken).0, λ test holds. any_counted n test s.entries (taken_counts s n taken) holds)

-- ## The entries of the names

entry_of_all : (test : Entry → Bool) (es : List Entry) (n : Name) (e : Entry) → list_all test es ≡ true → entry_in es n ≡ Some e → test e ≡ true
unfolding entry_in
entry_of_all test [] n e all is = absurd (none-some e is)
entry_of_all test (x ∷ es) n e all is = let both = and_parts (test x) (list_all test es) all in elim (cases_Bool (bytes_eq n x.key)) [
  | inl y ↦ ap test (sym (same_Some x e (rw y at is))) ∙ both.0
  | inr y ↦ entry_of_all test es n e both.1 (rw y at is)
]

-- an entry that is found has the key
found_key : (es : List Entry) (n : Name) (e : Entry) → entry_in es n ≡ Some e → (n ≡ e.key) × (list_any (λ x. bytes_eq n x.key) es ≡ true)
unfolding entry_in
found_key [] n e is = absurd (none-some e is)
found_key (x ∷ es) n e is = elim (cases_Bool (bytes_eq n x.key)) [
  | inl y ↦ (same_true n x.key y ∙ ap (λ z. z.key) (same_Some x e (rw y at is)), rw y refl)
  | inr y ↦ let rest = found_key es n e (rw y at is) in (rest.0, rw y rest.1)
]

any_keys : (n : Name) (es : List Entry) → list_any (bytes_eq n) (map (λ e. e.key) es) ≡ list_any (λ e. bytes_eq n e.key) es
any_keys n [] = refl
any_keys n (e ∷ es) = ap (λ b. bytes_eq n e.key || b) (any_keys n es)

any_filter : (n : Name) (es : List Entry) → is_listed n ≡ true → list_any (λ e. bytes_eq n e.key) (filter has_listed_name es) ≡ list_any
    (λ e. bytes_eq n e.key) es
any_filter n [] listed = refl
any_filter n (x ∷ xs) listed = elim (cases_Bool (is_listed x.key)) [
  | inl e ↦ rw e (ap (λ b. bytes_eq n x.key || b) (any_filter n xs listed))
  | inr e ↦
      let other : bytes_eq n x.key ≡ false = elim (cases_Bool (bytes_eq n x.key)) [
        | inl y ↦ absurd (both_ways (is_listed x.key) e (subst (λ k. is_listed k ≡ true) (same_true n x.key y) listed))
        | inr y ↦ y
      ] in rw (e, other) (any_filter n xs listed)
]

-- the name of an entry that is found is listed, unless it is one of those two
found_is_listed : (s : Schema) (n : Name) (e : Entry) → entry_in s.entries n ≡ Some e → is_listed n ≡ true →
    list_any (bytes_eq n) (map (λ x. x.key) (type_list s)) ≡ true
unfolding type_list
found_is_listed s n e is listed = any_keys n (type_list s) ∙ (any_in_order comes_before (λ x. bytes_eq n x.key) (filter has_listed_name
    (s.entries ++ introspection_types))
    ∙ (any_filter n (s.entries ++ introspection_types) listed ∙ (list_any-append (λ x. bytes_eq n x.key) s.entries introspection_types
    ∙ or_left _ _ (found_key s.entries n e is).1)))

-- ### Where keys differ

found_behind : (d : Entry) (ds : List Entry) (n : Name) (e : Entry) → list_any (bytes_eq d.key) (map (λ x. x.key) ds) ≡ false → entry_in ds n ≡ Some e →
    entry_in (d ∷ ds) n ≡ Some e
unfolding entry_in
found_behind d ds n e apart is = elim (cases_Bool (bytes_eq n d.key)) [
  | inl y ↦ absurd (both_ways (list_any (bytes_eq d.key) (map (λ x. x.key) ds)) apart
      (subst (λ k. list_any (bytes_eq k) (map (λ x. x.key) ds) ≡ true) (same_true n d.key y) (any_keys n ds ∙ (found_key ds n e is).1)))
  | inr y ↦ rw y is
]

found_in_front : (d : Entry) (ds : List Entry) → entry_in (d ∷ ds) d.key ≡ Some d
unfolding entry_in
found_in_front d ds = rw (same_refl d.key) refl

-- what holds of each entry that is found holds of all, where their keys differ
all_found : (test : Entry → Bool) (ds : List Entry) → names_differ (map (λ x. x.key) ds) ≡ true →
    ((n : Name) (e : Entry) → entry_in ds n ≡ Some e → test e ≡ true) → list_all test ds ≡ true
unfolding names_differ
all_found test [] differ h = refl
all_found test (d ∷ ds) differ h =
    let both = and_parts (not (list_any (bytes_eq d.key) (map (λ x. x.key) ds))) (names_differ (map (λ x. x.key) ds)) differ in
    rw (h d.key d (found_in_front d ds)) (all_found test ds both.1 (λ n e is. h n e (found_behind d ds n e (not-true _ both.0) is)))

module _ (s : Schema) (test : Entry → Bool) where
  -- ### What holds of all entries

  held_at : list_all test s.entries ≡ true → (n : Name) → list_all test (entries_at s n) ≡ true
  unfolding entry_list
  held_at all n = elim (cases_Bool (is_reserved n)) [ inl r ↦ rw r refl | inr f ↦ rw f (at (entry_in s.entries n) refl) ]
    where
      at : (o : Option Entry) → entry_in s.entries n ≡ o → list_all test (entry_list o) ≡ true
      at None is = refl
      at (Some e) is = and_from (test e) true (entry_of_all test s.entries n e all is) refl

  held_of : list_all test s.entries ≡ true → (ns : List Name) → list_all test (entries_of s ns) ≡ true
  unfolding entries_of
  held_of all [] = refl
  held_of all (n ∷ ns) = list_all-append test (entries_at s n) (entries_of s ns) ∙ and_from _ _ (held_at all n) (held_of all ns)

  -- ### What holds of all entries of the names

  one_of : (ns : List Name) → list_all test (entries_of s ns) ≡ true → (n : Name) → list_any (bytes_eq n) ns ≡ true → list_all test (entries_at s n) ≡ true
  unfolding entries_of
  one_of [] all n is = absurd (both_ways false refl is)
  one_of (m ∷ ms) all n is =
      let both = and_parts (list_all test (entries_at s m)) _ (sym (list_all-append test (entries_at s m) (entries_of s ms)) ∙ all) in
      elim (cases_Bool (bytes_eq n m)) [
        | inl y ↦ subst (λ k. list_all test (entries_at s k) ≡ true) (sym (same_true n m y)) both.0
        | inr f ↦ one_of ms both.1 n (rw f at is)
      ]

  found_passes : IsApart s → (n : Name) (e : Entry) → entry_in s.entries n ≡ Some e → list_all test (entries_at s n) ≡ true → test e ≡ true
  unfolding entry_list
  found_passes apart n e is all =
      let free : is_reserved n ≡ false = ap is_reserved (found_key s.entries n e is).0
      ∙ not-true _ (entry_of_all (λ x. not (is_reserved x.key)) s.entries n e apart is) in
      (and_parts (test e) true (rw (free, is) at all)).0

-- the entry of a name that is listed, or of one of the two that are not
abbrev Passes : Schema → List Name → (Entry → Bool) → Bool
Passes s ns test = list_all test ((entries_of s ns ++ entries_at s (codes "_EmptyMutation")) ++ entries_at s (codes "_EmptySubscription"))

split : (s : Schema) (ns : List Name) (test : Entry → Bool) → Passes s ns test ≡ ((list_all test (entries_of s ns)
    && list_all test (entries_at s (codes "_EmptyMutation"))) && list_all test (entries_at s (codes "_EmptySubscription")))
split s ns test = list_all-append test (entries_of s ns ++ entries_at s (codes "_EmptyMutation")) (entries_at s (codes "_EmptySubscription"))
    ∙ ap (λ b. b && list_all test (entries_at s (codes "_EmptySubscription")))
    (list_all-append test (entries_of s ns) (entries_at s (codes "_EmptyMutation")))

-- what holds of all that these names have holds of all entries
holds_of_entries : (s : Schema) → IsApart s → NamesDiffer s → (test : Entry → Bool) → Passes s (map (λ e. e.key) (type_list s)) test ≡ true →
    list_all test s.entries ≡ true
holds_of_entries s apart differ test all =
    let both = and_parts _ _ (sym (split s (map (λ e. e.key) (type_list s)) test) ∙ all) in let firsts = and_parts _ _ both.0 in
    all_found test s.entries differ (λ n e is. found_passes s test apart n e is (at n e is firsts.0 firsts.1 both.1))
  where
    at : (n : Name) (e : Entry) → entry_in s.entries n ≡ Some e → list_all test (entries_of s (map (λ x. x.key) (type_list s))) ≡ true →
        list_all test (entries_at s (codes "_EmptyMutation")) ≡ true → list_all test (entries_at s (codes "_EmptySubscription")) ≡ true →
        list_all test (entries_at s n) ≡ true
    at n e is names first second = elim (cases_Bool (bytes_eq n (codes "_EmptyMutation"))) [
      | inl y ↦ subst (λ k. list_all test (entries_at s k) ≡ true) (sym (same_true n (codes "_EmptyMutation") y)) first
      | inr f ↦ elim (cases_Bool (bytes_eq n (codes "_EmptySubscription"))) [
        | inl y ↦ subst (λ k. list_all test (entries_at s k) ≡ true) (sym (same_true n (codes "_EmptySubscription") y)) second
        | inr g ↦ one_of s test (map (λ x. x.key) (type_list s)) names n (found_is_listed s n e is (not_from_false _ (or_from _ _ f g)))
      ]
    ]

-- the entries of the names that a schema lists, and of the two that it does not list, are its entries
pub are_entries : (s : Schema) (ns : List Name) → ns ≡ map (λ e. e.key) (type_list s) → IsApart s → NamesDiffer s → (test : Entry → Bool) →
    Passes s ns test ≡ list_all test s.entries
are_entries s ns is apart differ test = elim (cases_Bool (list_all test s.entries)) [
  | inl all ↦ split s ns test ∙ (and_from _ _ (and_from _ _ (held_of s test all ns) (held_at s test all (codes "_EmptyMutation")))
      (held_at s test all (codes "_EmptySubscription")) ∙ sym all)
  | inr none ↦ false_from_ne_true _ (λ passes. both_ways (list_all test s.entries) none
      (holds_of_entries s apart differ test (subst (λ ms. Passes s ms test ≡ true) is passes))) ∙ sym none
]
