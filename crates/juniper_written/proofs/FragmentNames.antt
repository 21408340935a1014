-- Names in lists, and the names of fragments.
use Rattle.std.specs.Prelude.{suc, Bool, true, false, not, ◌||◌, List, [], ◌∷◌, ◌++◌, map, length, Option, Some, None, is_some, ◌≡◌, ◌≤◌, ◌⊎◌}
use Rattle.std.specs.List.{list_all, list_any, IsDistinct, AllByRecursion}
use Rattle.std.specs.Set.{is_member}
use Rattle.std.specs.Str.{bytes_eq}
use Rattle.std.specs.Bool.{Decides}
use Rattle.std.proofs.lemmas.Bool.{cases_Bool, both_ways, and_parts, or_cases, or_left, or_right, or_parts}
use Rattle.std.proofs.lemmas.Slice.Eq.{bytes_eq-Decides}
use Rattle.std.proofs.lemmas.Cmp.{nat_list_eq_equiv}
use Rattle.std.proofs.lemmas.Map.Made.{length-le_from_is_member}
use Rattle.std.proofs.lemmas.Map.Keys.{IsDistinct-cons}
use Rattle.std.proofs.Common.{refl, sym, ap, inl, inr, subst}
use Rattle.graphql_spec.specs.Shown.{Name}
use Rattle.graphql_spec.specs.Documents.{Fragment}
use Rattle.graphql_spec.specs.Fragments.{fragment_of, spreads_in}

-- a name is among names
abbrev pub has : List Name → Name → Bool
has = is_member bytes_eq

decided : {P : Type 0} (r : Bool) → Decides r P → r ≡ true → P
decided true d e = d.0 refl
decided false d e = absurd (both_ways false refl e)

pub same : (k j : Name) → bytes_eq k j ≡ true → k ≡ j
same k j e = decided (bytes_eq k j) (bytes_eq-Decides k j) e

pub itself : (k : Name) → bytes_eq k k ≡ true
itself = nat_list_eq_equiv.refl

pub true_false : {P : Type 0} (b : Bool) → b ≡ true → b ≡ false → P
true_false b t f = absurd (both_ways b f t)

pub same_bool : (b c : Bool) → (b ≡ true → c ≡ true) → (c ≡ true → b ≡ true) → b ≡ c
same_bool true c f g = sym (f refl)
same_bool false true f g = g refl
same_bool false false f g = refl

-- what holds of the first and of the others
pub either : {P : Type 0} (k j : Name) (js : List Name) → has (j ∷ js) k ≡ true → (k ≡ j → P) → (has js k ≡ true → P) → P
either k j js e f g = elim (or_cases (bytes_eq k j) (has js k) e) [ inl q ↦ f (same k j q) | inr q ↦ g q ]

-- a name of the list that passes the test
pub name_where : (f : Name → Bool) (ks : List Name) → list_any f ks ≡ true → (k : Name) × (has ks k ≡ true) × (f k ≡ true)
name_where f [] e = true_false false e refl
name_where f (j ∷ ks) e = elim (or_cases (f j) (list_any f ks) e) [
  | inl q ↦ (j, or_left (bytes_eq j j) (has ks j) (itself j), q)
  | inr q ↦ let r = name_where f ks q in (r.0, or_right (bytes_eq r.0 j) (has ks r.0) r.1, r.2)
]

pub any_from : (f : Name → Bool) (ks : List Name) (k : Name) → has ks k ≡ true → f k ≡ true → list_any f ks ≡ true
any_from f [] k i e = true_false false i refl
any_from f (j ∷ ks) k i e =
    either k j ks i (λ q. or_left (f j) (list_any f ks) (subst (λ z. f z ≡ true) q e)) (λ q. or_right (f j) (list_any f ks) (any_from f ks k q e))

pub all_at : (f : Name → Bool) (ks : List Name) → list_all f ks ≡ true → (k : Name) → has ks k ≡ true → f k ≡ true
all_at f [] a k e = true_false false e refl
all_at f (j ∷ ks) a k e = let p = and_parts (f j) (list_all f ks) a in either k j ks e (λ q. subst (λ z. f z ≡ true) (sym q) p.0) (λ q. all_at f ks p.1 k q)

pub only : (k j : Name) → has (j ∷ []) k ≡ true → k ≡ j
only k j e = either k j [] e (λ q. q) (λ q. true_false false q refl)

pub has_first : (ks js : List Name) (k : Name) → has ks k ≡ true → has (ks ++ js) k ≡ true
has_first [] js k e = true_false false e refl
has_first (i ∷ ks) js k e = elim (or_cases (bytes_eq k i) (has ks k) e) [
  | inl q ↦ or_left (bytes_eq k i) (has (ks ++ js) k) q
  | inr q ↦ or_right (bytes_eq k i) (has (ks ++ js) k) (has_first ks js k q)
]

pub has_second : (ks js : List Name) (k : Name) → has js k ≡ true → has (ks ++ js) k ≡ true
has_second [] js k e = e
has_second (i ∷ ks) js k e = or_right (bytes_eq k i) (has (ks ++ js) k) (has_second ks js k e)

pub has_split : (ks js : List Name) (k : Name) → has (ks ++ js) k ≡ true → (has ks k ≡ true) ⊎ (has js k ≡ true)
has_split [] js k e = inr e
has_split (i ∷ ks) js k e = elim (or_cases (bytes_eq k i) (has (ks ++ js) k) e) [
  | inl q ↦ inl (or_left (bytes_eq k i) (has ks k) q)
  | inr q ↦ elim (has_split ks js k q) [ inl a ↦ inl (or_right (bytes_eq k i) (has ks k) a) | inr b ↦ inr b ]
]

-- ## Distinct names

apart : (k : Name) (js : List Name) → has js k ≡ false → AllByRecursion (λ j. bytes_eq k j ≡ false) js
apart k [] e = tt
apart k (j ∷ js) e = let p = or_parts (bytes_eq k j) (has js k) e in (p.0, apart k js p.1)

pub distinct_one : (k : Name) → IsDistinct bytes_eq (k ∷ [])
unfolding IsDistinct
distinct_one k = (tt, tt)

pub distinct_more : (k : Name) (js : List Name) → has js k ≡ false → IsDistinct bytes_eq js → IsDistinct bytes_eq (k ∷ js)
distinct_more k js e d = IsDistinct-cons bytes_eq k js (apart k js e) d

-- distinct names of a list are no more than it has
pub no_more : (ks names : List Name) → IsDistinct bytes_eq ks → ((k : Name) → has ks k ≡ true → has names k ≡ true) → length ks ≤ length names
no_more = length-le_from_is_member nat_list_eq_equiv

-- ## Names of fragments

abbrev pub names : List Fragment → List Name
names = map (λ f. f.name.item)

pub names_known : (fs : List Fragment) (k : Name) → is_some (fragment_of fs k) ≡ true → has (names fs) k ≡ true
unfolding fragment_of
names_known [] k e = e
names_known (f ∷ fs) k e = elim (cases_Bool (bytes_eq k f.name.item)) [
  | inl q ↦ or_left (bytes_eq k f.name.item) (has (names fs) k) q
  | inr q ↦ or_right (bytes_eq k f.name.item) (has (names fs) k) (names_known fs k (rw q at e))
]

pub length_names : (fs : List Fragment) → length (names fs) ≡ length fs
length_names [] = refl
length_names (f ∷ fs) = ap suc (length_names fs)

-- the names that the fragment of a name spreads
abbrev pub next : List Fragment → Name → List Name
next fs k = spreads_in (fragment_of fs k)

some_spreads : (o : Option Fragment) (b : Name) → has (spreads_in o) b ≡ true → is_some o ≡ true
unfolding spreads_in
some_spreads None b e = true_false false e refl
some_spreads (Some f) b e = refl

pub spreads_known : (fs : List Fragment) (k b : Name) → has (next fs k) b ≡ true → is_some (fragment_of fs k) ≡ true
spreads_known fs k b e = some_spreads (fragment_of fs k) b e

-- done, or the name of no fragment
abbrev pub or_unknown : List Fragment → (Name → Bool) → Name → Bool
or_unknown fs done i = done i || not (is_some (fragment_of fs i))
