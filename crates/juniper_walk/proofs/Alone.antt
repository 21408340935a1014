-- Fields of which no two have one response key (6.3.2).
use Rattle.std.proofs.Common.{◌≡◌, ◌+◌, ◌<◌, ◌≤◌, ℕ, Bool, true, false, ◌&&◌, ◌||◌, List, [], ◌∷◌, ◌++◌, length, get_or, map, take, drop, refl, sym, ap}
use Rattle.std.proofs.Common.{◌∙◌, subst, inl, inr}
use Rattle.std.proofs.lemmas.Bool.{cases_Bool, le-ltb, lt-ltb, ltb-true}
use Rattle.std.proofs.lemmas.Cmp.{eq_by_cmp_equiv, nat_cmp_total}
use Rattle.std.proofs.lemmas.List.{drop_more, map-append, take-append-drop}
use Rattle.std.proofs.lemmas.List.Elements.{filter-append}
use Rattle.std.proofs.lemmas.List.Sorted.{IsPermutation-sym}
use Rattle.std.proofs.lemmas.Map.Keys.{IsDistinct-IsPermutation, IsDistinct-from_sorted}
use Rattle.std.specs.Cmp.{IsEquivalence, nat_cmp_is}
use Rattle.std.specs.List.{AllByRecursion, IsDistinct, filter, list_any}
use Rattle.std.specs.List.Sorted.{IsPermutation, IsStrictlySortedBy}
use Rattle.std.proofs.Common.{Less}
use Rattle.std.specs.Ordering.{eq_by_cmp, nat_cmp}
use Rattle.std.specs.Prelude.{nat_lt}
use Rattle.std.specs.Str.{bytes_eq}
use Rattle.graphql_spec.specs.Shown.{Name, Shown}
use Rattle.graphql_spec.specs.Documents.{response_key}
use Rattle.graphql_spec.specs.Selections.{Occurrence, keys}
use Rattle.graphql_spec.proofs.Lists.{known, known-drop_other, same_refl, same_sym, same_true}
use Rattle.juniper_lookahead.specs.Collected.{view_all, view_collected}
use Rattle.juniper_lookahead.specs.declared.collecting.Collector.{Collector}
use Rattle.juniper_lookahead.specs.declared.occurrences.Occurrence.{Occurrence as CodeOccurrence}
use Rattle.juniper_walk.specs.FieldWords.{head_of}
use Rattle.juniper_walk.proofs.Preparation.{same-head}
use Rattle.juniper_syntax.specs.NameNumbers.{name_number}
use Rattle.juniper_walk.specs.PlanLists.{rises, rises_from}

-- ## Names

neither : (a b : Bool) → (a || b) ≡ false → (a ≡ false) × (b ≡ false)
neither true b e = absurd cc
neither false b e = (refl, e)

unlike : (k : Name) (ks : List Name) → AllByRecursion (λ j. bytes_eq k j ≡ false) ks → list_any (bytes_eq k) ks ≡ false
unlike k [] all = refl
unlike k (j ∷ ks) all = rw all.0 (unlike k ks all.1)

one-unlike : (f k : Name) (front rest : List Name) → AllByRecursion (λ j. bytes_eq f j ≡ false) (front ++ k ∷ rest) → bytes_eq f k ≡ false
one-unlike f k [] rest all = all.0
one-unlike f k (g ∷ front) rest all = one-unlike f k front rest all.1

-- a name among such is none of those before it, and none of those behind it
alone-among : (front rest : List Name) (k : Name) → IsDistinct bytes_eq (front ++ k ∷ rest) →
    (list_any (bytes_eq k) front ≡ false) × (list_any (bytes_eq k) rest ≡ false)
unfolding IsDistinct
alone-among [] rest k all = (refl, unlike k rest all.0)
alone-among (f ∷ front) rest k all =
    let (before, behind) = alone-among front rest k all.1 in
    (rw (same_sym k f, one-unlike f k front rest all.0) before, behind)

-- ## Numbers in order

both : (a b : Bool) → (a && b) ≡ true → (a ≡ true) × (b ≡ true)
both true b e = (refl, e)
both false b e = absurd cc

less-than : (k j : ℕ) → nat_lt k j ≡ true → nat_cmp k j ≡ Less
less-than k j e = sym (nat_cmp_is k j Less (ltb-true k j e))

above : (k j : ℕ) (js : List ℕ) → nat_cmp k j ≡ Less → AllByRecursion (λ i. nat_cmp j i ≡ Less) js → AllByRecursion (λ i. nat_cmp k i ≡ Less) js
above k j [] less all = tt
above k j (i ∷ js) less all = (nat_cmp_total.trans k j i less all.0, above k j js less all.1)

rising-from : (k : ℕ) (ks : List ℕ) → rises_from k ks ≡ true → AllByRecursion (λ j. nat_cmp k j ≡ Less) ks × IsStrictlySortedBy nat_cmp ks
unfolding rises_from IsStrictlySortedBy
rising-from k [] e = (tt, tt)
rising-from k (j ∷ js) e =
    let (less, more) = both (nat_lt k j) (rises_from j js) e in
    let (all, sorted) = rising-from j js more in
    let first = less-than k j less in
    ((first, above k j js first all), (all, sorted))

rising : (ks : List ℕ) → rises ks ≡ true → IsStrictlySortedBy nat_cmp ks
unfolding rises IsStrictlySortedBy
rising [] e = tt
rising (k ∷ ks) e = rising-from k ks e

abbrev equal : ℕ → ℕ → Bool
equal = eq_by_cmp nat_cmp

alike_numbers : IsEquivalence equal
alike_numbers = eq_by_cmp_equiv nat_cmp_total

-- names of other numbers are other names
alike : (a b : Name) → equal (name_number a) (name_number b) ≡ false → bytes_eq a b ≡ false
alike a b differ = elim (cases_Bool (bytes_eq a b)) [
  | inl e ↦
      let same : equal (name_number a) (name_number b) ≡ true = ap (λ n. equal (name_number n) (name_number b)) (same_true a b e)
      ∙ alike_numbers.refl (name_number b) in
      absurd cc
  | inr e ↦ e
]

all-alike : (a : Name) (ns : List Name) → AllByRecursion (λ n. equal (name_number a) n ≡ false) (map name_number ns) →
    AllByRecursion (λ b. bytes_eq a b ≡ false) ns
all-alike a [] all = tt
all-alike a (b ∷ ns) all = (alike a b all.0, all-alike a ns all.1)

names : (ns : List Name) → IsDistinct equal (map name_number ns) → IsDistinct bytes_eq ns
unfolding IsDistinct
names [] all = tt
names (a ∷ ns) all = (all-alike a ns all.0, names ns all.1)

-- names differ whose numbers rise when they are sorted
pub sorted-differ : (ns : List Name) (sorted : List ℕ) → IsPermutation (map name_number ns) sorted → rises sorted ≡ true → IsDistinct bytes_eq ns
sorted-differ ns sorted moved e =
    names ns (IsDistinct-IsPermutation equal alike_numbers.symm sorted (map name_number ns) (IsPermutation-sym (map name_number ns) sorted moved)
    (IsDistinct-from_sorted nat_cmp sorted (rising sorted e)))

-- what is left decides, past one that is more, at one that is not, and past a byte
pub none-rise : (xs : List ℕ) → rises xs ≡ rises_from (get_or xs 0 0) (drop 1 xs)
unfolding rises rises_from
none-rise [] = refl
none-rise (x ∷ xs) = refl

pub one-rises : (xs : List ℕ) (i : ℕ) → i < length xs → (b : Bool) (last : ℕ) → last < get_or xs i 0 →
    b ≡ rises_from last (drop i xs) → b ≡ rises_from (get_or xs i 0) (drop (i + 1) xs)
unfolding rises_from
one-rises xs i below b last less e = e ∙ (ap (rises_from last) (drop_more xs i 0 below) ∙ rw (lt-ltb last (get_or xs i 0) less) refl)

pub one-falls : (xs : List ℕ) (i : ℕ) → i < length xs → (b : Bool) (last : ℕ) → get_or xs i 0 ≤ last →
    b ≡ rises_from last (drop i xs) → b ≡ false
unfolding rises_from
one-falls xs i below b last less e = e ∙ (ap (rises_from last) (drop_more xs i 0 below) ∙ rw (le-ltb last (get_or xs i 0) less) refl)

-- ## Fields

known-among : (k : Name) (os : List Occurrence) → known k (keys os) ≡ list_any (λ o. bytes_eq k (response_key o.head)) os
unfolding known keys
known-among k [] = refl
known-among k (o ∷ os) =
    let r = response_key o.head in
    elim (cases_Bool (bytes_eq k r)) [
      | inl e ↦ rw e refl
      | inr e ↦ rw e (known-drop_other r k (keys os) (same_sym r k ∙ e) ∙ known-among k os)
    ]

module _ {S P : Type 0} (shown : S → Shown) (c : Collector S P) where
  -- the response keys of fields
  abbrev pub names_of : List (CodeOccurrence S) → List Name
  names_of fs = map (λ o. response_key (head_of shown o.field.now)) fs

  not-known : (k : Name) (fs : List (CodeOccurrence S)) → list_any (bytes_eq k) (names_of fs) ≡ false → known k (keys (view_all shown c fs)) ≡ false
  not-known k fs none = known-among k (view_all shown c fs) ∙ unmet fs none
    where
      unmet : (gs : List (CodeOccurrence S)) → list_any (bytes_eq k) (names_of gs) ≡ false →
          list_any (λ o. bytes_eq k (response_key o.head)) (view_all shown c gs) ≡ false
      unmet [] e = refl
      unmet (o ∷ gs) e =
          let (differs, more) = neither (bytes_eq k (response_key (head_of shown o.field.now))) (list_any (bytes_eq k) (names_of gs)) e in
          let same : response_key (view_collected shown c o.field.now).head ≡ response_key (head_of shown o.field.now) =
          ap response_key (same-head shown c o.field.now) in
          rw (same, differs) (unmet gs more)

  abbrev has_name : Name → CodeOccurrence S → Bool
  has_name k o = bytes_eq k (response_key (head_of shown o.field.now))

  none-of : (k : Name) (fs : List (CodeOccurrence S)) → list_any (bytes_eq k) (names_of fs) ≡ false → filter (has_name k) fs ≡ []
  none-of k [] none = refl
  none-of k (o ∷ fs) none =
      let (differs, more) = neither (bytes_eq k (response_key (head_of shown o.field.now))) (list_any (bytes_eq k) (names_of fs)) none in
      rw differs (none-of k fs more)

  -- a field of such is the only one of its response key, and none before it has it
  pub only-field : (fields : List (CodeOccurrence S)) (i : ℕ) (o : CodeOccurrence S) → IsDistinct bytes_eq (names_of fields) → i < length fields →
      o ≡ get_or fields i o → (k : Name) → k ≡ response_key (head_of shown o.field.now) →
      (known k (keys (view_all shown c (take i fields))) ≡ false) × (filter (has_name k) fields ≡ o ∷ [])
  only-field fields i o new below is k named =
      let split : take i fields ++ (o ∷ drop (i + 1) fields) ≡ fields =
      ap (λ l. take i fields ++ l) (ap (λ (x : CodeOccurrence S). x ∷ drop (i + 1) fields) is ∙ sym (drop_more fields i o below)) ∙ take-append-drop i fields in
      let named_split : names_of (take i fields) ++ (k ∷ names_of (drop (i + 1) fields)) ≡ names_of fields =
      ap (λ (n : Name). names_of (take i fields) ++ (n ∷ names_of (drop (i + 1) fields))) named
      ∙ (sym (map-append (λ (x : CodeOccurrence S). response_key (head_of shown x.field.now)) (take i fields) (o ∷ drop (i + 1) fields)) ∙ ap names_of split) in
      let (before, behind) =
      alone-among (names_of (take i fields)) (names_of (drop (i + 1) fields)) k (subst (IsDistinct bytes_eq) (sym named_split) new) in
      let here : has_name k o ≡ true = ap (bytes_eq k) (sym named) ∙ same_refl k in
      let one : filter (has_name k) (o ∷ drop (i + 1) fields) ≡ o ∷ [] = rw here (ap (λ l. o ∷ l) (none-of k (drop (i + 1) fields) behind)) in (
        not-known k (take i fields) before,
        sym (ap (filter (has_name k)) split) ∙ (filter-append (has_name k) (take i fields) (o ∷ drop (i + 1) fields)
            ∙ (ap (λ l. l ++ filter (has_name k) (o ∷ drop (i + 1) fields)) (none-of k (take i fields) before) ∙ one)),
      )
