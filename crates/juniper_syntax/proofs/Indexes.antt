-- Keys, and an index that says where each stands: one more key, and keys that say the same.
use Rattle.std.proofs.Common.{◌≡◌, ◌<◌, ◌≤◌, ℕ, suc, zero, ◌+◌, ◌*◌, ◌%◌, ◌^◌, List, [], ◌∷◌, ◌++◌, length, get_or, take, drop, Option, Some, None, option_map}
use Rattle.std.proofs.Common.{is_some, IfSome, inl, inr, String, Global, string_bytes, Bool, true, false, cond, ◌||◌, nat_lt, IsTrue, ◌↔◌, Decides, refl, sym}
use Rattle.std.proofs.Common.{ap, ap₂, subst, ◌∙◌, arith}
use Rattle.std.proofs.lemmas.Bool.{cases_Bool, cases_lt, eqb-true, lt-ltb, le-ltb}
use Rattle.std.proofs.lemmas.Map.Keys.{IsDistinct-push}
use Rattle.std.proofs.lemmas.Slice.Eq.{bytes_eq-Decides}
use Rattle.std.proofs.lemmas.List.{drop_more}
use Rattle.std.specs.BTreeMap.{get, get_by_text, is_at}
use Rattle.std.specs.Cmp.{IsEquivalence, eq_by_cmp_equiv, on_equiv, unsigned_ties}
use Rattle.std.proofs.lemmas.Cmp.{nat_cmp_total}
use Rattle.std.specs.Cmp.Lexicographic.{nat_list_eq_equiv, slice_cmp}
use Rattle.std.specs.List.{AllByRecursion, IsDistinct, list_any, position, position_or_len}
use Rattle.std.specs.Map.{lookup}
use Rattle.std.specs.Ordering.{is_eq, nat_cmp}
use Rattle.std.specs.Str.{bytes_eq}
use Rattle.std.specs.String.{string_eq}
use Rattle.juniper_syntax.specs.FieldWords.{is_key}
use Rattle.juniper_syntax.specs.Indexes.{AreSame, IsIndex, Shows, chosen, place_in, says, stands_at}
use Rattle.juniper_syntax.specs.NameNumbers.{name_number, number_from}
use Rattle.juniper_syntax.specs.declared.places.Places.{Places}

decided : {P : Type 0} (b : Bool) → Decides b P → b ≡ true → P
decided true d e = d.0 refl
decided false d e = cc

-- texts that are equal byte by byte
pub same_text : (xs ys : List ℕ) → bytes_eq xs ys ≡ true → xs ≡ ys
same_text xs ys e = decided (bytes_eq xs ys) (bytes_eq-Decides xs ys) e

one_more : (n : ℕ) → 1 + n ≡ suc n
one_more n = omega arith

-- a place within a list, one further on
shifted : (n m : ℕ) → cond (nat_lt (1 + n) (suc m)) (Some (1 + n)) None ≡ option_map suc (cond (nat_lt n m) (Some n) None)
shifted n m =
    elim (cases_lt n m) [
      | inl below ↦ rw (lt-ltb (1 + n) (suc m) (omega (arith, below)), lt-ltb n m below) (ap Some (one_more n))
      | inr above ↦ rw (le-ltb (1 + n) (suc m) (omega (arith, above)), le-ltb n m above) refl
    ]

first : (m : ℕ) → cond {A = Option ℕ} (nat_lt 0 (suc m)) (Some 0) None ≡ Some 0
first m = ap (λ b. cond {A = Option ℕ} b (Some 0) None) (lt-ltb 0 (suc m) (omega arith))

some-same : (i j : ℕ) → Some i ≡ Some j → i ≡ j
some-same i j e = cc

map-none : (o : Option ℕ) → option_map suc o ≡ None → o ≡ None
map-none None e = refl
map-none (Some n) e = cc

module _ {X : Type 0} (test : X → Bool) where
  -- where the first that passes stands, from the front
  pub position-cons : (x : X) (xs : List X) → position test (x ∷ xs) ≡ cond (test x) (Some 0) (option_map suc (position test xs))
  position-cons x xs =
      elim (cases_Bool (test x)) [
        | inl here ↦ rw here (first (length xs))
        | inr here ↦ rw here (shifted (position_or_len test xs) (length xs))
      ]

  start : (x : X) (xs : List X) {b : Bool} → test x ≡ b → position test (x ∷ xs) ≡ cond b (Some 0) (option_map suc (position test xs))
  start x xs here = position-cons x xs ∙ ap (λ b. cond b (Some 0) (option_map suc (position test xs))) here

  -- nowhere, exactly where none passes
  pub position-none : (xs : List X) → list_any test xs ≡ false → position test xs ≡ None
  position-none [] e = refl
  position-none (x ∷ xs) e =
      elim (cases_Bool (test x)) [
        | inl here ↦ cc
        | inr here ↦ start x xs here ∙ ap (option_map suc) (position-none xs (sym (ap (λ b. b || list_any test xs) here) ∙ e))
      ]

  pub none-position : (xs : List X) → position test xs ≡ None → list_any test xs ≡ false
  none-position [] e = refl
  none-position (x ∷ xs) e =
      elim (cases_Bool (test x)) [
        | inl here ↦ let bad : ◌≡◌ {A = Option ℕ} (Some 0) None = sym (start x xs here) ∙ e in cc
        | inr here ↦ ap (λ b. b || list_any test xs) here ∙ none-position xs (map-none (position test xs) (sym (start x xs here) ∙ e))
      ]

  pub some-position : (xs : List X) (i : ℕ) → position test xs ≡ Some i → list_any test xs ≡ true
  some-position xs i e =
      elim (cases_Bool (list_any test xs)) [
        | inl there ↦ there
        | inr gone ↦ let bad : Some i ≡ None = sym e ∙ position-none xs gone in cc
      ]

  -- one more at the end
  pub position-last : (xs : List X) (y : X) → list_any test xs ≡ false → position test (xs ++ y ∷ []) ≡ cond (test y) (Some (length xs)) None
  position-last [] y e = elim (cases_Bool (test y)) [ inl here ↦ rw here refl | inr here ↦ rw here refl ]
  position-last (x ∷ xs) y e =
      elim (cases_Bool (test x)) [
        | inl here ↦ cc
        | inr here ↦
            start x (xs ++ y ∷ []) here ∙ ap (option_map suc) (position-last xs y (sym (ap (λ b. b || list_any test xs) here) ∙ e))
            ∙ moved (test y) (length xs)
      ]
    where
      moved : (b : Bool) (n : ℕ) → option_map suc (cond b (Some n) None) ≡ cond b (Some (suc n)) None
      moved true n = refl
      moved false n = refl

  pub position-kept : (xs : List X) (y : X) → list_any test xs ≡ true → position test (xs ++ y ∷ []) ≡ position test xs
  position-kept [] y e = cc
  position-kept (x ∷ xs) y e =
      elim (cases_Bool (test x)) [
        | inl here ↦ start x (xs ++ y ∷ []) here ∙ sym (start x xs here)
        | inr here ↦
            start x (xs ++ y ∷ []) here ∙ ap (option_map suc) (position-kept xs y (sym (ap (λ b. b || list_any test xs) here) ∙ e)) ∙ sym (start x xs here)
      ]

  -- behind all, where none passes
  pub absent : (xs : List X) → list_any test xs ≡ false → position_or_len test xs ≡ length xs
  absent [] e = refl
  absent (x ∷ xs) e =
      elim (cases_Bool (test x)) [
        | inl here ↦ cc
        | inr here ↦ rw here (ap (λ n. 1 + n) (absent xs (sym (ap (λ b. b || list_any test xs) here) ∙ e)) ∙ one_more (length xs))
      ]

  -- a place that was found is one of the list
  pub within : (xs : List X) (o : Option ℕ) → o ≡ position test xs → IfSome o (λ i. i < length xs)
  within xs None e = tt
  within xs (Some i) e =
      elim (cases_lt (position_or_len test xs) (length xs)) [
        | inl below ↦
            let some : Some i ≡ Some (position_or_len test xs)
            = e ∙ ap (λ b. cond b (Some (position_or_len test xs)) None) (lt-ltb (position_or_len test xs) (length xs) below) in
            omega (arith, some-same i (position_or_len test xs) some, below)
        | inr above ↦
            let none : Some i ≡ None
            = e ∙ ap (λ b. cond b (Some (position_or_len test xs)) None) (le-ltb (position_or_len test xs) (length xs) above) in
            cc
      ]

pub none-is : (o : Option ℕ) → is_some o ≡ false → o ≡ None
none-is None e = refl
none-is (Some n) e = cc

pub some-is : (o : Option ℕ) → is_some o ≡ true → (n : ℕ) × (o ≡ Some n)
some-is None e = cc
some-is (Some n) e = (n, refl)

pub no-entries : {A : Type 0} (xs : List A) → length xs ≡ 0 → xs ≡ []
no-entries [] e = refl
no-entries (x ∷ xs) e = absurd (omega (arith, e))

-- no keys are distinct
pub none-distinct : (names : List (String Global)) → names ≡ [] → IsDistinct string_eq names
unfolding IsDistinct
none-distinct names none = rw none tt

-- the number of a name, one byte on
pub one-byte : (bs : List ℕ) (i : ℕ) → i < length bs → (whole n : ℕ) → whole ≡ number_from n (drop i bs) →
    whole ≡ number_from ((n * 1099511628211 % 2 ^ 64 + get_or bs i 0) % 2 ^ 64) (drop (i + 1) bs)
unfolding number_from
one-byte bs i below whole n e = e ∙ ap (number_from n) (drop_more bs i 0 below)

-- ## A key more, where it stands

pub stands-in : (key : List ℕ) (names : List (String Global)) (place : ℕ) (d : String Global) → place < length names →
    stands_at names place key ≡ is_key key (get_or names place d)
unfolding says
stands-in key [] place d below = absurd (omega (arith, below))
stands-in key (name ∷ names) zero d below = refl
stands-in key (name ∷ names) (suc place) d below = stands-in key names place d (omega (arith, below))

pub stands-beyond : (key : List ℕ) (names : List (String Global)) (place : ℕ) → length names ≤ place → stands_at names place key ≡ false
unfolding says
stands-beyond key [] place above = refl
stands-beyond key (name ∷ names) zero above = absurd (omega (arith, above))
stands-beyond key (name ∷ names) (suc place) above = stands-beyond key names place (omega (arith, above))

stands-other : (key : List ℕ) (names : List (String Global)) (last : String Global) (place : ℕ) → bytes_eq key (string_bytes last) ≡ false →
    stands_at (names ++ last ∷ []) place key ≡ stands_at names place key
unfolding says
stands-other key [] last zero e = e
stands-other key [] last (suc place) e = refl
stands-other key (name ∷ names) last zero e = refl
stands-other key (name ∷ names) last (suc place) e = stands-other key names last place e

stands-last : (names : List (String Global)) (last : String Global) → stands_at (names ++ last ∷ []) (length names) (string_bytes last) ≡ true
unfolding says
stands-last [] last = nat_list_eq_equiv.refl (string_bytes last)
stands-last (name ∷ names) last = stands-last names last

stands-nowhere-else : (names : List (String Global)) (last : String Global) (place : ℕ) → list_any (is_key (string_bytes last)) names ≡ false →
    stands_at (names ++ last ∷ []) place (string_bytes last) ≡ true → place ≡ length names
unfolding says
stands-nowhere-else [] last zero gone e = refl
stands-nowhere-else [] last (suc place) gone e = cc
stands-nowhere-else (name ∷ names) last zero gone e = let bad : true ≡ false = sym (ap (λ b. b || list_any (is_key (string_bytes last)) names) e) ∙ gone in cc
stands-nowhere-else (name ∷ names) last (suc place) gone e =
    elim (cases_Bool (is_key (string_bytes last) name)) [
      | inl here ↦ let bad : true ≡ false = sym (ap (λ b. b || list_any (is_key (string_bytes last)) names) here) ∙ gone in cc
      | inr here ↦
          ap suc (stands-nowhere-else names last place (sym (ap (λ b. b || list_any (is_key (string_bytes last)) names) here) ∙ gone) e)
    ]

-- a choice among one key more, for another key
chosen-other : (key : List ℕ) (names : List (String Global)) (last : String Global) (o tied : Option ℕ) → bytes_eq key (string_bytes last) ≡ false →
    chosen (names ++ last ∷ []) key o tied ≡ chosen names key o tied
unfolding chosen
chosen-other key names last None tied e = refl
chosen-other key names last (Some place) tied e = ap (λ b. cond b (Some place) tied) (stands-other key names last place e)

-- the choice of a place where the key does not stand
chosen-passed : (key : List ℕ) (names : List (String Global)) (last : String Global) (tied : Option ℕ) → bytes_eq key (string_bytes last) ≡ false →
    chosen (names ++ last ∷ []) key (Some (length names)) tied ≡ tied
unfolding chosen
chosen-passed key names last tied e =
    ap (λ b. cond b (Some (length names)) tied) (stands-other key names last (length names) e ∙ stands-beyond key names (length names) (omega arith))

chosen-last : (names : List (String Global)) (last : String Global) (tied : Option ℕ) →
    chosen (names ++ last ∷ []) (string_bytes last) (Some (length names)) tied ≡ Some (length names)
unfolding chosen
chosen-last names last tied = ap (λ b. cond b (Some (length names)) tied) (stands-last names last)

chosen-tied : (names : List (String Global)) (last : String Global) (place : ℕ) → list_any (is_key (string_bytes last)) names ≡ false →
    chosen (names ++ last ∷ []) (string_bytes last) (Some place) (Some (length names)) ≡ Some (length names)
unfolding chosen
chosen-tied names last place gone =
    elim (cases_Bool (stands_at (names ++ last ∷ []) place (string_bytes last))) [
      | inl there ↦
          ap (λ b. cond b (Some place) (Some (length names))) there ∙ ap Some (stands-nowhere-else names last place gone there)
      | inr gone-there ↦ ap (λ b. cond b (Some place) (Some (length names))) gone-there
    ]

-- the choice, by what stands at the place
pub chosen-some : (names : List (String Global)) (key : List ℕ) (place : ℕ) (o tied : Option ℕ) (b : Bool) → Some place ≡ o → stands_at names place key ≡ b →
    cond b (Some place) tied ≡ chosen names key o tied
unfolding chosen
chosen-some names key place o tied b some stands = ap (λ c. cond c (Some place) tied) (sym stands) ∙ ap (λ p. chosen names key p tied) some

pub chosen-none : (names : List (String Global)) (key : List ℕ) (o tied : Option ℕ) → o ≡ None → chosen names key o tied ≡ tied
unfolding chosen
chosen-none names key o tied none = rw none refl

text-same : (p q : Places) (key : List ℕ) → q.tied.entries ≡ p.tied.entries → get_by_text q.tied key ≡ get_by_text p.tied key
text-same p q key same = ap (lookup (is_at (λ k. slice_cmp nat_cmp key (string_bytes k)))) same

same-number : (n : ℕ) → is_eq (nat_cmp n n) ≡ true
same-number n = (eq_by_cmp_equiv nat_cmp_total).refl n

is-number : (n m : ℕ) → is_eq (nat_cmp n m) ≡ true → n ≡ m
is-number n m e = eqb-true n m (unsigned_ties n m ∙ e)

module _ (p q : Places) (names : List (String Global)) (last : String Global) (gone : list_any (is_key (string_bytes last)) names ≡ false) where
  -- it is enough that the new key has its place, and that the others keep theirs
  grown : Shows p names → place_in q (names ++ last ∷ []) (string_bytes last) ≡ Some (length names) →
      ((key : List ℕ) → bytes_eq key (string_bytes last) ≡ false → place_in q (names ++ last ∷ []) key ≡ place_in p names key) →
      Shows q (names ++ last ∷ [])
  unfolding Shows
  grown shows at others = λ key.
      elim (cases_Bool (bytes_eq key (string_bytes last))) [
        | inl is ↦
            let same = same_text key (string_bytes last) is in
            subst (λ k. place_in q (names ++ last ∷ []) k ≡ position (is_key k) (names ++ last ∷ [])) (sym same)
            (at ∙ sym (position-last (is_key (string_bytes last)) names last gone
            ∙ ap (λ b. cond b (Some (length names)) None) (nat_list_eq_equiv.refl (string_bytes last))))
        | inr other ↦
            others key other ∙ shows key ∙ elim (cases_Bool (list_any (is_key key) names)) [
              | inl known ↦ sym (position-kept (is_key key) names last known)
              | inr new ↦
                  position-none (is_key key) names new
                  ∙ sym (position-last (is_key key) names last new ∙ ap (λ b. cond b (Some (length names)) None) other)
            ]
      ]

  -- the first key of its number
  pub first-grown : get nat_cmp p.by_number (name_number (string_bytes last)) ≡ None → q.tied.entries ≡ p.tied.entries →
      ((n : ℕ) → get nat_cmp q.by_number n ≡ cond (is_eq (nat_cmp (name_number (string_bytes last)) n)) (Some (length names)) (get nat_cmp p.by_number n)) →
      Shows p names → Shows q (names ++ last ∷ [])
  first-grown none same updates shows =
      let names' = names ++ last ∷ [] in
      let number = name_number (string_bytes last) in
      let put : (n : ℕ) (b : Bool) → is_eq (nat_cmp number n) ≡ b → get nat_cmp q.by_number n ≡ cond b (Some (length names)) (get nat_cmp p.by_number n)
      = λ n b e. updates n ∙ ap (λ c. cond c (Some (length names)) (get nat_cmp p.by_number n)) e in
      grown shows
      (ap (λ o. chosen names' (string_bytes last) o (get_by_text q.tied (string_bytes last))) (put number true (same-number number)) ∙ chosen-last names last _)
      (λ key other. elim (cases_Bool (is_eq (nat_cmp number (name_number key)))) [
        | inl is ↦
            let unknown : get nat_cmp p.by_number (name_number key) ≡ None
            = subst (λ n. get nat_cmp p.by_number n ≡ None) (is-number number (name_number key) is) none in
            ap (λ o. chosen names' key o (get_by_text q.tied key)) (put (name_number key) true is) ∙ chosen-passed key names last _ other
            ∙ text-same p q key same ∙ sym (chosen-none names key _ _ unknown)
        | inr isnt ↦
            ap (λ o. chosen names' key o (get_by_text q.tied key)) (put (name_number key) false isnt)
            ∙ chosen-other key names last (get nat_cmp p.by_number (name_number key)) (get_by_text q.tied key) other
            ∙ ap (chosen names key (get nat_cmp p.by_number (name_number key))) (text-same p q key same)
      ])

  -- a key whose number another has
  pub tied-grown : (place : ℕ) → get nat_cmp p.by_number (name_number (string_bytes last)) ≡ Some place → q.by_number.entries ≡ p.by_number.entries →
      ((key : List ℕ) → get_by_text q.tied key ≡ cond (bytes_eq (string_bytes last) key) (Some (length names)) (get_by_text p.tied key)) →
      Shows p names → Shows q (names ++ last ∷ [])
  tied-grown place some same updates shows =
      let names' = names ++ last ∷ [] in
      let numbered : (n : ℕ) → get nat_cmp q.by_number n ≡ get nat_cmp p.by_number n = λ n. ap (lookup (is_at (nat_cmp n))) same in
      grown shows
      (ap₂ (chosen names' (string_bytes last)) (numbered (name_number (string_bytes last)) ∙ some)
      (updates (string_bytes last) ∙ ap (λ b. cond b (Some (length names)) (get_by_text p.tied (string_bytes last)))
      (nat_list_eq_equiv.refl (string_bytes last)))
      ∙ chosen-tied names last place gone)
      (λ key other.
      ap₂ (chosen names' key) (numbered (name_number key))
      (updates key ∙ ap (λ b. cond b (Some (length names)) (get_by_text p.tied key)) (nat_list_eq_equiv.symm (string_bytes last) key ∙ other))
      ∙ chosen-other key names last (get nat_cmp p.by_number (name_number key)) (get_by_text p.tied key) other)

module _ (p q : Places) where
  pub same-shows : (names : List (String Global)) → q.by_number.entries ≡ p.by_number.entries → q.tied.entries ≡ p.tied.entries → Shows p names → Shows q names
  unfolding Shows
  same-shows names same texts shows = λ key.
      ap₂ (chosen names key) (ap (lookup (is_at (nat_cmp (name_number key)))) same) (text-same p q key texts) ∙ shows key

module _ (p : Places) where
  -- an empty index is one of any keys
  pub empty-index : (names : List (String Global)) → p.by_number.entries ≡ [] → IsIndex p names
  unfolding IsIndex
  empty-index names none = λ more. absurd (omega (arith, ap length none, more))

  pub shows-index : (names : List (String Global)) → Shows p names → IsIndex p names
  unfolding IsIndex
  shows-index names shows = λ more. shows

  -- an index that is not empty shows the keys
  pub index-shows : (names : List (String Global)) {b : Bool} → (IsTrue b ↔ (length p.by_number.entries ≡ 0)) → b ≡ false → IsIndex p names → Shows p names
  unfolding IsIndex
  index-shows names is_empty full index =
      elim (cases_lt 0 (length p.by_number.entries)) [
        | inl more ↦ index more
        | inr none ↦ let bad = is_empty.1 (omega (arith, none)) in cc
      ]

  -- an empty index shows no keys
  pub empty-shows : p.by_number.entries ≡ [] → p.tied.entries ≡ [] → Shows p []
  unfolding Shows chosen
  empty-shows none untied = λ key. rw (none, untied) refl

-- the laws of keys that are equal
pub keys_equiv : IsEquivalence (string_eq {Z = Global})
keys_equiv = on_equiv string_bytes nat_list_eq_equiv

-- one key more
pub more-distinct : (names : List (String Global)) (last : String Global) → IsDistinct string_eq names → list_any (string_eq last) names ≡ false →
    IsDistinct string_eq (names ++ last ∷ [])
more-distinct = IsDistinct-push keys_equiv

-- keys that say the same differ as well
others-same : (k l : String Global) (ks ls : List (String Global)) → string_bytes l ≡ string_bytes k → AreSame ks ls →
    AllByRecursion (λ y. string_eq k y ≡ false) ks → AllByRecursion (λ y. string_eq l y ≡ false) ls
others-same k l [] [] e same others = tt
others-same k l [] (x ∷ ls) e same others = absurd same
others-same k l (x ∷ ks) [] e same others = absurd same
others-same k l (x ∷ ks) (y ∷ ls) e same others = (ap₂ bytes_eq e same.0 ∙ others.0, others-same k l ks ls e same.1 others.1)

pub same-distinct : (ks ls : List (String Global)) → AreSame ks ls → IsDistinct string_eq ks → IsDistinct string_eq ls
unfolding IsDistinct
same-distinct [] [] same distinct = tt
same-distinct [] (l ∷ ls) same distinct = absurd same
same-distinct (k ∷ ks) [] same distinct = absurd same
same-distinct (k ∷ ks) (l ∷ ls) same distinct = (others-same k l ks ls same.0 same.1 distinct.0, same-distinct ks ls same.1 distinct.1)

-- so do as many of both, from the first on
pub same-first : (n : ℕ) (ks ls : List (String Global)) → AreSame ks ls → AreSame (take n ks) (take n ls)
same-first zero ks ls same = tt
same-first (suc n) [] [] same = tt
same-first (suc n) [] (l ∷ ls) same = absurd same
same-first (suc n) (k ∷ ks) [] same = absurd same
same-first (suc n) (k ∷ ks) (l ∷ ls) same = (same.0, same-first n ks ls same.1)

module _ (p : Places) where
  pub index-of : (names ms : List (String Global)) → ms ≡ names → IsIndex p names → IsIndex p ms
  index-of names ms same index = subst (IsIndex p) (sym same) index

pub distinct-of : (names ms : List (String Global)) → ms ≡ names → IsDistinct string_eq names → IsDistinct string_eq ms
distinct-of names ms same distinct = subst (IsDistinct string_eq) (sym same) distinct

-- each of distinct keys is none of those before it
pub before : (names : List (String Global)) (i : ℕ) (d : String Global) → i < length names → IsDistinct string_eq names →
    list_any (is_key (string_bytes (get_or names i d))) (take i names) ≡ false
unfolding IsDistinct
before [] i d below distinct = absurd (omega (arith, below))
before (name ∷ names) zero d below distinct = refl
before (name ∷ names) (suc i) d below distinct =
    let other = nat_list_eq_equiv.symm (string_bytes (get_or names i d)) (string_bytes name) ∙ all-at names i d (omega (arith, below)) distinct.0 in
    ap (λ b. b || list_any (is_key (string_bytes (get_or names i d))) (take i names)) other ∙ before names i d (omega (arith, below)) distinct.1
  where
    all-at : (ks : List (String Global)) (j : ℕ) (d : String Global) → j < length ks → AllByRecursion (λ y. string_eq name y ≡ false) ks →
        string_eq name (get_or ks j d) ≡ false
    all-at [] j d below all = absurd (omega (arith, below))
    all-at (k ∷ ks) zero d below all = all.0
    all-at (k ∷ ks) (suc j) d below all = all-at ks j d (omega (arith, below)) all.1
