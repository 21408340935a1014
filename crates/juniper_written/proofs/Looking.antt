-- What a map of spreads has at a name, and names that are taken from a list.
use Rattle.std.proofs.Common.{◌≡◌, ℕ, ◌+◌, ◌<◌, arith, Bool, true, false, not, ◌||◌, cond, List, [], ◌∷◌, ◌++◌, length, Option, Some, None, option_map}
use Rattle.std.proofs.Common.{is_some, Vec, Bor, refl, sym, ap, ◌∙◌}
use Rattle.std.specs.Option.{option_to_list, option_copied}
use Rattle.std.specs.List.{list_all}
use Rattle.std.specs.Str.{bytes_eq}
use Rattle.std.specs.declared.alloc.Global.{Global}
use Rattle.std.proofs.lemmas.List.{length-map, length-append}
use Rattle.graphql_spec.specs.Shown.{Name}
use Rattle.graphql_spec.specs.Documents.{Fragment}
use Rattle.graphql_spec.specs.Fragments.{fragment_of, spreads, spreads_in}
use Rattle.juniper_syntax.proofs.Lists.{seen-push}
use Rattle.juniper_written.specs.WrittenView.{entries_of, named, view_names}
use Rattle.juniper_written.specs.declared.name_map.NameMap.{NameMap}
use Rattle.juniper_written.specs.SpreadsView.{AreSpreadsOf, spread_by, spreads_at, names_or_none, step_count}
use Rattle.juniper_written.proofs.FragmentNames.{next, or_unknown}
use Rattle.juniper_written.proofs.Weights.{weight, less, falls, fewer}

-- the names that a fragment spreads, if there is one
names-of : (o : Option Fragment) → names_or_none (option_map (λ f. spreads f.selections) o) ≡ spreads_in o
unfolding names_or_none spreads_in
names-of None = refl
names-of (Some f) = refl

some-map : {A B : Type 0} (f : A → B) (o : Option A) → is_some (option_map f o) ≡ is_some o
some-map f None = refl
some-map f (Some x) = refl

-- what a look-up has found
pub got : {A : Type 0} (o : Option (Bor A)) (n : Option A) (x : Bor A) → option_copied o ≡ n → o ≡ Some x → n ≡ Some x.now
got o n x e is = sym e ∙ ap option_copied is

pub got-none : {A : Type 0} (o : Option (Bor A)) (n : Option A) → option_copied o ≡ n → o ≡ None → n ≡ None
got-none o n e is = sym e ∙ ap option_copied is

module _ (m : NameMap (Vec (Bor (List ℕ)) Global)) where
  pub next-is : (fs : List Fragment) → AreSpreadsOf m fs → (k : Name) → names_or_none (spread_by m k) ≡ next fs k
  unfolding spreads_at
  next-is fs are k = ap names_or_none (are k) ∙ names-of (fragment_of fs k)

  pub known-is : (fs : List Fragment) → AreSpreadsOf m fs → (k : Name) → is_some (spread_by m k) ≡ is_some (fragment_of fs k)
  unfolding spreads_at
  known-is fs are k = ap is_some (are k) ∙ some-map (λ f. spreads f.selections) (fragment_of fs k)

  pub found-is : (k : Name) (o : Option (Bor (Vec (Bor (List ℕ)) Global))) (v : Bor (Vec (Bor (List ℕ)) Global)) →
      option_copied o ≡ named m k → o ≡ Some v →
      spread_by m k ≡ Some (view_names v.now.items)
  unfolding spread_by
  found-is k o v e is = ap (option_map (λ w. view_names w.items)) (got o (named m k) v e is)

  pub missing-is : (k : Name) (o : Option (Bor (Vec (Bor (List ℕ)) Global))) → option_copied o ≡ named m k → o ≡ None →
      spread_by m k ≡ None
  unfolding spread_by
  missing-is k o e is = ap (option_map (λ w. view_names w.items)) (got-none o (named m k) e is)

-- what the opposite of a test tells
pub not-true : (a b : Bool) → a ≡ not b → a ≡ true → b ≡ false
not-true a true is e = sym e ∙ is
not-true a false is e = refl

pub not-false : (a b : Bool) → a ≡ not b → a ≡ false → b ≡ true
not-false a true is e = refl
not-false a false is e = sym e ∙ is

-- the last one is taken away
pub popped : {A : Type 0} (old rest : List A) (o : Option A) (x : A) → old ≡ rest ++ option_to_list o → o ≡ Some x → old ≡ rest ++ x ∷ []
popped old rest o x e is = e ∙ ap (λ p. rest ++ option_to_list p) is

pub names-popped : (old rest : List (Bor (List ℕ))) (x : Bor (List ℕ)) → old ≡ rest ++ x ∷ [] → view_names old ≡ view_names rest ++ x.now ∷ []
names-popped old rest x e = seen-push (λ (n : Bor (List ℕ)). n.now) rest old x e

-- there is less to do once a name is seen, and what it spreads is left
pub goes-down : {A : Type 0} (m : NameMap (Vec (Bor (List ℕ)) Global)) (seen now : Name → Bool) (x : Name) →
    ((n : Name) → now n ≡ cond (bytes_eq x n) true (seen n)) → seen x ≡ false →
    (left rest made : List A) (last : A) → left ≡ rest ++ last ∷ [] → length made ≡ length rest + step_count (spread_by m x) →
    weight now (entries_of m) + length made < weight seen (entries_of m) + length left
goes-down m seen now x is new left rest made last e grown =
    let f = falls seen now x is m new in
    let l : length left ≡ length rest + 1 = ap length e ∙ length-append rest (last ∷ []) in
    omega (arith, f, l, grown)

-- there is less to do once one is taken away
pub goes-on : {A : Type 0} (m : NameMap (Vec (Bor (List ℕ)) Global)) (seen now : Name → Bool) (x : Name) →
    ((n : Name) → now n ≡ cond (bytes_eq x n) true (seen n)) →
    (left rest : List A) (last : A) → left ≡ rest ++ last ∷ [] → weight now (entries_of m) + length rest < weight seen (entries_of m) + length left
goes-on m seen now x is left rest last e =
    let f = less seen now x is (entries_of m) in
    let l : length left ≡ length rest + 1 = ap length e ∙ length-append rest (last ∷ []) in
    omega (arith, f, l)

-- the same where the names are left alone
pub goes-down-names : (m : NameMap (Vec (Bor (List ℕ)) Global)) (seen now : Name → Bool) (x : Bor (List ℕ)) →
    ((n : Name) → now n ≡ cond (bytes_eq x.now n) true (seen n)) → seen x.now ≡ false →
    (left rest made : List (Bor (List ℕ))) → left ≡ rest ++ x ∷ [] → view_names made ≡ view_names rest ++ names_or_none (spread_by m x.now) →
    weight now (entries_of m) + length made < weight seen (entries_of m) + length left
goes-down-names m seen now x is new left rest made e grown =
    let f = falls seen now x.now is m new in
    let l : length left ≡ length rest + 1 = ap length e ∙ length-append rest (x ∷ []) in
    let p = length-map made (λ n. n.now) in
    let q = length-map rest (λ n. n.now) in
    let g : length (view_names made) ≡ length (view_names rest) + length (names_or_none (spread_by m x.now)) = ap length grown
    ∙ length-append (view_names rest) (names_or_none (spread_by m x.now)) in
    let w = fewer (spread_by m x.now) in
    omega (arith, f, l, p, q, g, w)

-- what a look-up tells
pub found-by : (m : NameMap (Vec (Bor (List ℕ)) Global)) (k : Name) →
    is_some (named m k) ≡ is_some (spread_by m k)
unfolding spread_by
found-by m k = sym (some-map (λ v. view_names v.items) (named m k))

module _ (m : NameMap (Vec (Bor (List ℕ)) Global)) (fs : List Fragment) (are : AreSpreadsOf m fs) (done : Name → Bool) where
  -- what a fragment spreads is done, as the document has it
  pub all-ready : (k : Name) → list_all (λ n. done n || not (is_some (spread_by m n))) (names_or_none (spread_by m k)) ≡ true →
      list_all (or_unknown fs done) (next fs k) ≡ true
  all-ready k e =
      let same : (λ (n : Name). done n || not (is_some (spread_by m n))) ≡ or_unknown fs done = λ i n. done n || not (known-is m fs are n i) in
      ap (λ l. list_all (or_unknown fs done) l) (sym (next-is m fs are k)) ∙ (ap (λ f. list_all f (names_or_none (spread_by m k))) (sym same) ∙ e)
