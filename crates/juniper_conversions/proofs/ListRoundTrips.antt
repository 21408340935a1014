-- What is written of items comes back, by what conversions of lists answer.
use Rattle.std.proofs.Common.{◌≡◌, ℕ, List, [], ◌∷◌, Result, Ok, Err, Vec, Global, length, map, inl, inr, sym, ◌∙◌}
use Rattle.std.specs.Prelude.{All, IsOkAnd}
use Rattle.std.proofs.lemmas.List.{length-map}
use Rattle.std.proofs.lemmas.List.Elements.{All-head, All-tail}
use Rattle.std.proofs.lemmas.Slice.Zip.{AllZip-long}
use Rattle.graphql_spec.specs.Constants.{Constant}
use Rattle.juniper_conversions.specs.ListConversions.{EachGives, FirstFails, GivesVec, GivesArray, list_input}
use Rattle.juniper_conversions.specs.RoundTrips.{BringsBack, ComesBack, ComesBackAs, EachComesBackAs}
use Rattle.juniper_conversions.specs.declared.conversion_errors.FromInputValueVecError.{FromInputValueVecError}
use Rattle.juniper_conversions.specs.declared.conversion_errors.FromInputValueVecError.TheVariants as vec
use Rattle.juniper_conversions.specs.declared.conversion_errors.FromInputValueArrayError.{FromInputValueArrayError}
use Rattle.juniper_conversions.specs.declared.conversion_errors.FromInputValueArrayError.TheVariants as array
use Rattle.juniper_conversions.proofs.Shapes.{items_of-constants_of}

module _ {A E : Type 0} (gives : Constant → Result A E → Type 0) (input : A → Constant) where
  -- ## Items

  pub each_given : (xs ys : List A) → EachComesBackAs gives input xs ys → EachGives gives (map input xs) ys
  each_given [] [] h = tt
  each_given [] (y ∷ ys) h = elim h [ ]
  each_given (x ∷ xs) [] h = elim h [ ]
  each_given (x ∷ xs) (y ∷ ys) h = (h.0, each_given xs ys h.1)

  pub each_back : (xs ys : List A) → EachGives gives (map input xs) ys → EachComesBackAs gives input xs ys
  each_back [] [] h = tt
  each_back [] (y ∷ ys) h = elim h [ ]
  each_back (x ∷ xs) [] h = elim h [ ]
  each_back (x ∷ xs) (y ∷ ys) h = (h.0, each_back xs ys h.1)

  pub some_each : (xs : List A) → All (BringsBack gives input) xs → (ys : List A) × EachComesBackAs gives input xs ys
  some_each [] all = ([], tt)
  some_each (x ∷ xs) all =
      let first : BringsBack gives input x = All-head (BringsBack gives input) x xs all in
      let rest = some_each xs (All-tail (BringsBack gives input) x xs all) in
      (first.0 ∷ rest.0, (first.1, rest.1))

  pub none_fails : (xs : List A) → All (ComesBack gives input) xs → (e : E) → FirstFails gives (map input xs) e → ⊥
  none_fails [] all e h = h
  none_fails (x ∷ xs) all e (inl bad) =
      let first : ComesBack gives input x = All-head (ComesBack gives input) x xs all in
      first e bad
  none_fails (x ∷ xs) all e (inr (y, good, later)) = none_fails xs (All-tail (ComesBack gives input) x xs all) e later

module _ (S : Type 0) {A E : Type 0} (gives : Constant → Result A E → Type 0) (input : A → Constant) where
  -- ## Vectors

  pub vec_given : (xs : List A) (back : Vec A Global) → EachComesBackAs gives input xs back.items → GivesVec {S = S} gives (list_input input xs) (Ok back)
  vec_given xs back h = rw items_of-constants_of (each_given gives input xs back.items h)

  pub vec_back : (xs : List A) → All (ComesBack gives input) xs → (answer : Result (Vec A Global) (FromInputValueVecError A S E)) →
      GivesVec gives (list_input input xs) answer
      → IsOkAnd answer (λ back. EachComesBackAs gives input xs back.items)
  vec_back xs all (Ok back) h = each_back gives input xs back.items (rw items_of-constants_of at h)
  vec_back xs all (Err vec.Null) h = elim h [ ]
  vec_back xs all (Err (vec.Item e)) h = absurd (none_fails gives input xs all e (rw items_of-constants_of at h))

  -- ## Arrays

  pub array_given : (n : ℕ) (xs back : List A) → length xs ≡ n → EachComesBackAs gives input xs back →
      GivesArray {S = S} n gives (list_input input xs) (Ok back)
  array_given n xs back count h = rw items_of-constants_of (rw length-map count, each_given gives input xs back h)

  pub array_back : (n : ℕ) (xs : List A) → length xs ≡ n → All (ComesBack gives input) xs → (answer : Result (List A) (FromInputValueArrayError A S E)) →
      GivesArray n gives (list_input input xs) answer
      → IsOkAnd answer (λ back. EachComesBackAs gives input xs back)
  array_back n xs count all (Ok back) h = each_back gives input xs back (rw items_of-constants_of at h.1)
  array_back n xs count all (Err array.Null) h = elim h [ ]
  array_back n xs count all (Err (array.WrongCount actual expected)) h = absurd (h.0 (rw (items_of-constants_of, length-map) count))
  array_back n xs count all (Err (array.Item e)) h = absurd (none_fails gives input xs all e (rw items_of-constants_of at h.1))

-- a vector of as many items exists
pub vec_exists : (S : Type 0) {A E : Type 0} (gives : Constant → Result A E → Type 0) (input : A → Constant) (v : Vec A Global) →
    All (BringsBack gives input) v.items
    → (back : Vec A Global) × GivesVec {S = S} gives (list_input input v.items) (Ok back)
vec_exists S gives input v all =
    let found = some_each gives input v.items all in
    let back : Vec _ Global = record {
      ptr = v.ptr;
      len = v.len;
      cap = v.cap;
      alloc = v.alloc;
      items = found.0;
      ok = (v.ok.0 ∙ sym (AllZip-long (ComesBackAs gives input) v.items found.0 found.1), v.ok.1);
      small = v.small;
    } in
    (back, vec_given S gives input v.items back found.1)
