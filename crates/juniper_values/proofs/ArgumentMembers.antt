-- Arguments by their names: what is found in a map of them, and what one more entry makes of it.
use Rattle.std.proofs.Common.{◌≡◌, ◌||◌, ℕ, Bool, true, false, cond, List, [], ◌∷◌, ◌++◌, Option, Some, None, option_map, is_some, bytes_eq, refl, sym, ap, ◌∙◌}
use Rattle.std.proofs.Common.{subst}
use Rattle.std.specs.Borrow.{Bor}
use Rattle.std.specs.Map.{lookup}
use Rattle.std.specs.Option.{option_copied}
use Rattle.indexmap.specs.IndexMap.{IndexMap, get_by, insert_entry}
use Rattle.indexmap.proofs.CallerLemmas.{insert_entry-new}
use Rattle.graphql_spec.specs.Shown.{Name}
use Rattle.graphql_spec.specs.Inputs.{Input}
use Rattle.graphql_spec.specs.Constants.{Constant, Members, no_members, insert, find, meaning}
use Rattle.graphql_spec.specs.Arguments.{put_default}
use Rattle.graphql_spec.proofs.Given.{find-put}
use Rattle.graphql_spec.proofs.Lists.{same_refl}
use Rattle.graphql_spec.proofs.Members.{insert_swap}
use Rattle.juniper_values.specs.ArgumentView.{members_onto}

-- two names are one
abbrev pub same_name : Bor (List ℕ) → Bor (List ℕ) → Bool
same_name a b = bytes_eq a.now b.now

-- the first, where it is there, else the second
abbrev pub or_else : {A : Type 0} → Option A → Option A → Option A
or_else None o = o
or_else (Some x) o = Some x

some-or : {A B : Type 0} (f : A → B) (a : Option A) (o : Option B) → is_some (or_else (option_map f a) o) ≡ is_some a || is_some o
some-or f None o = refl
some-or f (Some x) o = refl

none-of : {A : Type 0} (o : Option A) → is_some o ≡ false → o ≡ None
none-of None e = refl
none-of (Some x) e = cc

-- among none is none
pub nothing-there : (q : Name) → None ≡ find q no_members
unfolding find
nothing-there q = refl

or-false : (b : Bool) → b || false ≡ b
or-false true = refl
or-false false = refl

-- a name that is not there once a value is put in is another, and was not there
apart : (b : Bool) (q k : Name) (v : Constant) (o : Option Constant) → bytes_eq q k ≡ b → is_some (cond b (Some v) o) ≡ false → q ≡ k → ⊥
apart true q k v o same absent p = cc
apart false q k v o same absent p =
    let itself : bytes_eq q k ≡ true = subst (λ z. bytes_eq q z ≡ true) p (same_refl q) in
    cc

before : (b : Bool) (v : Constant) (o : Option Constant) → is_some (cond b (Some v) o) ≡ false → is_some o ≡ false
before true v o absent = cc
before false v o absent = absent

other : (q k : Name) (v : Constant) (ms : Members) → is_some (find q (insert k v ms)) ≡ false → q ≡ k → ⊥
other q k v ms absent = apart (bytes_eq q k) q k v (find q ms) refl (subst (λ z. is_some z ≡ false) (find-put q k v ms) absent)

absent-before : (q k : Name) (v : Constant) (ms : Members) → is_some (find q (insert k v ms)) ≡ false → is_some (find q ms) ≡ false
absent-before q k v ms absent = before (bytes_eq q k) v (find q ms) (subst (λ z. is_some z ≡ false) (find-put q k v ms) absent)

module _ {A : Type 0} (meant : A → Constant) where
  found-step : (b : Bool) (x : A) (o : Option A) (base : Option Constant) →
      cond b (Some (meant x)) (or_else (option_map meant o) base) ≡ or_else (option_map meant (cond b (Some x) o)) base
  found-step true x o base = refl
  found-step false x o base = refl

  -- what is found is what the map has there, else what was there
  pub found : (base : Members) (q : Name) (es : List (Bor (List ℕ) × A)) → find q (members_onto meant base es)
      ≡ or_else (option_map meant (lookup (λ k. bytes_eq q k.now) es)) (find q base)
  found base q [] = refl
  found base q (e ∷ es) = find-put q e.0.now (meant e.1) (members_onto meant base es)
      ∙ (ap (cond (bytes_eq q e.0.now) (Some (meant e.1))) (found base q es)
      ∙ found-step (bytes_eq q e.0.now) e.1 (lookup (λ k. bytes_eq q k.now) es) (find q base))

  -- a name is there where it is a key of the map, or was there
  pub there : {H : Type 0} (base : Members) (m : IndexMap (Bor (List ℕ)) A H) (q : Name) →
      is_some (find q (members_onto meant base m.entries)) ≡ is_some (get_by (λ k. bytes_eq q k.now) m) || is_some (find q base)
  there base m q = ap is_some (found base q m.entries) ∙ some-or meant (lookup (λ k. bytes_eq q k.now) m.entries) (find q base)

  -- a value that is put to what was there is put to all, where its name is not there
  pub past : (es : List (Bor (List ℕ) × A)) (base : Members) (k : Name) (v : Constant) → is_some (find k (members_onto meant base es)) ≡ false →
      members_onto meant (insert k v base) es ≡ insert k v (members_onto meant base es)
  past [] base k v absent = refl
  past (e ∷ es) base k v absent =
      let ms = members_onto meant base es in
      ap (insert e.0.now (meant e.1)) (past es base k v (absent-before k e.0.now (meant e.1) ms absent))
      ∙ insert_swap e.0.now k (meant e.1) v (λ p. other k e.0.now (meant e.1) ms absent (sym p)) ms

  -- a name that is not there was not there
  pub was-absent : (es : List (Bor (List ℕ) × A)) (base : Members) (k : Name) → is_some (find k (members_onto meant base es)) ≡ false →
      is_some (find k base) ≡ false
  was-absent [] base k absent = absent
  was-absent (e ∷ es) base k absent = was-absent es base k (absent-before k e.0.now (meant e.1) (members_onto meant base es) absent)

  last : (es : List (Bor (List ℕ) × A)) (base : Members) (k : Bor (List ℕ)) (v : A) → is_some (find k.now (members_onto meant base es)) ≡ false →
      members_onto meant base (es ++ (k, v) ∷ []) ≡ insert k.now (meant v) (members_onto meant base es)
  last [] base k v absent = refl
  last (e ∷ es) base k v absent =
      let ms = members_onto meant base es in
      ap (insert e.0.now (meant e.1)) (last es base k v (absent-before k.now e.0.now (meant e.1) ms absent))
      ∙ insert_swap e.0.now k.now (meant e.1) (meant v) (λ p. other k.now e.0.now (meant e.1) ms absent (sym p)) ms

  no-entry : (es : List (Bor (List ℕ) × A)) (base : Members) (k : Name) → is_some (find k (members_onto meant base es)) ≡ false →
      lookup (λ j. bytes_eq k j.now) es ≡ None
  no-entry es base k absent = none-of (lookup (λ j. bytes_eq k j.now) es) (first-none (lookup (λ j. bytes_eq k j.now) es) (find k base)
      (subst (λ z. is_some z ≡ false) (found base k es) absent))
    where
      first-none : (o : Option A) (b : Option Constant) → is_some (or_else (option_map meant o) b) ≡ false → is_some o ≡ false
      first-none None b e = refl
      first-none (Some x) b e = cc

  -- a new key goes last, and its value is put in
  pub put-new : {H : Type 0} (base : Members) (m : IndexMap (Bor (List ℕ)) A H) (k : Bor (List ℕ)) (v : A) →
      is_some (find k.now (members_onto meant base m.entries)) ≡ false →
      members_onto meant base (insert_entry same_name m.entries k v) ≡ insert k.now (meant v) (members_onto meant base m.entries)
  put-new base m k v absent =
      ap (members_onto meant base) (insert_entry-new same_name m k v (no-entry m.entries base k.now absent)) ∙ last m.entries base k v absent

  -- the value that the map has there
  pub found-own : {H : Type 0} (base : Members) (m : IndexMap (Bor (List ℕ)) A H) (q : Name) (o : Option (Bor A)) (x : Bor A) →
      option_copied o ≡ get_by (λ k. bytes_eq q k.now) m → o ≡ Some x → Some (meant x.now) ≡ find q (members_onto meant base m.entries)
  found-own base m q o x got is =
      sym (found base q m.entries ∙ ap (λ z. or_else (option_map meant z) (find q base)) (sym got ∙ ap option_copied is))

  -- where it has none, what was there
  pub found-other : {H : Type 0} (base : Members) (m : IndexMap (Bor (List ℕ)) A H) (q : Name) (o : Option (Bor A)) →
      option_copied o ≡ get_by (λ k. bytes_eq q k.now) m → o ≡ None → find q (members_onto meant base m.entries) ≡ find q base
  found-other base m q o got is = found base q m.entries ∙ ap (λ z. or_else (option_map meant z) (find q base)) (sym got ∙ ap option_copied is)

  -- a name is there where it is a key of the map, and nothing was there
  pub there-alone : {H : Type 0} (m : IndexMap (Bor (List ℕ)) A H) (q : Name) →
      is_some (find q (members_onto meant no_members m.entries)) ≡ is_some (get_by (λ k. bytes_eq q k.now) m)
  unfolding find
  there-alone m q = there no_members m q ∙ or-false (is_some (get_by (λ k. bytes_eq q k.now) m))

-- ## A value for a name, unless one is there

pub default-there : (k : Name) (o : Option Input) (ms : Members) → is_some (find k ms) ≡ true → put_default k o ms ≡ ms
unfolding put_default
default-there k None ms e = refl
default-there k (Some v) ms e = rw e refl

pub default-new : (k : Name) (v : Input) (ms : Members) → is_some (find k ms) ≡ false → put_default k (Some v) ms ≡ insert k (meaning v) ms
unfolding put_default
default-new k v ms e = rw e refl

pub default-none : (k : Name) (ms : Members) → put_default k None ms ≡ ms
unfolding put_default
default-none k ms = refl
