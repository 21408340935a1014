-- What fills an answer has no more fields than what it is filled with.
use Rattle.std.proofs.Common.{ℕ, zero, suc, ◌≡◌, ◌+◌, ◌-◌, ◌≤◌, Bool, true, false, ◌&&◌, cond, ◌*◌, List, [], ◌∷◌, ◌++◌, length, get_or, set, take, drop}
use Rattle.std.proofs.Common.{◌<◌, refl, sym, ap, subst, arith}
use Rattle.std.proofs.Math.Nat.{add-mul, mul-add}
use Rattle.std.proofs.lemmas.List.{length-drop, length-take}
use Rattle.std.specs.Str.{bytes_eq}
use Rattle.graphql_spec.specs.Shown.{Name, Shown}
use Rattle.graphql_spec.specs.Values.{Value, null, scalar, list, object, Values, Entries, no_entries, entry, any_null, put}
use Rattle.graphql_spec.specs.Execution.{whole_list}
use Rattle.graphql_spec.specs.Skeletons.{Skeleton, Skeletons, absent, filled, several, hole, no_skeletons, skeleton, fill, fill_all, first_of}
use Rattle.juniper_walk.specs.Budget.{fields_in, fields_in_all, fields_in_entries, fields_in_items}

-- a list, or null in its place
whole-by : (b : Bool) (vs : Values) → fields_in (cond b null (list vs)) ≤ fields_in_items vs
unfolding fields_in
whole-by true vs = omega arith
whole-by false vs = omega arith

whole-fields : (r : Bool) (vs : Values) → fields_in (whole_list r vs) ≤ fields_in_items vs
unfolding whole_list
whole-fields r vs = whole-by (r && any_null vs) vs

-- a hole takes the first
first-fields : (vs : List Value) → fields_in (first_of vs).value + fields_in_all (first_of vs).left ≤ fields_in_all vs
unfolding first_of fields_in fields_in_all
first-fields [] = omega arith
first-fields (v ∷ vs) = omega arith

mutual
  unfolding fill fields_in

  pub fill-fields : (s : Skeleton) (vs : List Value) → fields_in (fill s vs).value + fields_in_all (fill s vs).left ≤ fields_in_all vs
  fill-fields absent vs = omega arith
  fill-fields (filled x) vs = omega arith
  fill-fields (several r ss) vs = omega (arith, whole-fields r (fill_all ss vs).values, fill-all-fields ss vs)
  fill-fields hole vs = first-fields vs

  fill-all-fields : (ss : Skeletons) (vs : List Value) → fields_in_items (fill_all ss vs).values + fields_in_all (fill_all ss vs).left ≤ fields_in_all vs
  fill-all-fields no_skeletons vs = omega arith
  fill-all-fields (skeleton s ss) vs = omega (arith, fill-fields s vs, fill-all-fields ss (fill s vs).left)

-- a key more, or its value anew
put-by : (b : Bool) (j : Name) (v w : Value) (rest new : Entries) → fields_in_entries new ≤ suc (fields_in v + fields_in_entries rest) →
    fields_in_entries (cond b (entry j v rest) (entry j w new)) ≤ suc (fields_in v + fields_in_entries (entry j w rest))
unfolding fields_in
put-by true j v w rest new less = omega arith
put-by false j v w rest new less = omega (arith, less)

pub put-fields : (k : Name) (v : Value) (es : Entries) → fields_in_entries (put k v es) ≤ suc (fields_in v + fields_in_entries es)
unfolding put fields_in
put-fields k v no_entries = omega arith
put-fields k v (entry j w rest) = put-by (bytes_eq k j) j v w rest (put k v rest) (put-fields k v rest)

-- those that are taken and those that are left are all
pub taken-fields : (n : ℕ) (vs : List Value) → fields_in_all (take n vs) + fields_in_all (drop n vs) ≡ fields_in_all vs
unfolding fields_in_all
taken-fields zero vs = omega arith
taken-fields (suc n) [] = refl
taken-fields (suc n) (v ∷ vs) = omega (arith, taken-fields n vs)

-- an object with one more answer has its fields, and no more than those of the objects that fill the answer
pub put-counted : (k : Name) (s : Skeleton) (n : ℕ) (vs : List Value) (es made : Entries) → made ≡ put k (fill s (take n vs)).value es →
    fields_in_entries made ≤ suc (fields_in_all vs + fields_in_entries es)
put-counted k s n vs es made is =
    let w = (fill s (take n vs)).value in
    let here = put-fields k w es in
    let there = fill-fields s (take n vs) in
    let taken = taken-fields n vs in
    subst (λ m. fields_in_entries m ≤ suc (fields_in_all vs + fields_in_entries es)) (sym is) (omega (arith, here, there, taken))

-- and the values that are left have theirs
pub put-left : (k : Name) (s : Skeleton) (n : ℕ) (vs : List Value) (es made : Entries) → made ≡ put k (fill s (take n vs)).value es →
    fields_in_entries made + fields_in_all (drop n vs) ≤ suc (fields_in_entries es + fields_in_all vs)
put-left k s n vs es made is =
    let w = (fill s (take n vs)).value in
    let here = put-fields k w es in
    let there = fill-fields s (take n vs) in
    let taken = taken-fields n vs in
    let same = ap fields_in_entries is in
    omega (arith, here, there, taken, same)

-- or with a scalar
pub leaf-counted : (k : Name) (x : Shown) (es made : Entries) → made ≡ put k (scalar x) es → fields_in_entries made ≤ suc (fields_in_entries es)
unfolding fields_in
leaf-counted k x es made is =
    let here = put-fields k (scalar x) es in
    subst (λ m. fields_in_entries m ≤ suc (fields_in_entries es)) (sym is) (omega (arith, here))

-- of both lists, one behind the other
pub append-fields : (vs ws : List Value) → fields_in_all (vs ++ ws) ≡ fields_in_all vs + fields_in_all ws
unfolding fields_in_all
append-fields [] ws = omega arith
append-fields (v ∷ vs) ws = omega (arith, append-fields vs ws)

-- of a list with another value at a place
pub set-fields : (vs : List Value) (i : ℕ) (v w : Value) → i < length vs → w ≡ get_or vs i w →
    fields_in_all (set vs i v) + fields_in w ≡ fields_in_all vs + fields_in v
unfolding fields_in_all
set-fields [] i v w below is = absurd (omega (arith, below))
set-fields (u ∷ vs) zero v w below is = let same = ap fields_in is in omega (arith, same)
set-fields (u ∷ vs) (suc i) v w below is = let rest = set-fields vs i v w (omega (arith, below)) is in omega (arith, rest)

-- ## Numbers

-- a node more, which was charged
pub turn-counted : (a b v l m base i n : ℕ) → b ≡ a + v → a + l ≤ base + i * n → v + m ≤ l + n → b + m ≤ base + (i + 1) * n
turn-counted a b v l m base i n is so_far one = let more = add-mul i 1 n in omega (arith, is, so_far, one, more)

-- a run of nodes more, which were charged before
pub run-counted : (a b r p l m all k size n : ℕ) → b ≡ a + r → size ≡ k → a + p ≤ all → l + k * n ≤ p → r + m ≤ l + size * n → b + m ≤ all
run-counted a b r p l m all k size n is same so_far charged run =
    let times = ap (λ j. j * n) same in omega (arith, is, times, so_far, charged, run)

pub more-counted : (a b p l m all k size n : ℕ) → size ≡ k → a + p ≤ all → l + k * n ≤ p → b + m ≤ a + l + size * n → b + m ≤ all
more-counted a b p l m all k size n same so_far charged run =
    let times = ap (λ j. j * n) same in omega (arith, times, so_far, charged, run)

pub all-counted : (a base i k n : ℕ) → a ≤ base + i * n → i ≡ k → a ≤ base + k * n
all-counted a base i k n so_far all = let times = ap (λ j. j * n) all in omega (arith, times, so_far)

-- a column more: its answers, and then the objects below
pub column-counted : (old asked new opened below l m base size left next : ℕ) → left ≡ next + 1 → old + l + size * left ≤ base → asked + opened ≤ old + size →
    below + m ≤ l → new ≤ asked + opened + below → new + m + size * next ≤ base
column-counted old asked new opened below l m base size left next is so_far ask objects whole =
    let times = ap (λ j. size * j) is in
    let more = mul-add size next 1 in omega (arith, times, so_far, ask, objects, whole, more)

-- how many nodes a run has
pub run-length : {A : Type 0} (xs : List A) (s e : ℕ) → s < e → e ≤ length xs → length (take (e - s) (drop s xs)) ≡ e - s
run-length xs s e some inside = omega (arith, length-take (e - s) (drop s xs), length-drop s xs, some, inside)

pub null-fields : (v : Value) → v ≡ null → fields_in v ≡ 0
unfolding fields_in
null-fields v is = ap fields_in is

pub object-fields : (v : Value) (es : Entries) → v ≡ object es → fields_in v ≡ fields_in_entries es
unfolding fields_in
object-fields v es is = ap fields_in is

pub no-fields : (es : Entries) → es ≡ no_entries → fields_in_entries es ≡ 0
unfolding fields_in
no-fields es is = ap fields_in_entries is
