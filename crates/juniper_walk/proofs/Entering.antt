-- Sums of what a walk enters.
use Rattle.std.proofs.Common.{ℕ, zero, suc, ◌≡◌, ◌+◌, ◌*◌, ◌≤◌, ◌<◌, Bool, true, false, cond, List, [], ◌∷◌, ◌++◌, length, map, take, drop, Option, Some}
use Rattle.std.proofs.Common.{None, Result, Ok, Err}
use Rattle.std.proofs.Common.{refl, sym, ap, ◌∙◌, subst, arith, inl, inr}
use Rattle.std.proofs.Math.Nat.{add-mul}
use Rattle.std.proofs.lemmas.List.{map-append, take-append-drop}
use Rattle.std.proofs.lemmas.List.Sums.{sum_by-append, sum_by-cons, sum_by-take-le, sum_by_push}
use Rattle.std.specs.List.{sum_by}
use Rattle.std.specs.Result.{IsErr, IsErrAnd}
use Rattle.graphql_spec.specs.Errors.{Place, index, key}
use Rattle.graphql_spec.specs.Execution.{reply_of, type_of}
use Rattle.graphql_spec.specs.Resolvers.{World, Tree, nothing, leaf, items, node, Trees, no_trees, tree, Reply, answered, failed}
use Rattle.graphql_spec.specs.Selections.{Forest, Occurrence, all_below, depth, keys, occurrences, with_key}
use Rattle.graphql_spec.specs.Shown.{Name, Shown}
use Rattle.graphql_spec.specs.Skeletons.{Spot, all_node_spots, node_spots, reply_node_spots}
use Rattle.graphql_spec.specs.Types.{TypeRef, named, list_of}
use Rattle.juniper_walk.specs.Budget.{most_fields}
use Rattle.juniper_walk.specs.Entered.{EntersAtMost, SpendsGiven, UnlessMemory, entered, entered_at, entered_below, entered_by, entered_in}
use Rattle.juniper_walk.specs.Entered.{entered_nodes, entered_rows, own_fields}
use Rattle.juniper_walk.specs.Entered.{stop_within, under_key}
use Rattle.juniper_walk.specs.Rows.{AreOfType, ArePending, IsOpen, awaited}
use Rattle.juniper_walk.specs.declared.rows.Opened.{Opened}
use Rattle.juniper_walk.specs.declared.rows.Row.{Row}
use Rattle.juniper_walk.specs.declared.walked.Stop.{Stop}
use Rattle.juniper_walk.specs.declared.walked.Stop.TheVariants.{Memory, Spent}

-- ## Sums

module _ {A : Type 0} where
  pub sum-grows : (f g : A → ℕ) → ((x : A) → f x ≤ g x) → (xs : List A) → sum_by f xs ≤ sum_by g xs
  sum-grows f g less [] = omega arith
  sum-grows f g less (x ∷ xs) = omega (arith, less x, sum-grows f g less xs, sum_by-cons f x xs, sum_by-cons g x xs)

-- ## Places do not matter

module _ {N : Type 0} (W : World N) (f : N → ℕ) where
  abbrev by-what : Spot N → ℕ
  by-what x = f x.what

  one-alike : (b : Bool) (p q : Place) (m : N) →
      sum_by by-what (cond b (record { place = p; what = m } ∷ []) []) ≡ sum_by by-what (cond b (record { place = q; what = m } ∷ []) [])
  one-alike true p q m = refl
  one-alike false p q m = refl

  mutual
    unfolding node_spots

    spots-alike : (p q : Place) (t : TypeRef) (a : Tree N) → sum_by by-what (node_spots W p t a) ≡ sum_by by-what (node_spots W q t a)
    spots-alike p q (named r n) nothing = refl
    spots-alike p q (named r n) (leaf x) = refl
    spots-alike p q (named r n) (items ts) = refl
    spots-alike p q (named r n) (node m) = one-alike (W.possible (W.concrete m) n) p q m
    spots-alike p q (list_of r size t) nothing = refl
    spots-alike p q (list_of r size t) (leaf x) = refl
    spots-alike p q (list_of r size t) (node m) = refl
    spots-alike p q (list_of r size t) (items ts) = all-alike p q 0 t ts

    all-alike : (p q : Place) (i : ℕ) (t : TypeRef) (ts : Trees N) → sum_by by-what (all_node_spots W p i t ts) ≡ sum_by by-what (all_node_spots W q i t ts)
    all-alike p q i t no_trees = refl
    all-alike p q i t (tree a rest) =
        let pa : Place = p ++ index i ∷ [] in
        let qa : Place = q ++ index i ∷ [] in
        let here = spots-alike pa qa t a in
        let there = all-alike p q (suc i) t rest in
        let one = sum_by-append by-what (node_spots W pa t a) (all_node_spots W p (suc i) t rest) in
        let two = sum_by-append by-what (node_spots W qa t a) (all_node_spots W q (suc i) t rest) in
        omega (arith, here, there, one, two)

  reply-alike : (p q : Place) (t : TypeRef) (r : Reply N) → sum_by by-what (reply_node_spots W p t r) ≡ sum_by by-what (reply_node_spots W q t r)
  unfolding reply_node_spots
  reply-alike p q t (answered a) = spots-alike p q t a
  reply-alike p q t (failed e) = refl

  pub replies-alike : (p q : Place) (t : TypeRef) (r : Reply N) (s : Forest) → f ≡ (λ x. entered W (W.concrete x) x s) →
      entered_nodes W s (reply_node_spots W p t r) ≡ entered_nodes W s (reply_node_spots W q t r)
  unfolding entered_nodes
  replies-alike p q t r s is =
      subst (λ h. sum_by (λ (x : Spot N). h x.what) (reply_node_spots W p t r) ≡ sum_by (λ (x : Spot N). h x.what) (reply_node_spots W q t r)) is
      (reply-alike p q t r)

-- ## What is entered

module _ {N : Type 0} (W : World N) where
  under-grows : (f g : Name → N → List Occurrence → ℕ) → ((T : Name) (m : N) (os : List Occurrence) → f T m os ≤ g T m os) →
      (T : Name) (m : N) (os : List Occurrence) → under_key W f T m os ≤ under_key W g T m os
  unfolding under_key
  under-grows f g less T m os =
      sum-grows (λ x. f (W.concrete x.what) x.what (occurrences W.possible (W.concrete x.what) (all_below os)))
      (λ x. g (W.concrete x.what) x.what (occurrences W.possible (W.concrete x.what) (all_below os)))
      (λ x. less (W.concrete x.what) x.what (occurrences W.possible (W.concrete x.what) (all_below os)))
      (reply_node_spots W [] (type_of W T os) (reply_of W T m os))

  entered-grows : (d e : ℕ) → d ≤ e → (T : Name) (m : N) (os : List Occurrence) → entered_by W d T m os ≤ entered_by W e T m os
  unfolding entered_by
  entered-grows zero e less T m os = omega arith
  entered-grows (suc d) zero less T m os = absurd (omega (arith, less))
  entered-grows (suc d) (suc e) less T m os =
      let deeper = sum-grows (λ k. under_key W (entered_by W d) T m (with_key k os)) (λ k. under_key W (entered_by W e) T m (with_key k os))
      (λ k. under-grows (entered_by W d) (entered_by W e) (entered-grows d e (omega (arith, less))) T m (with_key k os)) (keys os) in
      omega (arith, deeper)

  -- the objects of the nodes of one response key, which select less deep
  pub key-entered : (D : ℕ) (here : Place) (T : Name) (m : N) (os : List Occurrence) → depth (all_below os) < D →
      entered_nodes W (all_below os) (reply_node_spots W here (type_of W T os) (reply_of W T m os)) ≤ under_key W (entered_by W D) T m os
  unfolding entered_nodes entered under_key
  key-entered D here T m os less =
      let t = type_of W T os in
      let r = reply_of W T m os in
      let whole : N → ℕ = λ x. entered_by W (suc (depth (all_below os))) (W.concrete x) x (occurrences W.possible (W.concrete x) (all_below os)) in
      let deep : N → ℕ = λ x. entered_by W D (W.concrete x) x (occurrences W.possible (W.concrete x) (all_below os)) in
      let first : entered_nodes W (all_below os) (reply_node_spots W here t r) ≡ sum_by (λ (x : Spot N). whole x.what) (reply_node_spots W here t r) = refl in
      let last : under_key W (entered_by W D) T m os ≡ sum_by (λ (x : Spot N). deep x.what) (reply_node_spots W [] t r) = refl in
      let alike : sum_by (λ (x : Spot N). whole x.what) (reply_node_spots W here t r) ≡ sum_by (λ (x : Spot N). whole x.what) (reply_node_spots W [] t r)
      = reply-alike W whole here [] t r in
      let deeper = sum-grows (λ (x : Spot N). whole x.what) (λ (x : Spot N). deep x.what)
      (λ x. entered-grows (suc (depth (all_below os))) D (omega (arith, less)) (W.concrete x.what) x.what
      (occurrences W.possible (W.concrete x.what) (all_below os))) (reply_node_spots W [] t r) in
      omega (arith, first, last, alike, deeper)

  -- an object, and what is below it
  pub entered-parts : (T : Name) (m : N) (s : Forest) → entered W T m s ≡ own_fields W.possible T s + entered_below W T m s
  unfolding entered entered_by entered_below entered_at
  entered-parts T m s = refl

  -- one response key more
  pub at-more : (T : Name) (m : N) (s : Forest) (ks : List Name) (k : Name) → entered_at W T m s (ks ++ k ∷ [])
      ≡ entered_at W T m s ks + under_key W (entered_by W (depth s)) T m (with_key k (occurrences W.possible T s))
  unfolding entered_at
  at-more T m s ks k = sum_by_push (λ j. under_key W (entered_by W (depth s)) T m (with_key j (occurrences W.possible T s))) ks k

  -- no more than all of them
  pub at-taken : (T : Name) (m : N) (s : Forest) (n : ℕ) → entered_at W T m s (take n (keys (occurrences W.possible T s))) ≤ entered_below W T m s
  unfolding entered_at entered_below
  at-taken T m s n =
      sum_by-take-le (λ j. under_key W (entered_by W (depth s)) T m (with_key j (occurrences W.possible T s))) (keys (occurrences W.possible T s)) n

  pub at-none : (T : Name) (m : N) (s : Forest) (ks : List Name) → ks ≡ [] → entered_at W T m s ks ≡ 0
  unfolding entered_at
  at-none T m s ks none = ap (entered_at W T m s) none

  -- ## Nodes

  pub nodes-append : (s : Forest) (xs ys : List (Spot N)) → entered_nodes W s (xs ++ ys) ≡ entered_nodes W s xs + entered_nodes W s ys
  unfolding entered_nodes
  nodes-append s xs ys = sum_by-append (λ x. entered W (W.concrete x.what) x.what s) xs ys

  pub nodes-none : (s : Forest) (xs : List (Spot N)) → xs ≡ [] → entered_nodes W s xs ≡ 0
  unfolding entered_nodes
  nodes-none s xs none = ap (entered_nodes W s) none

  pub in-append : (T : Name) (s : Forest) (xs ys : List (Spot N)) → entered_in W T s (xs ++ ys) ≡ entered_in W T s xs + entered_in W T s ys
  unfolding entered_in
  in-append T s xs ys = sum_by-append (λ x. entered_below W T x.what s) xs ys

  pub in-one : (T : Name) (s : Forest) (x : Spot N) → entered_in W T s (x ∷ []) ≡ entered_below W T x.what s
  unfolding entered_in
  in-one T s x = omega (arith, sum_by-cons (λ (y : Spot N). entered_below W T y.what s) x [])

  -- the objects of nodes of one type: their own response keys, and what is below them
  pub run-entered : (T : Name) (s : Forest) (xs : List (Spot N)) → AreOfType W T xs →
      entered_nodes W s xs ≡ length xs * own_fields W.possible T s + entered_in W T s xs
  unfolding entered_nodes entered_in
  run-entered T s [] typed = omega arith
  run-entered T s (x ∷ xs) typed =
      let one : entered W (W.concrete x.what) x.what s ≡ own_fields W.possible T s + entered_below W T x.what s =
      subst (λ U. entered W U x.what s ≡ own_fields W.possible T s + entered_below W T x.what s) typed.0 (entered-parts T x.what s) in
      let rest = run-entered T s xs typed.1 in
      let times = add-mul 1 (length xs) (own_fields W.possible T s) in
      let first = sum_by-cons (λ (y : Spot N). entered W (W.concrete y.what) y.what s) x xs in
      let second = sum_by-cons (λ (y : Spot N). entered_below W T y.what s) x xs in
      omega (arith, one, rest, times, first, second)

  -- the sums below each of these nodes, with one response key more
  pub rows-more : (T : Name) (s : Forest) (ks : List Name) (k : Name) (xs : List (Spot N)) →
      sum_by (λ (x : Spot N). entered_at W T x.what s (ks ++ k ∷ [])) xs ≡ sum_by (λ (x : Spot N). entered_at W T x.what s ks) xs
      + sum_by (λ (x : Spot N). under_key W (entered_by W (depth s)) T x.what (with_key k (occurrences W.possible T s))) xs
  rows-more T s ks k [] = omega arith
  rows-more T s ks k (x ∷ xs) =
      let all = sum_by-cons (λ (y : Spot N). entered_at W T y.what s (ks ++ k ∷ [])) x xs in
      let first = sum_by-cons (λ (y : Spot N). entered_at W T y.what s ks) x xs in
      let second = sum_by-cons (λ (y : Spot N). under_key W (entered_by W (depth s)) T y.what (with_key k (occurrences W.possible T s))) x xs in
      omega (arith, all, first, second, at-more T x.what s ks k, rows-more T s ks k xs)

  pub rows-taken : (T : Name) (s : Forest) (n : ℕ) (xs : List (Spot N)) →
      entered_rows W T s (take n (keys (occurrences W.possible T s))) xs ≤ entered_in W T s xs
  unfolding entered_in entered_rows
  rows-taken T s n xs =
      sum-grows (λ (x : Spot N). entered_at W T x.what s (take n (keys (occurrences W.possible T s)))) (λ (x : Spot N). entered_below W T x.what s)
      (λ x. at-taken T x.what s n) xs

  pub rows-none : (T : Name) (s : Forest) (ks : List Name) (xs : List (Spot N)) → ks ≡ [] → entered_rows W T s ks xs ≡ 0
  unfolding entered_rows
  rows-none T s ks [] none = refl
  rows-none T s ks (x ∷ xs) none =
      omega (arith, at-none T x.what s ks none, rows-none T s ks xs none, sum_by-cons (λ (y : Spot N). entered_at W T y.what s ks) x xs)

  -- ## A column: the nodes that are waited for at one response key

  module _ {S : Type 0} (shown : S → Shown) (s : Forest) (T : Name) (ks : List Name) (k : Name) (os : List Occurrence) (D : ℕ)
      (less : depth (all_below os) < D) where
    abbrev all_under : List (Spot N) → ℕ
    all_under xs = sum_by (λ (x : Spot N). under_key W (entered_by W D) T x.what os) xs

    under-first : (x : Spot N) (xs : List (Spot N)) → all_under (x ∷ xs) ≡ under_key W (entered_by W D) T x.what os + all_under xs
    under-first x xs = sum_by-cons (λ (y : Spot N). under_key W (entered_by W D) T y.what os) x xs

    open-entered : (i : ℕ) (x : Spot N) (r : Row S) (h : Opened N S) (ns : List (Spot N)) → IsOpen W s T shown ks k os i x r h ns →
        entered_nodes W (all_below os) ns ≤ under_key W (entered_by W D) T x.what os
    open-entered i x r h ns is =
        subst (λ l. entered_nodes W (all_below os) l ≤ under_key W (entered_by W D) T x.what os) (sym is.prepared.nodes)
        (key-entered D (x.place ++ key k ∷ []) T x.what os less)

    pub pending-entered : (i : ℕ) (xs : List (Spot N)) (rs : List (Row S)) (hs : List (Opened N S)) (ns : List (Spot N)) →
        ArePending W s T shown ks k os i xs rs hs ns → entered_nodes W (all_below os) ns ≤ all_under xs
    pending-entered i [] [] [] ns none = omega (arith, nodes-none (all_below os) ns none)
    pending-entered i [] [] (h ∷ hs) ns p = absurd p
    pending-entered i [] (r ∷ rs) hs ns p = absurd p
    pending-entered i (x ∷ xs) [] hs ns p = absurd p
    pending-entered i (x ∷ xs) (r ∷ rs) [] ns p = omega (arith, pending-entered (suc i) xs rs [] ns p.1, under-first x xs)
    pending-entered i (x ∷ xs) (r ∷ rs) (h ∷ hs) ns (inl p) = omega (arith, pending-entered (suc i) xs rs (h ∷ hs) ns p.1, under-first x xs)
    pending-entered i (x ∷ xs) (r ∷ rs) (h ∷ hs) ns (inr p) =
        let here = open-entered i x r h (take (awaited shown h) ns) p.0 in
        let there = pending-entered (suc i) xs rs hs (drop (awaited shown h) ns) p.2 in
        let whole : entered_nodes W (all_below os) ns
        ≡ entered_nodes W (all_below os) (take (awaited shown h) ns) + entered_nodes W (all_below os) (drop (awaited shown h) ns) =
        ap (entered_nodes W (all_below os)) (sym (take-append-drop (awaited shown h) ns))
        ∙ nodes-append (all_below os) (take (awaited shown h) ns) (drop (awaited shown h) ns) in
        omega (arith, here, there, whole, under-first x xs)

  -- ## Turns

  -- a response key more of an object
  pub key-fits : (T : Name) (m : N) (s : Forest) (ks js : List Name) (k : Name) (os : List Occurrence) (here : Place) (ns : List (Spot N)) →
      ns ≡ reply_node_spots W here (type_of W T os) (reply_of W T m os) → os ≡ with_key k (occurrences W.possible T s) → depth (all_below os) < depth s →
      js ≡ ks ++ k ∷ [] → entered_nodes W (all_below os) ns + entered_at W T m s ks ≤ entered_at W T m s js
  key-fits T m s ks js k os here ns nodes whole less next =
      let one : entered_nodes W (all_below os) ns ≤ under_key W (entered_by W (depth s)) T m os =
      subst (λ l. entered_nodes W (all_below os) l ≤ under_key W (entered_by W (depth s)) T m os) (sym nodes) (key-entered (depth s) here T m os less) in
      let same = ap (under_key W (entered_by W (depth s)) T m) whole in
      let more = at-more T m s ks k in
      let all = ap (entered_at W T m s) next in
      omega (arith, one, same, more, all)

  -- a response key more of the objects of nodes
  pub column-fits : {S : Type 0} (shown : S → Shown) (T : Name) (s : Forest) (ks js : List Name) (k : Name) (os : List Occurrence) (xs : List (Spot N))
      (rs : List (Row S)) (hs : List (Opened N S)) (ns : List (Spot N)) → ArePending W s T shown ks k os 0 xs rs hs ns →
      os ≡ with_key k (occurrences W.possible T s) → depth (all_below os) < depth s → js ≡ ks ++ k ∷ [] →
      entered_nodes W (all_below os) ns + entered_rows W T s ks xs ≤ entered_rows W T s js xs
  unfolding entered_rows
  column-fits shown T s ks js k os xs rs hs ns pending whole less next =
      let waited = pending-entered shown s T ks k os (depth s) less 0 xs rs hs ns pending in
      let same = ap (λ l. sum_by (λ (x : Spot N). under_key W (entered_by W (depth s)) T x.what l) xs) whole in
      let more = rows-more T s ks k xs in
      let all = ap (λ l. sum_by (λ (x : Spot N). entered_at W T x.what s l) xs) next in
      omega (arith, waited, same, more, all)

  -- a run of nodes of one type more
  pub run-fits : (T : Name) (s : Forest) (xs run all : List (Spot N)) → AreOfType W T run → all ≡ xs ++ run →
      entered_nodes W s all ≡ entered_nodes W s xs + (length run * own_fields W.possible T s + entered_in W T s run)
  run-fits T s xs run all typed is =
      let both = ap (entered_nodes W s) is ∙ nodes-append s xs run in
      let one = run-entered T s run typed in
      omega (arith, both, one)

  pub nodes-taken : {A : Type 0} (g : A → Spot N) (s : Forest) (n : ℕ) (xs : List A) → entered_nodes W s (map g (take n xs)) ≤ entered_nodes W s (map g xs)
  nodes-taken g s n xs =
      let whole : entered_nodes W s (map g xs) ≡ entered_nodes W s (map g (take n xs)) + entered_nodes W s (map g (drop n xs)) =
      ap (λ l. entered_nodes W s (map g l)) (sym (take-append-drop n xs))
      ∙ (ap (entered_nodes W s) (map-append g (take n xs) (drop n xs)) ∙ nodes-append s (map g (take n xs)) (map g (drop n xs))) in
      omega (arith, whole)

  pub in-taken : {A : Type 0} (g : A → Spot N) (T : Name) (s : Forest) (n : ℕ) (xs : List A) →
      entered_in W T s (map g (take n xs)) ≤ entered_in W T s (map g xs)
  in-taken g T s n xs =
      let whole : entered_in W T s (map g xs) ≡ entered_in W T s (map g (take n xs)) + entered_in W T s (map g (drop n xs)) =
      ap (λ l. entered_in W T s (map g l)) (sym (take-append-drop n xs))
      ∙ (ap (entered_in W T s) (map-append g (take n xs) (drop n xs)) ∙ in-append T s (map g (take n xs)) (map g (drop n xs))) in
      omega (arith, whole)

-- ## Numbers

-- a run was entered, and walked
pub run-adds : (init old mid new taken all below k size own : ℕ) → all ≡ taken + (size * own + below) → size ≡ k → init ≤ old + taken → old ≤ mid + k * own →
    mid ≤ new + below → init ≤ new + all
run-adds init old mid new taken all below k size own is same so_far entered walked =
    let times = ap (λ j. j * own) same in omega (arith, is, times, so_far, entered, walked)

-- the budget was spent when it was entered, or when it was walked
pub enter-spends : (init old taken all whole below k size own : ℕ) → all ≡ taken + (size * own + below) → size ≡ k → init ≤ old + taken → old < k * own →
    all ≤ whole → init < whole
enter-spends init old taken all whole below k size own is same so_far spent within =
    let times = ap (λ j. j * own) same in omega (arith, is, times, so_far, spent, within)

pub walk-spends : (init old mid taken all whole below k size own : ℕ) → all ≡ taken + (size * own + below) → size ≡ k → init ≤ old + taken →
    old ≤ mid + k * own → mid < below → all ≤ whole → init < whole
walk-spends init old mid taken all whole below k size own is same so_far entered spent within =
    let times = ap (λ j. j * own) same in omega (arith, is, times, so_far, entered, spent, within)

-- ## Budgets

-- what was spent in a part was spent in the whole
part-spends : (A B : Type 0) (before after n more later whole : ℕ) (s : Stop) → EntersAtMost {A = A} before after n (Err s) →
    (before < n → more < whole) → EntersAtMost {A = B} more later whole (Err s)
part-spends A B before after n more later whole Memory less f = tt
part-spends A B before after n more later whole Spent less f = f less

pub through-spends : (A B : Type 0) (before after n more later whole : ℕ) (s : Stop) (r : Result B Stop) → IsErrAnd r (λ y. y ≡ s) →
    EntersAtMost {A = A} before after n (Err s) → (before < n → more < whole) → EntersAtMost more later whole r
through-spends A B before after n more later whole s (Ok x) is less f = absurd is
through-spends A B before after n more later whole s (Err y) is less f =
    subst (λ u. EntersAtMost {A = B} more later whole (Err u)) (sym is) (part-spends A B before after n more later whole s less f)

-- where it was less it may be spent
pub less-spends : {B : Type 0} (before after n : ℕ) → before < n → (r : Result B Stop) → IsErr r → EntersAtMost before after n r
less-spends before after n less (Ok x) is = absurd cc
less-spends before after n less (Err Memory) is = tt
less-spends before after n less (Err Spent) is = less

-- where no budget is given, none is spent
pub given-spends : (A B : Type 0) (fields : Option ℕ) (before after n : ℕ) (s t : Stop) → before ≡ most_fields fields → t ≡ stop_within fields s →
    EntersAtMost {A = A} before after n (Err s) → SpendsGiven {A = B} fields n (Err t)
given-spends A B None before after n s t is made less = subst (λ u. SpendsGiven {A = B} None n (Err u)) (sym made) tt
given-spends A B (Some m) before after n Memory t is made less = subst (λ u. SpendsGiven {A = B} (Some m) n (Err u)) (sym made) tt
given-spends A B (Some m) before after n Spent t is made less =
    subst (λ u. SpendsGiven {A = B} (Some m) n (Err u)) (sym made) (m, refl, subst (λ b. b < n) is less)

-- what is known whatever comes of it
pub known-unless : {A P : Type 0} (r : Result A Stop) → P → UnlessMemory P r
known-unless (Ok a) p = p
known-unless (Err Memory) p = tt
known-unless (Err Spent) p = p
