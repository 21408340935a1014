-- Rows of objects that are walked side by side, and the answers that wait for their nodes (6.3, 6.4.4).
use Rattle.std.proofs.Common.{◌≡◌, ℕ, zero, suc, ◌+◌, ◌-◌, ◌≤◌, ◌<◌, Bool, true, false, List, [], ◌∷◌, ◌++◌, length, get_or, set, take, drop, map, slice_range}
use Rattle.std.proofs.Common.{append_assoc, Option, None, Some, refl, sym, ap, ◌∙◌, subst, arith, inl, inr}
use Rattle.std.proofs.lemmas.List.{append-nil, drop-append-le, get_or-drop, length-drop, take-append-le}
use Rattle.graphql_spec.specs.Shown.{Shown, Name}
use Rattle.graphql_spec.specs.Values.{Entries, Value, null, object}
use Rattle.graphql_spec.specs.Errors.{Listed}
use Rattle.graphql_spec.specs.ExactAnswers.{whole}
use Rattle.graphql_spec.specs.GroupLaws.{first_start}
use Rattle.graphql_spec.specs.Selections.{Forest, Occurrence, all_below, keys, occurrences, with_key}
use Rattle.graphql_spec.specs.Resolvers.{World}
use Rattle.juniper_assemble.specs.SpotView.{view_nodes, view_spot}
use Rattle.juniper_assemble.specs.declared.spot.Spot.{Spot as CodeSpot}
use Rattle.graphql_spec.specs.CompletionLaws.{all_listed}
use Rattle.graphql_spec.specs.NodeLaws.{AreWalkedOnce}
use Rattle.graphql_spec.specs.Skeletons.{Skeleton, Spot, filled}
use Rattle.juniper_conversions.specs.ErrorView.{view_listed}
use Rattle.juniper_syntax.specs.ValueView.{view_object, view_value}
use Rattle.juniper_syntax.specs.declared.value.Object.{Object}
use Rattle.juniper_walk.specs.declared.walked.Walked.{Walked as WalkedObject}
use Rattle.juniper_syntax.proofs.Lists.{seen-push}
use Rattle.juniper_walk.proofs.Slices.{taken-one}
use Rattle.juniper_walk.specs.PlanWalks.{AreObjectsWalked, IsObjectWalked, IsPrepared, IsPut}
use Rattle.juniper_walk.specs.Rows.{AreAdded, awaited, AreFresh, AreOfType, ArePending, AreRows, IsFilledIn, IsFresh, IsLeafPut, IsNext, IsOpen, IsRow}
use Rattle.juniper_walk.specs.Rows.{IsSoFar, listed_of, so_far, values_of}
use Rattle.juniper_walk.specs.declared.rows.Opened.{Opened}
use Rattle.juniper_walk.specs.declared.rows.Row.{Row}
use Rattle.juniper_walk.proofs.Leaves.{leaf-put}
use Rattle.juniper_walk.proofs.Nodes.{none-yet, walked-once}
use Rattle.juniper_walk.proofs.Turns.{start-walking, walking-ends, walking-on, walking-stops}

longer-append : {A : Type 0} (n : ℕ) (xs ys : List A) → n ≤ length xs → n ≤ length (xs ++ ys)
longer-append zero xs ys low = omega arith
longer-append (suc n) [] ys low = absurd (omega (arith, low))
longer-append (suc n) (x ∷ xs) ys low = let r = longer-append n xs ys (omega (arith, low)) in omega (arith, r)

take-length : {A : Type 0} (n : ℕ) (xs : List A) → n ≡ length xs → take n xs ≡ xs
take-length zero [] e = refl
take-length zero (x ∷ xs) e = absurd (omega (arith, e))
take-length (suc n) [] e = refl
take-length (suc n) (x ∷ xs) e = ap (λ l. x ∷ l) (take-length n xs (omega (arith, e)))

drop-length : {A : Type 0} (n : ℕ) (xs : List A) → n ≡ length xs → drop n xs ≡ []
drop-length zero [] e = refl
drop-length zero (x ∷ xs) e = absurd (omega (arith, e))
drop-length (suc n) [] e = refl
drop-length (suc n) (x ∷ xs) e = drop-length n xs (omega (arith, e))

pub some-same : {A : Type 0} (x y : A) → Some x ≡ Some y → x ≡ y
some-same x y e = cc

pub not-both : {A : Type 0} (b : Bool) → b ≡ false → b ≡ true → A
not-both b e f = absurd cc

pub put-same : (k : Name) (r : Bool) (sk : Skeleton) (vs : List Value) (more : List Listed) (rises : Bool) (es fs made : Entries) (errors all : List Listed) →
    es ≡ fs → IsPut k r sk vs more rises es made errors all → IsPut k r sk vs more rises fs made errors all
put-same k r sk vs more rises es fs made errors all e p = subst (λ x. IsPut k r sk vs more rises x made errors all) e p

pub so-far-some : {S : Type 0} (shown : S → Shown) (o : Object S) → so_far shown (Some o) ≡ object (view_object shown o)
unfolding so_far
so-far-some shown o = refl

pub so-far-none : {S : Type 0} (shown : S → Shown) → so_far shown None ≡ null
unfolding so_far
so-far-none shown = refl

pub fresh-more : {S : Type 0} (shown : S → Shown) (n m : ℕ) (rs all : List (Row S)) (r : Row S) → m ≡ n + 1 → all ≡ rs ++ r ∷ [] → AreFresh shown n rs →
    IsFresh shown r → AreFresh shown m all
fresh-more shown n zero rs all r m e a b = absurd (omega (arith, m))
fresh-more shown zero (suc k) [] all r m e a b =
    let none : k ≡ zero = omega (arith, m) in
    rw (e, none) (b, tt)
fresh-more shown zero (suc k) (t ∷ rs) all r m e a b = absurd a
fresh-more shown (suc n) (suc k) [] all r m e a b = absurd a
fresh-more shown (suc n) (suc k) (t ∷ rs) all r m e a b = rw e (a.0, fresh-more shown n k rs (rs ++ r ∷ []) r (omega (arith, m)) refl a.1 b)

take-nil : {A : Type 0} (xs : List A) (n : ℕ) → xs ≡ [] → take n xs ≡ xs
take-nil [] zero e = refl
take-nil [] (suc n) e = refl
take-nil (x ∷ xs) n e = absurd cc

pub seen-slice : {A B : Type 0} (g : A → B) (xs : List A) (a b : ℕ) → a ≤ b → map g (take b xs) ≡ map g (take a xs) ++ map g (slice_range xs a b)
seen-slice g xs zero b low =
    let same : b ≡ b - zero = omega arith in
    ap (λ n. map g (take n xs)) same
seen-slice g xs (suc a) zero low = absurd (omega (arith, low))
seen-slice g [] (suc a) (suc b) low = ap (map g) (sym (take-nil [] (suc b - suc a) refl))
seen-slice g (x ∷ xs) (suc a) (suc b) low =
    let same : b - a ≡ suc b - suc a = omega arith in
    ap (λ l. g x ∷ l) (seen-slice g xs a b (omega (arith, low)) ∙ ap (λ n. map g (take a xs) ++ map g (take n (drop a xs))) same)

-- ## Nodes of one type

module _ {N : Type 0} (W : World N) (T : Name) where
  typed-last : (xs : List (Spot N)) (x : Spot N) → AreOfType W T xs → T ≡ W.concrete x.what → AreOfType W T (xs ++ x ∷ [])
  typed-last [] x a e = (e, tt)
  typed-last (y ∷ xs) x a e = (a.0, typed-last xs x a.1 e)

  pub typed-more : (xs : List (CodeSpot N)) (a b m : ℕ) (x : CodeSpot N) → a ≤ b → b < length xs → x ≡ get_or xs b x → m ≡ b + 1 →
      AreOfType W T (view_nodes (slice_range xs a b)) → T ≡ W.concrete x.what → AreOfType W T (view_nodes (slice_range xs a m))
  typed-more xs a b m x low below is next so_far typed =
      let n = length-drop a xs in
      let inside : b - a < length (drop a xs) = omega (arith, n, low, below) in
      let longer : m - a ≡ b - a + 1 = omega (arith, low, next) in
      let at : b ≡ a + (b - a) = omega (arith, low) in
      let one : x ≡ get_or (drop a xs) (b - a) x = is ∙ (ap (λ i. get_or xs i x) at ∙ sym (get_or-drop a xs (b - a) x)) in
      subst (AreOfType W T) (sym (ap (λ i. view_nodes (take i (drop a xs))) longer ∙ taken-one (view_spot (λ y. y)) (drop a xs) (b - a) x inside one))
      (typed-last (view_nodes (slice_range xs a b)) (view_spot (λ y. y) x) so_far typed)

  pub typed-one : (xs : List (CodeSpot N)) (a : ℕ) (x : CodeSpot N) → a < length xs → x ≡ get_or xs a x → T ≡ W.concrete x.what →
      AreOfType W T (view_nodes (slice_range xs a (a + 1)))
  typed-one xs a x below is typed =
      let low : a ≤ a = omega arith in
      let none : 0 ≡ a - a = omega arith in
      typed-more xs a a (a + 1) x low below is refl (subst (λ n. AreOfType W T (view_nodes (take n (drop a xs)))) none tt) typed

  pub typed-at : (xs : List (CodeSpot N)) (i : ℕ) (x : CodeSpot N) → i < length xs → x ≡ get_or xs i x → AreOfType W T (view_nodes xs) → T ≡ W.concrete x.what
  typed-at [] i x below is typed = absurd (omega (arith, below))
  typed-at (y ∷ xs) zero x below is typed = typed.0 ∙ ap (λ n. W.concrete n.what) (sym is)
  typed-at (y ∷ xs) (suc i) x below is typed = typed-at xs i x (omega (arith, below)) is typed.1

-- ## Nodes that were walked

module _ {N : Type 0} (W : World N) (s : Forest) where
  abbrev Walked : List (Spot N) → List Value → List (List Listed) → Type 0
  Walked = AreWalkedOnce whole first_start W s

  -- the first so many of them, and the others
  pub walked-split : (c : ℕ) (ns : List (Spot N)) (vs : List Value) (ess : List (List Listed)) → Walked ns vs ess →
      Walked (take c ns) (take c vs) (take c ess) × Walked (drop c ns) (drop c vs) (drop c ess)
  walked-split zero ns vs ess a = (tt, a)
  walked-split (suc c) [] [] [] a = (tt, tt)
  walked-split (suc c) [] [] (es ∷ ess) a = absurd a
  walked-split (suc c) [] (v ∷ vs) ess a = absurd a
  walked-split (suc c) (n ∷ ns) [] ess a = absurd a
  walked-split (suc c) (n ∷ ns) (v ∷ vs) [] a = absurd a
  walked-split (suc c) (n ∷ ns) (v ∷ vs) (es ∷ ess) a = let r = walked-split c ns vs ess a.1 in ((a.0, r.0), r.1)

  -- some nodes behind others
  pub walked-append : (ns ms : List (Spot N)) (vs us : List Value) (ess fss : List (List Listed)) → Walked ns vs ess → Walked ms us fss →
      Walked (ns ++ ms) (vs ++ us) (ess ++ fss)
  walked-append [] ms [] us [] fss a b = b
  walked-append [] ms [] us (es ∷ ess) fss a b = absurd a
  walked-append [] ms (v ∷ vs) us ess fss a b = absurd a
  walked-append (n ∷ ns) ms [] us ess fss a b = absurd a
  walked-append (n ∷ ns) ms (v ∷ vs) us [] fss a b = absurd a
  walked-append (n ∷ ns) ms (v ∷ vs) us (es ∷ ess) fss a b = (a.0, walked-append ns ms vs us ess fss a.1 b)

  -- all of them, handed over
  pub objects-taken : (n : ℕ) (ns : List (Spot N)) (vs us : List Value) (ess : List (List Listed)) (es : List Listed) → n ≡ length ns → Walked ns vs ess →
      us ≡ take n vs → es ≡ all_listed (take n ess) → AreObjectsWalked W s ns us es
  objects-taken n ns vs us ess es counted walked values listed = record {
    parts = take n ess;
    walked = subst (λ l. Walked ns l (take n ess)) (sym values)
        (subst (λ l. Walked l (take n vs) (take n ess)) (take-length n ns counted) (walked-split n ns vs ess walked).0);
    listed = listed;
  }

  pub objects-handed : (n : ℕ) (ns : List (Spot N)) {S : Type 0} (shown : S → Shown) (items handed : List (WalkedObject S)) (us : List Value)
      (es : List Listed) → handed ≡ items → Walked ns (values_of shown items) (listed_of shown items) → n ≡ length ns →
      us ≡ take n (values_of shown handed) → es ≡ all_listed (take n (listed_of shown handed)) → AreObjectsWalked W s ns us es
  objects-handed n ns shown items handed us es same walked counted values listed =
      objects-taken n ns (values_of shown handed) us (listed_of shown handed) es counted
      (subst (λ l. Walked ns (values_of shown l) (listed_of shown l)) (sym same) walked) values listed

  -- one, of its own type
  pub one-walked : (x : Spot N) (T : Name) (v : Value) (es : List Listed) → T ≡ W.concrete x.what → IsObjectWalked W x.place s T x.what v es →
      Walked (x ∷ []) (v ∷ []) (es ∷ [])
  one-walked x T v es typed one = (walked-once W s x T v es typed one, tt)

module _ {N S : Type 0} (W : World N) (s : Forest) (shown : S → Shown) where
  pub none-added : (ws : List (WalkedObject S)) → AreAdded W s shown [] ws ws
  none-added ws = record {
    values = [];
    errors = [];
    walked = tt;
    all_values = sym (append-nil (values_of shown ws));
    all_errors = sym (append-nil (listed_of shown ws));
  }

  -- and that of one more node, of its own type
  pub added-more : (xs next : List (Spot N)) (ws more all : List (WalkedObject S)) (x : Spot N) (T : Name) (w : WalkedObject S)
      → AreAdded W s shown xs ws more →
      T ≡ W.concrete x.what → IsObjectWalked W x.place s T x.what (view_value shown w.value) (map (view_listed shown) w.errors.items) →
      next ≡ xs ++ x ∷ [] → all ≡ more ++ w ∷ [] → AreAdded W s shown next ws all
  added-more xs next ws more all x T w a typed one e f = record {
    values = a.values ++ view_value shown w.value ∷ [];
    errors = a.errors ++ map (view_listed shown) w.errors.items ∷ [];
    walked = rw e (walked-append W s xs (x ∷ []) a.values (view_value shown w.value ∷ []) a.errors (map (view_listed shown) w.errors.items ∷ []) a.walked
        (one-walked W s x T (view_value shown w.value) (map (view_listed shown) w.errors.items) typed one));
    all_values = seen-push (λ v. view_value shown v.value) more all w f
        ∙ (ap (λ l. l ++ view_value shown w.value ∷ []) a.all_values ∙ append_assoc (values_of shown ws) a.values (view_value shown w.value ∷ []));
    all_errors = seen-push (λ v. map (view_listed shown) v.errors.items) more all w f
        ∙ (ap (λ l. l ++ map (view_listed shown) w.errors.items ∷ []) a.all_errors
        ∙ append_assoc (listed_of shown ws) a.errors (map (view_listed shown) w.errors.items ∷ []));
  }

-- ## Rows

module _ {N S : Type 0} (W : World N) (s : Forest) (T : Name) (shown : S → Shown) where
  abbrev all : List Occurrence
  all = occurrences W.possible T s

  row-at : (ks : List Name) (x : Spot N) (r : Row S) (o : Option (Object S)) → r.object ≡ o →
      IsSoFar W s T shown ks x o (map (view_listed shown) r.errors.items) → IsRow W s T shown ks x r
  row-at ks x r o is so = subst (λ q. IsSoFar W s T shown ks x q (map (view_listed shown) r.errors.items)) (sym is) so

  pub row-of : (ks : List Name) (x : Spot N) (r : Row S) (o : Option (Object S)) → r.object ≡ o → IsRow W s T shown ks x r →
      IsSoFar W s T shown ks x o (map (view_listed shown) r.errors.items)
  row-of ks x r o is so = subst (λ q. IsSoFar W s T shown ks x q (map (view_listed shown) r.errors.items)) is so

  pub rows-fresh : (xs : List (Spot N)) (rs : List (Row S)) (ks : List Name) → ks ≡ [] → (n : ℕ) → n ≡ length xs → AreFresh shown n rs →
      AreRows W s T shown ks xs rs
  rows-fresh [] [] ks none zero e f = tt
  rows-fresh [] (r ∷ rs) ks none zero e f = absurd f
  rows-fresh [] rs ks none (suc n) e f = absurd (omega (arith, e))
  rows-fresh (x ∷ xs) rs ks none zero e f = absurd (omega (arith, e))
  rows-fresh (x ∷ xs) [] ks none (suc n) e f = absurd f
  rows-fresh (x ∷ xs) (r ∷ rs) ks none (suc n) e f = (
    row-at ks x r (Some f.0.object) f.0.stands (start-walking W x.place T x.what all ks _ _ none f.0.empty f.0.errors),
    rows-fresh xs rs ks none n (omega (arith, e)) f.1,
  )

  pub rows-counted : (ks : List Name) (xs : List (Spot N)) (rs : List (Row S)) → AreRows W s T shown ks xs rs → length rs ≡ length xs
  rows-counted ks [] [] a = refl
  rows-counted ks [] (r ∷ rs) a = absurd a
  rows-counted ks (x ∷ xs) [] a = absurd a
  rows-counted ks (x ∷ xs) (r ∷ rs) a = ap suc (rows-counted ks xs rs a.1)

  -- a null that has risen stays one
  pub row-stays : (ks js : List Name) (x : Spot N) (r : Row S) → r.object ≡ None → IsRow W s T shown ks x r → IsRow W s T shown js x r
  row-stays ks js x r none a = row-at js x r None none (row-of ks x r None none a)

  so-far-ends : (ks : List Name) → ks ≡ keys all → (x : Spot N) (o : Option (Object S)) (es : List Listed) → IsSoFar W s T shown ks x o es →
      IsObjectWalked W x.place s T x.what (so_far shown o) es
  unfolding so_far
  so-far-ends ks is x None es a = a
  so-far-ends ks is x (Some o) es a = walking-ends W x.place T x.what all s refl ks is (view_object shown o) (object (view_object shown o)) es refl a

  -- all response keys were walked: these are the objects of the nodes
  pub rows-end : (ks : List Name) → ks ≡ keys all → (xs : List (Spot N)) (rs : List (Row S)) → AreRows W s T shown ks xs rs → AreOfType W T xs →
      AreWalkedOnce whole first_start W s xs (map (λ r. so_far shown r.object) rs) (map (λ r. map (view_listed shown) r.errors.items) rs)
  rows-end ks is [] [] a t = tt
  rows-end ks is [] (r ∷ rs) a t = absurd a
  rows-end ks is (x ∷ xs) [] a t = absurd a
  rows-end ks is (x ∷ xs) (r ∷ rs) a t = (
    walked-once W s x T (so_far shown r.object) (map (view_listed shown) r.errors.items) t.0
        (so-far-ends ks is x r.object (map (view_listed shown) r.errors.items) a.0),
    rows-end ks is xs rs a.1 t.1,
  )

  -- ## Answers that wait

  module _ (ks : List Name) (k : Name) (os : List Occurrence) where
    abbrev Pending : ℕ → List (Spot N) → List (Row S) → List (Opened N S) → List (Spot N) → Type 0
    Pending = ArePending W s T shown ks k os

    abbrev Open : ℕ → Spot N → Row S → Opened N S → List (Spot N) → Type 0
    Open = IsOpen W s T shown ks k os

    abbrev IsDone : Spot N → Row S → Type 0
    IsDone = IsRow W s T shown (ks ++ k ∷ [])

    -- one more row has its answer
    pub pending-row : (i : ℕ) (xs : List (Spot N)) (rs : List (Row S)) (hs : List (Opened N S)) (ns : List (Spot N)) (x : Spot N) (r : Row S) →
        Pending i xs rs hs ns → IsDone x r → Pending i (xs ++ x ∷ []) (rs ++ r ∷ []) hs ns
    pending-row i [] [] [] ns x r p q = (q, p)
    pending-row i [] [] (h ∷ hs) ns x r p q = absurd p
    pending-row i [] (t ∷ rs) hs ns x r p q = absurd p
    pending-row i (y ∷ ys) [] hs ns x r p q = absurd p
    pending-row i (y ∷ ys) (t ∷ rs) [] ns x r p q = (p.0, pending-row (suc i) ys rs [] ns x r p.1 q)
    pending-row i (y ∷ ys) (t ∷ rs) (h ∷ hs) ns x r p q = elim p [
      | inl a ↦ inl (a.0, pending-row (suc i) ys rs (h ∷ hs) ns x r a.1 q)
      | inr b ↦ inr (b.0, b.1, pending-row (suc i) ys rs hs (drop (awaited shown h) ns) x r b.2 q)
    ]

    -- the answer of one more row waits
    pub pending-open : (i : ℕ) (xs : List (Spot N)) (rs : List (Row S)) (hs : List (Opened N S)) (ns : List (Spot N)) (j : ℕ) (x : Spot N) (r : Row S)
        (o : Opened N S) (ms : List (Spot N)) → j ≡ i + length xs → Pending i xs rs hs ns → Open j x r o ms → awaited shown o ≡ length ms →
        Pending i (xs ++ x ∷ []) (rs ++ r ∷ []) (hs ++ o ∷ []) (ns ++ ms)
    pending-open i [] [] [] ns j x r o ms at p q c =
        let none : ns ≡ [] = p in
        let here : j ≡ i = omega (arith, at) in
        let all_of = subst (λ l. Open i x r o l) (sym (take-length (awaited shown o) ms c)) (subst (λ n. Open n x r o ms) here q) in
        rw none (inr (all_of, omega (arith, c), drop-length (awaited shown o) ms c))
    pending-open i [] [] (h ∷ hs) ns j x r o ms at p q c = absurd p
    pending-open i [] (t ∷ rs) hs ns j x r o ms at p q c = absurd p
    pending-open i (y ∷ ys) [] hs ns j x r o ms at p q c = absurd p
    pending-open i (y ∷ ys) (t ∷ rs) [] ns j x r o ms at p q c =
        inl (p.0, pending-open (suc i) ys rs [] ns j x r o ms (omega (arith, at)) p.1 q c)
    pending-open i (y ∷ ys) (t ∷ rs) (h ∷ hs) ns j x r o ms at p q c = elim p [
      | inl a ↦ inl (a.0, pending-open (suc i) ys rs (h ∷ hs) ns j x r o ms (omega (arith, at)) a.1 q c)
      | inr b ↦ inr (
        subst (λ l. Open i y t h l) (sym (take-append-le (awaited shown h) ns ms b.1)) b.0,
        longer-append (awaited shown h) ns ms b.1,
        subst (λ l. Pending (suc i) (ys ++ x ∷ []) (rs ++ r ∷ []) (hs ++ o ∷ []) l) (sym (drop-append-le (awaited shown h) ns ms b.1))
            (pending-open (suc i) ys rs hs (drop (awaited shown h) ns) j x r o ms (omega (arith, at)) b.2 q c),
      )
    ]

    -- no answer waits any more
    pub pending-end : (i : ℕ) (xs : List (Spot N)) (rs : List (Row S)) (ns : List (Spot N)) → Pending i xs rs [] ns →
        AreRows W s T shown (ks ++ k ∷ []) xs rs
    pending-end i [] [] ns p = tt
    pending-end i [] (r ∷ rs) ns p = absurd p
    pending-end i (x ∷ xs) [] ns p = absurd p
    pending-end i (x ∷ xs) (r ∷ rs) ns p = (p.0, pending-end (suc i) xs rs ns p.1)

    pending-cons : (i : ℕ) (x : Spot N) (r : Row S) (xs : List (Spot N)) (rs : List (Row S)) (hs : List (Opened N S)) (ns : List (Spot N)) →
        IsDone x r → Pending (suc i) xs rs hs ns → Pending i (x ∷ xs) (r ∷ rs) hs ns
    pending-cons i x r xs rs [] ns q p = (q, p)
    pending-cons i x r xs rs (h ∷ hs) ns q p = inl (q, p)

    -- the row of the first answer that waits, and what follows once it has its answer
    pub record IsFirstOpen (i : ℕ) (xs : List (Spot N)) (rs : List (Row S)) (h : Opened N S) (hs : List (Opened N S)) (ns : List (Spot N)) : Type 0 where
      pub spot : Spot N
      pub row : Row S
      pub low : i ≤ h.row
      pub at : (d : Row S) → row ≡ get_or rs (h.row - i) d
      pub open_there : Open h.row spot row h (take (awaited shown h) ns)
      pub filled_there : (new : Row S) → IsDone spot new → Pending i xs (set rs (h.row - i) new) hs (drop (awaited shown h) ns)

    pub first-open : (i : ℕ) (xs : List (Spot N)) (rs : List (Row S)) (h : Opened N S) (hs : List (Opened N S)) (ns : List (Spot N)) →
        Pending i xs rs (h ∷ hs) ns → IsFirstOpen i xs rs h hs ns
    first-open i [] [] h hs ns p = absurd p
    first-open i [] (r ∷ rs) h hs ns p = absurd p
    first-open i (x ∷ xs) [] h hs ns p = absurd p
    first-open i (x ∷ xs) (r ∷ rs) h hs ns p = elim p [
      | inl a ↦
          let later = first-open (suc i) xs rs h hs ns a.1 in
          let low = later.low in
          let step : h.row - i ≡ suc (h.row - suc i) = omega (arith, low) in
          record {
            spot = later.spot;
            row = later.row;
            low = omega (arith, low);
            at = λ d. later.at d ∙ ap (λ n. get_or (r ∷ rs) n d) (sym step);
            open_there = later.open_there;
            filled_there = λ new q. subst (λ n. Pending i (x ∷ xs) (set (r ∷ rs) n new) hs (drop (awaited shown h) ns)) (sym step)
                (pending-cons i x r xs (set rs (h.row - suc i) new) hs (drop (awaited shown h) ns) a.0 (later.filled_there new q));
          }
      | inr b ↦
          let here = b.0.here in
          let step : h.row - i ≡ 0 = omega (arith, here) in
          record {
            spot = x;
            row = r;
            low = omega (arith, here);
            at = λ d. ap (λ n. get_or (r ∷ rs) n d) (sym step);
            open_there = subst (λ n. Open n x r h (take (awaited shown h) ns)) (sym here) b.0;
            filled_there = λ new q. subst (λ n. Pending i (x ∷ xs) (set (r ∷ rs) n new) hs (drop (awaited shown h) ns)) (sym step)
                (pending-cons i x new xs rs hs (drop (awaited shown h) ns) q b.2);
          }
    ]

    -- ## An answer is put into the object of its row

    module _ (next : IsNext W s T ks k os) where
      prepared-here : (x : Spot N) (key_is : Name) (r : Bool) (sk : _) (ns : List (Spot N)) (es : List Listed) →
          IsPrepared W x.place T x.what k os key_is r sk ns es → IsPrepared W x.place T x.what k (with_key k all) key_is r sk ns es
      prepared-here x key_is r sk ns es p = subst (λ l. IsPrepared W x.place T x.what k l key_is r sk ns es) next.whole p

      pub leaf-done : (x : Spot N) (r new : Row S) (o : Object S) (key_is : Name) (q : Bool) (y : S) → r.object ≡ Some o → IsRow W s T shown ks x r →
          IsPrepared W x.place T x.what k os key_is q (filled (shown y)) [] [] → IsLeafPut shown key_is y o r new → IsDone x new
      leaf-done x r new o key_is q y stands row prepared made =
          row-at (ks ++ k ∷ []) x new (Some made.made) made.stands
          (walking-on W x.place T x.what all ks next.rest k next.split _ _ _ _ (row-of ks x r (Some o) stands row) key_is q (filled (shown y)) [] [] [] []
          (prepared-here x key_is q (filled (shown y)) [] [] prepared) (none-yet W (all_below (with_key k all)) [] [] [] refl refl refl) false
          (leaf-put key_is q (shown y) _ _ _ _ made.holds (ap (map (view_listed shown)) made.errors)) (ks ++ k ∷ []) refl refl)

      pub filled-done : (i : ℕ) (x : Spot N) (r new : Row S) (h : Opened N S) (ms : List (Spot N)) (ws left : List (WalkedObject S))
          (open_there : Open i x r h ms) →
          AreObjectsWalked W (all_below os) ms (take (awaited shown h) (values_of shown ws)) (all_listed (take (awaited shown h) (listed_of shown ws))) →
          IsFilledIn shown h.prepared ws left open_there.object r new → IsDone x new
      filled-done i x r new h ms ws left at walked made = done made.rises refl
        where
          Nodes : List Occurrence → Type 0
          Nodes l = AreObjectsWalked W (all_below l) ms (take (awaited shown h) (values_of shown ws)) (all_listed (take (awaited shown h) (listed_of shown ws)))

          nodes : Nodes (with_key k all)
          nodes = subst Nodes next.whole walked

          done : (b : Bool) → made.rises ≡ b → IsDone x new
          done false kept =
              row-at (ks ++ k ∷ []) x new (Some made.made) (made.kept kept)
              (walking-on W x.place T x.what all ks next.rest k next.split _ _ _ _ at.walking _ _ _ ms _ _ _
              (prepared-here x _ _ _ ms _ at.prepared) nodes made.rises made.put_in (ks ++ k ∷ []) refl kept)
          done true lost =
              row-at (ks ++ k ∷ []) x new None (made.lost lost)
              (walking-stops W x.place T x.what all ks next.rest k next.split _ _ _ _ at.walking _ _ _ ms _ _ _
              (prepared-here x _ _ _ ms _ at.prepared) nodes made.rises made.put_in s refl lost)
