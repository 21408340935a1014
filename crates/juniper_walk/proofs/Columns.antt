-- A group is asked of one row after the other (6.3).
use Rattle.std.proofs.Common.{append_assoc, Bor, ◌≡◌, ℕ, zero, suc, Bool, true, false, Option, None, is_some, ◌+◌, ◌-◌, ◌≤◌, ◌<◌, List, [], ◌∷◌, ◌++◌, length}
use Rattle.std.proofs.Common.{get_or, set, take, drop, map, Some, refl, sym, ap, ◌∙◌, subst, arith}
use Rattle.std.proofs.lemmas.List.{append-nil, drop_all, drop-map, map-append, drop-set-lt, drop_more, set-get_or, take_more_set}
use Rattle.graphql_spec.specs.Shown.{Shown, Name}
use Rattle.graphql_spec.specs.Errors.{Listed, Place}
use Rattle.graphql_spec.specs.ExactAnswers.{whole}
use Rattle.graphql_spec.specs.GroupLaws.{first_start}
use Rattle.graphql_spec.specs.Selections.{Forest, Occurrence, all_below, occurrences}
use Rattle.graphql_spec.specs.Resolvers.{World}
use Rattle.juniper_assemble.specs.SkeletonView.{view_skeleton}
use Rattle.juniper_assemble.specs.SpotView.{view_nodes, view_spot}
use Rattle.juniper_assemble.specs.declared.spot.Spot.{Spot as CodeSpot}
use Rattle.graphql_spec.specs.CompletionLaws.{all_listed}
use Rattle.graphql_spec.specs.NodeLaws.{AreWalkedOnce}
use Rattle.graphql_spec.specs.Skeletons.{Skeleton, Spot}
use Rattle.juniper_conversions.specs.ErrorView.{view_listed}
use Rattle.juniper_syntax.specs.ValueView.{view_object, view_value}
use Rattle.juniper_syntax.specs.declared.value.Object.{Object}
use Rattle.juniper_walk.specs.declared.walked.Walked.{Walked}
use Rattle.juniper_syntax.proofs.Lists.{seen-left-is}
use Rattle.juniper_walk.proofs.Slices.{taken-one}
use Rattle.graphql_spec.specs.Resolvers.{Reply}
use Rattle.std.specs.Prelude.{Result}
use Rattle.juniper_conversions.specs.declared.field_error.ResolveError.{ResolveError}
use Rattle.juniper_values.specs.ResolvedView.{AllAnswer, Answers}
use Rattle.juniper_values.specs.declared.resolved.Resolved.{Resolved}
use Rattle.juniper_walk.specs.Leaves.{IsTaken}
use Rattle.juniper_walk.specs.Lists.{first_in, picked}
use Rattle.juniper_walk.specs.PlanWalks.{AreObjectsWalked, IsPrepared, IsWalking}
use Rattle.juniper_walk.specs.Rows.{awaited, AreIn, ArePending, AreRows, IsFilledIn, IsNext, IsOpen, IsPutIn, IsRow, listed_of, values_of}
use Rattle.juniper_walk.specs.declared.preparing.Taken.{Taken}
use Rattle.juniper_walk.specs.declared.preparing.Taken.TheVariants as taken
use Rattle.juniper_walk.specs.declared.rows.Column.{Column}
use Rattle.juniper_walk.specs.declared.rows.Opened.{Opened}
use Rattle.juniper_walk.specs.declared.rows.Row.{Row}
use Rattle.juniper_walk.proofs.Holes.{prepared-holes}
use Rattle.juniper_walk.proofs.Waiting.{IsFirstOpen, filled-done, first-open, leaf-done, pending-open, pending-row, row-of, row-stays, walked-split}

seen-length : {A B : Type 0} (g : A → B) (xs : List A) (i : ℕ) → i < length xs → length (map g (take i xs)) ≡ i
seen-length g [] i below = absurd (omega (arith, below))
seen-length g (x ∷ xs) zero below = refl
seen-length g (x ∷ xs) (suc i) below = ap suc (seen-length g xs i (omega (arith, below)))

pub in-last : {N S : Type 0} (n : ℕ) (hs all : List (Opened N S)) (h : Opened N S) → all ≡ hs ++ h ∷ [] → h.row < n → AreIn n hs → AreIn n all
in-last n hs all h is here a = subst (AreIn n) (sym is) (last n hs h here a)
  where
    last : {N S : Type 0} (n : ℕ) (hs : List (Opened N S)) (h : Opened N S) → h.row < n → AreIn n hs → AreIn n (hs ++ h ∷ [])
    last n [] h here a = (here, tt)
    last n (x ∷ hs) h here a = (a.0, last n hs h here a.1)

some-of : {A : Type 0} (o : Option A) → is_some o ≡ true → (x : A) × (o ≡ Some x)
some-of None e = absurd cc
some-of (Some x) e = (x, refl)

none-of : {A : Type 0} (o : Option A) → is_some o ≡ false → o ≡ None
none-of None e = refl
none-of (Some x) e = absurd cc

prepared-same : {N : Type 0} (W : World N) (at : Place) (T : Name) (m : N) (k : Name) (os : List Occurrence) (key also : Name) (r q : Bool) (sk si : Skeleton)
    (ns : List (Spot N)) (es fs : List Listed) → also ≡ key → q ≡ r → si ≡ sk → fs ≡ es → IsPrepared W at T m k os key r sk ns es →
    IsPrepared W at T m k os also q si ns fs
prepared-same W at T m k os key also r q sk si ns es fs a b c d p = rw (a, b, c, d) p

pub item-at : {A : Type 0} (xs : List A) (i : ℕ) → i < length xs → (x : A) × (x ≡ get_or xs i x)
item-at [] i below = absurd (omega (arith, below))
item-at (x ∷ xs) zero below = (x, refl)
item-at (x ∷ xs) (suc i) below = item-at xs i (omega (arith, below))

pub same-set : {A : Type 0} (xs : List A) (i : ℕ) (y : A) → y ≡ get_or xs i y → xs ≡ set xs i y
same-set xs i y is = sym (ap (set xs i) is ∙ set-get_or xs i y)

-- ## The nodes whose objects stand

module _ {N S : Type 0} (xs : List (CodeSpot N)) (rows : List (Row S)) (i : ℕ) where
  abbrev standing : ℕ → List (Spot N)
  standing j = picked (map (λ u. is_some u.object) (drop j rows)) (view_nodes (drop j xs))

  module _ (x : CodeSpot N) (r : Row S) (below : i < length xs) (counted : length rows ≡ length xs) (spot_is : x ≡ get_or xs i x)
      (row_is : r ≡ get_or rows i r) where
    standing-at : (b : Bool) → is_some r.object ≡ b →
        standing i ≡ picked (b ∷ map (λ u. is_some u.object) (drop (i + 1) rows)) (view_spot (λ n. n) x ∷ view_nodes (drop (i + 1) xs))
    standing-at b is =
        let in_rows : i < length rows = omega (arith, below, counted) in
        ap (λ l. picked (map (λ u. is_some u.object) l) (view_nodes (drop i xs))) (drop_more rows i r in_rows ∙ ap (λ y. y ∷ drop (i + 1) rows) (sym row_is))
        ∙ (ap (λ c. picked (c ∷ map (λ u. is_some u.object) (drop (i + 1) rows)) (view_nodes (drop i xs))) is
        ∙ ap (picked (b ∷ map (λ u. is_some u.object) (drop (i + 1) rows))) (seen-left-is (view_spot (λ n. n)) xs i x below spot_is))

    pub node-found : (made new : List (Bor N)) (n : Bor N) (all : List N) → is_some r.object ≡ true → new ≡ made ++ n ∷ [] → n.now ≡ x.what →
        map (λ m. m.now) made ++ map (λ y. y.what) (standing i) ≡ all → map (λ m. m.now) new ++ map (λ y. y.what) (standing (i + 1)) ≡ all
    unfolding picked
    node-found made new n all stands push same so_far =
        let rest = map (λ (y : Spot N). y.what) (standing (i + 1)) in
        let front = map (λ (m : Bor N). m.now) made in
        ap (λ l. map (λ (m : Bor N). m.now) l ++ rest) push ∙ (ap (λ l. l ++ rest) (map-append (λ (m : Bor N). m.now) made (n ∷ []))
        ∙ (append_assoc front (n.now ∷ []) rest ∙ (ap (λ m. front ++ m ∷ rest) same
        ∙ (ap (λ l. front ++ map (λ (y : Spot N). y.what) l) (sym (standing-at true stands)) ∙ so_far))))

    pub node-skipped : (made : List (Bor N)) (all : List N) → is_some r.object ≡ false → map (λ m. m.now) made ++ map (λ y. y.what) (standing i) ≡ all →
        map (λ m. m.now) made ++ map (λ y. y.what) (standing (i + 1)) ≡ all
    unfolding picked
    node-skipped made all risen so_far = ap (λ l. map (λ (m : Bor N). m.now) made ++ map (λ (y : Spot N). y.what) l) (sym (standing-at false risen)) ∙ so_far

    pub first-found : is_some r.object ≡ true → first_in (standing i) ≡ Some (view_spot (λ n. n) x)
    unfolding picked first_in
    first-found stands = ap first_in (standing-at true stands)

    pub first-skipped : is_some r.object ≡ false → first_in (standing i) ≡ first_in (standing (i + 1))
    unfolding picked
    first-skipped risen = ap first_in (standing-at false risen)

  pub first-none : length xs ≤ i → length rows ≡ length xs → first_in (standing i) ≡ None
  unfolding picked first_in
  first-none past counted =
      ap (λ l. first_in (picked (map (λ u. is_some u.object) l) (view_nodes (drop i xs)))) (drop_all i rows (omega (arith, past, counted)))

  pub nodes-whole : (made : List (Bor N)) (all : List N) → length xs ≤ i → length rows ≡ length xs →
      map (λ m. m.now) made ++ map (λ y. y.what) (standing i) ≡ all → map (λ m. m.now) made ≡ all
  unfolding picked
  nodes-whole made all past counted so_far =
      let none : standing i ≡ [] = ap (λ l. picked (map (λ u. is_some u.object) l) (view_nodes (drop i xs))) (drop_all i rows (omega (arith, past, counted))) in
      sym (append-nil (map (λ (m : Bor N). m.now) made)) ∙ (ap (λ l. map (λ (m : Bor N). m.now) made ++ map (λ (y : Spot N). y.what) l) (sym none) ∙ so_far)

-- where the first of them is asked, one is asked at least
pub some-asked : {N : Type 0} (l : List (Spot N)) (s : Spot N) (ms : List (Bor N)) → first_in l ≡ Some s → map (λ m. m.now) ms ≡ map (λ y. y.what) l →
    0 < length ms
unfolding first_in
some-asked [] s ms is all = absurd cc
some-asked (x ∷ l) s [] is all = absurd cc
some-asked (x ∷ l) s (m ∷ ms) is all = omega arith

all-risen : {N : Type 0} (b : Bool) (bs : List Bool) (y : Spot N) (ys : List (Spot N)) → first_in (picked (b ∷ bs) (y ∷ ys)) ≡ None →
    (b ≡ false) × (first_in (picked bs ys) ≡ None)
unfolding picked first_in
all-risen true bs y ys none = absurd cc
all-risen false bs y ys none = (refl, none)

-- where every null has risen, no answer waits
pub none-waits : {N S : Type 0} (W : World N) (s : Forest) (T : Name) (shown : S → Shown) (ks : List Name) (k : Name) (os : List Occurrence) (i : ℕ)
    (ys : List (Spot N)) (rows : List (Row S)) → first_in (picked (map (λ u. is_some u.object) rows) ys) ≡ None → AreRows W s T shown ks ys rows →
    (hs : List (Opened N S)) → hs ≡ [] → (ns : List (Spot N)) → ns ≡ [] → ArePending W s T shown ks k os i ys rows hs ns
none-waits {N = N} {S = S} W s T shown ks k os i ys rows none begun hs unopened ns unmet =
    subst (λ l. ArePending W s T shown ks k os i ys rows l ns) (sym unopened) (waits i ys rows none begun)
  where
    waits : (j : ℕ) (zs : List (Spot N)) (rs : List (Row S)) → first_in (picked (map (λ u. is_some u.object) rs) zs) ≡ None → AreRows W s T shown ks zs rs →
        ArePending W s T shown ks k os j zs rs [] ns
    waits j [] [] e a = unmet
    waits j [] (r ∷ rs) e a = absurd a
    waits j (z ∷ zs) [] e a = absurd a
    waits j (z ∷ zs) (r ∷ rs) e a =
        let risen = all-risen (is_some r.object) (map (λ u. is_some u.object) rs) z zs e in
        (row-stays W s T shown ks (ks ++ k ∷ []) z r (none-of r.object risen.0) a.0, waits (suc j) zs rs risen.1 a.1)

-- ## One row after the other

module _ {N S : Type 0} (W : World N) (s : Forest) (T : Name) (shown : S → Shown) (ks : List Name) (k : Name) (os : List Occurrence)
    (xs : List (CodeSpot N)) (rows more : List (Row S)) (i : ℕ) (x : CodeSpot N) (r new : Row S) (below : i < length xs)
    (counted : length rows ≡ length xs) (spot_is : x ≡ get_or xs i x) (row_is : r ≡ get_or rows i r) (more_is : more ≡ set rows i new) where
  abbrev seen : Spot N
  seen = view_spot (λ n. n) x

  in-rows : i < length rows
  in-rows = omega (arith, below, counted)

  abbrev Left : ℕ → List (Row S) → Type 0
  Left j rs = AreRows W s T shown ks (view_nodes (drop j xs)) (drop j rs)

  abbrev Pending : ℕ → List (Row S) → List (Opened N S) → List (Spot N) → Type 0
  Pending j rs hs ns = ArePending W s T shown ks k os 0 (view_nodes (take j xs)) (take j rs) hs ns

  -- the row that comes next, and those behind it
  pub row-now : Left i rows → IsRow W s T shown ks seen r × Left (i + 1) rows
  row-now left =
      subst (λ l. AreRows W s T shown ks l (r ∷ drop (i + 1) rows)) (seen-left-is (view_spot (λ n. n)) xs i x below spot_is)
      (subst (λ l. AreRows W s T shown ks (view_nodes (drop i xs)) l) (drop_more rows i r in-rows ∙ ap (λ y. y ∷ drop (i + 1) rows) (sym row_is)) left)

  pub rows-left : Left i rows → Left (i + 1) more
  rows-left left =
      subst (λ l. AreRows W s T shown ks (view_nodes (drop (i + 1) xs)) l) (sym (ap (drop (i + 1)) more_is ∙ drop-set-lt (i + 1) rows i new (omega arith)))
      (row-now left).1

  rows-taken : take (i + 1) more ≡ take i rows ++ new ∷ []
  rows-taken = ap (take (i + 1)) more_is ∙ take_more_set rows i new in-rows

  spots-taken : view_nodes (take (i + 1) xs) ≡ view_nodes (take i xs) ++ seen ∷ []
  spots-taken = taken-one (view_spot (λ n. n)) xs i x below spot_is

  -- it has its answer
  pub row-done : (hs : List (Opened N S)) (ns : List (Spot N)) → Pending i rows hs ns → IsRow W s T shown (ks ++ k ∷ []) seen new → Pending (i + 1) more hs ns
  row-done hs ns p q = rw (spots-taken, rows-taken)
      (pending-row W s T shown ks k os 0 (view_nodes (take i xs)) (take i rows) hs ns seen new p q)

  -- its answer waits
  pub row-waits : (hs all : List (Opened N S)) (ns ms both : List (Spot N)) (o : Opened N S) → Pending i rows hs ns →
      IsOpen W s T shown ks k os i seen new o ms → awaited shown o ≡ length ms → all ≡ hs ++ o ∷ [] → both ≡ ns ++ ms → Pending (i + 1) more all both
  row-waits hs all ns ms both o p q c a b =
      let n = seen-length (view_spot (λ n. n)) xs i below in
      rw (spots-taken, rows-taken, a, b)
      (pending-open W s T shown ks k os 0 (view_nodes (take i xs)) (take i rows) hs ns i seen new o ms (omega (arith, n)) p q c)

  -- what its node answers was taken
  pub taken-on : (next : IsNext W s T ks k os) (c after : Column N S) (t : Taken N S) → IsTaken W shown seen.place T seen.what k os t →
      is_some r.object ≡ true → ((o : Object S) → r.object ≡ Some o → IsPutIn shown i t o r new c after) →
      Pending i rows c.opened.items (view_nodes c.nodes.items) × Left i rows →
      Pending (i + 1) more after.opened.items (view_nodes after.nodes.items) × Left (i + 1) more
  taken-on next c after (taken.Leaf key x) is stands made prior =
      let o = some-of r.object stands in
      let put_in = made o.0 o.1 in
      let done = leaf-done W s T shown ks k os next seen r new o.0 key.now _ x o.1 (row-now prior.1).0 is put_in.0 in (
        subst (λ a. Pending (i + 1) more a.opened.items (view_nodes a.nodes.items)) (sym put_in.1)
            (row-done c.opened.items (view_nodes c.nodes.items) prior.0 done),
        rows-left prior.1,
      )
  taken-on next c after (taken.Apart p) is stands made prior =
      let o = some-of r.object stands in
      let put_in = made o.0 o.1 in
      let there : IsOpen W s T shown ks k os i seen new put_in.opened (view_nodes p.nodes.items) = record {
        here = put_in.is.row;
        object = o.0;
        stands = ap (λ a. a.object) put_in.same ∙ o.1;
        walking = subst (λ a. IsWalking W seen.place T seen.what (occurrences W.possible T s) ks (view_object shown o.0) (map
            (view_listed shown) a.errors.items))
            (sym put_in.same) (row-of W s T shown ks seen r (Some o.0) o.1 (row-now prior.1).0);
        prepared = prepared-same W seen.place T seen.what k os p.key.now _ p.is_non_null _ (view_skeleton shown p.skeleton) _ (view_nodes p.nodes.items)
            (map (view_listed shown) p.errors.items) _ put_in.is.key put_in.is.non_null put_in.is.skeleton (ap (map (view_listed shown)) put_in.is.errors) is;
      } in (
        row-waits c.opened.items after.opened.items (view_nodes c.nodes.items) (view_nodes p.nodes.items)
            (view_nodes after.nodes.items) put_in.opened prior.0 there
            (prepared-holes W seen.place T seen.what k os _ _ _ (view_nodes p.nodes.items) _ there.prepared) put_in.list
            (ap view_nodes put_in.nodes ∙ map-append (view_spot (λ n. n)) c.nodes.items p.nodes.items),
        rows-left prior.1,
      )

  pub taken-in : (c after : Column N S) (t : Taken N S) → is_some r.object ≡ true →
      ((o : Object S) → r.object ≡ Some o → IsPutIn shown i t o r new c after) → AreIn (length xs) c.opened.items → AreIn (length xs) after.opened.items
  taken-in c after (taken.Leaf key x) stands made prior =
      let o = some-of r.object stands in subst (λ a. AreIn (length xs) a.opened.items) (sym (made o.0 o.1).1) prior
  taken-in c after (taken.Apart p) stands made prior =
      let o = some-of r.object stands in
      let put_in = made o.0 o.1 in
      let here = put_in.is.row in
      in-last (length xs) c.opened.items after.opened.items put_in.opened put_in.list (omega (arith, here, below)) prior

  -- what was answered of the rows that stand
  module _ (reply : N → Reply N) where
    abbrev nodes_in : List Bool → List (Spot N) → List N
    nodes_in bs ys = map (λ y. y.what) (picked bs ys)

    abbrev Answered : ℕ → List (Row S) → List (Result (Resolved N S) (ResolveError S)) → Type 0
    Answered j rs told = AllAnswer shown reply (nodes_in (map (λ u. is_some u.object) (drop j rs)) (view_nodes (drop j xs))) told

    answered-now : (b : Bool) → is_some r.object ≡ b → (told : List (Result (Resolved N S) (ResolveError S))) → Answered i rows told →
        AllAnswer shown reply (nodes_in (b ∷ map (λ u. is_some u.object) (drop (i + 1) more)) (seen ∷ view_nodes (drop (i + 1) xs))) told
    answered-now b is told a =
        subst (λ l. AllAnswer shown reply (nodes_in (b ∷ map (λ u. is_some u.object) l) (seen ∷ view_nodes (drop (i + 1) xs))) told)
        (sym (ap (drop (i + 1)) more_is ∙ drop-set-lt (i + 1) rows i new (omega arith)))
        (subst (λ l. AllAnswer shown reply (map (λ y. y.what) l) told) (standing-at xs rows i x r below counted spot_is row_is b is) a)

    pub answered-one : is_some r.object ≡ true → (told rest : List (Result (Resolved N S) (ResolveError S))) (a : Result (Resolved N S) (ResolveError S)) →
        told ≡ a ∷ rest → Answered i rows told → Answers shown a (reply x.what) × Answered (i + 1) more rest
    unfolding picked
    answered-one stands told rest a is all = answered-now true stands (a ∷ rest) (subst (Answered i rows) is all)

    pub answered-none : is_some r.object ≡ true → Answered i rows [] → ⊥
    unfolding picked
    answered-none stands all = answered-now true stands [] all

    pub answered-past : is_some r.object ≡ false → (told : List (Result (Resolved N S) (ResolveError S))) → Answered i rows told → Answered (i + 1) more told
    unfolding picked
    answered-past none told all = answered-now false none told all

  -- its null has risen: it is not asked
  pub risen-on : is_some r.object ≡ false → new ≡ r → (hs : List (Opened N S)) (ns : List (Spot N)) → Pending i rows hs ns × Left i rows →
      Pending (i + 1) more hs ns × Left (i + 1) more
  risen-on none same hs ns prior =
      let stays = row-stays W s T shown ks (ks ++ k ∷ []) seen r (none-of r.object none) (row-now prior.1).0 in
      (row-done hs ns prior.0 (subst (IsRow W s T shown (ks ++ k ∷ []) seen) (sym same) stays), rows-left prior.1)

-- ## An answer that waits is filled

module _ {N S : Type 0} (W : World N) (s : Forest) (T : Name) (shown : S → Shown) (ks : List Name) (k : Name) (os : List Occurrence)
    (next : IsNext W s T ks k os) (xs ns : List (Spot N)) (rows more : List (Row S)) (h : Opened N S) (hs : List (Opened N S)) (objects left : List (Walked S))
    (r new : Row S) (waiting : ArePending W s T shown ks k os 0 xs rows (h ∷ hs) ns)
    (walked : AreWalkedOnce whole first_start W (all_below os) ns (values_of shown objects) (listed_of shown objects)) (row_is : r ≡ get_or rows h.row r)
    (made : (o : Object S) → r.object ≡ Some o → IsFilledIn shown h.prepared objects left o r new) (more_is : more ≡ set rows h.row new) where
  abbrev n : ℕ
  n = awaited shown h

  halves : AreWalkedOnce whole first_start W (all_below os) (take n ns) (take n (values_of shown objects)) (take n (listed_of shown objects))
      × AreWalkedOnce whole first_start W (all_below os) (drop n ns) (drop n (values_of shown objects)) (drop n (listed_of shown objects))
  halves = walked-split W (all_below os) n ns (values_of shown objects) (listed_of shown objects) walked

  first : IsFirstOpen W s T shown ks k os 0 xs rows h hs ns
  first = first-open W s T shown ks k os 0 xs rows h hs ns waiting

  plain : h.row - 0 ≡ h.row
  plain = omega arith

  here : IsOpen W s T shown ks k os h.row first.spot r h (take n ns)
  here = subst (λ t. IsOpen W s T shown ks k os h.row first.spot t h (take n ns)) (first.at r ∙ (ap (λ i. get_or rows i r) plain ∙ sym row_is)) first.open_there

  pub waits-on : ArePending W s T shown ks k os 0 xs more hs (drop n ns)
  waits-on =
      let objects_here : AreObjectsWalked W (all_below os) (take n ns) (take n (values_of shown objects)) (all_listed (take n (listed_of shown objects))) =
      record { parts = take n (listed_of shown objects); walked = halves.0; listed = refl } in
      let done = filled-done W s T shown ks k os next h.row first.spot r new h (take n ns) objects left here objects_here (made here.object here.stands) in
      subst (λ l. ArePending W s T shown ks k os 0 xs l hs (drop n ns)) (ap (λ i. set rows i new) plain ∙ sym more_is) (first.filled_there new done)

  pub walked-on : AreWalkedOnce whole first_start W (all_below os) (drop n ns) (values_of shown left) (listed_of shown left)
  walked-on = rw (made here.object here.stands).left_over
      (subst (λ l. AreWalkedOnce whole first_start W (all_below os) (drop n ns) l (listed_of shown (drop n objects)))
      (drop-map (λ v. view_value shown v.value) n objects)
      (subst (λ l. AreWalkedOnce whole first_start W (all_below os) (drop n ns) (drop n (values_of shown objects)) l)
      (drop-map (λ v. map (view_listed shown) v.errors.items) n objects) halves.1))

pub still-in : {N S : Type 0} (n m : ℕ) (hs os : List (Opened N S)) (h : Opened N S) → m ≡ n → os ≡ h ∷ hs → AreIn n os → AreIn m hs
still-in n m hs os h same is a = subst (λ x. AreIn x hs) (sym same) (subst (AreIn n) is a).1
