-- What stands in a plan goes on to stand while it is added to.
use Rattle.std.proofs.Common.{◌≡◌, ℕ, zero, suc, ◌+◌, ◌-◌, ◌≤◌, ◌<◌, Bool, List, [], ◌∷◌, ◌++◌, length, get_or, map, take, drop, set, slice_range, append_assoc}
use Rattle.std.proofs.Common.{refl, sym, ap, ◌∙◌, subst, arith, string_bytes, inl, inr, Some}
use Rattle.std.proofs.lemmas.List.{append-nil, drop_more, drop-append-le, length-append, length-drop, length-map, length-set, length-take-le, take-append-le}
use Rattle.std.proofs.lemmas.Bool.{cases_Bool}
use Rattle.std.specs.Str.{bytes_eq}
use Rattle.graphql_spec.proofs.Lists.{same_true}
use Rattle.juniper_walk.specs.PlanLists.{named_in}
use Rattle.graphql_spec.specs.Shown.{Shown, Name}
use Rattle.graphql_spec.specs.Documents.{Head}
use Rattle.graphql_spec.specs.Selections.{Occurrence, all_below, keys, occurrences, with_key}
use Rattle.juniper_lookahead.specs.Collected.{view_all}
use Rattle.juniper_lookahead.specs.declared.collecting.Collector.{Collector}
use Rattle.juniper_lookahead.specs.declared.occurrences.Occurrence.{Occurrence as CodeOccurrence}
use Rattle.juniper_walk.specs.declared.plan.Below.{Below}
use Rattle.juniper_walk.specs.declared.plan.Group.{Group}
use Rattle.juniper_walk.specs.declared.plan.GroupRange.{GroupRange}
use Rattle.juniper_walk.specs.declared.plan.Plan.{Plan}
use Rattle.juniper_walk.specs.Plans.{AllAsked, AllRight, AreRight, AreWithin, IsAskedAt, IsCharged, IsGrown, IsKept, IsNoneAdded, IsOneAdded, IsRight, IsStanding}
use Rattle.juniper_walk.specs.Plans.{IsMade, IsStep, StandsFor, all_made, fields_at, fields_of, first_fields, first_key, first_made, grouped_by, key_at, made_at, view_groups}
use Rattle.juniper_walk.specs.Asking.{IsAskedOf}
use Rattle.juniper_walk.proofs.Keys.{map-at}

-- ## Lists

slice-append : {A : Type 0} (xs more : List A) (a b : ℕ) → a ≤ b → b ≤ length xs → slice_range (xs ++ more) a b ≡ slice_range xs a b
slice-append xs more a b low high =
    ap (take (b - a)) (drop-append-le a xs more (omega (arith, low, high)))
    ∙ take-append-le (b - a) (drop a xs) more (let n = length-drop a xs in omega (arith, n, low, high))

-- ## Groups and their fields

within-more : (n m : ℕ) (gs : List Group) → n ≤ m → AreWithin n gs → AreWithin m gs
within-more n m [] le w = tt
within-more n m (g ∷ gs) le w = (w.0, omega (arith, le, w.1), within-more n m gs le w.2)

within-append : (n : ℕ) (gs hs : List Group) → AreWithin n gs → AreWithin n hs → AreWithin n (gs ++ hs)
within-append n [] hs a b = b
within-append n (g ∷ gs) hs a b = (a.0, a.1, within-append n gs hs a.2 b)

pub within-drop : (n : ℕ) (gs : List Group) (i : ℕ) → AreWithin n gs → AreWithin n (drop i gs)
within-drop n gs zero w = w
within-drop n [] (suc i) w = tt
within-drop n (g ∷ gs) (suc i) w = within-drop n gs i w.2

within-take : (n : ℕ) (gs : List Group) (i : ℕ) → AreWithin n gs → AreWithin n (take i gs)
within-take n gs zero w = tt
within-take n [] (suc i) w = tt
within-take n (g ∷ gs) (suc i) w = (w.0, w.1, within-take n gs i w.2)

-- the bounds of one group
pub within-at : (n : ℕ) (gs : List Group) (i : ℕ) (g : Group) → AreWithin n gs → i < length gs → g ≡ get_or gs i g → (g.first.0 ≤ g.end.0) × (g.end.0 ≤ n)
within-at n [] i g w below is = absurd (omega (arith, below))
within-at n (h ∷ gs) zero g w below is = rw is (w.0, w.1)
within-at n (h ∷ gs) (suc i) g w below is = within-at n gs i g w.2 (omega (arith, below)) is

key-stays : (gs hs : List Group) (i : ℕ) → i < length gs → first_key (drop i (gs ++ hs)) ≡ first_key (drop i gs)
unfolding first_key
key-stays [] hs i below = absurd (omega (arith, below))
key-stays (g ∷ gs) hs zero below = refl
key-stays (g ∷ gs) hs (suc i) below = key-stays gs hs i (omega (arith, below))

module _ {S : Type 0} where
  fields-append : (os more : List (CodeOccurrence S)) (g : Group) → g.first.0 ≤ g.end.0 → g.end.0 ≤ length os → fields_of (os ++ more) g ≡ fields_of os g
  unfolding fields_of
  fields-append os more g low high = slice-append os more g.first.0 g.end.0 low high

  fields-stay : (os more : List (CodeOccurrence S)) (gs hs : List Group) (i : ℕ) → i < length gs → AreWithin (length os) gs →
      first_fields (os ++ more) (drop i (gs ++ hs)) ≡ first_fields os (drop i gs)
  unfolding first_fields
  fields-stay os more [] hs i below w = absurd (omega (arith, below))
  fields-stay os more (g ∷ gs) hs zero below w = fields-append os more g w.0 w.1
  fields-stay os more (g ∷ gs) hs (suc i) below w = fields-stay os more gs hs i (omega (arith, below)) w.2

  pub part-is : (os : List (CodeOccurrence S)) (g : Group) → slice_range os g.first.0 g.end.0 ≡ fields_of os g
  unfolding fields_of
  part-is os g = refl

module _ {S Q : Type 0} where
  -- the fields and the response key of a group that stands
  pub fields-at : (p : Plan S Q) (i : ℕ) (g : Group) → i < length p.groups.items → g ≡ get_or p.groups.items i g →
      (fields_at p i ≡ fields_of p.occurrences.items g) × (key_at p i ≡ g.key.now)
  unfolding fields_at key_at first_fields first_key
  fields-at p i g below is =
      let split : drop i p.groups.items ≡ g ∷ drop (i + 1) p.groups.items =
      drop_more p.groups.items i g below ∙ ap (λ x. x ∷ drop (i + 1) p.groups.items) (sym is) in
      (rw split refl, rw split refl)

  module _ (p q : Plan S Q) (grown : IsGrown p q) where
    pub fields-kept : (i : ℕ) → i < length p.groups.items → AreWithin (length p.occurrences.items) p.groups.items → fields_at q i ≡ fields_at p i
    unfolding fields_at
    fields-kept i below w = ap (λ l. first_fields l (drop i q.groups.items)) grown.occurrences
        ∙ (ap (λ l. first_fields (p.occurrences.items ++ grown.more_occurrences) (drop i l)) grown.groups
        ∙ fields-stay p.occurrences.items grown.more_occurrences p.groups.items grown.more_groups i below w)

    pub key-kept : (i : ℕ) → i < length p.groups.items → key_at q i ≡ key_at p i
    unfolding key_at
    key-kept i below = ap (λ l. first_key (drop i l)) grown.groups ∙ key-stays p.groups.items grown.more_groups i below

    pub longer : length p.groups.items ≤ length q.groups.items
    longer = let n = ap length grown.groups ∙ length-append p.groups.items grown.more_groups in omega (arith, n)

  pub grown-none : (p q : Plan S Q) → q.groups.items ≡ p.groups.items → q.occurrences.items ≡ p.occurrences.items →
      q.questions.items ≡ p.questions.items → q.left ≤ p.left → IsGrown p q
  grown-none p q a b e less = record {
    more_groups = [];
    more_occurrences = [];
    more_questions = [];
    groups = a ∙ sym (append-nil p.groups.items);
    occurrences = b ∙ sym (append-nil p.occurrences.items);
    questions = e ∙ sym (append-nil p.questions.items);
    left = less;
  }

  pub grown-twice : (p q r : Plan S Q) → IsGrown p q → IsGrown q r → IsGrown p r
  grown-twice p q r a b = record {
    more_groups = a.more_groups ++ b.more_groups;
    more_occurrences = a.more_occurrences ++ b.more_occurrences;
    more_questions = a.more_questions ++ b.more_questions;
    groups = b.groups ∙ (ap (λ l. l ++ b.more_groups) a.groups ∙ append_assoc p.groups.items a.more_groups b.more_groups);
    occurrences = b.occurrences ∙ (ap (λ l. l ++ b.more_occurrences) a.occurrences ∙ append_assoc p.occurrences.items a.more_occurrences b.more_occurrences);
    questions = b.questions ∙ (ap (λ l. l ++ b.more_questions) a.questions ∙ append_assoc p.questions.items a.more_questions b.more_questions);
    left = omega (arith, a.left, b.left);
  }

-- ## What groups stand for

module _ {S P : Type 0} (shown : S → Shown) (c : Collector S P) where
  pub view-stays : (os more : List (CodeOccurrence S)) (gs : List Group) → AreWithin (length os) gs →
      view_groups shown c (os ++ more) gs ≡ view_groups shown c os gs
  unfolding view_groups
  view-stays os more [] w = refl
  view-stays os more (g ∷ gs) w = ap (λ l. (g.key.now, view_all shown c l) ∷ map (λ (h : Group). (h.key.now, view_all shown c (fields_of (os ++ more) h))) gs)
      (fields-append os more g w.0 w.1)
      ∙ ap (λ l. (g.key.now, view_all shown c (fields_of os g)) ∷ l) (view-stays os more gs w.2)

module _ {S P Q : Type 0} (shown : S → Shown) (c : Collector S P) where
  -- the response key at a place of a range, and its occurrences
  pub record IsPlaced (p : Plan S Q) (i n : ℕ) (os : List Occurrence) : Type 0 where
    pub rest : List Name
    pub split : keys os ≡ take n (keys os) ++ key_at p i ∷ rest
    pub fields : view_all shown c (fields_at p i) ≡ with_key (key_at p i) os

module _ {S P Q : Type 0} (shown : S → Shown) (c : Collector S P) (asks : Name → Head → Q → Type 0) where
  pub stands-still : (T : Name) (p q : Plan S Q) (r : GroupRange) (os : List Occurrence) → AreWithin (length p.occurrences.items) p.groups.items →
      length p.questions.items ≡ length p.groups.items → IsGrown p q → StandsFor shown c asks T p r os → StandsFor shown c asks T q r os
  stands-still T p q r os w counted grown s =
      let a = r.first.0 in
      let b = r.end.0 in
      let same : slice_range q.groups.items a b ≡ slice_range p.groups.items a b =
      ap (λ l. slice_range l a b) grown.groups ∙ slice-append p.groups.items grown.more_groups a b s.ordered s.inside in
      let long = longer p q grown in
      let kept : slice_range q.questions.items a b ≡ slice_range p.questions.items a b =
      ap (λ l. slice_range l a b) grown.questions
      ∙ slice-append p.questions.items grown.more_questions a b s.ordered (omega (arith, s.inside, counted)) in
      record {
        ordered = s.ordered;
        inside = omega (arith, s.inside, long);
        groups = ap (view_groups shown c q.occurrences.items) same
            ∙ (ap (λ l. view_groups shown c l (slice_range p.groups.items a b)) grown.occurrences
            ∙ (view-stays shown c p.occurrences.items grown.more_occurrences (slice_range p.groups.items a b)
            (within-take (length p.occurrences.items) (drop a p.groups.items) (b - a) (within-drop (length p.occurrences.items) p.groups.items a w))
            ∙ s.groups));
        asked = subst (AllAsked (asks T) (map (λ k. with_key k os) (keys os))) (sym kept) s.asked;
      }

  module _ (possible : Name → Name → Bool) where
    right-still : (p q : Plan S Q) (i : ℕ) (b : Below) → AreWithin (length p.occurrences.items) p.groups.items →
        length p.questions.items ≡ length p.groups.items → IsGrown p q →
        IsRight shown c asks possible p i b → IsRight shown c asks possible q i b
    right-still p q i b w counted grown r =
        let long = longer p q grown in
        let T = string_bytes b.concrete in
        record {
          bound = omega (arith, r.bound, long);
          stands = subst (λ fs. StandsFor shown c asks T q b.groups (occurrences possible T (all_below (view_all shown c fs))))
              (sym (fields-kept p q grown i r.bound w)) (stands-still T p q b.groups _ w counted grown r.stands);
        }

    are-right-still : (p q : Plan S Q) (i : ℕ) (bs : List Below) → AreWithin (length p.occurrences.items) p.groups.items →
        length p.questions.items ≡ length p.groups.items → IsGrown p q →
        AreRight shown c asks possible p i bs → AreRight shown c asks possible q i bs
    are-right-still p q i [] w counted grown r = tt
    are-right-still p q i (b ∷ bs) w counted grown r = (right-still p q i b w counted grown r.0, are-right-still p q i bs w counted grown r.1)

    all-right-still : (p q : Plan S Q) (i : ℕ) (bss : List (List Below)) → AreWithin (length p.occurrences.items) p.groups.items →
        length p.questions.items ≡ length p.groups.items → IsGrown p q →
        AllRight shown c asks possible p i bss → AllRight shown c asks possible q i bss
    all-right-still p q i [] w counted grown r = tt
    all-right-still p q i (bs ∷ bss) w counted grown r = (are-right-still p q i bs w counted grown r.0, all-right-still p q (suc i) bss w counted grown r.1)

    right-last : (p : Plan S Q) (i : ℕ) (bss : List (List Below)) → AllRight shown c asks possible p i bss → AllRight shown c asks possible p i (bss ++ [] ∷ [])
    right-last p i [] r = (tt, tt)
    right-last p i (bs ∷ bss) r = (r.0, right-last p (suc i) bss r.1)

    pub stands-none : (p q : Plan S Q) → IsStanding shown c asks possible p → IsNoneAdded p q → IsStep shown c asks possible p q
    stands-none p q s a =
        let grown = grown-none p q a.groups a.occurrences a.questions a.left in
        record {
          standing = record {
            within = subst (λ n. AreWithin n q.groups.items) (ap length (sym a.occurrences))
                (subst (λ l. AreWithin (length p.occurrences.items) l) (sym a.groups) s.within);
            counted = sym (length-map q.below.items (λ v. v.items)) ∙ (ap length a.below ∙ (length-map p.below.items (λ v. v.items)
                ∙ (s.counted ∙ ap length (sym a.groups))));
            asked = ap length a.questions ∙ (s.asked ∙ ap length (sym a.groups));
            below = subst (λ l. AllRight shown c asks possible q 0 l) (sym a.below) (all-right-still p q 0 (all_made p) s.within s.asked grown s.below);
          };
          grown = grown;
        }

    -- what was made stands when its objects are charged
    charged-none : (n : ℕ) (p q : Plan S Q) → IsCharged n p q → IsNoneAdded p q
    charged-none n p q a = record { groups = a.groups; occurrences = a.occurrences; questions = a.questions; below = a.below; left = omega (arith, a.left) }

    pub made-charged : (T : Name) (os : List Occurrence) (n : ℕ) (p q r : Plan S Q) (g : GroupRange) → IsMade shown c asks possible T os p q g →
        IsCharged n q r → IsMade shown c asks possible T os p r g
    made-charged T os n p q r g made charged =
        let one = stands-none q r made.standing (charged-none n q r charged) in
        record {
          standing = one.standing;
          grown = grown-twice p q r made.grown one.grown;
          stands = stands-still T q r g os made.standing.within made.standing.asked one.grown made.stands;
        }

    pub stands-one : (k : Name) (os : List (CodeOccurrence S)) (x : Q) (p q : Plan S Q) → IsStanding shown c asks possible p →
        IsOneAdded k os x p q → IsStep shown c asks possible p q
    stands-one k os x p q s a =
        let n = ap length a.occurrences ∙ length-append p.occurrences.items os in
        let grown : IsGrown p q = record {
          more_groups = a.added ∷ [];
          more_occurrences = os;
          more_questions = x ∷ [];
          groups = a.groups;
          occurrences = a.occurrences;
          questions = a.questions;
          left = omega (arith, a.left);
        } in
        record {
          standing = record {
            within = subst (λ l. AreWithin (length q.occurrences.items) l) (sym a.groups)
                (within-append (length q.occurrences.items) p.groups.items (a.added ∷ [])
                (within-more (length p.occurrences.items) (length q.occurrences.items) p.groups.items (omega (arith, n)) s.within)
                (omega (arith, n, a.first, a.end), omega (arith, a.end), tt));
            counted = sym (length-map q.below.items (λ v. v.items)) ∙ (ap length a.below ∙ (length-append (all_made p) ([] ∷ [])
                ∙ (ap (λ n. n + 1) (length-map p.below.items (λ v. v.items) ∙ s.counted) ∙ (sym (length-append p.groups.items (a.added ∷ []))
                ∙ ap length (sym a.groups)))));
            asked = ap length a.questions ∙ (length-append p.questions.items (x ∷ [])
                ∙ (ap (λ n. n + 1) s.asked ∙ (sym (length-append p.groups.items (a.added ∷ [])) ∙ ap length (sym a.groups))));
            below = subst (λ l. AllRight shown c asks possible q 0 l) (sym a.below)
                (right-last q 0 (all_made p) (all-right-still p q 0 (all_made p) s.within s.asked grown s.below));
          };
          grown = grown;
        }

-- ## The groups of a range, one by one

cons-head : {A : Type 0} (x y : A) (xs ys : List A) → x ∷ xs ≡ y ∷ ys → x ≡ y
cons-head x y xs ys e = cc

cons-tail : {A : Type 0} (x y : A) (xs ys : List A) → x ∷ xs ≡ y ∷ ys → xs ≡ ys
cons-tail x y xs ys e = cc

drop-take-at : {A : Type 0} (ys : List A) (m n : ℕ) (x : A) (more : List A) → n < m → drop n ys ≡ x ∷ more →
    (rest : List A) × (drop n (take m ys) ≡ x ∷ rest)
drop-take-at ys zero n x more lt d = absurd (omega (arith, lt))
drop-take-at [] (suc m) zero x more lt d = absurd cc
drop-take-at [] (suc m) (suc n) x more lt d = absurd cc
drop-take-at (y ∷ ys) (suc m) zero x more lt d = (take m ys, ap (λ z. z ∷ take m ys) (cons-head y x ys more d))
drop-take-at (y ∷ ys) (suc m) (suc n) x more lt d = drop-take-at ys m n x more (omega (arith, lt)) d

item-at : {A : Type 0} (xs : List A) (i : ℕ) → i < length xs → (x : A) × (x ≡ get_or xs i x)
item-at [] i below = absurd (omega (arith, below))
item-at (y ∷ ys) zero below = (y, refl)
item-at (y ∷ ys) (suc i) below = item-at ys i (omega (arith, below))

drop-nil : {A : Type 0} (n : ℕ) (xs : List A) → xs ≡ [] → drop n xs ≡ []
drop-nil zero xs e = e
drop-nil (suc n) [] e = refl
drop-nil (suc n) (x ∷ xs) e = absurd cc

drop-on : {A : Type 0} (xs : List A) (a n : ℕ) → drop n (drop a xs) ≡ drop (a + n) xs
drop-on xs zero n = ap (λ k. drop k xs) {x = n} (omega arith)
drop-on [] (suc a) n = drop-nil n [] refl ∙ sym (drop-nil (suc a + n) [] refl)
drop-on (x ∷ xs) (suc a) n = drop-on xs a n ∙ ap (λ k. drop k (x ∷ xs)) {x = suc (a + n)} (omega arith)

-- the question at a place is that of the list there
question-at : {Q : Type 0} (asks : Head → Q → Type 0) (of : Name → List Occurrence) (ks : List Name) (k : Name) (rest : List Name) (n : ℕ) (qs : List Q) (q : Q)
    (more : List Q) → ks ≡ take n ks ++ k ∷ rest → drop n qs ≡ q ∷ more → AllAsked asks (map of ks) qs → IsAskedOf asks (of k) q
question-at asks of [] k rest zero qs q more split at all = absurd cc
question-at asks of [] k rest (suc n) qs q more split at all = absurd cc
question-at asks of (j ∷ ks) k rest zero [] q more split at all = absurd cc
question-at asks of (j ∷ ks) k rest zero (x ∷ qs) q more split at all =
    subst (λ y. IsAskedOf asks (of k) y) (cons-head x q qs more at) (subst (λ l. IsAskedOf asks (of l) x) (cons-head j k ks rest split) all.0)
question-at asks of (j ∷ ks) k rest (suc n) [] q more split at all = absurd cc
question-at asks of (j ∷ ks) k rest (suc n) (x ∷ qs) q more split at all =
    question-at asks of ks k rest n qs q more (cons-tail j j ks (take n ks ++ k ∷ rest) split) at all.1

module _ {S P Q : Type 0} (shown : S → Shown) (c : Collector S P) (asks : Name → Head → Q → Type 0) where
  pub placed : (T : Name) (p : Plan S Q) (r : GroupRange) (os : List Occurrence) (i n : ℕ) → StandsFor shown c asks T p r os → r.first.0 ≤ i → i < r.end.0 →
      n ≡ i - r.first.0 → IsPlaced shown c p i n os
  unfolding view_groups grouped_by
  placed T p r os i n s low high is =
      let a = r.first.0 in
      let b = r.end.0 in
      let gs = p.groups.items in
      let below : i < length gs = omega (arith, s.inside, high) in
      let (g, at) = item-at gs i below in
      let split : drop i gs ≡ g ∷ drop (i + 1) gs = drop_more gs i g below ∙ ap (λ x. x ∷ drop (i + 1) gs) (sym at) in
      let here : drop n (drop a gs) ≡ g ∷ drop (i + 1) gs = drop-on gs a n ∙ (ap (λ k. drop k gs) {x = a + n} (omega (arith, is, low)) ∙ split) in
      let inside = drop-take-at (drop a gs) (b - a) n g (drop (i + 1) gs) (omega (arith, is, low, high)) here in
      let found = map-at (λ (h : Group). (h.key.now, view_all shown c (fields_of p.occurrences.items h))) (λ k. (k, with_key k os))
      (take (b - a) (drop a gs)) (keys os) s.groups n g inside.0 inside.1 in
      let words = fields-at p i g below at in
      let key : g.key.now ≡ found.0 = ap (λ e. e.0) found.3 in
      let fields : view_all shown c (fields_of p.occurrences.items g) ≡ with_key found.0 os = ap (λ e. e.1) found.3 in
      let named : key_at p i ≡ found.0 = words.1 ∙ key in
      record {
        rest = found.1;
        split = found.2 ∙ ap (λ k. take n (keys os) ++ k ∷ found.1) (sym named);
        fields = ap (view_all shown c) words.0 ∙ (fields ∙ ap (λ k. with_key k os) (sym named));
      }

  -- what is kept as asked for the group of a number of the range is what its occurrences ask
  pub asked-at : (T : Name) (p : Plan S Q) (r : GroupRange) (os : List Occurrence) (i n : ℕ) → StandsFor shown c asks T p r os → r.first.0 ≤ i → i < r.end.0 →
      n ≡ i - r.first.0 → length p.questions.items ≡ length p.groups.items → IsAskedAt asks T p i (view_all shown c (fields_at p i))
  asked-at T p r os i n s low high is counted =
      let a = r.first.0 in
      let b = r.end.0 in
      let qs = p.questions.items in
      let at = placed T p r os i n s low high is in
      let below : i < length qs = omega (arith, s.inside, high, counted) in
      let (q, here) = item-at qs i below in
      let split : drop i qs ≡ q ∷ drop (i + 1) qs = drop_more qs i q below ∙ ap (λ x. x ∷ drop (i + 1) qs) (sym here) in
      let within : drop n (drop a qs) ≡ q ∷ drop (i + 1) qs = drop-on qs a n ∙ (ap (λ k. drop k qs) {x = a + n} (omega (arith, is, low)) ∙ split) in
      let inside = drop-take-at (drop a qs) (b - a) n q (drop (i + 1) qs) (omega (arith, is, low, high)) within in
      record {
        question = q;
        others = drop (i + 1) qs;
        kept = split;
        asked = subst (λ l. IsAskedOf (asks T) l q) (sym at.fields)
            (question-at (asks T) (λ k. with_key k os) (keys os) (key_at p i) at.rest n (take (b - a) (drop a qs)) q inside.0 at.split inside.1 s.asked);
      }

  -- how many response keys there are
  pub range-length : (T : Name) (p : Plan S Q) (r : GroupRange) (os : List Occurrence) → StandsFor shown c asks T p r os
      → length (keys os) ≡ r.end.0 - r.first.0
  unfolding view_groups grouped_by
  range-length T p r os s =
      let gs = p.groups.items in
      let a = r.first.0 in
      let b = r.end.0 in
      let n = length-drop a gs in
      sym (length-map (keys os) (λ k. (k, with_key k os))) ∙ (ap length (sym s.groups)
      ∙ (length-map (take (b - a) (drop a gs)) (λ (h : Group). (h.key.now, view_all shown c (fields_of p.occurrences.items h)))
      ∙ length-take-le (b - a) (drop a gs) (omega (arith, n, s.inside, s.ordered))))

  -- ## What was made below a group

  module _ (possible : Name → Name → Bool) where
    pub made-found : (p : Plan S Q) (i : ℕ) (T : Name) (bs : List Below) (r : GroupRange) → AreRight shown c asks possible p i bs → Some r ≡ named_in T bs →
        StandsFor shown c asks T p r (occurrences possible T (all_below (view_all shown c (fields_at p i))))
    unfolding named_in
    made-found p i T [] r right is = absurd cc
    made-found p i T (b ∷ bs) r right is = elim (cases_Bool (bytes_eq (string_bytes b.concrete) T)) [
      | inl e ↦
          let here : Some r ≡ Some b.groups = rw e at is in
          let same : b.groups ≡ r = cc in
          subst (λ x. StandsFor shown c asks T p x (occurrences possible T (all_below (view_all shown c (fields_at p i))))) same
          (subst (λ U. StandsFor shown c asks U p b.groups (occurrences possible U (all_below (view_all shown c (fields_at p i)))))
          (same_true (string_bytes b.concrete) T e) right.0.stands)
      | inr e ↦ made-found p i T bs r right.1 (rw e at is)
    ]

    pub right-at : (p : Plan S Q) (bss : List (List Below)) (i j n : ℕ) → n ≡ j + i → AllRight shown c asks possible p j bss →
        AreRight shown c asks possible p n (first_made (drop i bss))
    unfolding first_made
    right-at p [] zero j n is right = tt
    right-at p [] (suc i) j n is right = tt
    right-at p (bs ∷ bss) zero j n is right = subst (λ k. AreRight shown c asks possible p k bs) (omega (arith, is)) right.0
    right-at p (bs ∷ bss) (suc i) j n is right = right-at p bss i (suc j) n (omega (arith, is)) right.1

    right-one-more : (p : Plan S Q) (i : ℕ) (bs : List Below) (b : Below) → AreRight shown c asks possible p i bs → IsRight shown c asks possible p i b →
        AreRight shown c asks possible p i (bs ++ b ∷ [])
    right-one-more p i [] b right more = (more, tt)
    right-one-more p i (x ∷ bs) b right more = (right.0, right-one-more p i bs b right.1 more)

    right-set : (p : Plan S Q) (bss : List (List Below)) (i j n : ℕ) (bs : List Below) → n ≡ j + i → AllRight shown c asks possible p j bss →
        AreRight shown c asks possible p n bs → AllRight shown c asks possible p j (set bss i bs)
    right-set p [] zero j n bs is right new = tt
    right-set p [] (suc i) j n bs is right new = tt
    right-set p (x ∷ bss) zero j n bs is right new = (subst (λ k. AreRight shown c asks possible p k bs) (omega (arith, is)) new, right.1)
    right-set p (x ∷ bss) (suc i) j n bs is right new = (right.0, right-set p bss i (suc j) n bs (omega (arith, is)) right.1 new)

    -- what was made is kept
    pub stands-kept : (p q : Plan S Q) (i : ℕ) (T : Name) (r : GroupRange) → IsStanding shown c asks possible p → i < length p.groups.items →
        IsKept i T r p q → StandsFor shown c asks T p r (occurrences possible T (all_below (view_all shown c (fields_at p i)))) →
        IsStep shown c asks possible p q
    unfolding made_at
    stands-kept p q i T r s below kept made =
        let grown = grown-none p q kept.groups kept.occurrences kept.questions (omega (arith, kept.left)) in
        let still = all-right-still shown c asks possible p q 0 (all_made p) s.within s.asked grown s.below in
        let more : IsRight shown c asks possible q i kept.kept = record {
          bound = subst (λ l. i < length l) (sym kept.groups) below;
          stands = subst (λ x. StandsFor shown c asks (string_bytes kept.kept.concrete) q x
              (occurrences possible (string_bytes kept.kept.concrete) (all_below (view_all shown c (fields_at q i)))))
              (sym kept.made)
              (subst (λ U. StandsFor shown c asks U q r (occurrences possible U (all_below (view_all shown c (fields_at q i))))) (sym kept.made_for)
              (subst (λ fs. StandsFor shown c asks T q r (occurrences possible T (all_below (view_all shown c fs))))
              (sym (fields-kept p q grown i below s.within)) (stands-still shown c asks T p q r _ s.within s.asked grown made)));
        } in
        let made_before : AreRight shown c asks possible q i (first_made (drop i (all_made p))) = right-at q (all_made p) i 0 i (omega arith) still in
        record {
          standing = record {
            within = subst (λ n. AreWithin n q.groups.items) (ap length (sym kept.occurrences))
                (subst (λ l. AreWithin (length p.occurrences.items) l) (sym kept.groups) s.within);
            counted = sym (length-map q.below.items (λ v. v.items)) ∙ (ap length kept.below
                ∙ (length-set (all_made p) i (made_at p i ++ kept.kept ∷ []) ∙ (length-map p.below.items (λ v. v.items)
                ∙ (s.counted ∙ ap length (sym kept.groups)))));
            asked = ap length kept.questions ∙ (s.asked ∙ ap length (sym kept.groups));
            below = subst (λ l. AllRight shown c asks possible q 0 l) (sym kept.below)
                (right-set q (all_made p) i 0 i (first_made (drop i (all_made p)) ++ kept.kept ∷ []) (omega arith) still
                (right-one-more q i (first_made (drop i (all_made p))) kept.kept made_before more));
          };
          grown = grown;
        }
