-- How fields clash, told by those that stand at two places.
use Rattle.std.specs.Prelude.{ℕ, zero, suc, Bool, true, false, not, ◌&&◌, ◌||◌, List, [], ◌∷◌, ◌++◌, ◌≡◌, ◌<◌, ◌⊎◌, Some, nat_eq}
use Rattle.std.specs.List.{slice_get}
use Rattle.std.specs.Str.{bytes_eq}
use Rattle.std.proofs.lemmas.Bool.{and_parts, cases_Bool}
use Rattle.std.proofs.Common.{arith, refl, sym, ap, ◌∙◌, inl, inr, subst}
use Rattle.graphql_spec.specs.Laws.{In}
use Rattle.graphql_spec.proofs.Grouping.{in_append, in_first, in_second}
use Rattle.graphql_spec.proofs.Lists.{same_refl}
use Rattle.juniper_merging.specs.MergingGraph.{FieldAt, agree, can_meet, each_pair_at, merge_at, set_merges_at}
use Rattle.juniper_merging.specs.Nodes.{Alike, ArePaired, Bad, BadPair, Good, HasHead, SameHead, Says, SaysBoth, Selects}
use Rattle.juniper_merging.specs.Questions.{passes, tested_at, worse}
use Rattle.juniper_merging.specs.Standing.{Both}
use Rattle.juniper_merging.specs.declared.clash.Clash.{Clash}
use Rattle.juniper_merging.specs.declared.clash.Clash.TheVariants as clash
use Rattle.juniper_merging.proofs.Numbers.{itself, same-number}
use Rattle.juniper_merging.proofs.Places.{alike-both, both-across, both-first, both-parts, both-second, both-turned, two-from, two-true}
use Rattle.juniper_merging.proofs.Telling.{found-alone, found-pair, keyed-at-turn, merge-at-turn}
use Rattle.juniper_merging.proofs.Tables.{is-there}
use Rattle.juniper_merging.proofs.Told.{first-missing, is-merged, other-keys, passes-worse, second-missing}

never : {A : Type 0} → true ≡ false → A
never e = cc

-- what is not true is false
pub is-false : (b : Bool) → (b ≡ true → ⊥) → b ≡ false
is-false true d = absurd (d refl)
is-false false d = refl

both : (a b : Bool) → a ≡ true → b ≡ true → (a && b) ≡ true
both a b e f = rw (e, f) refl

-- equal shapes and calls agree
pub agreed : (m : Bool) (x y : FieldAt) → x.shape ≡ y.shape → x.call ≡ y.call → agree m x y ≡ true
unfolding agree
agreed m x y s c =
    let shapes : nat_eq x.shape y.shape ≡ true = subst (λ k. nat_eq x.shape k ≡ true) s (itself x.shape) in
    let calls : nat_eq x.call y.call ≡ true = subst (λ k. nat_eq x.call k ≡ true) c (itself x.call) in
    both (nat_eq x.shape y.shape) (not (m && can_meet x y) || nat_eq x.call y.call) shapes (or-true (not (m && can_meet x y)) (nat_eq x.call y.call) calls)
  where
    or-true : (a b : Bool) → b ≡ true → (a || b) ≡ true
    or-true true b e = refl
    or-true false b e = e

right-false : (a b : Bool) → b ≡ false → (a && b) ≡ false
right-false true b e = e
right-false false b e = refl

-- ## Numbers at two places

module _ {A : Type 0} where
  -- both stand in the list
  pub both-in : (x y : A) (xs : List A) → Both x y xs → In x xs × In y xs
  both-in x y [] b = absurd b
  both-in x y (z ∷ xs) (inl (q, i)) = (inl q, inr i)
  both-in x y (z ∷ xs) (inr (inl (q, i))) = (inr i, inl q)
  both-in x y (z ∷ xs) (inr (inr b)) = let r = both-in x y xs b in (inr r.0, inr r.1)

  -- two that differ and stand in the list stand at two places
  pub both-differ : (x y : A) (xs : List A) → (x ≡ y → ⊥) → In x xs → In y xs → Both x y xs
  both-differ x y [] d i j = absurd i
  both-differ x y (z ∷ xs) d (inl p) (inl q) = absurd (d (p ∙ sym q))
  both-differ x y (z ∷ xs) d (inl p) (inr j) = inl (p, j)
  both-differ x y (z ∷ xs) d (inr i) (inl q) = inr (inl (q, i))
  both-differ x y (z ∷ xs) d (inr i) (inr j) = inr (inr (both-differ x y xs d i j))

-- where two numbers stand at two places, so does each that stands in the list, with one of them
pub another : (i x y : ℕ) (xs : List ℕ) → In i xs → Both x y xs → Both i x xs ⊎ Both i y xs
another i x y xs m b = elim (cases_Bool (nat_eq i x)) [
  | inl q ↦ inr (subst (λ k. Both k y xs) (sym (same-number i x q)) b)
  | inr q ↦ inl (both-differ i x xs (λ e. never (sym (subst (λ k. nat_eq i k ≡ true) e (itself i)) ∙ q)) m (both-in x y xs b).0)
]

module _ (vs : List FieldAt) where
  abbrev pub Test : Bool → ℕ → ℕ → ℕ → Bool
  Test m n i j = tested_at vs (merge_at vs n m) i j

  pub test-turn : (m : Bool) (n i j : ℕ) → Test m n i j ≡ Test m n j i
  unfolding tested_at
  test-turn m n i j = keyed-at-turn vs (merge_at vs n m) (merge-at-turn vs n m) i j

  -- ## The tests of each two

  pub pairs-good : (m : Bool) (n : ℕ) (l : List ℕ) → ((i j : ℕ) → Both i j l → Test m n i j ≡ true) → each_pair_at vs (merge_at vs n m) l ≡ true
  unfolding each_pair_at tested_at
  pairs-good m n l good = two-from (Test m n) l good

  pub good-pairs : (m : Bool) (n : ℕ) (l : List ℕ) → each_pair_at vs (merge_at vs n m) l ≡ true → (i j : ℕ) → Both i j l → Test m n i j ≡ true
  unfolding each_pair_at tested_at
  good-pairs m n l e = two-true (Test m n) (keyed-at-turn vs (merge_at vs n m) (merge-at-turn vs n m)) l e

  pub pairs-bad : (m : Bool) (n : ℕ) (l : List ℕ) (i j : ℕ) → Both i j l → Test m n i j ≡ false → each_pair_at vs (merge_at vs n m) l ≡ false
  pairs-bad m n l i j b e = is-false (each_pair_at vs (merge_at vs n m) l) (λ t. never (sym (good-pairs m n l t i j b) ∙ e))

  -- so it is told whether a set merges
  pub says-merges : (l : List ℕ) → Good vs true l → (n : ℕ) → set_merges_at vs n l ≡ true
  unfolding set_merges_at
  says-merges l good n = pairs-good true n l (good n)

  pub says-differs : (l : List ℕ) → Bad vs true l → (n : ℕ) × (set_merges_at vs n l ≡ false)
  unfolding set_merges_at
  says-differs l bad = (bad.0, pairs-bad true bad.0 l bad.1 bad.2 bad.3 bad.4)

  -- ## Lists that are alike

  pub good-alike : (m : Bool) (l F : List ℕ) → Alike l F → Good vs m F → Good vs m l
  good-alike m l F alike good n i j b =
      let r = alike.two i j b in
      (λ t. Test m n (r.2 t) (r.3 t)) ∙ good n r.0 r.1 r.4

  pub bad-alike : (m : Bool) (l F : List ℕ) → Alike l F → Bad vs m F → Bad vs m l
  bad-alike m l F alike bad =
      let r = alike.two_back bad.1 bad.2 bad.3 in
      (bad.0, r.0, r.1, r.4, (λ t. Test m bad.0 (r.2 t) (r.3 t)) ∙ bad.4)

  pub says-alike : (l F : List ℕ) (c : Clash) → Alike l F → Says vs F c → Says vs l c
  says-alike l F c alike says = record {
    good = λ m e. good-alike m l F alike (says.good m e);
    bad = λ m e. bad-alike m l F alike (says.bad m e);
  }

  pub bad-first : (m : Bool) (xs ys : List ℕ) → Bad vs m xs → Bad vs m (xs ++ ys)
  bad-first m xs ys bad = (bad.0, bad.1, bad.2, both-first bad.1 bad.2 xs ys bad.3, bad.4)

  pub bad-second : (m : Bool) (xs ys : List ℕ) → Bad vs m ys → Bad vs m (xs ++ ys)
  bad-second m xs ys bad = (bad.0, bad.1, bad.2, both-second bad.1 bad.2 xs ys bad.3, bad.4)

  -- ## Fields that need not merge

  agree-weaker : (v w : FieldAt) → agree true v w ≡ true → agree false v w ≡ true
  unfolding agree
  agree-weaker v w e = both (nat_eq v.shape w.shape) true (and_parts (nat_eq v.shape w.shape) (not (can_meet v w) || nat_eq v.call w.call) e).0 refl

-- ## Fields of two heads

module _ (h v k w : FieldAt) (a : SameHead h v) (b : SameHead k w) where
  pub heads-meet : can_meet h k ≡ can_meet v w
  unfolding can_meet
  heads-meet = λ t. bytes_eq (a.parent t) (b.parent t) || (not (a.on_object t) || not (b.on_object t))

  pub heads-agree : (m : Bool) → agree m h k ≡ agree m v w
  unfolding agree
  heads-agree m = λ t. nat_eq (a.shape t) (b.shape t) && (not (m && heads-meet t) || nat_eq (a.call t) (b.call t))

  pub heads-key : nat_eq h.key k.key ≡ nat_eq v.key w.key
  heads-key = λ t. nat_eq (a.key t) (b.key t)

-- ## Two fields

module _ (vs : List FieldAt) (m : Bool) (i j : ℕ) (v w : FieldAt) (e : slice_get vs i ≡ Some v) (f : slice_get vs j ≡ Some w) where
  -- two fields pass, if what stands against them, where they have one response key, is nothing
  pub fields-pass : (n : ℕ) → (nat_eq v.key w.key ≡ true → merge_at vs n m i j ≡ true) → Test vs m n i j ≡ true
  fields-pass n merged = elim (cases_Bool (nat_eq v.key w.key)) [
    | inl same ↦ is-merged vs m i j v w e f same n ∙ merged same
    | inr other ↦ (other-keys vs m i j v w e f other).yes refl n
  ]

-- two numbers pass, if what stands against their fields is nothing
pub numbers-pass : (vs : List FieldAt) (m : Bool) (n i j : ℕ) → ((v w : FieldAt) → slice_get vs i ≡ Some v → slice_get vs j ≡ Some w →
    nat_eq v.key w.key ≡ true → merge_at vs n m i j ≡ true) → Test vs m n i j ≡ true
numbers-pass vs m n i j merged = elim (is-there (slice_get vs i)) [
  | inl none ↦ (first-missing vs m i j none).yes refl n
  | inr r ↦ elim (is-there (slice_get vs j)) [
    | inl none ↦ (second-missing vs m i j r.0 r.1 none).yes refl n
    | inr s ↦ fields-pass vs m i j r.0 s.0 r.1 s.1 n (merged r.0 s.0 r.1 s.1)
  ]
]

module _ (vs : List FieldAt) where
  -- what merges agrees in shape
  weaker : (n i j : ℕ) → Test vs true n i j ≡ true → Test vs false n i j ≡ true
  weaker zero i j t = numbers-pass vs false zero i j (λ v w e f same.
      found-alone vs false i j v w e f ∙ agree-weaker vs v w (sym (found-alone vs true i j v w e f) ∙ (sym (is-merged vs true i j v w e f same zero) ∙ t)))
  weaker (suc n) i j t = numbers-pass vs false (suc n) i j (λ v w e f same.
      let l = v.below ++ w.below in
      let parts = and_parts (agree true v w) (each_pair_at vs (merge_at vs n (can_meet v w)) l)
      (sym (found-pair vs n true i j v w e f) ∙ (sym (is-merged vs true i j v w e f same (suc n)) ∙ t)) in
      found-pair vs n false i j v w e f ∙ both (agree false v w) (each_pair_at vs (merge_at vs n false) l) (agree-weaker vs v w parts.0)
      (weaker-pairs (λ x y. weaker n x y) (can_meet v w) l parts.1))
    where
      weaker-pairs : ((x y : ℕ) → Test vs true n x y ≡ true → Test vs false n x y ≡ true) → (c : Bool) (l : List ℕ) →
          each_pair_at vs (merge_at vs n c) l ≡ true → each_pair_at vs (merge_at vs n false) l ≡ true
      weaker-pairs f true l e = pairs-good vs false n l (λ x y b. f x y (good-pairs vs true n l e x y b))
      weaker-pairs f false l e = e

  -- what does not agree in a weaker way does not
  pub stronger-fails : (m c : Bool) (n i j : ℕ) → Test vs (m && c) n i j ≡ false → Test vs m n i j ≡ false
  stronger-fails true true n i j e = e
  stronger-fails true false n i j e = is-false (Test vs true n i j) (λ t. never (sym (weaker n i j t) ∙ e))
  stronger-fails false c n i j e = e

  pub meets-itself : (h : FieldAt) → can_meet h h ≡ true
  unfolding can_meet
  meets-itself h = ap (λ b. b || (not h.on_object || not h.on_object)) (same_refl h.parent)

  with-true : (m c : Bool) → c ≡ true → (m && c) ≡ m
  with-true true c e = e
  with-true false c e = refl

  -- ## Two fields that differ in what they select

  module _ (h k : FieldAt) (m : Bool) (i j : ℕ) (a : HasHead vs h i) (b : HasHead vs k j) where
    pub heads-pass : (n : ℕ) → agree m h k ≡ true → ((d : ℕ) → d < n → (x y : ℕ) → Both x y (a.field.below ++ b.field.below) →
        Test vs (m && can_meet h k) d x y ≡ true) →
        Test vs m n i j ≡ true
    heads-pass n agreed below = fields-pass vs m i j a.field b.field a.there b.there n (λ same. merged n below)
      where
        agrees : agree m a.field b.field ≡ true
        agrees = sym (heads-agree h a.field k b.field a.same b.same m) ∙ agreed

        merged : (n : ℕ) → ((d : ℕ) → d < n → (x y : ℕ) → Both x y (a.field.below ++ b.field.below) → Test vs (m && can_meet h k) d x y ≡ true) →
            merge_at vs n m i j ≡ true
        merged zero f = found-alone vs m i j a.field b.field a.there b.there ∙ agrees
        merged (suc d) f = found-pair vs d m i j a.field b.field a.there b.there ∙ both (agree m a.field b.field)
            (each_pair_at vs (merge_at vs d (m && can_meet a.field b.field)) (a.field.below ++ b.field.below)) agrees
            (subst (λ c. each_pair_at vs (merge_at vs d (m && c)) (a.field.below ++ b.field.below) ≡ true) (heads-meet h a.field k b.field a.same b.same)
            (pairs-good vs (m && can_meet h k) d (a.field.below ++ b.field.below) (f d (omega arith))))

    pub heads-differ : nat_eq h.key k.key ≡ true → agree m h k ≡ false → Test vs m zero i j ≡ false
    heads-differ same apart =
        is-merged vs m i j a.field b.field a.there b.there (sym (heads-key h a.field k b.field a.same b.same) ∙ same) zero
        ∙ (found-alone vs m i j a.field b.field a.there b.there ∙ (sym (heads-agree h a.field k b.field a.same b.same m) ∙ apart))

    pub heads-fail : nat_eq h.key k.key ≡ true → (n x y : ℕ) → Both x y (a.field.below ++ b.field.below) → Test vs (m && can_meet h k) n x y ≡ false →
        Test vs m (suc n) i j ≡ false
    heads-fail same n x y c e =
        is-merged vs m i j a.field b.field a.there b.there (sym (heads-key h a.field k b.field a.same b.same) ∙ same) (suc n)
        ∙ (found-pair vs n m i j a.field b.field a.there b.there ∙ right-false (agree m a.field b.field)
        (each_pair_at vs (merge_at vs n (m && can_meet a.field b.field)) (a.field.below ++ b.field.below))
        (subst (λ c. each_pair_at vs (merge_at vs n (m && c)) (a.field.below ++ b.field.below) ≡ false) (heads-meet h a.field k b.field a.same b.same)
        (pairs-bad vs (m && can_meet h k) n (a.field.below ++ b.field.below) x y c e)))

  -- ## Fields of one head

  module _ (F : List ℕ) (h : FieldAt) (l : List ℕ) (s : Selects vs F h l) (m : Bool) where
    alone : (n x y : ℕ) → Test vs m n x y ≡ false → Test vs (m && can_meet h h) n x y ≡ false
    alone n x y e = subst (λ c. Test vs c n x y ≡ false) (sym (with-true m (can_meet h h) (meets-itself h))) e

    -- each two of them merge, where what they select does, put together
    pub one-head-good : Good vs m l → (n i j : ℕ) → Both i j F → HasHead vs h i → HasHead vs h j → Test vs m n i j ≡ true
    one-head-good good n i j c a b = heads-pass h h m i j a b n (agreed m h h refl refl) (λ d less x y t.
        subst (λ q. Test vs q d x y ≡ true) (sym (with-true m (can_meet h h) (meets-itself h))) (elim (both-parts x y a.field.below b.field.below t) [
          | inl u ↦ good d x y (s.two_own i (both-in i j F c).0 a x y u)
          | inr (inl u) ↦ good d x y (s.two_own j (both-in i j F c).1 b x y u)
          | inr (inr (inl (u, w))) ↦ good d x y (s.two_apart i j c a b x y u w)
          | inr (inr (inr (u, w))) ↦ good d x y (both-turned y x l (s.two_apart i j c a b y x u w))
        ]))

    -- two of them do not, where there are two, and two of what they select do not
    pub one-head-bad : (i j : ℕ) → Both i j F → HasHead vs h i → HasHead vs h j → Bad vs m l → Bad vs m F
    one-head-bad i j c a b bad =
        let n = bad.0 in
        let x = bad.1 in
        let y = bad.2 in
        elim (s.two x y bad.3) [
          | inl r ↦ elim (another r.0 i j F r.1 c) [
            | inl d ↦ (
              suc n,
              r.0,
              i,
              d,
              heads-fail h h m r.0 i r.2.0 a (itself h.key) n x y (both-first x y r.2.0.field.below a.field.below r.2.1)
                  (alone n x y bad.4),
            )
            | inr d ↦ (
              suc n,
              r.0,
              j,
              d,
              heads-fail h h m r.0 j r.2.0 b (itself h.key) n x y (both-first x y r.2.0.field.below b.field.below r.2.1)
                  (alone n x y bad.4),
            )
          ]
          | inr r ↦ (
            suc n,
            r.0,
            r.1,
            r.2,
            heads-fail h h m r.0 r.1 r.3.0 r.3.1 (itself h.key) n x y
                (both-across x y r.3.0.field.below r.3.1.field.below r.3.2 r.3.3) (alone n x y bad.4),
          )
        ]

    -- where all merge, so does what they select, put together
    pub one-head-down : (i j : ℕ) → Both i j F → HasHead vs h i → HasHead vs h j → Good vs m F → Good vs m l
    one-head-down i j c a b good n x y d = elim (cases_Bool (Test vs m n x y)) [
      | inl e ↦ e
      | inr e ↦ (let r = one-head-bad i j c a b (n, x, y, d, e) in never (sym (good r.0 r.1 r.2 r.3) ∙ r.4))
    ]

    -- two places of one head
    pub own-bad : (i j : ℕ) → Both i j F → (a : HasHead vs h i) → (b : HasHead vs h j) → (n x y : ℕ) → In x a.field.below → In y b.field.below →
        Test vs m n x y ≡ false → Bad vs m F
    own-bad i j c a b n x y u w e = (
      suc n,
      i,
      j,
      c,
      heads-fail h h m i j a b (itself h.key) n x y (both-across x y a.field.below b.field.below u w)
          (alone n x y e),
    )

  -- ## Fields of two heads

  module _ (F G : List ℕ) (h k : FieldAt) (l r : List ℕ) (p : Selects vs F h l) (q : Selects vs G k r) where
    pub two-heads-good : (m : Bool) → agree m h k ≡ true → Good vs (m && can_meet h k) l → Good vs (m && can_meet h k) r →
        ((n x y : ℕ) → In x l → In y r → Test vs (m && can_meet h k) n x y ≡ true) →
        (n i j : ℕ) → In i F → HasHead vs h i → In j G → HasHead vs k j → Test vs m n i j ≡ true
    two-heads-good m agreed left right across n i j s a t b = heads-pass h k m i j a b n agreed (λ d less x y c.
        elim (both-parts x y a.field.below b.field.below c) [
          | inl u ↦ left d x y (p.two_own i s a x y u)
          | inr (inl u) ↦ right d x y (q.two_own j t b x y u)
          | inr (inr (inl (u, w))) ↦ across d x y (p.one_back i s a x u) (q.one_back j t b y w)
          | inr (inr (inr (u, w))) ↦ test-turn vs (m && can_meet h k) d x y ∙ across d y x (p.one_back i s a y u) (q.one_back j t b x w)
        ])

    module _ (m : Bool) (same : nat_eq h.key k.key ≡ true) (i0 j0 : ℕ) (s0 : In i0 F) (a0 : HasHead vs h i0) (t0 : In j0 G) (b0 : HasHead vs k j0) where
      left-bad : (n x y : ℕ) → Both x y l → Test vs (m && can_meet h k) n x y ≡ false → BadPair vs F G h k m
      left-bad n x y c e = elim (p.two x y c) [
        | inl u ↦ inl (
          suc n,
          u.0,
          j0,
          u.1,
          u.2.0,
          t0,
          b0,
          heads-fail h k m u.0 j0 u.2.0 b0 same n x y
              (both-first x y u.2.0.field.below b0.field.below u.2.1) e,
        )
        | inr u ↦ inr (inl (own-bad F h l p m u.0 u.1 u.2 u.3.0 u.3.1 n x y u.3.2 u.3.3 (stronger-fails m (can_meet h k) n x y e)))
      ]

      right-bad : (n x y : ℕ) → Both x y r → Test vs (m && can_meet h k) n x y ≡ false → BadPair vs F G h k m
      right-bad n x y c e = elim (q.two x y c) [
        | inl u ↦ inl (
          suc n,
          i0,
          u.0,
          s0,
          a0,
          u.1,
          u.2.0,
          heads-fail h k m i0 u.0 a0 u.2.0 same n x y
              (both-second x y a0.field.below u.2.0.field.below u.2.1) e,
        )
        | inr u ↦ inr (inr (own-bad G k r q m u.0 u.1 u.2 u.3.0 u.3.1 n x y u.3.2 u.3.3 (stronger-fails m (can_meet h k) n x y e)))
      ]

      across-bad : (n x y : ℕ) → In x l → In y r → Test vs (m && can_meet h k) n x y ≡ false → BadPair vs F G h k m
      across-bad n x y c d e =
          let u = p.one x c in
          let w = q.one y d in
          inl (
            suc n,
            u.0,
            w.0,
            u.1,
            u.2.0,
            w.1,
            w.2.0,
            heads-fail h k m u.0 w.0 u.2.0 w.2.0 same n x y
                (both-across x y u.2.0.field.below w.2.0.field.below u.2.1 w.2.1) e,
          )

      pub two-heads-bad : Bad vs (m && can_meet h k) (l ++ r) → BadPair vs F G h k m
      two-heads-bad bad =
          let n = bad.0 in
          let x = bad.1 in
          let y = bad.2 in
          elim (both-parts x y l r bad.3) [
            | inl c ↦ left-bad n x y c bad.4
            | inr (inl c) ↦ right-bad n x y c bad.4
            | inr (inr (inl (c, d))) ↦ across-bad n x y c d bad.4
            | inr (inr (inr (c, d))) ↦ across-bad n y x c d (sym (test-turn vs (m && can_meet h k) n x y) ∙ bad.4)
          ]

      pub two-heads-differ : agree m h k ≡ false → BadPair vs F G h k m
      two-heads-differ e = inl (zero, i0, j0, s0, a0, t0, b0, heads-differ h k m i0 j0 a0 b0 same e)

-- whether fields of these heads agree
pub agree-of : (m b : Bool) (h k : FieldAt) → nat_eq h.shape k.shape ≡ true → (not (m && can_meet h k) || nat_eq h.call k.call) ≡ b → agree m h k ≡ b
unfolding agree
agree-of m b h k shape calls = (λ t. shape t && calls t)

-- ## Clashes of several things

pub worse-good : (m : Bool) (a b : Clash) → passes m (worse a b) ≡ true → (passes m a ≡ true) × (passes m b ≡ true)
worse-good m a b e = and_parts (passes m a) (passes m b) (sym (passes-worse m a b) ∙ e)

pub worse-bad : (m : Bool) (a b : Clash) → passes m (worse a b) ≡ false → (passes m a ≡ false) ⊎ (passes m b ≡ false)
worse-bad m a b e = either (passes m a) (passes m b) (sym (passes-worse m a b) ∙ e)
  where
    either : (p q : Bool) → (p && q) ≡ false → (p ≡ false) ⊎ (q ≡ false)
    either true q e = inr e
    either false q e = inl refl

pub nothing-passes : {A : Type 0} (m : Bool) → passes m clash.Nothing ≡ false → A
unfolding passes
nothing-passes m e = never e

-- two elements of a list are one, or stand at two places
pub in-two : {A : Type 0} (x y : A) (xs : List A) → In x xs → In y xs → (x ≡ y) ⊎ Both x y xs
in-two x y [] i j = absurd i
in-two x y (z ∷ xs) (inl p) (inl q) = inl (p ∙ sym q)
in-two x y (z ∷ xs) (inl p) (inr j) = inr (inl (p, j))
in-two x y (z ∷ xs) (inr i) (inl q) = inr (inr (inl (q, i)))
in-two x y (z ∷ xs) (inr i) (inr j) = elim (in-two x y xs i j) [ inl e ↦ inl e | inr b ↦ inr (inr (inr b)) ]

module _ (vs : List FieldAt) where
  pub nothing-says : (l : List ℕ) → ((m : Bool) → Good vs m l) → Says vs l clash.Nothing
  nothing-says l good = record { good = λ m e. good m; bad = λ m e. nothing-passes m e }

  pub nothing-says-both : (xs ys : List ℕ) → ((m : Bool) (n i j : ℕ) → In i xs → In j ys → Test vs m n i j ≡ true) → SaysBoth vs xs ys clash.Nothing
  nothing-says-both xs ys good = record { good = λ m e. good m; bad = λ m e. nothing-passes m e }

  pub nothing-paired : (F G : List ℕ) (h k : FieldAt) →
      ((m : Bool) (n i j : ℕ) → In i F → HasHead vs h i → In j G → HasHead vs k j → Test vs m n i j ≡ true) → ArePaired vs F G h k clash.Nothing
  nothing-paired F G h k good = record { good = λ m e. good m; bad = λ m e. nothing-passes m e }

  pub says-none : Says vs [] clash.Nothing
  says-none = nothing-says [] (λ m n i j b. absurd b)

  -- what two lists hold, one behind the other
  pub says-join : (xs ys : List ℕ) (a b d : Clash) → Says vs xs a → Says vs ys b → SaysBoth vs xs ys d → Says vs (xs ++ ys) (worse a (worse b d))
  says-join xs ys a b d p q r = record {
    good = λ m e n i j c.
        let u = worse-good m a (worse b d) e in
        let w = worse-good m b d u.1 in
        elim (both-parts i j xs ys c) [
          | inl k ↦ p.good m u.0 n i j k
          | inr (inl k) ↦ q.good m w.0 n i j k
          | inr (inr (inl (k, l))) ↦ r.good m w.1 n i j k l
          | inr (inr (inr (k, l))) ↦ test-turn vs m n i j ∙ r.good m w.1 n j i k l
        ];
    bad = λ m e. elim (worse-bad m a (worse b d) e) [
      | inl f ↦ bad-first vs m xs ys (p.bad m f)
      | inr g ↦ elim (worse-bad m b d g) [ inl f ↦ bad-second vs m xs ys (q.bad m f) | inr f ↦ r.bad m f ]
    ];
  }

  -- the other way round
  moved : (i j : ℕ) (xs ys : List ℕ) → Both i j (xs ++ ys) → Both i j (ys ++ xs)
  moved i j xs ys c = elim (both-parts i j xs ys c) [
    | inl k ↦ both-second i j ys xs k
    | inr (inl k) ↦ both-first i j ys xs k
    | inr (inr (inl (k, l))) ↦ both-turned j i (ys ++ xs) (both-across j i ys xs l k)
    | inr (inr (inr (k, l))) ↦ both-across i j ys xs l k
  ]

  pub says-turned : (xs ys : List ℕ) (c : Clash) → SaysBoth vs xs ys c → SaysBoth vs ys xs c
  says-turned xs ys c p = record {
    good = λ m e n i j k l. test-turn vs m n i j ∙ p.good m e n j i l k;
    bad = λ m e. let r = p.bad m e in (r.0, r.1, r.2, moved r.1 r.2 xs ys r.3, r.4);
  }

  pub says-both-alike : (l r F G : List ℕ) (c : Clash) → Alike l F → Alike r G → SaysBoth vs F G c → SaysBoth vs l r c
  says-both-alike l r F G c a b p = record {
    good = λ m e n i j k h.
        let u = a.one i k in
        let w = b.one j h in
        (λ t. Test vs m n (u.1 t) (w.1 t)) ∙ p.good m e n u.0 w.0 u.2 w.2;
    bad = λ m e. bad-alike vs m (l ++ r) (F ++ G) (alike-both (λ x y. x ≡ y) l r F G a b) (p.bad m e);
  }

  -- one list more on the one side
  pub says-more : (xs ys zs : List ℕ) (a b : Clash) → SaysBoth vs xs zs a → SaysBoth vs ys zs b → SaysBoth vs (xs ++ ys) zs (worse a b)
  says-more xs ys zs a b p q = record {
    good = λ m e n i j k l. let u = worse-good m a b e in elim (in_append i xs ys k) [
      | inl h ↦ p.good m u.0 n i j h l
      | inr h ↦ q.good m u.1 n i j h l
    ];
    bad = λ m e. elim (worse-bad m a b e) [
      | inl f ↦ (let r = p.bad m f in (r.0, r.1, r.2, first r.1 r.2 r.3, r.4))
      | inr f ↦ (let r = q.bad m f in (r.0, r.1, r.2, second r.1 r.2 r.3, r.4))
    ];
  }
    where
      first : (i j : ℕ) → Both i j (xs ++ zs) → Both i j ((xs ++ ys) ++ zs)
      first i j c = elim (both-parts i j xs zs c) [
        | inl k ↦ both-first i j (xs ++ ys) zs (both-first i j xs ys k)
        | inr (inl k) ↦ both-second i j (xs ++ ys) zs k
        | inr (inr (inl (k, l))) ↦ both-across i j (xs ++ ys) zs (in_first i xs ys k) l
        | inr (inr (inr (k, l))) ↦ both-turned j i ((xs ++ ys) ++ zs) (both-across j i (xs ++ ys) zs (in_first j xs ys k) l)
      ]

      second : (i j : ℕ) → Both i j (ys ++ zs) → Both i j ((xs ++ ys) ++ zs)
      second i j c = elim (both-parts i j ys zs c) [
        | inl k ↦ both-first i j (xs ++ ys) zs (both-second i j xs ys k)
        | inr (inl k) ↦ both-second i j (xs ++ ys) zs k
        | inr (inr (inl (k, l))) ↦ both-across i j (xs ++ ys) zs (in_second i xs ys k) l
        | inr (inr (inr (k, l))) ↦ both-turned j i ((xs ++ ys) ++ zs) (both-across j i (xs ++ ys) zs (in_second j xs ys k) l)
      ]
