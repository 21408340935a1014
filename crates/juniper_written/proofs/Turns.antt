-- Fragments that are counted one after the other, each behind those that it spreads.
use Rattle.std.specs.Prelude.{ℕ, zero, suc, ◌+◌, ◌<◌, ◌≤◌, min, Bool, true, false, cond, List, [], ◌∷◌, ◌++◌, length, get_or, drop, map, Option, Some, None}
use Rattle.std.specs.Prelude.{is_some, ◌≡◌, ◌⊎◌}
use Rattle.std.specs.List.{list_any}
use Rattle.std.specs.Str.{bytes_eq}
use Rattle.std.proofs.lemmas.Bool.{cases_Bool, both_ways, or_cases, or_from, false_from_ne_true}
use Rattle.std.proofs.lemmas.List.{append-nil, append_assoc, drop_all}
use Rattle.std.proofs.lemmas.List.Folds.{list_any-append}
use Rattle.std.proofs.Common.{refl, sym, ap, ◌∙◌, inl, inr, subst, arith}
use Rattle.graphql_spec.specs.Shown.{Name}
use Rattle.graphql_spec.specs.Documents.{Fragment, Selections, end, field, inline, spread}
use Rattle.graphql_spec.specs.Fragments.{Contents, contents, deep, deep_in, expand, filled, fragment_of, plain, spreads}
use Rattle.graphql_spec.specs.Laws.{In}
use Rattle.graphql_spec.proofs.Fragments.{any-at, contents-same}
use Rattle.graphql_spec.proofs.Grouping.{in_first, in_second}
use Rattle.graphql_spec.proofs.Lists.{same_refl, same_or}
use Rattle.juniper_syntax.proofs.Lists.{seen-left-is}
use Rattle.juniper_written.specs.Order.{IsInOrder, StandBehind, StandsBehind}
use Rattle.juniper_written.specs.ExpandedFields.{is_endless}
use Rattle.juniper_written.specs.Kept.{kept_or, number_behind, number_by, weight_at, whole_at}
use Rattle.juniper_written.specs.Measures.{Measure, expanded_number, join, measured, put_in}
use Rattle.juniper_written.proofs.Bounding.{admits-all, put-number}
use Rattle.juniper_written.proofs.Chains.{long_is_endless}
use Rattle.juniper_written.proofs.Measuring.{cut-once, join-cut, join-left, join-right, put-cut, put-more, suc-cut}

-- ## The number of selections, spread by spread

-- each spread has the number of what is put in for it
pub plain-number : (m : Measure) (inside : Name → Option Contents) (s : Selections) →
    measured m (plain (λ d. true) inside s) ≡ number_by m (λ k. number_behind m (inside k)) s
unfolding plain measured number_by
plain-number m inside end = refl
plain-number m inside (field x below rest) =
    let b = plain-number m inside below in let t = plain-number m inside rest in rw (admits-all x.directives) (cc (b, t))
plain-number m inside (spread x rest) =
    let t = plain-number m inside rest in let p = put-number m (inside x.name.item) (plain (λ d. true) inside rest) in
    rw (admits-all x.directives) (p ∙ ap (join m (number_behind m (inside x.name.item))) t)
plain-number m inside (inline x below rest) =
    let b = plain-number m inside below in let t = plain-number m inside rest in rw (admits-all x.directives) (cc (b, t))

module _ (m : Measure) (most : ℕ) (at : Name → ℕ) where
  -- numbers that are cut at the greatest give the same, cut there
  pub number-cut : (f : Name → ℕ) (s : Selections) → ((k : Name) → In k (spreads s) → at k ≡ min most (f k)) →
      min most (number_by m at s) ≡ min most (number_by m f s)
  unfolding number_by spreads
  number-cut f end e = refl
  number-cut f (field x below rest) e =
      let b = number-cut f below (λ k i. e k (in_first k (spreads below) (spreads rest) i)) in
      let t = number-cut f rest (λ k i. e k (in_second k (spreads below) (spreads rest) i)) in
      join-cut m most (suc (number_by m at below)) (number_by m at rest) (suc (number_by m f below)) (number_by m f rest)
      (suc-cut most (number_by m at below) (number_by m f below) b) t
  number-cut f (spread x rest) e =
      let b = e x.name.item (inl refl) in let t = number-cut f rest (λ k i. e k (inr i)) in
      join-cut m most (at x.name.item) (number_by m at rest) (f x.name.item) (number_by m f rest) (ap (min most) b ∙ cut-once most (f x.name.item)) t
  number-cut f (inline x below rest) e =
      let b = number-cut f below (λ k i. e k (in_first k (spreads below) (spreads rest) i)) in
      let t = number-cut f rest (λ k i. e k (in_second k (spreads below) (spreads rest) i)) in
      join-cut m most (put_in m (number_by m at below)) (number_by m at rest) (put_in m (number_by m f below)) (number_by m f rest)
      (put-cut m most (number_by m at below) (number_by m f below) b) t

  past-left : (a b : ℕ) → most ≤ a → most ≤ join m a b
  past-left a b p = let l = join-left m a b in omega (arith, p, l)

  past-right : (a b : ℕ) → most ≤ b → most ≤ join m a b
  past-right a b p = let r = join-right m a b in omega (arith, p, r)

  -- a spread that stands for the greatest number is enough
  pub number-past : (test : Name → Bool) → ((k : Name) → test k ≡ true → most ≤ at k) → (s : Selections) → list_any test (spreads s) ≡ true →
      most ≤ number_by m at s
  unfolding number_by spreads
  number-past test h end e = absurd (both_ways false refl e)
  number-past test h (field x below rest) e =
      elim (or_cases (list_any test (spreads below)) (list_any test (spreads rest)) (sym (list_any-append test (spreads below) (spreads rest)) ∙ e)) [
        | inl q ↦ let b = number-past test h below q in past-left (suc (number_by m at below)) (number_by m at rest) (omega (arith, b))
        | inr q ↦ past-right (suc (number_by m at below)) (number_by m at rest) (number-past test h rest q)
      ]
  number-past test h (spread x rest) e = elim (or_cases (test x.name.item) (list_any test (spreads rest)) e) [
    | inl q ↦ past-left (at x.name.item) (number_by m at rest) (h x.name.item q)
    | inr q ↦ past-right (at x.name.item) (number_by m at rest) (number-past test h rest q)
  ]
  number-past test h (inline x below rest) e =
      elim (or_cases (list_any test (spreads below)) (list_any test (spreads rest)) (sym (list_any-append test (spreads below) (spreads rest)) ∙ e)) [
        | inl q ↦ let b = number-past test h below q in let p = put-more m (number_by m at below) in
            past-left (put_in m (number_by m at below)) (number_by m at rest) (omega (arith, b, p))
        | inr q ↦ past-right (put_in m (number_by m at below)) (number_by m at rest) (number-past test h rest q)
      ]

any-none : (f : Name → Bool) (ks : List Name) → ((k : Name) → In k ks → f k ≡ false) → list_any f ks ≡ false
any-none f [] e = refl
any-none f (j ∷ ks) e = or_from (f j) (list_any f ks) (e j (inl refl)) (any-none f ks (λ k i. e k (inr i)))

in-either : (f : Fragment) (xs : List Fragment) (g : Fragment) → In f (xs ++ g ∷ []) → In f xs ⊎ (g ≡ f)
in-either f [] g (inl e) = inr (sym e)
in-either f [] g (inr i) = elim i [ ]
in-either f (x ∷ xs) g (inl e) = inl (inl e)
in-either f (x ∷ xs) g (inr i) = elim (in-either f xs g i) [ inl j ↦ inl (inr j) | inr j ↦ inr j ]

-- the fragment of a name has that name
of-name : (fs : List Fragment) (k : Name) (f : Fragment) → fragment_of fs k ≡ Some f → k ≡ f.name.item
unfolding fragment_of
of-name [] k f e = cc (e)
of-name (g ∷ fs) k f e = elim (same_or k g.name.item) [
  | inl q ↦ let is : Some g ≡ Some f = rw (q.0) at e in let h : g ≡ f = cc (is) in q.1 ∙ ap (λ (x : Fragment). x.name.item) h
  | inr q ↦ of-name fs k f (rw q at e)
]

module _ (m : Measure) (most : ℕ) (fs : List Fragment) where
  abbrev inner : Name → Option Contents
  inner = contents (λ d. true) fs (length fs)

  abbrev inner_number : Name → ℕ
  inner_number k = number_behind m (inner k)

  -- ## Names of no fragment

  unknown-deep : (n : ℕ) (k : Name) → fragment_of fs k ≡ None → deep fs n k ≡ false
  unfolding deep deep_in
  unknown-deep zero k e = ap is_some e
  unknown-deep (suc n) k e = ap (deep_in (deep fs n)) e

  unknown-number : (n : ℕ) (k : Name) → fragment_of fs k ≡ None → number_behind m (contents (λ d. true) fs n k) ≡ 0
  unfolding contents filled number_behind
  unknown-number zero k e = refl
  unknown-number (suc n) k e = ap (λ o. number_behind m (filled (plain (λ d. true) (contents (λ d. true) fs n)) o)) e

  whole-ends : (k : Name) → deep fs (length fs) k ≡ false → whole_at m most fs k ≡ min most (inner_number k)
  unfolding whole_at
  whole-ends k e = rw e refl

  whole-endless : (k : Name) → deep fs (length fs) k ≡ true → whole_at m most fs k ≡ most
  unfolding whole_at
  whole-endless k e = rw e refl

  -- ## All selections

  pub number-total : (at : Name → ℕ) (s : Selections) → ((k : Name) → at k ≡ whole_at m most fs k) → min most (number_by m at s) ≡ expanded_number m most fs s
  unfolding expanded_number is_endless expand
  number-total at s is = elim (cases_Bool (list_any (deep fs (length fs)) (spreads s))) [
    | inl e ↦ let p = number-past m most at (deep fs (length fs)) (λ k d. let w = is k ∙ whole-endless k d in omega (arith, w)) s e in
        rw e (omega (arith, p))
    | inr e ↦
        let c = number-cut m most at inner_number s (λ k i. is k ∙ whole-ends k (any-at (deep fs (length fs)) (spreads s) k e i)) in
        rw e (c ∙ ap (min most) (sym (plain-number m inner s)))
  ]

  -- ## One fragment after the other

  -- what is kept is right, and it is kept for each of these
  pub record AreCounted (kept : Name → Option ℕ) (before : List Fragment) : Type 0 where
    pub sound : (k : Name) (n : ℕ) → kept k ≡ Some n → (deep fs (length fs) k ≡ false) × (n ≡ min most (inner_number k))
    pub all : (f : Fragment) → In f before → is_some (kept f.name.item) ≡ true

  pub counted-first : (kept : Name → Option ℕ) → ((k : Name) → kept k ≡ None) → AreCounted kept []
  counted-first kept none = record { sound = λ k n e. let z : None ≡ Some n = sym (none k) ∙ e in cc (z); all = λ f i. elim i [ ] }

  -- what is spread behind those that are counted is counted, or has nothing
  spread-by : (kept : Name → Option ℕ) (before : List Fragment) (f : Fragment) → AreCounted kept before → StandsBehind fs before f → (k : Name) →
      In k (spreads f.selections) → (o : Option ℕ) → kept k ≡ o → (p : Option Fragment) → fragment_of fs k ≡ p →
      (deep fs (length fs) k ≡ false) × (kept_or most p o ≡ min most (inner_number k))
  unfolding kept_or
  spread-by kept before f c b k i (Some n) e p q = c.sound k n e
  spread-by kept before f c b k i None e None q =
      let z = unknown-number (length fs) k q in (unknown-deep (length fs) k q, omega (arith, z))
  spread-by kept before f c b k i None e (Some g) q =
      let is = c.all g (b.spread k g i q) in
      absurd (both_ways (is_some (kept g.name.item)) (ap is_some (subst (λ j. kept j ≡ None) (of-name fs k g q) e)) is)

  spread-at : (kept : Name → Option ℕ) (before : List Fragment) (f : Fragment) → AreCounted kept before → StandsBehind fs before f → (k : Name) →
      In k (spreads f.selections) → (deep fs (length fs) k ≡ false) × (weight_at most fs kept k ≡ min most (inner_number k))
  unfolding weight_at
  spread-at kept before f c b k i = spread-by kept before f c b k i (kept k) refl (fragment_of fs k) refl

  ends-at : (f : Fragment) → fragment_of fs f.name.item ≡ Some f → ((k : Name) → In k (spreads f.selections) → deep fs (length fs) k ≡ false) →
      deep fs (suc (length fs)) f.name.item ≡ false
  unfolding deep deep_in
  ends-at f is none = ap (deep_in (deep fs (length fs))) is ∙ any-none (deep fs (length fs)) (spreads f.selections) none

  ends-first : (k : Name) → deep fs (suc (length fs)) k ≡ false → deep fs (length fs) k ≡ false
  ends-first k e = false_from_ne_true (deep fs (length fs) k) (λ d. both_ways (deep fs (suc (length fs)) k) e (long_is_endless fs k d (suc (length fs))))

  inner-is : (f : Fragment) → fragment_of fs f.name.item ≡ Some f → deep fs (suc (length fs)) f.name.item ≡ false →
      inner_number f.name.item ≡ put_in m (number_by m inner_number f.selections)
  unfolding contents filled number_behind
  inner-is f is e =
      ap (number_behind m) (contents-same (λ d. true) fs (length fs) (suc (length fs)) f.name.item (ends-first f.name.item e) e)
      ∙ (ap (λ o. number_behind m (filled (plain (λ d. true) inner) o)) is ∙ ap (put_in m) (plain-number m inner f.selections))

  count-is : (kept : Name → Option ℕ) (before : List Fragment) (f : Fragment) → AreCounted kept before → StandsBehind fs before f →
      (deep fs (length fs) f.name.item ≡ false)
      × (min most (put_in m (number_by m (weight_at most fs kept) f.selections)) ≡ min most (inner_number f.name.item))
  count-is kept before f c b =
      let e = ends-at f b.first (λ k i. (spread-at kept before f c b k i).0) in (
        ends-first f.name.item e,
        put-cut m most (number_by m (weight_at most fs kept) f.selections) (number_by m inner_number f.selections)
            (number-cut m most (weight_at most fs kept) inner_number f.selections (λ k i. (spread-at kept before f c b k i).1))
            ∙ ap (min most) (sym (inner-is f b.first e)),
      )

  pub counted-next : (kept now : Name → Option ℕ) (before : List Fragment) (f : Fragment) → AreCounted kept before → StandsBehind fs before f →
      ((k : Name) → now k ≡ cond (bytes_eq f.name.item k) (Some (min most (put_in m (number_by m (weight_at most fs kept) f.selections)))) (kept k)) →
      AreCounted now (before ++ f ∷ [])
  counted-next kept now before f c b is = record {
    sound = λ k n e. elim (same_or f.name.item k) [
      | inl q ↦
          let r = count-is kept before f c b in
          let z : Some (min most (put_in m (number_by m (weight_at most fs kept) f.selections))) ≡ Some n = sym (rw (q.0) at (is k)) ∙ e in
          let same : min most (put_in m (number_by m (weight_at most fs kept) f.selections)) ≡ n = cc (z) in
          (subst (λ j. deep fs (length fs) j ≡ false) q.1 r.0, subst (λ j. n ≡ min most (inner_number j)) q.1 (sym same ∙ r.1))
      | inr q ↦ c.sound k n (sym (rw q at (is k)) ∙ e)
    ];
    all = λ g i. elim (same_or f.name.item g.name.item) [
      | inl q ↦ ap is_some (rw (q.0) at (is g.name.item))
      | inr q ↦ elim (in-either g before f i) [
        | inl j ↦ ap is_some (rw q at (is g.name.item)) ∙ c.all g j
        | inr j ↦ absurd (both_ways (bytes_eq f.name.item g.name.item) q (subst (λ (x : Fragment). bytes_eq f.name.item x.name.item ≡ true) j
            (same_refl f.name.item)))
      ]
    ];
  }

  ends-by : (kept : Name → Option ℕ) (order : List Fragment) → AreCounted kept order → IsInOrder fs order → (k : Name) → (o : Option ℕ) → kept k ≡ o →
      (p : Option Fragment) → fragment_of fs k ≡ p → kept_or most p o ≡ whole_at m most fs k
  unfolding kept_or
  ends-by kept order c b k (Some n) e p q = let s = c.sound k n e in s.1 ∙ sym (whole-ends k s.0)
  ends-by kept order c b k None e None q =
      let z = unknown-number (length fs) k q in let w = whole-ends k (unknown-deep (length fs) k q) in omega (arith, z, w)
  ends-by kept order c b k None e (Some g) q = elim (cases_Bool (deep fs (length fs) k)) [
    | inl d ↦ sym (whole-endless k d)
    | inr d ↦ absurd (both_ways (is_some (kept g.name.item)) (ap is_some (subst (λ j. kept j ≡ None) (of-name fs k g q) e)) (c.all g (b.all k g q d)))
  ]

  pub counted-all : (kept : Name → Option ℕ) (order : List Fragment) → AreCounted kept order → IsInOrder fs order → (k : Name) →
      weight_at most fs kept k ≡ whole_at m most fs k
  unfolding weight_at
  counted-all kept order c b k = ends-by kept order c b k (kept k) refl (fragment_of fs k) refl

  pub total-is : (at : Name → ℕ) (s : Selections) → ((k : Name) → at k ≡ whole_at m most fs k) → (n : ℕ) → n ≡ min most (number_by m at s) →
      n ≡ expanded_number m most fs s
  total-is at s is n e = e ∙ number-total at s is

  -- ## A loop over an order

  module _ {A : Type 0} (view : A → Fragment) (xs : List A) (kept : Name → Option ℕ) where
    -- those before the index are counted, and the others stand behind them
    pub record IsCountedTo (i : ℕ) : Type 0 where
      pub before : List Fragment
      pub counted : AreCounted kept before
      pub behind : StandBehind fs before (map view (drop i xs))
      pub all : before ++ map view (drop i xs) ≡ map view xs

    pub to-first : ((k : Name) → kept k ≡ None) → IsInOrder fs (map view xs) → IsCountedTo 0
    to-first none o = record { before = []; counted = counted-first kept none; behind = o.behind; all = refl }

    pub to-all : (i : ℕ) → length xs ≤ i → IsInOrder fs (map view xs) → IsCountedTo i → (k : Name) → weight_at most fs kept k ≡ whole_at m most fs k
    to-all i past o t = counted-all kept (map view xs)
        (subst (AreCounted kept) (sym (append-nil t.before) ∙ (ap (λ l. t.before ++ map view l) (sym (drop_all i xs past)) ∙ t.all)) t.counted) o

  pub to-next : {A : Type 0} (view : A → Fragment) (xs : List A) (kept now : Name → Option ℕ) (i : ℕ) (x : A) → i < length xs → x ≡ get_or xs i x →
      ((k : Name) → now k ≡ cond (bytes_eq (view x).name.item k) (Some (min most (put_in m (number_by m (weight_at most fs kept) (view x).selections))))
      (kept k)) →
      IsCountedTo view xs kept i → IsCountedTo view xs now (i + 1)
  to-next view xs kept now i x below at is t =
      let e = seen-left-is view xs i x below at in
      let b : StandBehind fs t.before (view x ∷ map view (drop (i + 1) xs)) = subst (StandBehind fs t.before) e t.behind in
      record {
        before = t.before ++ view x ∷ [];
        counted = counted-next kept now t.before (view x) t.counted b.0 is;
        behind = b.1;
        all = append_assoc t.before (view x ∷ []) (map view (drop (i + 1) xs)) ∙ (ap (λ l. t.before ++ l) (sym e) ∙ t.all);
      }
