-- Lists of errors that tell each place once.
use Rattle.std.proofs.Common.{◌≡◌, ◌≤◌, ◌<◌, ◌+◌, ℕ, Bool, true, false, cond, List, [], ◌∷◌, ◌++◌, map, refl, sym, ap, ◌∙◌, inl, inr, subst, arith}
use Rattle.std.proofs.lemmas.Bool.{cases_Bool, both_ways, and_parts, and_from}
use Rattle.std.proofs.lemmas.Bool.Decides.{Decides-eqb}
use Rattle.graphql_spec.specs.Shown.{Name}
use Rattle.graphql_spec.specs.Positions.{Position}
use Rattle.graphql_spec.specs.Values.{Value, is_null}
use Rattle.graphql_spec.specs.Documents.{OperationType, query, mutation, subscription}
use Rattle.graphql_spec.specs.Inputs.{Variables}
use Rattle.graphql_spec.specs.Errors.{Step, key, index, Place, Listed}
use Rattle.graphql_spec.specs.Selections.{Forest, keys}
use Rattle.graphql_spec.specs.Resolvers.{World}
use Rattle.graphql_spec.specs.Execution.{data_of}
use Rattle.graphql_spec.specs.Failures.{Failure, failures_of}
use Rattle.graphql_spec.specs.Nulls.{nulls_of}
use Rattle.graphql_spec.specs.Mutation.{Mutation, data_of_run, run_nulls, root_fields, mutation_run, mutation_nulls}
use Rattle.graphql_spec.specs.Laws.{In, Apart, Pair, pair_at, pairs, count}
use Rattle.graphql_spec.specs.Walk.{Met, told, Told, count_listed, IsAnswer}
use Rattle.graphql_spec.specs.Requests.{selected}
use Rattle.graphql_spec.proofs.Lists.{same_true, same_refl}
use Rattle.graphql_spec.proofs.Grouping.{in_append, in_first, in_second}
use Rattle.graphql_spec.proofs.Failing.{distinct-keys}
use Rattle.graphql_spec.proofs.Answered.{walks_answer, same_listed, listed_counts, counted_pair}
use Rattle.graphql_spec.specs.GroupLaws.{for_picked, first_start}
use Rattle.graphql_spec.specs.Outcomes.{Service, IsExecuted, world_in, mutation_in}
use Rattle.graphql_spec.specs.OutcomeLaws.{FailIn, StandIn}
use Rattle.graphql_spec.specs.ExactAnswers.{whole, PathsDiffer, IsErrorOf, TellsExactly, ExactTells, OutcomeTells, PartsTellOnce, FirstsTellOnce}
use Rattle.graphql_spec.specs.ExactAnswers.{RunPlacesDiffer, WalksExactAnswer, RunsExactAnswer, OrderTellsOnce, same_step, same_place, elsewhere, once_each}
use Rattle.graphql_spec.specs.ExactAnswers.{ThinnedTellsOnce}
use Rattle.graphql_spec.proofs.ApartRuns.{below-apart, run-apart}
use Rattle.graphql_spec.proofs.Running.{run-answers}
use Rattle.graphql_spec.proofs.Picked.{firsts-stand}
use Rattle.graphql_spec.proofs.OneOutcome.{executed, same-mutation}

-- ## Pairs and failures

in-map : (f : Failure) (q : Pair) (ss : List Position) → In q (map (pair_at f) ss) → (s : Position) × In s ss × (q ≡ pair_at f s)
in-map f q [] i = absurd i
in-map f q (s ∷ ss) (inl e) = (s, inl refl, e)
in-map f q (s ∷ ss) (inr i) = let r = in-map f q ss i in (r.0, inr r.1, r.2)

-- a pair is of a failure
in-pairs : (q : Pair) (fs : List Failure) → In q (pairs fs) → (f : Failure) × In f fs × ((s : Position) × In s f.starts × (q ≡ pair_at f s))
unfolding pairs
in-pairs q [] i = absurd i
in-pairs q (f ∷ fs) i = elim (in_append q (map (pair_at f) f.starts) (pairs fs) i) [
  | inl j ↦ (f, inl refl, in-map f q f.starts j)
  | inr j ↦ let r = in-pairs q fs j in (r.0, inr r.1, r.2)
]

-- a listed error that belongs to a failure is its error, at its exact place
error-of : (x : Listed) (fs : List Failure) (q : Pair) → In q (pairs fs) → told whole q ≡ x → (f : Failure) × In f fs × IsErrorOf x f ×
    (f.rises_to ≡ q.rises_to)
unfolding told pair_at
error-of x fs q i e = let r = in-pairs q fs i in (
  r.0,
  r.1,
  (
    ap (λ (z : Listed). z.path) (sym e) ∙ ap (λ (z : Pair). z.path) r.2.2,
    ap (λ (z : Listed). z.error) (sym e)
        ∙ ap (λ (z : Pair). z.error) r.2.2,
    subst (λ z. In z r.0.starts) (sym (ap (λ (z : Pair). z.start) r.2.2) ∙ ap (λ (z : Listed). z.start) e) r.2.1,
  ),
  sym (ap (λ (z : Pair). z.rises_to) r.2.2),
)

-- what was listed is of a failure
pub listed-of : (b : Bool) (es : List Listed) (fs : List Failure) (above : Place) (st : List Place) → Met whole b es fs above st → (x : Listed) → In x es →
    (q : Pair) × In q (pairs fs) × (told whole q ≡ x)
listed-of b es fs above st m x i = let a = listed_counts x es i in let c = m.counted (same_listed x) in counted_pair whole x (pairs fs) (omega (arith, a, c))

pub listed-at : (b : Bool) (es : List Listed) (fs : List Failure) (above : Place) (st : List Place) → Met whole b es fs above st → (x : Listed) → In x es →
    (f : Failure) × In f fs × (x.path ≡ f.path)
listed-at b es fs above st m x i = let p = listed-of b es fs above st m x i in let r = error-of x fs p.0 p.1 p.2 in (r.0, r.1, r.2.0)

-- ## Two parts

differ-append : (es ds : List Listed) → PathsDiffer es → PathsDiffer ds → ((x y : Listed) → In x es → In y ds → x.path ≡ y.path → ⊥) → PathsDiffer (es ++ ds)
differ-append [] ds a b c = b
differ-append (x ∷ es) ds a b c = (
  λ y i e. elim (in_append y es ds i) [ inl j ↦ a.0 y j e | inr j ↦ c x y (inl refl) j e ],
  differ-append es ds a.1 b (λ y z i j e. c y z (inr i) j e),
)

-- failures of two lists that are at different places
parts-once : (a b : Bool) (es ds : List Listed) (fs gs : List Failure) (above to : Place) (st xs : List Place) →
    ((f g : Failure) → In f fs → In g gs → f.path ≡ g.path → ⊥) → Met whole a es fs above st → Met whole b ds gs to xs →
    PathsDiffer es → PathsDiffer ds → PathsDiffer (es ++ ds)
parts-once a b es ds fs gs above to st xs c m n p q = differ-append es ds p q (λ x y i j e.
    let u = listed-at a es fs above st m x i in let v = listed-at b ds gs to xs n y j in c u.0 v.0 u.1 v.1 (sym u.2 ∙ (e ∙ v.2)))

apart-between : (fs gs : List Failure) → Apart (fs ++ gs) → (f g : Failure) → In f fs → In g gs → f.path ≡ g.path → ⊥
apart-between [] gs a f g i j e = absurd i
apart-between (h ∷ fs) gs a f g (inl q) j e = a.0 g (in_second g fs gs j) (ap (λ (z : Failure). z.path) (sym q) ∙ e)
apart-between (h ∷ fs) gs a f g (inr i) j e = apart-between fs gs a.1 f g i j e

apart-first : (fs gs : List Failure) → Apart (fs ++ gs) → Apart fs
apart-first [] gs a = tt
apart-first (f ∷ fs) gs a = (λ g i e. a.0 g (in_first g fs gs i) e, apart-first fs gs a.1)

pub parts-tell-once : PartsTellOnce
parts-tell-once a b es ds fs gs above to st xs c m n p q = parts-once a b es ds fs gs above to st xs (apart-between fs gs c) m n p q

module _ {C N : Type 0} (M : Mutation C N) (T : Name) where
  pub run-places-differ : RunPlacesDiffer M T
  run-places-differ os c = run-apart M T (keys os) os c (distinct-keys os)

-- ## What an exact answer tells

pub exact-tells : ExactTells
exact-tells data' value fs stands es a d = record {
  belongs = λ x i. let b = a.belongs x i in let r = error-of x fs b.0 b.1 b.2 in (r.0, r.1, r.2);
  once = d;
  explained = λ to i. let t = a.explained to i in let r = error-of (told whole t.0) fs t.0 t.1 refl in (told whole t.0, t.3, (r.0, r.1, r.2, r.3 ∙ t.2));
}

module _ {C N : Type 0} (S : Service C N) where
  kind-tells : (k : OperationType) (vars : Variables) (s : Forest) (c after : C) (v : Value) (es : List Listed) → PathsDiffer es →
      IsExecuted S whole k vars s c v es after →
      (fs : List Failure) (stands : List Place) → FailIn S k vars s c fs → StandIn S k vars s c stands → TellsExactly es fs stands
  kind-tells query vars s c after v es d a fs stands e f =
      exact-tells (data_of (world_in S vars c) S.schema.query S.root s) v fs stands es
      (subst (λ z. IsAnswer whole (data_of (world_in S vars c) S.schema.query S.root s) z stands v es) (sym e)
      (subst (λ z. IsAnswer whole (data_of (world_in S vars c) S.schema.query S.root s)
      (failures_of (world_in S vars c) [] [] S.schema.query S.root s) z v es) (sym f) a.0)) d
  kind-tells mutation vars s c after v es d a fs stands (n, U, h, e) (l, X, g, f) =
      let one = same-mutation S n a.0 U a.1 h a.2 in
      let two = same-mutation S l a.0 X a.1 g a.2 in
      let M : Mutation C N = mutation_in S a.0 vars in
      let e' : fs ≡ (mutation_run M a.1 s c).failures = e ∙ (ap (λ z. (mutation_run (mutation_in S z vars) U s c).failures) one.0 ∙ ap
      (λ z. (mutation_run M z s c).failures) one.1) in
      let f' : stands ≡ mutation_nulls M a.1 s c = f ∙ (ap (λ z. mutation_nulls (mutation_in S z vars) X s c) two.0 ∙ ap (λ z. mutation_nulls M z s c)
      two.1) in
      exact-tells (data_of_run (mutation_run M a.1 s c)) v fs stands es (subst (λ z. IsAnswer whole (data_of_run (mutation_run M a.1 s c)) z stands v es)
      (sym e') (subst (λ z. IsAnswer whole (data_of_run (mutation_run M a.1 s c)) (mutation_run M a.1 s c).failures z v es) (sym f') a.3.answer)) d
  kind-tells subscription vars s c after v es d a fs stands e f = absurd a

  pub outcome-tells : OutcomeTells S
  outcome-tells q d o vars k c after v es x fs stands f g = kind-tells o.kind vars (selected d o vars) c after v es x.1
      (executed S whole q d o vars k c after v es x.0) fs stands f g

-- ## Places

step-refl : (x : Step) → same_step x x ≡ true
unfolding same_step
step-refl (key k) = same_refl k
step-refl (index n) = (Decides-eqb n n).1 refl

step-true : (x y : Step) → same_step x y ≡ true → x ≡ y
unfolding same_step
step-true (key k) (key j) e = ap key (same_true k j e)
step-true (index n) (index m) e = ap index ((Decides-eqb n m).0 e)
step-true (key k) (index m) e = absurd (both_ways false refl e)
step-true (index n) (key j) e = absurd (both_ways false refl e)

place-refl : (p : Place) → same_place p p ≡ true
unfolding same_place
place-refl [] = refl
place-refl (x ∷ p) = and_from (same_step x x) (same_place p p) (step-refl x) (place-refl p)

place-true : (p q : Place) → same_place p q ≡ true → p ≡ q
unfolding same_place
place-true [] [] e = refl
place-true (x ∷ p) (y ∷ q) e = let r = and_parts (same_step x y) (same_place p q) e in ap (λ z. z ∷ p) (step-true x y r.0)
    ∙ ap (λ z. y ∷ z) (place-true p q r.1)
place-true [] (y ∷ q) e = absurd (both_ways false refl e)
place-true (x ∷ p) [] e = absurd (both_ways false refl e)

-- ## Another order

-- how many errors are of a place
at-place : Place → Listed → Bool
at-place p x = same_place p x.path

some-at : (p : Place) (es : List Listed) (x : Listed) → In x es → x.path ≡ p → 0 < count_listed (at-place p) es
unfolding count_listed at-place
some-at p [] x i e = absurd i
some-at p (y ∷ es) x (inl q) e = let r : same_place p y.path ≡ true = ap (same_place p) (ap (λ (z : Listed). z.path) (sym q) ∙ e) ∙ place-refl p in
    rw r (omega arith)
some-at p (y ∷ es) x (inr i) e = let r = some-at p es x i e in omega (arith, r)

none-at : (p : Place) (es : List Listed) → ((x : Listed) → In x es → p ≡ x.path → ⊥) → count_listed (at-place p) es ≡ 0
unfolding count_listed at-place
none-at p [] n = refl
none-at p (x ∷ es) n = elim (cases_Bool (same_place p x.path)) [
  | inl q ↦ absurd (n x (inl refl) (place-true p x.path q))
  | inr q ↦ let r = none-at p es (λ y i e. n y (inr i) e) in rw q (omega (arith, r))
]

at-most-one : (es : List Listed) → PathsDiffer es → (p : Place) → count_listed (at-place p) es ≤ 1
unfolding count_listed at-place
at-most-one [] d p = omega arith
at-most-one (x ∷ es) d p = elim (cases_Bool (same_place p x.path)) [
  | inl q ↦ let z = none-at p es (λ y i e. d.0 y i (sym (place-true p x.path q) ∙ e)) in let r : count_listed (at-place p) es ≡ 0 = z in
      rw q (omega (arith, r))
  | inr q ↦ let r = at-most-one es d.1 p in rw q (omega (arith, r))
]

from-counts : (es : List Listed) → ((p : Place) → count_listed (at-place p) es ≤ 1) → PathsDiffer es
unfolding count_listed at-place
from-counts [] c = tt
from-counts (x ∷ es) c = (
  λ y i e. let a = some-at x.path es y i (sym e) in let b = c x.path in let r = place-refl x.path in let z = rw r at b in absurd (omega (arith, a, z)),
  from-counts es (λ p. let b = c p in omega (arith, b)),
)

pub order-tells-once : OrderTellsOnce
order-tells-once es ds same d = from-counts ds (λ p. let a = at-most-one es d p in let b = same (at-place p) in omega (arith, a, b))

none-of-place : (p : Place) (fs : List Failure) → ((g : Failure) → In g fs → p ≡ g.path → ⊥) →
    count (λ q. at-place p (told whole q)) (pairs (map (for_picked first_start) fs)) ≡ 0
unfolding pairs for_picked count told at-place first_start pair_at
none-of-place p [] n = refl
none-of-place p (f ∷ fs) n = elim (cases_Bool (same_place p f.path)) [
  | inl q ↦ absurd (n f (inl refl) (place-true p f.path q))
  | inr q ↦ let r = none-of-place p fs (λ g i e. n g (inr i) e) in go f.starts q r
]
  where
    go : (ss : List Position) → same_place p f.path ≡ false → count (λ q. at-place p (told whole q)) (pairs (map (for_picked first_start) fs)) ≡ 0 →
        count (λ q. at-place p (told whole q)) (map (pair_at (for_picked first_start f)) (first_start ss) ++ pairs (map (for_picked first_start) fs)) ≡ 0
    go [] q r = r
    go (s ∷ ss) q r = rw q (omega (arith, r))

at-most : (b : Bool) (n : ℕ) → n ≡ 0 → cond b 1 0 + n ≤ 1
at-most true n z = omega (arith, z)
at-most false n z = omega (arith, z)

one-of-place : (p : Place) (fs : List Failure) → Apart fs → count (λ q. at-place p (told whole q)) (pairs (map (for_picked first_start) fs)) ≤ 1
unfolding pairs for_picked count told at-place first_start pair_at
one-of-place p [] a = omega arith
one-of-place p (f ∷ fs) a = let r = one-of-place p fs a.1 in elim (cases_Bool (same_place p f.path)) [
  | inl q ↦ let z = none-of-place p fs (λ g i e. a.0 g i (sym (place-true p f.path q) ∙ e)) in go f.starts z
  | inr q ↦ other f.starts q r
]
  where
    go : (ss : List Position) → count (λ q. at-place p (told whole q)) (pairs (map (for_picked first_start) fs)) ≡ 0 →
        count (λ q. at-place p (told whole q)) (map (pair_at (for_picked first_start f)) (first_start ss) ++ pairs (map (for_picked first_start) fs)) ≤ 1
    go [] z = omega (arith, z)
    go (s ∷ ss) z = at-most (same_place p f.path) (count (λ q. at-place p (told whole q)) (pairs (map (for_picked first_start) fs))) z

    other : (ss : List Position) → same_place p f.path ≡ false → count (λ q. at-place p (told whole q)) (pairs (map (for_picked first_start) fs)) ≤ 1 →
        count (λ q. at-place p (told whole q)) (map (pair_at (for_picked first_start f)) (first_start ss) ++ pairs (map (for_picked first_start) fs)) ≤ 1
    other [] q r = r
    other (s ∷ ss) q r = rw q (omega (arith, r))

pub firsts-tell-once : FirstsTellOnce
firsts-tell-once rises es fs above stands a m = from-counts es (λ p. let x = m.counted (at-place p) in let y = one-of-place p fs a in omega (arith, x, y))

pub walks-exact-answer : {N : Type 0} (W : World N) → WalksExactAnswer W
walks-exact-answer W T m s value es ds e same sorted = (
  λ tell met. walks_answer tell W T m s value es ds e (firsts-stand tell (is_null value) es (failures_of W [] [] T m s) [] (nulls_of W [] T m s)
      met) same sorted,
  λ met. (
    walks_answer whole W T m s value es ds e (firsts-stand whole (is_null value) es (failures_of W [] [] T m s) [] (nulls_of W [] T m s) met) same sorted,
    order-tells-once es ds same (firsts-tell-once (is_null value) es (failures_of W [] [] T m s) [] (nulls_of W [] T m s) (below-apart W s [] [] T m) met),
  ),
)

pub runs-exact-answer : {C N : Type 0} (M : Mutation C N) (T : Name) → RunsExactAnswer M T
runs-exact-answer M T s c after v es ds r same sorted = (
  run-answers whole M T s c after v es ds (inr r) same sorted,
  order-tells-once es ds same (firsts-tell-once (is_null v) es (mutation_run M T s c).failures []
      (run_nulls M T (keys (root_fields M T s c)) (root_fields M T s c) c) (run-places-differ M T (root_fields M T s c) c) r.errors),
)

-- ## Thinned

in-elsewhere : (p : Place) (es : List Listed) (x : Listed) → In x (elsewhere p es) → In x es × (p ≡ x.path → ⊥)
unfolding elsewhere
in-elsewhere p [] x i = absurd i
in-elsewhere p (y ∷ es) x i = elim (cases_Bool (same_place p y.path)) [
  | inl q ↦ let r = in-elsewhere p es x (rw q at i) in (inr r.0, r.1)
  | inr q ↦ elim (rw q at i) [
    | inl e ↦ (inl e, λ z. both_ways (same_place p y.path) q (ap (same_place p) (sym (z ∙ ap (λ (w : Listed). w.path) e)) ∙ place-refl p))
    | inr j ↦ let r = in-elsewhere p es x j in (inr r.0, r.1)
  ]
]

elsewhere-in : (p : Place) (es : List Listed) (x : Listed) → In x es → same_place p x.path ≡ false → In x (elsewhere p es)
unfolding elsewhere
elsewhere-in p [] x i e = absurd i
elsewhere-in p (y ∷ es) x (inl q) e = let r : same_place p y.path ≡ false = ap (λ (z : Listed). same_place p z.path) (sym q) ∙ e in rw r (inl q)
elsewhere-in p (y ∷ es) x (inr i) e = elim (cases_Bool (same_place p y.path)) [
  | inl q ↦ rw q (elsewhere-in p es x i e)
  | inr q ↦
      rw q (inr (elsewhere-in p es x i e))
]

differ-elsewhere : (p : Place) (es : List Listed) → PathsDiffer es → PathsDiffer (elsewhere p es)
unfolding elsewhere
differ-elsewhere p [] d = tt
differ-elsewhere p (x ∷ es) d = elim (cases_Bool (same_place p x.path)) [
  | inl q ↦ rw q (differ-elsewhere p es d.1)
  | inr q ↦ rw q (λ y i e. d.0 y (in-elsewhere p es y i).0 e, differ-elsewhere p es d.1)
]

once-differ : (es : List Listed) → PathsDiffer (once_each es)
unfolding once_each
once-differ [] = tt
once-differ (x ∷ es) = (λ y i e. (in-elsewhere x.path (once_each es) y i).1 e, differ-elsewhere x.path (once_each es) (once-differ es))

fewer-elsewhere : (t : Listed → Bool) (p : Place) (es : List Listed) → count_listed t (elsewhere p es) ≤ count_listed t es
unfolding elsewhere count_listed
fewer-elsewhere t p [] = omega arith
fewer-elsewhere t p (x ∷ es) = let r = fewer-elsewhere t p es in elim (cases_Bool (same_place p x.path)) [
  | inl q ↦ rw q (omega (arith, r))
  | inr q ↦ rw q
      (omega (arith, r))
]

fewer-once : (t : Listed → Bool) (es : List Listed) → count_listed t (once_each es) ≤ count_listed t es
unfolding once_each count_listed
fewer-once t [] = omega arith
fewer-once t (x ∷ es) = let r = fewer-once t es in let s = fewer-elsewhere t x.path (once_each es) in omega (arith, r, s)

once-nil : (es : List Listed) → once_each es ≡ [] → es ≡ []
unfolding once_each
once-nil [] e = refl
once-nil (x ∷ es) e = cc

once-in : (es : List Listed) (x : Listed) → In x (once_each es) → In x es
unfolding once_each
once-in [] x i = i
once-in (y ∷ es) x (inl e) = inl e
once-in (y ∷ es) x (inr i) = inr (once-in es x (in-elsewhere y.path (once_each es) x i).0)

-- each place is still told
once-at : (es : List Listed) (x : Listed) → In x es → (y : Listed) × In y (once_each es) × (y.path ≡ x.path)
unfolding once_each
once-at [] x i = absurd i
once-at (z ∷ es) x (inl e) = (z, inl refl, ap (λ (w : Listed). w.path) (sym e))
once-at (z ∷ es) x (inr i) = let r = once-at es x i in elim (cases_Bool (same_place z.path r.0.path)) [
  | inl q ↦ (z, inl refl, place-true z.path r.0.path q ∙ r.2)
  | inr q ↦ (r.0, inr (elsewhere-in z.path (once_each es) r.0 r.1 q), r.2)
]

-- failures of one place are one
apart-same : (fs : List Failure) → Apart fs → (f g : Failure) → In f fs → In g fs → f.path ≡ g.path → f ≡ g
apart-same [] a f g i j e = absurd i
apart-same (h ∷ fs) a f g (inl p) (inl q) e = p ∙ sym q
apart-same (h ∷ fs) a f g (inl p) (inr j) e = absurd (a.0 g j (ap (λ (z : Failure). z.path) (sym p) ∙ e))
apart-same (h ∷ fs) a f g (inr i) (inl q) e = absurd (a.0 f i (ap (λ (z : Failure). z.path) (sym q) ∙ sym e))
apart-same (h ∷ fs) a f g (inr i) (inr j) e = apart-same fs a.1 f g i j e

thinned-told : (rises : Bool) (es : List Listed) (fs : List Failure) (above : Place) (stands : List Place) → Apart fs → Met whole rises es fs above stands →
    (to : Place) → Told whole to es fs → Told whole to (once_each es) fs
thinned-told rises es fs above stands a m to (q, i, e, j) =
    let y = once-at es (told whole q) j in
    let p = listed-of rises es fs above stands m y.0 (once-in es y.0 y.1) in
    let f = error-of y.0 fs p.0 p.1 p.2 in
    let g = error-of (told whole q) fs q i refl in
    let same : f.0 ≡ g.0 = apart-same fs a f.0 g.0 f.1 g.1 (sym f.2.0 ∙ (y.2 ∙ g.2.0)) in
    (p.0, p.1, sym f.3 ∙ (ap (λ (z : Failure). z.rises_to) same ∙ (g.3 ∙ e)), subst (λ z. In z (once_each es)) (sym p.2) y.1)

pub thinned-tells-once : ThinnedTellsOnce
thinned-tells-once rises es fs above stands a m = (
  record {
    counted = λ t. let x = fewer-once t es in let y = m.counted t in omega (arith, x, y);
    found = λ e. m.found (once-nil es e);
    explained = λ e to i. thinned-told rises es fs above stands a m to (m.explained e to i);
    risen = λ e. thinned-told rises es fs above stands a m above (m.risen e);
  },
  once-differ es,
)
