-- Sorted lists of errors that tell failures which rise to places of their own are one list (7.1.2).
use Rattle.std.proofs.Common.{◌≡◌, true, false, List, [], ◌∷◌, map, refl, sym, ap, ap₂, ◌∙◌, inl, inr, subst}
use Rattle.std.specs.Prelude.{IsTrue}
use Rattle.std.proofs.lemmas.Bool.{and_parts}
use Rattle.std.proofs.lemmas.Map.Lookups.{CmpEqualImpliesEq, exact_unsigned, exact_bytes}
use Rattle.std.specs.Cmp.Lexicographic.{slice_cmp}
use Rattle.std.specs.Ordering.{nat_cmp, ordering_then, ordering_reverse}
use Rattle.std.specs.declared.cmp.Ordering.{Ordering}
use Rattle.std.specs.declared.cmp.Ordering.TheVariants.{Less, Equal, Greater}
use Rattle.graphql_spec.specs.Positions.{Position}
use Rattle.graphql_spec.specs.Values.{Value}
use Rattle.graphql_spec.specs.Inputs.{Variables}
use Rattle.graphql_spec.specs.Documents.{OperationType, query, mutation, subscription}
use Rattle.graphql_spec.specs.Selections.{Forest}
use Rattle.graphql_spec.specs.Types.{named}
use Rattle.graphql_spec.specs.Execution.{data_of}
use Rattle.graphql_spec.specs.Errors.{Place, Listed, key, index, compare_positions, compare_steps, compare, not_greater, is_least, is_sorted}
use Rattle.graphql_spec.specs.Failures.{Failure, failures_of}
use Rattle.graphql_spec.specs.Nulls.{null_or, nulls_of}
use Rattle.graphql_spec.specs.Mutation.{mutation_run, mutation_nulls}
use Rattle.graphql_spec.specs.Laws.{In}
use Rattle.graphql_spec.specs.Requests.{selected}
use Rattle.graphql_spec.specs.GroupLaws.{for_picked, first_start}
use Rattle.graphql_spec.specs.Outcomes.{Service, refuses, responds, out_of_memory, world_in, mutation_in, IsExecuted}
use Rattle.graphql_spec.specs.OutcomeLaws.{FailIn, StandIn}
use Rattle.graphql_spec.specs.ExactAnswers.{whole, PathsDiffer, TellsExactly}
use Rattle.graphql_spec.specs.OneErrorList.{RisesAlone, StartsOnce, AreSettledFailures, ErrorsAreOne, FirstErrorsAreOne, ExactErrorsAreOne, ResponsesAreOne}
use Rattle.graphql_spec.proofs.ErrorOrder.{compare_total}
use Rattle.graphql_spec.proofs.Exact.{exact-tells, outcome-tells}
use Rattle.graphql_spec.proofs.FirstOccurrences.{picked-of}
use Rattle.graphql_spec.proofs.OneOutcome.{executed, outcome-is-one}

-- ## What compares equal has one path

both-equal : (a b : Ordering) → ordering_then a b ≡ Equal → (a ≡ Equal) × (b ≡ Equal)
both-equal Less b e = cc
both-equal Equal b e = (refl, e)
both-equal Greater b e = cc

lists-exact : {K : Type 0} {R : K → K → Ordering} → CmpEqualImpliesEq R → CmpEqualImpliesEq (slice_cmp R)
lists-exact exact [] [] e = refl
lists-exact exact [] (y ∷ ys) e = cc
lists-exact exact (x ∷ xs) [] e = cc
lists-exact {R = R} exact (x ∷ xs) (y ∷ ys) e =
    let both = both-equal (R x y) (slice_cmp R xs ys) e in ap₂ (λ z zs. z ∷ zs) (exact x y both.0) (lists-exact exact xs ys both.1)

steps-exact : CmpEqualImpliesEq compare_steps
unfolding compare_steps
steps-exact (index n) (index m) e = ap index (exact_unsigned n m e)
steps-exact (index n) (key k) e = cc
steps-exact (key k) (index m) e = cc
steps-exact (key k) (key j) e = ap key (exact_bytes k j e)

paths-equal : (a b : Listed) → compare a b ≡ Equal → a.path ≡ b.path
unfolding compare
paths-equal a b e =
    let first = both-equal (compare_positions a.start b.start) (ordering_then (slice_cmp compare_steps a.path b.path)
    (slice_cmp nat_cmp a.error.message b.error.message)) e in
    let second = both-equal (slice_cmp compare_steps a.path b.path) (slice_cmp nat_cmp a.error.message b.error.message) first.1 in
    lists-exact steps-exact a.path b.path second.0

neither : (o p : Ordering) → o ≡ ordering_reverse p → not_greater o ≡ true → not_greater p ≡ true → o ≡ Equal
unfolding not_greater
neither Less Less e a b = cc
neither Less Equal e a b = cc
neither Less Greater e a b = cc
neither Equal p e a b = refl
neither Greater p e a b = cc

no-two : (x y : Listed) → not_greater (compare x y) ≡ true → not_greater (compare y x) ≡ true → x.path ≡ y.path
no-two x y a b = paths-equal x y (neither (compare x y) (compare y x) (compare_total.antisymm x y) a b)

-- ## Sorted lists of the same errors

least-of : (x : Listed) (ys : List Listed) → is_least x ys ≡ true → (y : Listed) → In y ys → not_greater (compare x y) ≡ true
unfolding is_least
least-of x [] l y i = absurd i
least-of x (z ∷ ys) l y (inl e) =
    let p = and_parts (not_greater (compare x z)) (is_least x ys) l in subst (λ w. not_greater (compare x w) ≡ true) (sym e) p.0
least-of x (z ∷ ys) l y (inr i) = let p = and_parts (not_greater (compare x z)) (is_least x ys) l in least-of x ys p.1 y i

-- the first ones are one
heads : (x y : Listed) (xs ys : List Listed) → is_least x xs ≡ true → is_least y ys ≡ true → PathsDiffer (x ∷ xs) → In x (y ∷ ys) → In y (x ∷ xs) → x ≡ y
heads x y xs ys a b d (inl e) j = e
heads x y xs ys a b d (inr i) (inl e) = sym e
heads x y xs ys a b d (inr i) (inr j) = absurd (d.0 y j (no-two x y (least-of x xs a y j) (least-of y ys b x i)))

-- behind them, too
behind : (x y : Listed) (xs ys : List Listed) → x ≡ y → PathsDiffer (x ∷ xs) → ((z : Listed) → In z (x ∷ xs) → In z (y ∷ ys)) →
    (z : Listed) → In z xs → In z ys
behind x y xs ys e d all z i = elim (all z (inr i)) [
  | inl f ↦ absurd (d.0 z i (ap (λ (w : Listed). w.path) (e ∙ sym f)))
  | inr j ↦ j
]

sorted-same : (es ds : List Listed) → is_sorted es ≡ true → is_sorted ds ≡ true → PathsDiffer es → PathsDiffer ds →
    ((x : Listed) → In x es → In x ds) → ((x : Listed) → In x ds → In x es) → es ≡ ds
unfolding is_sorted
sorted-same [] [] a b d f m n = refl
sorted-same [] (y ∷ ys) a b d f m n = absurd (n y (inl refl))
sorted-same (x ∷ xs) [] a b d f m n = absurd (m x (inl refl))
sorted-same (x ∷ xs) (y ∷ ys) a b d f m n =
    let p = and_parts (is_least x xs) (is_sorted xs) a in
    let q = and_parts (is_least y ys) (is_sorted ys) b in
    let e : x ≡ y = heads x y xs ys p.0 q.0 d (m x (inl refl)) (n y (inl refl)) in
    ap₂ (λ z zs. z ∷ zs) e (sorted-same xs ys p.1 q.1 d.1 f.1 (behind x y xs ys e d m) (behind y x ys xs (sym e) f n))

-- ## Failures that rise to places of their own

one-error : (x y : Listed) → x.path ≡ y.path → x.start ≡ y.start → x.error ≡ y.error → x ≡ y
one-error x y p s e = λ i. record { path = p i; start = s i; error = e i }

-- what the one list tells, the other tells too
told-too : (fs : List Failure) (stands : List Place) (es ds : List Listed) → AreSettledFailures fs stands → TellsExactly es fs stands →
    TellsExactly ds fs stands → (x : Listed) → In x es → In x ds
told-too fs stands es ds settled a c x i =
    let b = a.belongs x i in
    let z = settled b.0 b.1 in
    let t = c.explained b.0.rises_to z.0.stands_there in
    let g : t.2.0 ≡ b.0 = z.0.alone t.2.0 t.2.1 t.2.3 in
    let s : t.0.start ≡ x.start = z.1 t.0.start x.start (subst (λ (f : Failure). In t.0.start f.starts) g t.2.2.2) b.2.2 in
    let one : t.0 ≡ x = one-error t.0 x (t.2.2.0 ∙ (ap (λ (f : Failure). f.path) g ∙ sym b.2.0)) s
    (t.2.2.1 ∙ (ap (λ (f : Failure). f.error) g ∙ sym b.2.1)) in
    subst (λ w. In w ds) one t.1

pub errors-are-one : ErrorsAreOne
errors-are-one fs stands es ds settled a b t u =
    sorted-same es ds a b t.once u.once (told-too fs stands es ds settled t u) (told-too fs stands ds es settled u t)

pub exact-errors-are-one : ExactErrorsAreOne
exact-errors-are-one data' value fs stands es ds settled a b c d = errors-are-one fs stands es ds settled a.sorted b.sorted
    (exact-tells data' value fs stands es a c) (exact-tells data' value fs stands ds b d)

first-once : (ss : List Position) (s t : Position) → In s (first_start ss) → In t (first_start ss) → s ≡ t
unfolding first_start
first-once [] s t i j = absurd i
first-once (u ∷ ss) s t (inl a) (inl b) = a ∙ sym b
first-once (u ∷ ss) s t (inl a) (inr j) = absurd j
first-once (u ∷ ss) s t (inr i) j = absurd i

-- what is told for the first occurrence alone has one
picked-settled : (fs : List Failure) (stands : List Place) → ((f : Failure) → In f fs → RisesAlone fs stands f) →
    AreSettledFailures (map (for_picked first_start) fs) stands
unfolding for_picked
picked-settled fs stands settled h i =
    let p = picked-of h fs i in
    let z = settled p.0 p.1 in
    let rises : h.rises_to ≡ p.0.rises_to = ap (λ (f : Failure). f.rises_to) p.2 in (
      record {
        stands_there = subst (λ to. In to stands) (sym rises) z.stands_there;
        alone = λ g j e. let q = picked-of g fs j in
            q.2 ∙ (ap (for_picked first_start) (z.alone q.0 q.1 (sym (ap (λ (f : Failure). f.rises_to) q.2) ∙ (e ∙ rises))) ∙ sym p.2);
      },
      subst (λ (f : Failure). StartsOnce f) (sym p.2) (first-once p.0.starts),
    )

pub first-errors-are-one : FirstErrorsAreOne
first-errors-are-one fs stands es ds settled a b t u =
    errors-are-one (map (for_picked first_start) fs) stands es ds (picked-settled fs stands settled) a b t u

-- ## Responses

module _ {C N : Type 0} (S : Service C N) where
  -- what fails in an operation that was executed, and which nulls stand for it; and its errors are sorted
  known : (k : OperationType) (vars : Variables) (s : Forest) (c after : C) (v : Value) (es : List Listed) → IsExecuted S whole k vars s c v es after →
      (fs : List Failure) × (stands : List Place) × FailIn S k vars s c fs × StandIn S k vars s c stands × IsTrue (is_sorted es)
  known query vars s c after v es x = (
    failures_of (world_in S vars c) [] [] S.schema.query S.root s,
    null_or [] (named false []) (data_of (world_in S vars c) S.schema.query S.root s) (nulls_of (world_in S vars c) [] S.schema.query S.root s),
    refl,
    refl,
    x.0.sorted,
  )
  known mutation vars s c after v es x = (
    (mutation_run (mutation_in S x.0 vars) x.1 s c).failures,
    mutation_nulls (mutation_in S x.0 vars) x.1 s c,
    (x.0, x.1, x.2, refl),
    (x.0, x.1, x.2, refl),
    x.3.answer.sorted,
  )
  known subscription vars s c after v es x = absurd x

  pub responses-are-one : ResponsesAreOne S
  responses-are-one q c settled out_of_memory y a b x z = tt
  responses-are-one q c settled (refuses r) out_of_memory a b x z = tt
  responses-are-one q c settled (responds u ds) out_of_memory a b x z = tt
  responses-are-one q c settled (refuses r) (refuses s) a b x z = outcome-is-one S whole q c (refuses r) (refuses s) a b x.0 z.0
  responses-are-one q c settled (refuses r) (responds v es) a b x z = outcome-is-one S whole q c (refuses r) (responds v es) a b x.0 z.0
  responses-are-one q c settled (responds u ds) (refuses r) a b x z = outcome-is-one S whole q c (responds u ds) (refuses r) a b x.0 z.0
  responses-are-one q c settled (responds u ds) (responds v es) a b x z =
      let one = outcome-is-one S whole q c (responds u ds) (responds v es) a b x.0 z.0 in
      let d = z.0.0 in
      let o = z.0.1 in
      let vars = z.0.2 in
      let s = selected d o vars in
      let k = known o.kind vars s c b v es z.0.4 in
      let l = known o.kind vars s c a u ds (executed S whole q d o vars z.0.3 c a u ds x.0) in (
        one.0,
        errors-are-one k.0 k.1 ds es (settled d o vars z.0.3 k.0 k.1 k.2 k.3) l.4 k.4 (outcome-tells S q d o vars z.0.3 c a u ds x k.0 k.1 k.2 k.3)
            (outcome-tells S q d o vars z.0.3 c b v es z k.0 k.1 k.2 k.3),
        one.1,
      )
