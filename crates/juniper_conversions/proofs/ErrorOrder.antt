-- Which errors compare as equal, and the order of the code's parts is the order of what they are seen as.
use Rattle.std.proofs.Common.{◌≡◌, List, [], ◌∷◌, map, refl, ap, ap₂}
use Rattle.std.specs.Cmp.{IsTotalOrder}
use Rattle.std.specs.Cmp.Lexicographic.{slice_cmp, lists_total}
use Rattle.std.specs.Ordering.{nat_cmp, ordering_then, ordering_reverse}
use Rattle.std.specs.declared.cmp.Ordering.{Ordering}
use Rattle.std.specs.declared.cmp.Ordering.TheVariants.{Less, Equal, Greater}
use Rattle.std.proofs.lemmas.Map.Lookups.{CmpEqualImpliesEq, exact_unsigned, exact_bytes}
use Rattle.graphql_spec.specs.Errors.{key, index, Listed, compare_positions, compare_steps, compare}
use Rattle.juniper_conversions.specs.SegmentView.{view_segment}
use Rattle.juniper_conversions.specs.declared.segment.PathSegment.{PathSegment}
use Rattle.juniper_conversions.specs.declared.segment.PathSegment.TheVariants.{Index, Key}
use Rattle.juniper_conversions.specs.contracts.segment.PathSegmentOrd.TheImpl as segments
use Rattle.graphql_spec.proofs.ErrorOrder.{names_total, positions_total, steps_total}

-- ## What compares equal

both_equal : (a b : Ordering) → ordering_then a b ≡ Equal → (a ≡ Equal) × (b ≡ Equal)
both_equal Less b e = cc
both_equal Equal b e = (refl, e)
both_equal Greater b e = cc

own_reverse : (o : Ordering) → o ≡ ordering_reverse o → o ≡ Equal
own_reverse Less e = cc
own_reverse Equal e = refl
own_reverse Greater e = cc

itself : {K : Type 0} {R : K → K → Ordering} → IsTotalOrder R → (x : K) → R x x ≡ Equal
itself total x = own_reverse _ (total.antisymm x x)

lists_exact : {K : Type 0} {R : K → K → Ordering} → CmpEqualImpliesEq R → CmpEqualImpliesEq (slice_cmp R)
lists_exact exact [] [] e = refl
lists_exact exact [] (y ∷ ys) e = cc
lists_exact exact (x ∷ xs) [] e = cc
lists_exact {R = R} exact (x ∷ xs) (y ∷ ys) e =
    let both = both_equal (R x y) (slice_cmp R xs ys) e in ap₂ (λ z zs. z ∷ zs) (exact x y both.0) (lists_exact exact xs ys both.1)

steps_exact : CmpEqualImpliesEq compare_steps
unfolding compare_steps
steps_exact (index n) (index m) e = ap index (exact_unsigned n m e)
steps_exact (index n) (key k) e = cc
steps_exact (key k) (index m) e = cc
steps_exact (key k) (key j) e = ap key (exact_bytes k j e)

positions_exact : CmpEqualImpliesEq compare_positions
unfolding compare_positions
positions_exact p q e =
    let first = both_equal (nat_cmp p.index q.index) (ordering_then (nat_cmp p.line q.line) (nat_cmp p.column q.column)) e in
    let second = both_equal (nat_cmp p.line q.line) (nat_cmp p.column q.column) first.1 in
    λ i. record {
      index = exact_unsigned p.index q.index first.0 i;
      line = exact_unsigned p.line q.line second.0 i;
      column = exact_unsigned p.column q.column second.1 i;
    }

pub errors_equal : (a b : Listed) → compare a b ≡ Equal → (a.start ≡ b.start) × (a.path ≡ b.path) × (a.error.message ≡ b.error.message)
unfolding compare
errors_equal a b e =
    let first = both_equal (compare_positions a.start b.start) (ordering_then (slice_cmp compare_steps a.path b.path)
    (slice_cmp nat_cmp a.error.message b.error.message)) e in
    let second = both_equal (slice_cmp compare_steps a.path b.path) (slice_cmp nat_cmp a.error.message b.error.message) first.1 in
    (positions_exact a.start b.start first.0, lists_exact steps_exact a.path b.path second.0, exact_bytes a.error.message b.error.message second.1)

pub errors_same : (a b : Listed) → a.start ≡ b.start → a.path ≡ b.path → a.error.message ≡ b.error.message → compare a b ≡ Equal
unfolding compare
errors_same a b start path message =
    rw (start, path, message, itself positions_total b.start, itself (lists_total steps_total) b.path) (itself names_total b.error.message)

-- ## The code's parts

then_assoc : (a b c : Ordering) → ordering_then (ordering_then a b) c ≡ ordering_then a (ordering_then b c)
then_assoc Less b c = refl
then_assoc Equal b c = refl
then_assoc Greater b c = refl

-- segments go as the steps that they are
segment_compare : (x y : PathSegment) → (segments.ghosts).cmp x y ≡ compare_steps (view_segment x) (view_segment y)
unfolding compare_steps
segment_compare (Index n) (Index m) = refl
segment_compare (Index n) (Key k) = refl
segment_compare (Key k) (Index m) = refl
segment_compare (Key k) (Key j) = refl

path_compare : (xs ys : List PathSegment) → slice_cmp (segments.ghosts).cmp xs ys ≡ slice_cmp compare_steps (map view_segment xs) (map view_segment ys)
path_compare [] [] = refl
path_compare [] (y ∷ ys) = refl
path_compare (x ∷ xs) [] = refl
path_compare (x ∷ xs) (y ∷ ys) = ap₂ ordering_then (segment_compare x y) (path_compare xs ys)

-- by place, then by segments, then by message
pub compares : (a b : Listed) (xs ys : List PathSegment) → a.path ≡ map view_segment xs → b.path ≡ map view_segment ys
    → ordering_then (ordering_then (ordering_then (nat_cmp a.start.index b.start.index)
    (ordering_then (nat_cmp a.start.line b.start.line) (nat_cmp a.start.column b.start.column))) (slice_cmp (segments.ghosts).cmp xs ys))
    (slice_cmp nat_cmp a.error.message b.error.message) ≡ compare a b
unfolding compare compare_positions
compares a b xs ys p q = rw (p, q, path_compare xs ys) (simp then_assoc)
