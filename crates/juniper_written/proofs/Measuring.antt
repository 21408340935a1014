-- What holds of fields and of levels alike: a number that is cut at the greatest can be joined as well as the number itself.
use Rattle.std.specs.Prelude.{ℕ, suc, ◌≤◌, min, true, List, ◌≡◌}
use Rattle.std.proofs.Common.{refl, inl, inr, sym, ap, arith}
use Rattle.std.proofs.lemmas.Bool.{cases_Bool}
use Rattle.graphql_spec.specs.Documents.{Fragment, Selections}
use Rattle.graphql_spec.specs.Fragments.{expand}
use Rattle.graphql_spec.specs.Selections.{Forest, end, field, under}
use Rattle.juniper_written.specs.ExpandedFields.{expanded_fields, fields_in, is_endless}
use Rattle.juniper_written.specs.ExpandedLevels.{expanded_levels, nested}
use Rattle.juniper_written.specs.Measures.{Measure, of_fields, of_levels, expanded_number, join, measured, put_in}

-- ## Joining

pub join-left : (m : Measure) (a b : ℕ) → a ≤ join m a b
unfolding join
join-left of_fields a b = omega arith
join-left of_levels a b = omega arith

pub join-right : (m : Measure) (a b : ℕ) → b ≤ join m a b
unfolding join
join-right of_fields a b = omega arith
join-right of_levels a b = omega arith

pub join-zero : (m : Measure) (b : ℕ) → join m 0 b ≡ b
unfolding join
join-zero of_fields b = omega arith
join-zero of_levels b = omega arith

pub join-none : (m : Measure) (a : ℕ) → join m a 0 ≡ a
unfolding join
join-none of_fields a = omega arith
join-none of_levels a = omega arith

pub join-assoc : (m : Measure) (a b c : ℕ) → join m (join m a b) c ≡ join m a (join m b c)
unfolding join
join-assoc of_fields a b c = omega arith
join-assoc of_levels a b c = omega arith

pub join-grows : (m : Measure) (a b c d : ℕ) → a ≤ c → b ≤ d → join m a b ≤ join m c d
unfolding join
join-grows of_fields a b c d p q = omega (arith, p, q)
join-grows of_levels a b c d p q = omega (arith, p, q)

-- numbers that are cut to the same are joined to what is cut to the same
pub join-cut : (m : Measure) (most a b c d : ℕ) → min most a ≡ min most c → min most b ≡ min most d → min most (join m a b) ≡ min most (join m c d)
unfolding join
join-cut of_fields most a b c d p q = omega (arith, p, q)
join-cut of_levels most a b c d p q = omega (arith, p, q)

-- ## Putting in

pub put-more : (m : Measure) (a : ℕ) → a ≤ put_in m a
unfolding put_in
put-more of_fields a = omega arith
put-more of_levels a = omega arith

pub put-grows : (m : Measure) (a b : ℕ) → a ≤ b → put_in m a ≤ put_in m b
unfolding put_in
put-grows of_fields a b p = p
put-grows of_levels a b p = omega (arith, p)

pub put-cut : (m : Measure) (most a b : ℕ) → min most a ≡ min most b → min most (put_in m a) ≡ min most (put_in m b)
unfolding put_in
put-cut of_fields most a b p = p
put-cut of_levels most a b p = omega (arith, p)

pub suc-cut : (most a b : ℕ) → min most a ≡ min most b → min most (suc a) ≡ min most (suc b)
suc-cut most a b p = omega (arith, p)

-- what is cut is cut no further
pub cut-once : (most a : ℕ) → min most (min most a) ≡ min most a
cut-once most a = omega arith

-- ## The two numbers

pub fields-measured : (f : Forest) → fields_in f ≡ measured of_fields f
unfolding fields_in measured join put_in
fields-measured end = refl
fields-measured (field h below rest) = let b = fields-measured below in let t = fields-measured rest in omega (arith, b, t)
fields-measured (under c below rest) = let b = fields-measured below in let t = fields-measured rest in omega (arith, b, t)

pub nested-measured : (f : Forest) → nested f ≡ measured of_levels f
unfolding nested measured join put_in
nested-measured end = refl
nested-measured (field h below rest) = let b = nested-measured below in let t = nested-measured rest in omega (arith, b, t)
nested-measured (under c below rest) = let b = nested-measured below in let t = nested-measured rest in omega (arith, b, t)

pub fields-expanded : (most : ℕ) (fragments : List Fragment) (s : Selections) →
    expanded_number of_fields most fragments s ≡ expanded_fields most fragments s
unfolding expanded_number expanded_fields
fields-expanded most fragments s = let e = fields-measured (expand (λ d. true) fragments s) in
    elim (cases_Bool (is_endless fragments s)) [ inl q ↦ rw q refl | inr q ↦ rw q (ap (min most) (sym e)) ]

pub levels-expanded : (most : ℕ) (fragments : List Fragment) (s : Selections) →
    expanded_number of_levels most fragments s ≡ expanded_levels most fragments s
unfolding expanded_number expanded_levels
levels-expanded most fragments s = let e = nested-measured (expand (λ d. true) fragments s) in
    elim (cases_Bool (is_endless fragments s)) [ inl q ↦ rw q refl | inr q ↦ rw q (ap (min most) (sym e)) ]
