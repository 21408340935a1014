-- What fields select is nested less deep than the selections that hold them.
use Rattle.std.proofs.Common.{◌≡◌, ℕ, ◌≤◌, ◌<◌, Bool, List, [], ◌∷◌, ◌++◌, refl, ap, inl, inr, arith}
use Rattle.graphql_spec.specs.Shown.{Name}
use Rattle.graphql_spec.specs.Selections.{Forest, depth, Occurrence, occurrences}
use Rattle.graphql_spec.specs.Laws.{In}
use Rattle.graphql_spec.proofs.Deepening.{fields-are-shallower}
use Rattle.juniper_twin.specs.Walking.{deepest}

deepest-within : (d : ℕ) (os : List Occurrence) → ((o : Occurrence) → In o os → depth o.below < d) → deepest os ≤ d
unfolding deepest
deepest-within d [] h = omega arith
deepest-within d (o ∷ os) h = let a = h o (inl refl) in let b = deepest-within d os (λ p i. h p (inr i)) in omega (arith, a, b)

-- the fields that selections hold
pub deepest-of : (possible : Name → Name → Bool) (T : Name) (s : Forest) → deepest (occurrences possible T s) ≤ depth s
deepest-of possible T s = deepest-within (depth s) (occurrences possible T s) (λ o i. fields-are-shallower possible T s o i)

pub shallower-than : (all front rest : List Occurrence) (o : Occurrence) → all ≡ front ++ o ∷ rest → depth o.below < deepest all
unfolding deepest
shallower-than all [] rest o e = let d = ap deepest e in omega (arith, d)
shallower-than all (p ∷ front) rest o e = let d = ap deepest e in let b = shallower-than (front ++ o ∷ rest) front rest o refl in omega (arith, d, b)

pub in-all : (all front rest : List Occurrence) (o : Occurrence) → all ≡ front ++ o ∷ rest → In o all
in-all all [] rest o e = rw e (inl refl)
in-all all (p ∷ front) rest o e = rw e (inr (in-all (front ++ o ∷ rest) front rest o refl))
