-- Numbers of names: of response keys, and of calls.
use Rattle.std.specs.Prelude.{ℕ, List, Option, Some, ◌≡◌, ◌⊎◌, ◌<◌}
use Rattle.std.specs.Borrow.{Bor}
use Rattle.std.specs.BTreeMap.{BTreeMap, get_by}
use Rattle.std.specs.Cmp.Lexicographic.{slice_cmp}
use Rattle.std.specs.Ordering.{nat_cmp, ordering_then}
use Rattle.graphql_spec.specs.Shown.{Name}
use Rattle.juniper_syntax.specs.NameNumbers.{name_number}

-- a name has a number in the new list, which it had, or which is n; all else stays
pub record IsNumbered {K : Type 0} (name : K) (key n : ℕ) (old new : K → Option ℕ) : Type 0 where
  pub own : new name ≡ Some key
  pub grown : (k : K) (m : ℕ) → old k ≡ Some m → new k ≡ Some m
  pub only : (k : K) (m : ℕ) → new k ≡ Some m → (old k ≡ Some m) ⊎ ((k ≡ name) × (m ≡ n))

-- no two names have one number, and each number is less than n
pub record AreOneEach {K : Type 0} (numbers : K → Option ℕ) (n : ℕ) : Type 0 where
  pub apart : (k l : K) (m : ℕ) → numbers k ≡ Some m → numbers l ≡ Some m → k ≡ l
  pub least : (k : K) (m : ℕ) → numbers k ≡ Some m → m < n

-- the number that a map has at a name, which stands at the number that is made of it
unfoldable pub number_at : BTreeMap (ℕ × Bor (List ℕ)) ℕ → Name → Option ℕ
number_at m k = get_by (λ p. ordering_then (nat_cmp (name_number k) p.0) (slice_cmp nat_cmp k p.1.now)) m
