-- Which logs a step may leave for which memory was wanting.
use Rattle.std.proofs.Common.{◌≡◌, Bool, ◌||◌, true, false, List, refl, ap}
use Rattle.std.proofs.lemmas.Slice.Eq.{slice_eq-Decides, bytes_eq-Decides}
use Rattle.std.specs.Cmp.Lexicographic.{pointwise}
use Rattle.std.specs.Str.{bytes_eq}
use Rattle.graphql_spec.specs.Shown.{Text}
use Rattle.juniper_refusal_tests.specs.Logs.{Entries, begun, torn, with_entry}

are_same : (ts : List Text) → pointwise bytes_eq ts ts ≡ true
are_same ts = (slice_eq-Decides bytes_eq-Decides ts ts (pointwise bytes_eq ts ts) refl).1 refl

-- one of two is true where the second is
or_second : (a b : Bool) → b ≡ true → (a || b) ≡ true
or_second true b h = refl
or_second false b h = h

-- none of the two entries
pub torn_none : (c : Entries) → torn c c ≡ true
torn_none c = ap (λ b. b || pointwise bytes_eq c.entries (with_entry c begun).entries) (are_same c.entries)

-- the first of them
pub torn_first : (c : Entries) → torn c (with_entry c begun) ≡ true
torn_first c = or_second (pointwise bytes_eq (with_entry c begun).entries c.entries)
    (pointwise bytes_eq (with_entry c begun).entries (with_entry c begun).entries) (are_same (with_entry c begun).entries)
