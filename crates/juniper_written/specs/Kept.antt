-- How numbers are kept, fragment by fragment; only private clauses cite these.
use Rattle.std.specs.Prelude.{◌≡◌, ◌-◌, ◌^◌, ℕ, suc, min, true, List, cond, length, Option, Some, None, is_some, option_map}
use Rattle.std.specs.Borrow.{Bor}
use Rattle.std.specs.BTreeMap.{BTreeMap, get_by}
use Rattle.std.specs.Cmp.Lexicographic.{slice_cmp}
use Rattle.std.specs.Ordering.{nat_cmp}
use Rattle.std.specs.Str.{bytes_eq}
use Rattle.graphql_spec.specs.Shown.{Name}
use Rattle.graphql_spec.specs.Documents as documents
use Rattle.graphql_spec.specs.Documents.{Document, Fragment, Selections, end, field, inline, spread}
use Rattle.graphql_spec.specs.Fragments.{Contents, contents, deep, fragment_of}
use Rattle.juniper_written.specs.Measures.{Measure, join, measured, number, put_in}
use Rattle.juniper_written.specs.declared.counts.Counts.{Counts}

-- the number of what a name stands for
unfoldable pub number_behind : Measure → Option Contents → ℕ
number_behind m None = 0
number_behind m (Some c) = put_in m (measured m c.selections)

-- the number of a name's fragment with every spread put in; `most` where there are more, or no end of them
unfoldable pub whole_at : Measure → ℕ → List Fragment → Name → ℕ
whole_at m most fragments k =
    cond (deep fragments (length fragments) k) most (min most (number_behind m (contents (λ d. true) fragments (length fragments) k)))

-- the number of selections, where each spread has as many as `at` says of its name
unfoldable pub number_by : Measure → (Name → ℕ) → Selections → ℕ
number_by m at end = 0
number_by m at (field h below rest) = join m (suc (number_by m at below)) (number_by m at rest)
number_by m at (spread x rest) = join m (at x.name.item) (number_by m at rest)
number_by m at (inline x below rest) = join m (put_in m (number_by m at below)) (number_by m at rest)

-- the number that is kept, else `most` for a fragment
unfoldable pub kept_or : ℕ → Option Fragment → Option ℕ → ℕ
kept_or most o (Some n) = n
kept_or most o None = cond (is_some o) most 0

-- what a name stands for where these numbers are kept
unfoldable pub weight_at : ℕ → List Fragment → (Name → Option ℕ) → Name → ℕ
weight_at most fragments kept k = kept_or most (fragment_of fragments k) (kept k)

-- the number that is kept for a name
unfoldable pub kept_at : Measure → BTreeMap (Bor (List ℕ)) Counts → Name → Option ℕ
kept_at m kept k = option_map (number m) (get_by (λ n. slice_cmp nat_cmp k n.now) kept)

-- ## In a document, where no number is larger than `u64` holds

-- what a name stands for, by what is kept
abbrev pub weight_in : Measure → Document → BTreeMap (Bor (List ℕ)) Counts → Name → ℕ
weight_in m d kept k = weight_at (2 ^ 64 - 1) (documents.fragments d) (kept_at m kept) k

-- the number of selections, by what is kept
abbrev pub number_in : Measure → Document → BTreeMap (Bor (List ℕ)) Counts → Selections → ℕ
number_in m d kept set = number_by m (weight_at (2 ^ 64 - 1) (documents.fragments d) (kept_at m kept)) set

-- what is kept, with the number of a fragment at its name
abbrev pub kept_with : Measure → Document → BTreeMap (Bor (List ℕ)) Counts → Fragment → Name → Option ℕ
kept_with m d kept f k = cond (bytes_eq f.name.item k) (Some (min (2 ^ 64 - 1) (put_in m (number_in m d kept f.selections)))) (kept_at m kept k)

-- each name stands for its fragment's number with every spread put in
abbrev pub AreWhole : Measure → Document → BTreeMap (Bor (List ℕ)) Counts → Type 0
AreWhole m d kept = (k : Name) → weight_in m d kept k ≡ whole_at m (2 ^ 64 - 1) (documents.fragments d) k
