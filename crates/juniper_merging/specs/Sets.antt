-- Sets of fields that grow in number, and what is gathered to be one of them.
use Rattle.std.specs.Prelude.{ℕ, List, ◌++◌, Some, length, ◌≡◌, ◌<◌}
use Rattle.std.specs.List.{slice_get}
use Rattle.graphql_spec.specs.Laws.{In}
use Rattle.juniper_merging.specs.Standing.{AreAlike}
use Rattle.juniper_merging.specs.Tables.{joined, set_of, table_of}
use Rattle.juniper_merging.specs.declared.sets.FieldSet.{FieldSet}
use Rattle.juniper_merging.specs.declared.sets.Gathering.{Gathering}

-- the table has something at the number
abbrev pub IsInside : List (List ℕ) → ℕ → Type 0
IsInside t i = (l : List ℕ) × (slice_get t i ≡ Some l)

-- what the one table has at a number, the other has there
abbrev pub Extends : List (List ℕ) → List (List ℕ) → Type 0
Extends t u = (i : ℕ) (l : List ℕ) → slice_get t i ≡ Some l → slice_get u i ≡ Some l

-- each set is made of sets before it
pub record IsTable (xs : List FieldSet) : Type 0 where
  pub count : length (table_of xs) ≡ length xs
  pub held : (i : ℕ) (s : FieldSet) → slice_get xs i ≡ Some s → slice_get (table_of xs) i ≡ Some (set_of (table_of xs) s)
  pub before : (i : ℕ) (s : FieldSet) (p : ℕ) → slice_get xs i ≡ Some s → In p s.parts.items → p < i

-- all of these fields were gathered, in some order
pub record IsSetOf (t : List (List ℕ)) (g : Gathering) (all : List ℕ) : Type 0 where
  pub inside : (i : ℕ) → In i g.parts.items → IsInside t i
  pub alike : AreAlike (λ x i. x ≡ i) all (g.fields.items ++ joined t g.parts.items)

-- a set of all of these fields is there at a number, beside those that were
pub record IsPut (xs ys : List FieldSet) (all : List ℕ) (i : ℕ) : Type 0 where
  pub table : IsTable ys
  pub more : Extends (table_of xs) (table_of ys)
  pub kept : List ℕ
  pub there : slice_get (table_of ys) i ≡ Some kept
  pub alike : AreAlike (λ x i. x ≡ i) all kept
