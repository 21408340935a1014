-- Names by numbers, and which numbers others lead to.
use Rattle.std.specs.Prelude.{◌≡◌, ◌<◌, ◌+◌, ℕ, zero, suc, Bool, true, false, not, List, [], ◌++◌, length, get_or, map, Some, Vec, ◌⊎◌}
use Rattle.std.specs.List.{count_by, flat_map}
use Rattle.std.specs.Option.{option_to_list}
use Rattle.std.specs.declared.alloc.Global.{Global}
use Rattle.graphql_spec.specs.Shown.{Name}
use Rattle.graphql_spec.specs.Documents.{Fragment}
use Rattle.graphql_spec.specs.Fragments.{fragment_of, spreads_in}
use Rattle.graphql_spec.specs.Laws.{In}
use Rattle.juniper_written.specs.WrittenView.{named}
use Rattle.juniper_written.specs.declared.name_map.NameMap.{NameMap}

-- ## Names

-- the names of fragments, in order
abbrev pub names_of : List Fragment → List Name
names_of = map (λ f. f.name.item)

-- each of the names has a number, and each number is the place of its name
pub record AreNumbers (m : NameMap ℕ) (ks : List Name) : Type 0 where
  pub place : (k : Name) (i : ℕ) → named m k ≡ Some i → (i < length ks) × (get_or ks i [] ≡ k)
  pub all : (k : Name) → In k ks → (i : ℕ) × (named m k ≡ Some i)

-- the numbers of names, of those that have one
unfoldable pub numbers_at : NameMap ℕ → List Name → List ℕ
numbers_at m ks = flat_map (λ k. option_to_list (named m k)) ks

-- the numbers of what the first fragment of a name spreads
abbrev pub spread_numbers_of : NameMap ℕ → List Fragment → Name → List ℕ
spread_numbers_of m fs k = numbers_at m (spreads_in (fragment_of fs k))

-- ## Numbers

abbrev pub view_lists : List (Vec ℕ Global) → List (List ℕ)
view_lists = map (λ v. v.items)

-- the number is marked
abbrev pub IsMarked : List Bool → ℕ → Type 0
IsMarked marks i = get_or marks i false ≡ true

module _ (lists : List (List ℕ)) (starts : List ℕ) where
  -- it is a start, or a start leads to it in so many steps at most, one from a number to each that its list has
  unfoldable pub IsNear : ℕ → ℕ → Type 0
  IsNear zero i = In i starts
  IsNear (suc n) i = IsNear n i ⊎ ((j : ℕ) × IsNear n j × In i (get_or lists j []))

  -- those that are marked are the starts, of the numbers that have lists, and those that they lead to
  pub record IsReach (marks : List Bool) : Type 0 where
    pub first : (i : ℕ) → i < length lists → In i starts → IsMarked marks i
    pub further : (i j : ℕ) → IsMarked marks i → j < length lists → In j (get_or lists i []) → IsMarked marks j
    pub near : (i : ℕ) → IsMarked marks i → IsNear (length lists) i

-- ## Only private clauses cite what follows

-- the list has the numbers below n that are marked, each once
pub record IsFound (n : ℕ) (marks : List Bool) (order : List ℕ) : Type 0 where
  pub size : length marks ≡ n
  pub count : count_by not marks + length order ≡ n
  pub marked : (i : ℕ) → IsMarked marks i → In i order
  pub listed : (i : ℕ) → In i order → IsMarked marks i

-- the numbers below n are added behind a list, and no others
pub record Adds (n : ℕ) (numbers old new : List ℕ) : Type 0 where
  pub more : List ℕ
  pub is : new ≡ old ++ more
  pub only : (i : ℕ) → In i more → In i numbers
  pub all : (i : ℕ) → i < n → In i numbers → In i new
