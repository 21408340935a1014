-- Fragments in an order in which each stands behind those that it spreads (5.5.2.2).
use Rattle.std.specs.Prelude.{ℕ, Bool, true, false, not, ◌||◌, List, [], ◌∷◌, ◌++◌, length, Option, Some, None, is_some, Vec, ◌≡◌}
use Rattle.std.specs.Borrow.{Bor}
use Rattle.std.specs.List.{list_all}
use Rattle.std.specs.Set.{is_member}
use Rattle.std.specs.Str.{bytes_eq}
use Rattle.std.specs.declared.alloc.Global.{Global}
use Rattle.graphql_spec.specs.Shown.{Name}
use Rattle.graphql_spec.specs.Documents.{Fragment}
use Rattle.graphql_spec.specs.Fragments.{deep, fragment_of, spreads, spreads_in}
use Rattle.graphql_spec.specs.Laws.{In}
use Rattle.juniper_written.specs.declared.name_map.NameMap.{NameMap}
use Rattle.juniper_written.specs.SpreadsView.{names_or_none, spread_by}

module _ (fs : List Fragment) where
  -- the fragment is the first of its name, stands nowhere before, and what it spreads, so far as it is known, does
  pub record StandsBehind (before : List Fragment) (f : Fragment) : Type 0 where
    pub first : fragment_of fs f.name.item ≡ Some f
    pub once : In f before → ⊥
    pub spread : (k : Name) (g : Fragment) → In k (spreads f.selections) → fragment_of fs k ≡ Some g → In g before

  -- so does each fragment of the list, where some stand before it
  abbrev pub StandBehind : List Fragment → List Fragment → Type 0
  StandBehind before [] = Unit {0}
  StandBehind before (f ∷ rest) = StandsBehind before f × StandBehind (before ++ f ∷ []) rest

  -- each fragment of the list stands behind those that it spreads, and all stand there but those that lead to a cycle: from
  -- these a chain of spreads is longer than the list of fragments
  pub record IsInOrder (order : List Fragment) : Type 0 where
    pub behind : StandBehind [] order
    pub all : (k : Name) (f : Fragment) → fragment_of fs k ≡ Some f → deep fs (length fs) k ≡ false → In f order

-- ## Only private clauses cite what follows

-- a name is among names
abbrev pub is_among : List Name → Name → Bool
is_among = is_member bytes_eq

-- the fragment of a name spreads only names that are taken, or no fragment's
unfoldable pub is_ready : NameMap (Vec (Bor (List ℕ)) Global) → (Name → Bool) → Name → Bool
is_ready m taken k = list_all (λ n. taken n || not (is_some (spread_by m n))) (names_or_none (spread_by m k))

module _ (fs : List Fragment) where
  -- the name stands nowhere before, and the fragments' names that its own spreads do
  abbrev pub Follows : List Name → Name → Type 0
  Follows before k = (is_among before k ≡ false)
      × ((i : Name) → is_among (spreads_in (fragment_of fs k)) i ≡ true → is_some (fragment_of fs i) ≡ true → is_among before i ≡ true)

  -- so does each name of the list, where some stand before it
  abbrev pub Follow : List Name → List Name → Type 0
  Follow before [] = Unit {0}
  Follow before (k ∷ ks) = Follows before k × Follow (before ++ k ∷ []) ks

  -- the names that are taken, in the order in which they were
  pub record IsTaken (taken : Name → Bool) (order : List Name) : Type 0 where
    pub behind : Follow [] order
    pub same : (k : Name) → taken k ≡ is_among order k

  -- each name of the list stands behind those that its fragment spreads, and those of all fragments but the ones that lead
  -- to a cycle stand there
  pub record AreInOrder (order : List Name) : Type 0 where
    pub behind : Follow [] order
    pub all : (k : Name) → is_some (fragment_of fs k) ≡ true → deep fs (length fs) k ≡ false → is_among order k ≡ true

  -- before the others, if it is there
  unfoldable pub put : Option Fragment → List Fragment → List Fragment
  put None rest = rest
  put (Some f) rest = f ∷ rest

  -- the fragments of names
  unfoldable pub found : List Name → List Fragment
  found [] = []
  found (k ∷ ks) = put (fragment_of fs k) (found ks)
