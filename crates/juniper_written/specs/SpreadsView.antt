-- How maps of spreads are seen.
use Rattle.std.specs.Prelude.{◌≡◌, ℕ, zero, suc, ◌≤◌, Bool, true, false, List, [], ◌∷◌, length, Option, Some, None, option_map, Vec}
use Rattle.std.specs.Borrow.{Bor}
use Rattle.std.specs.Set.{is_member}
use Rattle.std.specs.Str.{bytes_eq}
use Rattle.std.specs.declared.alloc.Global.{Global}
use Rattle.graphql_spec.specs.Shown.{Shown, Name}
use Rattle.graphql_spec.specs.Documents as spec
use Rattle.graphql_spec.specs.Documents.{Document, fragments}
use Rattle.graphql_spec.specs.Fragments.{fragment_of, spreads, spreads_in}
use Rattle.graphql_spec.specs.VariableUses.{is_reached}
use Rattle.juniper_syntax.specs.declared.position.Spanning.{Spanning}
use Rattle.juniper_syntax.specs.declared.position.Span.{Span}
use Rattle.juniper_syntax.specs.DocumentView.{view_fragment}
use Rattle.juniper_syntax.specs.declared.ast.Fragment.{Fragment}
use Rattle.juniper_written.specs.WrittenView.{named, view_names}
use Rattle.juniper_written.specs.declared.name_map.NameMap.{NameMap}
use Rattle.juniper_written.specs.declared.by_name.FragmentsByName.{FragmentsByName}
use Rattle.juniper_written.specs.declared.groups.Root.{Root}

-- what the fragment of a name spreads, where there is one
unfoldable pub spread_by : NameMap (Vec (Bor (List ℕ)) Global) → Name → Option (List Name)
spread_by m k = option_map (λ v. view_names v.items) (named m k)

-- what the first fragment of a name spreads, where there is one (2.8)
unfoldable pub spreads_at : List spec.Fragment → Name → Option (List Name)
spreads_at fs k = option_map (λ f. spreads f.selections) (fragment_of fs k)

-- the map has at each name what its first fragment spreads (2.8)
abbrev pub AreSpreadsOf : NameMap (Vec (Bor (List ℕ)) Global) → List spec.Fragment → Type 0
AreSpreadsOf m fs = (k : Name) → spread_by m k ≡ spreads_at fs k

-- the number of a root, and 0 where there is none
unfoldable pub rank_of : Option Root → ℕ
rank_of None = zero
rank_of (Some x) = x.number

module _ (m : NameMap Root) (fs : List spec.Fragment) where
  -- a root is the fragment itself, or leads to it
  abbrev pub RootLeads : Type 0
  RootLeads = (k : Name) (x : Root) → named m k ≡ Some x → is_reached fs (x.name.now ∷ []) k ≡ true

  -- and the fragment leads to it
  abbrev pub LeadToRoot : Type 0
  LeadToRoot = (k : Name) (x : Root) → named m k ≡ Some x → is_reached fs (k ∷ []) x.name.now ≡ true

  -- the fragments of one root lead to one another, and none spreads one whose root has a greater number (5.5.2.2)
  pub record AreGroups : Type 0 where
    pub onward : RootLeads
    pub back : LeadToRoot
    pub falls : (k i : Name) → is_member bytes_eq (spreads_in (fragment_of fs k)) i ≡ true → rank_of (named m i) ≤ rank_of (named m k)

module _ {S : Type 0} (shown : S → Shown) where
  -- the fragment that the map has at a name
  unfoldable pub fragment_at : NameMap (Bor (Spanning (Fragment S) Span)) → Name → Option spec.Fragment
  fragment_at m k = option_map (λ f. view_fragment shown f.now) (named m k)

  -- the fragments are those of the document, of those of one name the first, and so are their spreads (2.8)
  pub record AreFragmentsOf (r : FragmentsByName S) (d : Document) : Type 0 where
    pub named : (k : Name) → fragment_at r.fragments k ≡ fragment_of (fragments d) k
    pub spread : AreSpreadsOf r.spreads (fragments d)
    pub groups : AreGroups r.groups (fragments d)

-- ## Only private clauses cite what follows

-- the names, if any
unfoldable pub names_or_none : Option (List Name) → List Name
names_or_none None = []
names_or_none (Some ks) = ks

-- the steps of a fragment: one for each spread, and one to leave it
unfoldable pub step_count : Option (List Name) → ℕ
step_count None = zero
step_count (Some ks) = suc (length ks)

-- whether a fragment's root has this name
unfoldable pub has_root : Name → Option Root → Bool
has_root k None = false
has_root k (Some x) = bytes_eq x.name.now k

-- the fragment of a name spreads none whose root has a greater number
abbrev pub Falls : NameMap (Vec (Bor (List ℕ)) Global) → NameMap Root → Name → Type 0
Falls m groups k = (i : Name) → is_member bytes_eq (names_or_none (spread_by m k)) i ≡ true → rank_of (named groups i) ≤ rank_of (named groups k)
