-- Numbers that stand for the fields of selections, and for those of the sets that are written in them; only private clauses
-- cite what stands here.
use Rattle.std.specs.Prelude.{ℕ, zero, Bool, true, cond, false, List, [], ◌∷◌, ◌++◌, Option, Some, None, Vec, map, option_map, ◌≡◌, ◌⊎◌}
use Rattle.std.specs.Borrow.{Bor}
use Rattle.std.specs.BTreeMap.{BTreeMap, get_by}
use Rattle.std.specs.Cmp.Lexicographic.{slice_cmp}
use Rattle.std.specs.List.{slice_get}
use Rattle.std.specs.Ordering.{nat_cmp}
use Rattle.std.specs.Str.{bytes_eq}
use Rattle.std.specs.declared.alloc.Global.{Global}
use Rattle.std.specs.declared.cmp.PartialEq.{Ghosts as Equality}
use Rattle.std.specs.declared.fmt.Debug.{Ghosts as Shows}
use Rattle.graphql_spec.specs.Shown.{Shown, Name}
use Rattle.graphql_spec.specs.Documents.{Definition, Document, Fragment, Head, Selections, fragment, operation, written}
use Rattle.graphql_spec.specs.Fields.{declared_type}
use Rattle.graphql_spec.specs.Fragments.{HasNoCycle, fragment_of, spreads}
use Rattle.graphql_spec.specs.Placed.{root_type}
use Rattle.graphql_spec.specs.Rules.{cannot_merge}
use Rattle.graphql_spec.specs.Schema.{Schema}
use Rattle.graphql_spec.specs.Types.{TypeRef}
use Rattle.graphql_spec.specs.Written.{arguments_repeat, heads, selections_of}
use Rattle.graphql_spec.specs.Laws.{In}
use Rattle.graphql_spec.specs.ValidityLaws.{HasGoodNames, PlacedSet, sets_below, sets_from}
use Rattle.juniper_merging.specs.MergingGraph.{FieldAt, set_merges_at}
use Rattle.juniper_merging.specs.Sets.{Extends, IsInside, IsSetOf}
use Rattle.juniper_merging.specs.Standing.{AreAlike, Covers, Grows}
use Rattle.juniper_merging.specs.Tables.{below_in, set_at}
use Rattle.juniper_merging.specs.declared.sets.Gathering.{Gathering}
use Rattle.juniper_meta.specs.MetaView.{view_type}
use Rattle.juniper_schema.specs.SchemaView.{view_schema}
use Rattle.juniper_syntax.specs.declared.scalar.ScalarValue.{Ghosts as Scalars}
use Rattle.juniper_written.specs.Order.{IsInOrder}
use Rattle.juniper_field_graph.specs.GraphView.{IsGraphOf, IsPushed, WhereFits, heads_of, table_in, vertices_of, written_of}
use Rattle.juniper_field_graph.specs.declared.gathering.Gathered.{Gathered}
use Rattle.juniper_field_graph.specs.declared.gathering.Known.{Known}
use Rattle.juniper_field_graph.specs.declared.graph.FieldGraph.{FieldGraph}

-- the number that a map has at a name
unfoldable pub set_named : BTreeMap (Bor (List ℕ)) ℕ → Name → Option ℕ
set_named m k = get_by (λ n. slice_cmp nat_cmp k n.now) m

-- the list that a map has at a name
unfoldable pub list_named : BTreeMap (Bor (List ℕ)) (Vec ℕ Global) → Name → Option (List ℕ)
list_named m k = option_map (λ v. v.items) (get_by (λ n. slice_cmp nat_cmp k n.now) m)

-- the elements of the one list stand to those of the other, each to its own
abbrev pub Pairwise : {A B : Type 0} → (A → B → Type 0) → List A → List B → Type 0
Pairwise R [] [] = zero ≡ zero
Pairwise R [] (y ∷ ys) = ⊥
Pairwise R (x ∷ xs) [] = ⊥
Pairwise R (x ∷ xs) (y ∷ ys) = R x y × Pairwise R xs ys

-- the sets of these numbers hold these fields
abbrev pub AreSets : List (List ℕ) → List ℕ → List (List ℕ) → Type 0
AreSets t bs ms = Pairwise (λ b m. slice_get t b ≡ Some m) bs ms

-- the fields of a set were put to what is gathered
abbrev pub IsPutTo : List (List ℕ) → Gathering → Gathering → ℕ → Type 0
IsPutTo t n m b = (all : List ℕ) → IsInside t b → IsSetOf t n all → IsSetOf t m (all ++ set_at t b)

-- the sets of a definition, if it has a type
unfoldable pub sets_if : Schema → Option Name → Selections → List PlacedSet
sets_if s None set = []
sets_if s (Some p) set = sets_from s p set

-- the sets of a definition
unfoldable pub sets_in : Schema → Definition → List PlacedSet
sets_in s (operation o) = sets_if s (root_type s o.kind) o.selections
sets_in s (fragment f) = sets_from s f.condition.item f.selections

-- the one list stands in the other, in a row
abbrev pub StandsIn : List ℕ → List ℕ → Type 0
StandsIn m n = (before : List ℕ) × (after : List ℕ) × (n ≡ before ++ (m ++ after))

module _ (s : Schema) (fs : List Fragment) (vs : List FieldAt) (words : ℕ → Head) where
  -- numbers of a set stand in these
  pub record IsPart (x : PlacedSet) (around : List ℕ) : Type 0 where
    pub own : List ℕ
    pub covers : Covers s vs words fs x.parent x.selections own
    pub stands : StandsIn own around

  -- so they do in numbers of a set for which one of these lists stands too; a set that holds no field may have no list
  pub record IsCovered (x : PlacedSet) (ns : List (List ℕ)) : Type 0 where
    pub outer : PlacedSet
    pub all : List ℕ
    pub part : IsPart x all
    pub covers : Covers s vs words fs outer.parent outer.selections all
    pub kept : List ℕ
    pub covers_kept : Covers s vs words fs outer.parent outer.selections kept
    pub listed : In kept ([] ∷ ns)

  -- each set is covered, and all lists are those of a set
  pub record AreCovered (sets : List PlacedSet) (ns : List (List ℕ)) : Type 0 where
    pub one : (x : PlacedSet) → In x sets → IsCovered x ns
    pub back : (n : List ℕ) → In n ns → (x : PlacedSet) × In x sets × Covers s vs words fs x.parent x.selections n

  -- the same, where sets of inline fragments are parts of what is gathered around them
  pub record AreCoveredIn (around : List ℕ) (sets : List PlacedSet) (ns : List (List ℕ)) : Type 0 where
    pub one : (x : PlacedSet) → In x sets → IsPart x around ⊎ IsCovered x ns
    pub back : (n : List ℕ) → In n ns → (x : PlacedSet) × In x sets × Covers s vs words fs x.parent x.selections n

  module _ (t : List (List ℕ)) where
    -- the set at a name stands for what its fragment holds
    abbrev pub HoldsFragment : Fragment → ℕ → Type 0
    HoldsFragment f b = (js : List ℕ) × (slice_get t b ≡ Some js) × Covers s vs words fs f.condition.item f.selections js

    -- there is none where no fragment has the name
    abbrev pub IsKnown : (Name → Option ℕ) → Name → Type 0
    IsKnown held k = ((held k ≡ None) × (fragment_of fs k ≡ None))
        ⊎ ((f : Fragment) × (b : ℕ) × (held k ≡ Some b) × (fragment_of fs k ≡ Some f) × HoldsFragment f b)

    -- the fragments that selections spread are known, and no field in them has an argument twice
    pub record IsReady (held : Name → Option ℕ) (set : Selections) : Type 0 where
      pub once : (h : Head) → In h (heads set) → arguments_repeat (written h.arguments) ≡ false
      pub known : (k : Name) → In k (spreads set) → IsKnown held k

module _ (s : Schema) (fs : List Fragment) (vs : List FieldAt) (words : ℕ → Head) where
  -- numbers and sets that, before those of what follows, are those of the whole; in each graph that has these vertices
  abbrev pub Leads : Name → Selections → Selections → List ℕ → List (List ℕ) → Type 0
  Leads p rest whole is ms = (ws : List FieldAt) (more : ℕ → Head) → Grows vs ws words more → (js : List ℕ) (ns : List (List ℕ)) →
      Covers s ws more fs p rest js → AreCoveredIn s fs ws more js (sets_below s p rest) ns →
      Covers s ws more fs p whole (is ++ js) × AreCoveredIn s fs ws more (is ++ js) (sets_below s p whole) (ms ++ ns)

module _ {S : Type 0} (shown : S → Shown) (s : Schema) where
  -- the graph has all that it had
  pub record IsMore (old new : FieldGraph S) : Type 0 where
    pub graph : IsGraphOf shown s new
    pub grows : Grows (vertices_of shown old) (vertices_of shown new) (heads_of shown old) (heads_of shown new)
    pub more : Extends (table_in shown old) (table_in shown new)

  -- what was gathered is a set of the graph, and its number was put to the sets; the fields are as they were
  pub record IsSetMade (old new : FieldGraph S) (sets then : List ℕ) (all : List ℕ) (b : ℕ) : Type 0 where
    pub graph : IsGraphOf shown s new
    pub same : vertices_of shown new ≡ vertices_of shown old
    pub words : written_of shown new ≡ written_of shown old
    pub more : Extends (table_in shown old) (table_in shown new)
    pub kept : List ℕ
    pub there : slice_get (table_in shown new) b ≡ Some kept
    pub alike : AreAlike (λ x i. x ≡ i) all kept
    pub added : then ≡ sets ++ b ∷ []

module _ {S : Type 0} (shown : S → Shown) (s : Schema) (fs : List Fragment) where
  abbrev pub IsReadyIn : FieldGraph S → (Name → Option ℕ) → Selections → Type 0
  IsReadyIn g = IsReady s fs (vertices_of shown g) (heads_of shown g) (table_in shown g)

  -- the graph grew by what stands in selections before the rest, and so did what is gathered, and the sets
  pub record IsGathered (old new : FieldGraph S) (sets then : List ℕ) (n m : Gathering) (p : Name) (rest whole : Selections) : Type 0 where
    pub grown : IsMore shown s old new
    pub is : List ℕ
    pub numbers : (all : List ℕ) → IsSetOf (table_in shown old) n all → IsSetOf (table_in shown new) m (all ++ is)
    pub bs : List ℕ
    pub ms : List (List ℕ)
    pub added : then ≡ sets ++ bs
    pub are : AreSets (table_in shown new) bs ms
    pub leads : Leads s fs (vertices_of shown new) (heads_of shown new) p rest whole is ms

  -- the graph grew by what stands in a set, for which the numbers stand; with the sets below it, it was put to the sets
  pub record IsSetGathered (old new : FieldGraph S) (sets then : List ℕ) (p : Name) (set : Selections) (n : List ℕ) : Type 0 where
    pub grown : IsMore shown s old new
    pub bs : List ℕ
    pub ms : List (List ℕ)
    pub added : then ≡ sets ++ bs
    pub are : AreSets (table_in shown new) bs ms
    pub stands : Covers s (vertices_of shown new) (heads_of shown new) fs p set n
    pub covered : AreCovered s fs (vertices_of shown new) (heads_of shown new) (sets_from s p set) ms

  -- the same, of the set of this number
  abbrev pub IsSetGatheredAt : FieldGraph S → FieldGraph S → List ℕ → List ℕ → Name → Selections → ℕ → Type 0
  IsSetGatheredAt old new sets then p set b = (n : List ℕ) × (slice_get (table_in shown new) b ≡ Some n) × IsSetGathered old new sets then p set n

  -- the same, where a field may select nothing
  abbrev pub IsBelowGathered : FieldGraph S → FieldGraph S → List ℕ → List ℕ → Name → Selections → Option ℕ → Type 0
  IsBelowGathered old new sets then p set below = ((b : ℕ) → below ≡ Some b → IsInside (table_in shown new) b)
      × IsSetGathered old new sets then p set (below_in (table_in shown new) below)

module _ (s : Schema) (fs : List Fragment) (vs : List FieldAt) (words : ℕ → Head) (t : List (List ℕ)) where
  -- sets at names stand for what their fragments hold; and the fragments before have some
  pub record AreHeld (held : Name → Option ℕ) (before : List Fragment) : Type 0 where
    pub right : (k : Name) (b : ℕ) → held k ≡ Some b → (f : Fragment) × (fragment_of fs k ≡ Some f) × HoldsFragment s fs vs words t f b
    pub there : (f : Fragment) → In f before → (b : ℕ) × (held f.name.item ≡ Some b)

  -- these are the numbers of the sets of a definition
  abbrev pub IsListed : Definition → List ℕ → Type 0
  IsListed x bs = (ms : List (List ℕ)) × AreSets t bs ms × AreCovered s fs vs words (sets_in s x) ms

  -- lists at names are those of the sets of their fragments
  abbrev pub AreListed : (Name → Option (List ℕ)) → Type 0
  AreListed lists = (k : Name) (bs : List ℕ) → lists k ≡ Some bs → (f : Fragment) × (fragment_of fs k ≡ Some f) × IsListed (fragment f) bs

-- no field of the fragments that names find has an argument twice
abbrev pub AreWritten : List Fragment → Type 0
AreWritten fs = (k : Name) (f : Fragment) → fragment_of fs k ≡ Some f → (h : Head) → In h (heads f.selections) → arguments_repeat (written h.arguments) ≡ false

module _ {S : Type 0} (shown : S → Shown) (s : Schema) (fs : List Fragment) where
  -- a fragment is held beside those before it
  pub record IsHeld (old new : FieldGraph S) (held more : Name → Option ℕ) (lists longer : Name → Option (List ℕ)) (f : Fragment) : Type 0 where
    pub grown : IsMore shown s old new
    pub set : ℕ
    pub added : (k : Name) → more k ≡ cond (bytes_eq f.name.item k) (Some set) (held k)
    pub holds : HoldsFragment s fs (vertices_of shown new) (heads_of shown new) (table_in shown new) f set
    pub sets : List ℕ
    pub put : (k : Name) → longer k ≡ cond (bytes_eq f.name.item k) (Some sets) (lists k)
    pub listed : IsListed s fs (vertices_of shown new) (heads_of shown new) (table_in shown new) (fragment f) sets

  -- all fragments that a name finds are known, and lists are those of their sets
  pub record AllKnown (old new : FieldGraph S) (held : Name → Option ℕ) (lists : Name → Option (List ℕ)) : Type 0 where
    pub grown : IsMore shown s old new
    pub known : (k : Name) → IsKnown s fs (vertices_of shown new) (heads_of shown new) (table_in shown new) held k
    pub listed : AreListed s fs (vertices_of shown new) (heads_of shown new) (table_in shown new) lists

  -- the sets of a definition were gathered, and put to the sets
  pub record IsDefinitionGathered (old new : FieldGraph S) (sets then : List ℕ) (x : Definition) : Type 0 where
    pub grown : IsMore shown s old new
    pub bs : List ℕ
    pub ms : List (List ℕ)
    pub added : then ≡ sets ++ bs
    pub are : AreSets (table_in shown new) bs ms
    pub covered : AreCovered s fs (vertices_of shown new) (heads_of shown new) (sets_in s x) ms

  -- the sets of each definition were gathered
  pub record AreGathered (old new : FieldGraph S) (d : List Definition) (lists : List (List ℕ)) : Type 0 where
    pub grown : IsMore shown s old new
    pub listed : Pairwise (IsListed s fs (vertices_of shown new) (heads_of shown new) (table_in shown new)) d lists

-- whether one of the sets of these numbers cannot be merged
abbrev pub IsAnswer : List FieldAt → List (List ℕ) → List ℕ → Bool → Type 0
IsAnswer vs t bs c = (c ≡ false → (b : ℕ) → In b bs → (n : ℕ) → set_merges_at vs n (set_at t b) ≡ true)
    × (c ≡ true → (b : ℕ) × In b bs × ((n : ℕ) × (set_merges_at vs n (set_at t b) ≡ false)))

-- a fragment's name has this list
abbrev pub IsListedAs : (Name → Option (List ℕ)) → Definition → List ℕ → Type 0
IsListedAs lists x bs = (f : Fragment) × (x ≡ fragment f) × (lists f.name.item ≡ Some bs)

-- where the rules on names find nothing, it is told of each definition whether two fields of some set in it cannot be merged (5.3.2)
abbrev pub JudgesEach : Schema → Bool → Document → List Bool → Type 0
JudgesEach s disabled d found = HasGoodNames s disabled d → found ≡ map (cannot_merge s d) d

-- where no fragment reaches itself, and t is the type of a field that is not declared, this follows
abbrev pub WhereEnding : List Fragment → TypeRef → Type 0 → Type 0
WhereEnding fs t conclusion = HasNoCycle fs → t ≡ declared_type None → conclusion

module _ {S : Type 0} (shown : S → Shown) (s : Schema) (fs : List Fragment) where
  -- where what a fragment spreads is known, it is held too
  abbrev pub HoldsToo : FieldGraph S → FieldGraph S → (Name → Option ℕ) → (Name → Option ℕ) → (Name → Option (List ℕ)) → (Name → Option (List ℕ)) →
      Fragment → Type 0
  HoldsToo old new held more lists longer f = IsGraphOf shown s old → IsReadyIn shown s fs old held f.selections →
      IsHeld shown s fs old new held more lists longer f

  -- where no field has an argument twice, each fragment stands behind those that it spreads, and none was held, all are
  abbrev pub HoldsAll : FieldGraph S → FieldGraph S → (Name → Option ℕ) → (Name → Option ℕ) → (Name → Option (List ℕ)) → (Name → Option (List ℕ)) →
      List Fragment → Type 0
  HoldsAll old new held more lists longer order = AreWritten fs → IsInOrder fs order → ((k : Name) → held k ≡ None) → ((k : Name) → lists k ≡ None) →
      IsGraphOf shown s old → AllKnown shown s fs old new more longer

module _ {S : Type 0} (shown : S → Shown) where
  -- where a field fits, it is pushed, and its number is put to what is gathered
  abbrev pub PushesTo : Schema → FieldGraph S → FieldGraph S → TypeRef → Name → Head → Option ℕ → Gathering → Gathering → Type 0
  PushesTo s old new type p h below n m = WhereFits shown s old type p h below ((i : ℕ) × IsPushed shown s old new p h below i
      × ((t : List (List ℕ)) (all : List ℕ) → IsSetOf t n all → IsSetOf t m (all ++ i ∷ [])))

module _ {S : Type 0} {scalar : Scalars S} {equality : Equality S} {shows : Shows S} (shown : S → Shown) (k : Known S scalar equality shows) where
  -- the schema that is known
  abbrev pub schema_in : Schema
  schema_in = view_schema shown k.schema.now

  module _ (fs : List Fragment) where
    -- where no fragment reaches itself, the type of a field that is not declared is known, and the graph is one, this follows
    abbrev pub WhereKnown : Gathered S → Type 0 → Type 0
    WhereKnown g conclusion = WhereEnding fs (view_type k.undeclared.now) (IsGraphOf shown schema_in g.graph → conclusion)

    -- the fragments that selections spread are known, and no field in them has an argument twice
    abbrev pub IsReadyFor : Gathered S → Selections → Type 0
    IsReadyFor g set = IsReadyIn shown schema_in fs g.graph (set_named k.fragments.now) set

    -- where a set on a type is ready, it is gathered under this number
    abbrev pub GathersSet : Gathered S → Gathered S → Name → Selections → ℕ → Type 0
    GathersSet old new p set b = IsReadyFor old set → IsSetGatheredAt shown schema_in fs old.graph new.graph old.sets.items new.sets.items p set b

    -- where selections on a type are ready, what stands in them before the rest is gathered
    abbrev pub GathersBefore : Gathered S → Gathered S → Gathering → Gathering → Name → Selections → Selections → Type 0
    GathersBefore old new n m p rest whole = IsReadyFor old whole →
        IsGathered shown schema_in fs old.graph new.graph old.sets.items new.sets.items n m p rest whole

    -- where a definition's selections are ready, its sets are gathered
    abbrev pub GathersDefinition : Gathered S → Gathered S → Definition → Type 0
    GathersDefinition old new x = IsReadyFor old (selections_of x) →
        IsDefinitionGathered shown schema_in fs old.graph new.graph old.sets.items new.sets.items x

    -- a fragment of the document is the one that its name finds
    abbrev pub FindsItself : Definition → Type 0
    FindsItself x = (f : Fragment) → x ≡ fragment f → fragment_of fs f.name.item ≡ Some f

    -- where a definition's selections are ready, and lists are those of fragments, its sets have this list
    abbrev pub ListsDefinition : Gathered S → Gathered S → (Name → Option (List ℕ)) → Definition → List ℕ → Type 0
    ListsDefinition old new lists x bs = FindsItself x →
        AreListed schema_in fs (vertices_of shown old.graph) (heads_of shown old.graph) (table_in shown old.graph) lists → IsReadyFor old (selections_of x) →
        IsMore shown schema_in old.graph new.graph
        × IsListed schema_in fs (vertices_of shown new.graph) (heads_of shown new.graph) (table_in shown new.graph) x bs

    -- where those of each definition are ready, each has the list of its sets
    abbrev pub GathersEach : Gathered S → Gathered S → (Name → Option (List ℕ)) → Document → List (List ℕ) → Type 0
    GathersEach old new listed d lists = ((x : Definition) → In x d → FindsItself x) →
        AreListed schema_in fs (vertices_of shown old.graph) (heads_of shown old.graph) (table_in shown old.graph) listed →
        ((x : Definition) → In x d → IsReadyFor old (selections_of x)) → AreGathered shown schema_in fs old.graph new.graph d lists
