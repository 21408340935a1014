-- The nodes that sets are put together in, while they are made (5.3.2). Only private clauses cite what stands here.
use Rattle.std.specs.Prelude.{ℕ, true, List, [], ◌++◌, Option, Some, Vec, length, ◌≡◌, ◌<◌, ◌≤◌, ◌⊎◌}
use Rattle.std.specs.List.{slice_get}
use Rattle.std.specs.declared.alloc.Global.{Global}
use Rattle.graphql_spec.specs.Laws.{In}
use Rattle.juniper_merging.specs.MergingGraph.{FieldAt}
use Rattle.juniper_merging.specs.Nodes.{Alike, AreEntries, Good, IsNode, flat, list_of}
use Rattle.juniper_merging.specs.Tables.{joined, set_at}
use Rattle.juniper_merging.specs.declared.heads.Head.{Head}
use Rattle.juniper_merging.specs.declared.nodes.Entry.{Entry}
use Rattle.juniper_merging.specs.declared.uniting.United.{United}
use Rattle.juniper_merging.specs.declared.uniting.Uniting.{Uniting}

-- a number is put at a place, if there is one
abbrev pub IsNumberPut : List (Option ℕ) → List (Option ℕ) → ℕ → ℕ → Type 0
IsNumberPut old new place number = (i n : ℕ) → slice_get new i ≡ Some (Some n) → (slice_get old i ≡ Some (Some n)) ⊎ ((i ≡ place) × (n ≡ number))

-- what stands at a place is taken out
pub record IsTaken (old new : List (Option (Vec ℕ Global))) (place : ℕ) (o : Option (Vec ℕ Global)) : Type 0 where
  pub count : length new ≡ length old
  pub kept : (a : ℕ) (ms : Vec ℕ Global) → slice_get new a ≡ Some (Some ms) → slice_get old a ≡ Some (Some ms)
  pub taken : (ms : Vec ℕ Global) → o ≡ Some ms → slice_get old place ≡ Some (Some ms)

-- the first n nodes hold by K what they hold by H
abbrev pub Agrees : (ℕ → List ℕ) → (ℕ → List ℕ) → ℕ → Type 0
Agrees H K n = (a : ℕ) → a < n → K a ≡ H a

-- a node refers to the first n alone
pub record IsBelow (n : ℕ) (es : List Entry) (ps : List ℕ) : Type 0 where
  pub children : (e : Entry) (c : ℕ) → In e es → e.child ≡ Some c → c < n
  pub parts : (p : ℕ) → In p ps → p < n

-- how many nodes were begun
abbrev pub count_of : Uniting → ℕ
count_of u = length u.members.items

module _ (vs : List FieldAt) (t : List (List ℕ)) where
  -- H says what the nodes hold that were begun
  pub record IsUniting (H : ℕ → List ℕ) (u : Uniting) : Type 0 where
    pub count : length u.judges.items ≡ count_of u
    pub waits : (a : ℕ) (ms : Vec ℕ Global) → slice_get u.members.items a ≡ Some (Some ms) → H a ≡ joined t ms.items
    pub judged : (a j : ℕ) → slice_get u.judges.items a ≡ Some j → (j < count_of u) × (Good vs true (H j) → Good vs true (H a))
    pub alone : (s a : ℕ) → slice_get u.single.items s ≡ Some (Some a) → (a < count_of u) × (H a ≡ set_at t s)
    pub judges : (s j : ℕ) → slice_get u.judge_of.items s ≡ Some (Some j) → (j < count_of u) × (Good vs true (H j) → Good vs true (set_at t s))
    pub made : (k : ℕ) (w : United) → slice_get u.united.items k ≡ Some w →
        (w.number < count_of u) × IsBelow (count_of u) w.node.entries.items w.node.parts.items × IsNode vs H w.node (H w.number)

  -- what is known of the nodes stays so, where some are begun, and this holds
  abbrev pub Steps : Uniting → Uniting → (ℕ → List ℕ) → ((ℕ → List ℕ) → Type 0) → Type 0
  Steps old new H P = IsUniting H old → (K : ℕ → List ℕ) × Agrees H K (count_of old) × (count_of old ≤ count_of new) × IsUniting K new × P K

  abbrev pub AreMade : Uniting → Uniting → Type 0
  AreMade old new = (H : ℕ → List ℕ) → IsUniting H old → (K : ℕ → List ℕ) × IsUniting K new

  -- a node that holds what these sets do is made
  abbrev pub AreMadeOf : Uniting → Uniting → ℕ → List ℕ → Type 0
  AreMadeOf old new node ms = (H : ℕ → List ℕ) → IsUniting H old → node < count_of old → H node ≡ joined t ms → (K : ℕ → List ℕ) × IsUniting K new

  -- where the judge of a node merges, so do these
  abbrev pub IsJudged : (ℕ → List ℕ) → ℕ → List ℕ → Type 0
  IsJudged H judge l = Good vs true (H judge) → Good vs true l

  -- a node is begun that holds l
  abbrev pub IsBegun : Uniting → Uniting → Option (Vec ℕ Global) → ℕ → ℕ → Type 0
  IsBegun old new members judge a = (H : ℕ → List ℕ) (l : List ℕ) → ((ms : Vec ℕ Global) → members ≡ Some ms → l ≡ joined t ms.items) →
      ((judge ≡ count_of old) ⊎ ((judge < count_of old) × IsJudged H judge l)) → Steps old new H (λ K. (a < count_of new) × (K a ≡ l))

  -- a node of a set alone
  abbrev pub IsSingleMade : Uniting → Uniting → ℕ → ℕ → Type 0
  IsSingleMade old new set a = (H : ℕ → List ℕ) → Steps old new H (λ K. (a < count_of new) × (K a ≡ set_at t set))

  abbrev pub IsJointMade : Uniting → Uniting → List ℕ → ℕ → ℕ → Type 0
  IsJointMade old new ms judge a = (H : ℕ → List ℕ) → judge < count_of old → IsJudged H judge (joined t ms) →
      Steps old new H (λ K. (a < count_of new) × (K a ≡ joined t ms))

  -- it is the node of what a head selects, if that is anything
  pub record IsChildOf (K : ℕ → List ℕ) (n : ℕ) (hd : Head) (child : Option ℕ) : Type 0 where
    pub begun : (c : ℕ) → child ≡ Some c → c < n
    pub alike : Alike (list_of K child) (joined t hd.below.items)

  abbrev pub IsChildMade : Uniting → Uniting → Head → ℕ → Option ℕ → Type 0
  IsChildMade old new hd judge child = (H : ℕ → List ℕ) → judge < count_of old → (hd.is_many ≡ true → IsJudged H judge (joined t hd.below.items)) →
      Steps old new H (λ K. IsChildOf K (count_of new) hd child)

  -- the entry of a head
  pub record IsEntryOf (K : ℕ → List ℕ) (n : ℕ) (hd : Head) (e : Entry) : Type 0 where
    pub field : e.field ≡ hd.field
    pub many : e.is_many ≡ hd.is_many
    pub child : IsChildOf K n hd e.child

  abbrev pub IsEntryMade : Uniting → Uniting → Head → ℕ → Entry → Type 0
  IsEntryMade old new hd judge e = (H : ℕ → List ℕ) → judge < count_of old → (hd.is_many ≡ true → IsJudged H judge (joined t hd.below.items)) →
      Steps old new H (λ K. IsEntryOf K (count_of new) hd e)

  -- the entries of these heads, one by one
  pub record AreEntriesOf (K : ℕ → List ℕ) (n : ℕ) (heads : List Head) (es : List Entry) : Type 0 where
    pub count : length es ≡ length heads
    pub each : (p : ℕ) (e : Entry) → slice_get es p ≡ Some e → (hd : Head) × (slice_get heads p ≡ Some hd) × IsEntryOf K n hd e

  abbrev pub AreEntriesMade : Uniting → Uniting → List Head → ℕ → List Entry → Type 0
  AreEntriesMade old new heads judge es = (H : ℕ → List ℕ) → judge < count_of old →
      ((p : ℕ) (hd : Head) → slice_get heads p ≡ Some hd → hd.is_many ≡ true → IsJudged H judge (joined t hd.below.items)) →
      Steps old new H (λ K. AreEntriesOf K (count_of new) heads es)

  -- the nodes of these sets, each alone
  abbrev pub AreWholesMade : Uniting → Uniting → List ℕ → List ℕ → Type 0
  AreWholesMade old new parts wholes = (H : ℕ → List ℕ) →
      Steps old new H (λ K. ((p : ℕ) → In p wholes → p < count_of new) × (flat K wholes ≡ joined t parts))

  -- a node of these entries and parts is made
  abbrev pub IsNodePut : Uniting → Uniting → ℕ → ℕ → List Entry → List ℕ → Type 0
  IsNodePut old new number judge es ps = (H : ℕ → List ℕ) (fields : List ℕ) → IsUniting H old → number < count_of old → judge < count_of old →
      IsBelow (count_of old) es ps → AreEntries vs H fields es → (es ≡ [] → fields ≡ []) → Alike (H number) (fields ++ flat H ps) →
      IsJudged H judge (H number) → (K : ℕ → List ℕ) × IsUniting K new
