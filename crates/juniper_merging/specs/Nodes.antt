-- Selection sets that are put together, and how their fields clash (5.3.2). Only private clauses cite what stands here.
use Rattle.std.specs.Prelude.{ℕ, Bool, true, false, List, [], ◌∷◌, ◌++◌, Option, Some, None, ◌≡◌, ◌⊎◌}
use Rattle.std.specs.List.{slice_get}
use Rattle.graphql_spec.specs.Laws.{In}
use Rattle.juniper_merging.specs.MergingGraph.{FieldAt, merge_at}
use Rattle.juniper_merging.specs.Questions.{passes, tested_at}
use Rattle.juniper_merging.specs.Standing.{AreAlike, Both}
use Rattle.juniper_merging.specs.declared.clash.Clash.{Clash}
use Rattle.juniper_merging.specs.declared.nodes.Entry.{Entry}
use Rattle.juniper_merging.specs.declared.nodes.Node.{Node}

-- two fields differ in nothing but what they select
pub record SameHead (v w : FieldAt) : Type 0 where
  pub key : v.key ≡ w.key
  pub parent : v.parent ≡ w.parent
  pub on_object : v.on_object ≡ w.on_object
  pub shape : v.shape ≡ w.shape
  pub call : v.call ≡ w.call

-- what a node holds, if there is one
unfoldable pub list_of : (ℕ → List ℕ) → Option ℕ → List ℕ
list_of H None = []
list_of H (Some a) = H a

-- what several nodes hold, one behind the other
unfoldable pub flat : (ℕ → List ℕ) → List ℕ → List ℕ
flat H [] = []
flat H (a ∷ rest) = H a ++ flat H rest

-- the same fields, in some order
abbrev pub Alike : List ℕ → List ℕ → Type 0
Alike xs ys = AreAlike (λ x y. x ≡ y) xs ys

module _ (vs : List FieldAt) where
  -- each two of these fields merge, or agree in shape, to each depth
  abbrev pub Good : Bool → List ℕ → Type 0
  Good m l = (n i j : ℕ) → Both i j l → tested_at vs (merge_at vs n m) i j ≡ true

  -- two of them do not, to some depth
  abbrev pub Bad : Bool → List ℕ → Type 0
  Bad m l = (n : ℕ) × (i : ℕ) × (j : ℕ) × Both i j l × (tested_at vs (merge_at vs n m) i j ≡ false)

  -- it is what stands against the merging of each two of these fields
  pub record Says (l : List ℕ) (c : Clash) : Type 0 where
    pub good : (m : Bool) → passes m c ≡ true → Good m l
    pub bad : (m : Bool) → passes m c ≡ false → Bad m l

  -- where it is nothing, each of the ones merges with each of the others; where it is something, two of all do not
  pub record SaysBoth (xs ys : List ℕ) (c : Clash) : Type 0 where
    pub good : (m : Bool) → passes m c ≡ true → (n i j : ℕ) → In i xs → In j ys → tested_at vs (merge_at vs n m) i j ≡ true
    pub bad : (m : Bool) → passes m c ≡ false → Bad m (xs ++ ys)

  -- the field of this number differs from h in nothing but what it selects
  pub record HasHead (h : FieldAt) (i : ℕ) : Type 0 where
    pub field : FieldAt
    pub there : slice_get vs i ≡ Some field
    pub same : SameHead h field

  -- these are what those fields of a list select that do not differ from h in anything else, one behind the other, in some order
  pub record Selects (fields : List ℕ) (h : FieldAt) (l : List ℕ) : Type 0 where
    pub one : (x : ℕ) → In x l → (i : ℕ) × In i fields × ((a : HasHead h i) × In x a.field.below)
    pub one_back : (i : ℕ) → In i fields → (a : HasHead h i) → (x : ℕ) → In x a.field.below → In x l
    pub two : (x y : ℕ) → Both x y l → ((i : ℕ) × In i fields × ((a : HasHead h i) × Both x y a.field.below))
        ⊎ ((i : ℕ) × (j : ℕ) × Both i j fields × ((a : HasHead h i) × (b : HasHead h j) × In x a.field.below × In y b.field.below))
    pub two_own : (i : ℕ) → In i fields → (a : HasHead h i) → (x y : ℕ) → Both x y a.field.below → Both x y l
    pub two_apart : (i j : ℕ) → Both i j fields → (a : HasHead h i) → (b : HasHead h j) → (x y : ℕ) → In x a.field.below → In y b.field.below → Both x y l

  -- where two entries of these heads clash: fields of them, or two of the one list, or two of the other
  abbrev pub BadPair : List ℕ → List ℕ → FieldAt → FieldAt → Bool → Type 0
  BadPair F G h k m = ((n : ℕ) × (i : ℕ) × (j : ℕ) × In i F × HasHead h i × In j G × HasHead k j × (tested_at vs (merge_at vs n m) i j ≡ false))
      ⊎ (Bad m F ⊎ Bad m G)

  -- how the fields of a list that have the head h clash with those of another that have the head k
  pub record ArePaired (F G : List ℕ) (h k : FieldAt) (c : Clash) : Type 0 where
    pub good : (m : Bool) → passes m c ≡ true → (n i j : ℕ) → In i F → HasHead h i → In j G → HasHead k j → tested_at vs (merge_at vs n m) i j ≡ true
    pub bad : (m : Bool) → passes m c ≡ false → BadPair F G h k m

  -- H says what each node holds
  module _ (H : ℕ → List ℕ) where
    -- an entry is of those of these fields that differ in nothing but what they select
    pub record IsEntry (fields : List ℕ) (e : Entry) : Type 0 where
      pub head : FieldAt
      pub there : slice_get vs e.field ≡ Some head
      pub inside : In e.field fields
      pub lone : e.is_many ≡ false → (i j : ℕ) → Both i j fields → HasHead head i → HasHead head j → ⊥
      pub many : e.is_many ≡ true → (i : ℕ) × (j : ℕ) × Both i j fields × HasHead head i × HasHead head j
      pub child : Selects fields head (list_of H e.child)

    -- each of these fields is of one entry
    pub record AreEntries (fields : List ℕ) (es : List Entry) : Type 0 where
      pub each : (e : Entry) → In e es → IsEntry fields e
      pub covers : (i : ℕ) (v : FieldAt) → In i fields → slice_get vs i ≡ Some v →
          (e : Entry) × In e es × ((h : FieldAt) × (slice_get vs e.field ≡ Some h) × SameHead h v)
      pub apart : (e f : Entry) → Both e f es → (h k : FieldAt) → slice_get vs e.field ≡ Some h → slice_get vs f.field ≡ Some k → SameHead h k → ⊥

    -- a node holds these fields: it has entries for them alone, or is made of nodes that do
    abbrev pub IsNode : Node → List ℕ → Type 0
    IsNode n l = ((fields : List ℕ) × (n.parts.items ≡ []) × Alike l fields × AreEntries fields n.entries.items)
        ⊎ ((n.entries.items ≡ []) × Alike l (flat H n.parts.items))

    abbrev pub AreNodes : List Node → Type 0
    AreNodes ns = (a : ℕ) (n : Node) → slice_get ns a ≡ Some n → IsNode n (H a)
