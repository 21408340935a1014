-- The objects of nodes of one object type, walked side by side (6.3, 6.4.4); only private clauses cite this.
use Rattle.std.specs.Prelude.{◌≡◌, ◌≤◌, ◌<◌, ℕ, zero, suc, Bool, true, false, List, [], ◌∷◌, ◌++◌, Option, Some, None, length, map, take, drop, ◌⊎◌}
use Rattle.std.specs.Prelude.{IfOk, OnOk, Result, is_some}
use Rattle.graphql_spec.specs.Shown.{Name, Shown}
use Rattle.graphql_spec.specs.Values.{Value, null, object, no_entries, put, scalar}
use Rattle.graphql_spec.specs.Errors.{Listed}
use Rattle.graphql_spec.specs.ExactAnswers.{whole}
use Rattle.graphql_spec.specs.GroupLaws.{first_start}
use Rattle.graphql_spec.specs.Selections.{Forest, Occurrence, all_below, keys, occurrences, with_key}
use Rattle.graphql_spec.specs.Resolvers.{World}
use Rattle.juniper_assemble.specs.SkeletonView.{view_skeleton}
use Rattle.juniper_assemble.specs.SpotView.{view_nodes}
use Rattle.graphql_spec.specs.CompletionLaws.{all_listed}
use Rattle.graphql_spec.specs.NodeLaws.{AreWalkedOnce}
use Rattle.graphql_spec.specs.Skeletons.{Spot}
use Rattle.juniper_conversions.specs.ErrorView.{view_listed}
use Rattle.juniper_conversions.specs.declared.execution_error.ExecutionError.{ExecutionError}
use Rattle.juniper_syntax.specs.ValueView.{view_object, view_value}
use Rattle.juniper_syntax.specs.declared.value.Object.{Object}
use Rattle.juniper_walk.specs.declared.walked.Walked.{Walked}
use Rattle.juniper_walk.specs.Budget.{fields_in_all}
use Rattle.juniper_walk.specs.Holes.{holes_of}
use Rattle.juniper_walk.specs.Lists.{picked}
use Rattle.juniper_walk.specs.PlanWalks.{IsObjectWalked, IsPrepared, IsPut, IsWalking}
use Rattle.juniper_walk.specs.declared.preparing.Prepared.{Prepared}
use Rattle.juniper_walk.specs.declared.preparing.Taken.{Taken}
use Rattle.juniper_walk.specs.declared.preparing.Taken.TheVariants as taken
use Rattle.juniper_walk.specs.declared.rows.Column.{Column}
use Rattle.juniper_walk.specs.declared.rows.Opened.{Opened}
use Rattle.juniper_walk.specs.declared.rows.Row.{Row}

-- each node is of this object type
abbrev pub AreOfType : {N : Type 0} → World N → Name → List (Spot N) → Type 0
AreOfType W T [] = Unit {0}
AreOfType W T (x ∷ xs) = (T ≡ W.concrete x.what) × AreOfType W T xs

-- the numbers of the rows are less than this
abbrev pub AreIn : {N S : Type 0} → ℕ → List (Opened N S) → Type 0
AreIn n [] = Unit {0}
AreIn n (o ∷ os) = (o.row < n) × AreIn n os

-- the nodes whose objects stand, each at its place
abbrev pub spots_standing : {N S : Type 0} → List (Row S) → List (Spot N) → List (Spot N)
spots_standing rows spots = picked (map (λ r. is_some r.object) rows) spots

-- the nodes alone
abbrev pub nodes_standing : {N S : Type 0} → List (Row S) → List (Spot N) → List N
nodes_standing rows spots = map (λ x. x.what) (spots_standing rows spots)

module _ {S : Type 0} (shown : S → Shown) where
  -- the objects that were walked, and what was listed in each
  abbrev pub values_of : List (Walked S) → List Value
  values_of ws = map (λ w. view_value shown w.value) ws

  abbrev pub listed_of : List (Walked S) → List (List Listed)
  listed_of ws = map (λ w. map (view_listed shown) w.errors.items) ws

  -- an object without keys, in which nothing failed
  pub record IsFresh (r : Row S) : Type 0 where
    pub object : Object S
    pub stands : r.object ≡ Some object
    pub empty : view_object shown object ≡ no_entries
    pub errors : map (view_listed shown) r.errors.items ≡ []

  -- so many of them
  abbrev pub AreFresh : ℕ → List (Row S) → Type 0
  AreFresh zero [] = Unit {0}
  AreFresh (suc n) (r ∷ rs) = IsFresh r × AreFresh n rs
  AreFresh n rs = ⊥

  -- the value of a row: its object, or null where its null has risen
  unfoldable pub so_far : Option (Object S) → Value
  so_far None = null
  so_far (Some o) = object (view_object shown o)

  -- how many fields the rows have
  abbrev pub row_fields : List (Row S) → ℕ
  row_fields rs = fields_in_all (map (λ r. so_far r.object) rs)

  -- a scalar was put into the object of a row
  pub record IsLeafPut (k : Name) (x : S) (o : Object S) (r new : Row S) : Type 0 where
    pub made : Object S
    pub stands : new.object ≡ Some made
    pub holds : view_object shown made ≡ put k (scalar (shown x)) (view_object shown o)
    pub errors : new.errors.items ≡ r.errors.items

  module _ {N : Type 0} where
    -- an answer, as it waits for its nodes
    pub record IsOpenedOf (i : ℕ) (p : Prepared N S) (o : Opened N S) : Type 0 where
      pub row : o.row ≡ i
      pub key : o.prepared.key.now ≡ p.key.now
      pub non_null : o.prepared.is_non_null ≡ p.is_non_null
      pub skeleton : view_skeleton shown o.prepared.skeleton ≡ view_skeleton shown p.skeleton
      pub errors : o.prepared.errors.items ≡ p.errors.items

    -- an answer was put behind those that wait
    pub record IsApartPut (i : ℕ) (p : Prepared N S) (r new : Row S) (c more : Column N S) : Type 0 where
      pub same : new ≡ r
      pub opened : Opened N S
      pub is : IsOpenedOf i p opened
      pub list : more.opened.items ≡ c.opened.items ++ opened ∷ []
      pub nodes : more.nodes.items ≡ c.nodes.items ++ p.nodes.items

    -- what the node of a row answers was taken
    abbrev pub IsPutIn : ℕ → Taken N S → Object S → Row S → Row S → Column N S → Column N S → Type 0
    IsPutIn i (taken.Leaf k x) o r new c more = IsLeafPut k.now x o r new × (more ≡ c)
    IsPutIn i (taken.Apart p) o r new c more = IsApartPut i p r new c more

    -- an answer, filled with the first of these objects, was put into an object, but where its null rises, and what failed was listed
    abbrev pub IsPutWith : Prepared N S → List (Walked S) → Bool → Object S → Object S → List (ExecutionError S) → List (ExecutionError S) → Type 0
    IsPutWith p ws rises o made errors all = IsPut p.key.now p.is_non_null (view_skeleton shown p.skeleton)
        (take (holes_of (view_skeleton shown p.skeleton)) (values_of ws))
        (map (view_listed shown) p.errors.items ++ all_listed (take (holes_of (view_skeleton shown p.skeleton)) (listed_of ws))) rises
        (view_object shown o) (view_object shown made) (map (view_listed shown) errors) (map (view_listed shown) all)

    -- an answer was filled with the first of these objects, the others are left, and it was put into the object of a row, but where its null
    -- rises
    pub record IsFilledIn (p : Prepared N S) (ws left : List (Walked S)) (o : Object S) (r new : Row S) : Type 0 where
      pub made : Object S
      pub rises : Bool
      pub put_in : IsPutWith p ws rises o made r.errors.items new.errors.items
      pub left_over : left ≡ drop (holes_of (view_skeleton shown p.skeleton)) ws
      pub kept : rises ≡ false → new.object ≡ Some made
      pub lost : rises ≡ true → new.object ≡ None

    -- how many nodes an answer waits for
    abbrev pub awaited : Opened N S → ℕ
    awaited o = holes_of (view_skeleton shown o.prepared.skeleton)

-- the objects of these nodes were put behind those that were there
pub record AreAdded {N S : Type 0} (W : World N) (s : Forest) (shown : S → Shown) (xs : List (Spot N)) (ws more : List (Walked S)) : Type 0 where
  pub values : List Value
  pub errors : List (List Listed)
  pub walked : AreWalkedOnce whole first_start W s xs values errors
  pub all_values : values_of shown more ≡ values_of shown ws ++ values
  pub all_errors : listed_of shown more ≡ listed_of shown ws ++ errors

module _ {N : Type 0} (W : World N) (s : Forest) (T : Name) where
  -- the occurrences os are those of the response key k, which comes behind the keys ks
  pub record IsNext (ks : List Name) (k : Name) (os : List Occurrence) : Type 0 where
    pub rest : List Name
    pub split : keys (occurrences W.possible T s) ≡ ks ++ k ∷ rest
    pub whole : os ≡ with_key k (occurrences W.possible T s)

  module _ {S : Type 0} (shown : S → Shown) where
    -- an object whose first response keys were walked, or a null that has risen
    abbrev pub IsSoFar : List Name → Spot N → Option (Object S) → List Listed → Type 0
    IsSoFar ks x None es = IsObjectWalked W x.place s T x.what null es
    IsSoFar ks x (Some o) es = IsWalking W x.place T x.what (occurrences W.possible T s) ks (view_object shown o) es

    abbrev pub IsRow : List Name → Spot N → Row S → Type 0
    IsRow ks x r = IsSoFar ks x r.object (map (view_listed shown) r.errors.items)

    -- one for each node
    abbrev pub AreRows : List Name → List (Spot N) → List (Row S) → Type 0
    AreRows ks [] [] = Unit {0}
    AreRows ks (x ∷ xs) (r ∷ rs) = IsRow ks x r × AreRows ks xs rs
    AreRows ks xs rs = ⊥

    -- the answer at the response key behind ks waits for the objects of the nodes ns
    pub record IsOpen (ks : List Name) (k : Name) (os : List Occurrence) (i : ℕ) (x : Spot N) (r : Row S) (o : Opened N S) (ns : List (Spot N)) : Type 0 where
      pub here : o.row ≡ i
      pub object : Object S
      pub stands : r.object ≡ Some object
      pub walking : IsWalking W x.place T x.what (occurrences W.possible T s) ks (view_object shown object) (map (view_listed shown) r.errors.items)
      pub prepared : IsPrepared W x.place T x.what k os o.prepared.key.now o.prepared.is_non_null (view_skeleton shown o.prepared.skeleton) ns
          (map (view_listed shown) o.prepared.errors.items)

    -- each row, counted from i, has its answer at the response key k, or it is the next of those that wait, with the next of the nodes
    abbrev pub ArePending : List Name → Name → List Occurrence → ℕ → List (Spot N) → List (Row S) → List (Opened N S) → List (Spot N) → Type 0
    ArePending ks k os i [] [] [] ns = ns ≡ []
    ArePending ks k os i (x ∷ xs) (r ∷ rs) [] ns = IsRow (ks ++ k ∷ []) x r × ArePending ks k os (suc i) xs rs [] ns
    ArePending ks k os i (x ∷ xs) (r ∷ rs) (h ∷ hs) ns =
        (IsRow (ks ++ k ∷ []) x r × ArePending ks k os (suc i) xs rs (h ∷ hs) ns)
        ⊎ (IsOpen ks k os i x r h (take (awaited shown h) ns) × (awaited shown h ≤ length ns) × ArePending ks k os (suc i) xs rs hs (drop (awaited shown h) ns))
    ArePending ks k os i xs rs hs ns = ⊥

    -- the whole objects of the nodes
    abbrev pub AreWholeRows : (Name → Name → Bool) → List (Spot N) → List (Row S) → Type 0
    AreWholeRows possible xs rows = AreRows (keys (occurrences possible T s)) xs rows

    -- where the response key k comes next, and those before it were walked in each row, the answer is what waits for nodes at k
    abbrev pub AsksColumn : {E : Type 0} → Name → List Occurrence → List (Spot N) → List (Row S) → List (Row S) → Result (Column N S) E → Type 0
    AsksColumn k os xs old new result = (ks : List Name) → IsNext ks k os → AreRows ks xs old →
        IfOk result (λ c. ArePending ks k os 0 xs new c.opened.items (view_nodes c.nodes.items))

-- whatever answers wait in the rows, and whatever nodes they wait for, of which these objects were walked: the rows then have them
abbrev pub FillsRows : {N S A E : Type 0} → (S → Shown) → List (Row S) → List (Row S) → List (Opened N S) → List (Walked S) → Result A E → Type 0
FillsRows {N = N} shown old new opened below result = (W : World N) → (s : Forest) → (T : Name) → (ks : List Name) → (k : Name) →
    (os : List Occurrence) → (xs ns : List (Spot N)) → IsNext W s T ks k os → ArePending W s T shown ks k os 0 xs old opened ns →
    AreWalkedOnce whole first_start W (all_below os) ns (values_of shown below) (listed_of shown below) →
    OnOk result (AreRows W s T shown (ks ++ k ∷ []) xs new)
