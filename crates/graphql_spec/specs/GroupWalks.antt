-- An object that is walked response key by response key, each resolved once (ExecuteSelectionSet, 6.3).
use Rattle.std.specs.Prelude.{◌≡◌, ◌&&◌, true, false, List, [], ◌∷◌, ◌++◌, map}
use Rattle.std.specs.List.{flat_map}
use Rattle.graphql_spec.specs.Shown.{Name}
use Rattle.graphql_spec.specs.Positions.{Position}
use Rattle.graphql_spec.specs.Values.{Value, null, object, Entries, no_entries, is_null, put}
use Rattle.graphql_spec.specs.Types.{required}
use Rattle.graphql_spec.specs.Errors.{Place, key, Listed}
use Rattle.graphql_spec.specs.Selections.{Forest, Occurrence, occurrences, keys, with_key, all_below}
use Rattle.graphql_spec.specs.Resolvers.{World}
use Rattle.graphql_spec.specs.Execution.{type_of, reply_of, whole_object, value_of, data_of}
use Rattle.graphql_spec.specs.Failures.{Failure, starts_of, reply_faults, failures_of}
use Rattle.graphql_spec.specs.Nulls.{reply_standing, nulls_of}
use Rattle.graphql_spec.specs.Walk.{Met}
use Rattle.graphql_spec.specs.GroupLaws.{for_picked, GroupCompleted}

module _ {N : Type 0} (W : World N) (here above : Place) (T : Name) (m : N) (os : List Occurrence) where
  -- the value of the key k of the node m (6.4.3)
  unfoldable pub key_value : Name → Value
  key_value k = value_of W (type_of W T (with_key k os)) (reply_of W T m (with_key k os)) (all_below (with_key k os))

  -- what fails there, for the occurrences that are picked (6.4.4)
  unfoldable pub failures_at : (List Position → List Position) → Name → List Failure
  failures_at pick k = map (for_picked pick) (reply_faults W (λ place to U n. failures_of W place to U n (all_below (with_key k os))) (here ++ key k ∷ [])
      (starts_of (with_key k os)) above (type_of W T (with_key k os)) (reply_of W T m (with_key k os)))

  -- the nulls there that stand for a failure (6.4.4)
  unfoldable pub nulls_at : Name → List Place
  nulls_at k = reply_standing W (λ U n. data_of W U n (all_below (with_key k os))) (λ place U n. nulls_of W place U n (all_below (with_key k os)))
      (here ++ key k ∷ []) (type_of W T (with_key k os)) (reply_of W T m (with_key k os))

  module _ (tell : Place → Place) (pick : List Position → List Position) where
    -- the keys ks of the object were walked: its value, and what was listed of what fails in it (6.3)
    pub record KeysWalked (ks : List Name) (v : Value) (es : List Listed) : Type 0 where
      pub value : v ≡ whole_object ks (λ k. type_of W T (with_key k os)) key_value
      pub errors : Met tell (is_null v) es (flat_map (failures_at pick) ks) above (flat_map nulls_at ks)

    -- no key (6.3)
    abbrev pub NoKeyWalked : Type 0
    NoKeyWalked = KeysWalked [] (object no_entries) []

    -- One key more (6.3): its field was resolved once, and the reply completed for what its occurrences select. Where its null does
    -- not rise, its value is put at the key; else the object is null (6.4.4), and the walk may end or go on.
    abbrev pub OneMoreKey : Type 0
    OneMoreKey = (front rest : List Name) (k : Name) → keys os ≡ front ++ k ∷ rest → (v : Value) (more : List Listed) →
        GroupCompleted tell pick W (here ++ key k ∷ []) above (type_of W T (with_key k os)) (reply_of W T m (with_key k os)) (with_key k os) v more →
        (errors : List Listed) →
        ((es : Entries) → KeysWalked front (object es) errors → (is_null v && required (type_of W T (with_key k os))) ≡ false →
        KeysWalked (front ++ k ∷ []) (object (put k v es)) (errors ++ more))
        × ((es : Entries) → KeysWalked front (object es) errors → (is_null v && required (type_of W T (with_key k os))) ≡ true →
        KeysWalked (front ++ k ∷ rest) null (errors ++ more))
        × ((es : Entries) → KeysWalked front (object es) errors → (is_null v && required (type_of W T (with_key k os))) ≡ true →
        KeysWalked (front ++ k ∷ []) null (errors ++ more))
        × (KeysWalked front null errors → KeysWalked (front ++ k ∷ []) null (errors ++ more))

-- all keys: what was walked is the node's object (6.3)
abbrev pub AllKeysWalked : {N : Type 0} → World N → Type 0
AllKeysWalked {N} W = (tell : Place → Place) (pick : List Position → List Position) (here above : Place) (T : Name) (m : N) (s : Forest) (v : Value)
    (es : List Listed) → (let os : List Occurrence = occurrences W.possible T s in
    KeysWalked W here above T m os tell pick (keys os) v es → (v ≡ data_of W T m s) ×
    Met tell (is_null v) es (map (for_picked pick) (failures_of W here above T m s)) above (nulls_of W here T m s))
