-- Sending lists item by item.
use Rattle.std.proofs.Common.{◌≡◌, ℕ, ◌≤◌, List, [], ◌∷◌, String, Global, map, drop, length, suc, Some, refl, ap, sym, subst, ◌∙◌}
use Rattle.std.proofs.lemmas.List.{drop_all, length-map}
use Rattle.graphql_spec.specs.Shown.{Shown}
use Rattle.graphql_spec.specs.Values.{Entries, no_entries, entry, count_entries}
use Rattle.juniper_syntax.specs.ValueView.{view_values, view_entries}
use Rattle.juniper_syntax.specs.declared.value.Value.{Value}
use Rattle.serde.specs.Event.{Log, Logs, seq_begins, seq_ends, map_begins, map_ends}
use Rattle.serde_json.specs.Data.{Data, Items, Members, array, object}
use Rattle.serde_json.specs.Events.{items_len, members_len, SendsValue, SendsItems, SendsMembers}
use Rattle.juniper_json.specs.AnswerText.{values_data, entries_data, items_data}

-- what ends the items well that are left ends all of them well
abbrev pub Goes : Items → Log → Items → Log → Type 0
Goes all first left now = (end : Log) → SendsItems left now end → SendsItems all first end

abbrev pub GoesInside : Members → Log → Members → Log → Type 0
GoesInside all first left now = (end : Log) → SendsMembers left now end → SendsMembers all first end

pub len-items_data : {A : Type 0} (f : A → Data) (xs : List A) → items_len (items_data f xs) ≡ length xs
unfolding items_data
len-items_data f [] = refl
len-items_data f (x ∷ xs) = ap suc (len-items_data f xs)

len-entries_data : (es : Entries) → members_len (entries_data es) ≡ count_entries es
unfolding entries_data count_entries
len-entries_data no_entries = refl
len-entries_data (entry k v es) = ap suc (len-entries_data es)

-- nothing is left at the end, so the whole list is sent
module _ {A B : Type 0} (f : B → Data) (view : A → B) where
  pub list_sent : (xs : List A) (i n : ℕ) (old first last new : Log) → n ≡ length xs → length xs ≤ i → Logs old first (seq_begins (Some n)) →
      Goes (items_data f (map view xs)) first (items_data f (map view (drop i xs))) last → Logs last new seq_ends →
      SendsValue (array (items_data f (map view xs))) old new
  unfolding items_data
  list_sent xs i n old first last new e past begun goes ended =
      let none : drop i xs ≡ [] = drop_all i xs past in
      let len : n ≡ items_len (items_data f (map view xs)) = e ∙ sym (len-items_data f (map view xs) ∙ length-map xs view) in (
        first,
        subst (λ k. Logs old first (seq_begins (Some k))) len begun,
        goes new (subst (λ ys. SendsItems (items_data f (map view ys)) last new) (sym none) ended),
      )

-- the same for the items of a value, and for its entries
module _ {S : Type 0} (shown : S → Shown) where
  len-values_data : (vs : List (Value S)) → items_len (values_data (view_values shown vs)) ≡ length vs
  unfolding values_data
  len-values_data [] = refl
  len-values_data (v ∷ vs) = ap suc (len-values_data vs)

  pub values_sent : (vs : List (Value S)) (i n : ℕ) (old first last new : Log) → n ≡ length vs → length vs ≤ i → Logs old first (seq_begins (Some n)) →
      Goes (values_data (view_values shown vs)) first (values_data (view_values shown (drop i vs))) last → Logs last new seq_ends →
      SendsValue (array (values_data (view_values shown vs))) old new
  unfolding values_data
  values_sent vs i n old first last new e past begun goes ended =
      let none : drop i vs ≡ [] = drop_all i vs past in
      let len : n ≡ items_len (values_data (view_values shown vs)) = e ∙ sym (len-values_data vs) in (
        first,
        subst (λ k. Logs old first (seq_begins (Some k))) len begun,
        goes new (subst (λ ys. SendsItems (values_data (view_values shown ys)) last new) (sym none) ended),
      )

  pub entries_sent : (es : Entries) (left : List (String Global × Value S)) (n : ℕ) (old first last new : Log) → n ≡ count_entries es → left ≡ [] →
      Logs old first (map_begins (Some n)) →
      GoesInside (entries_data es) first (entries_data (view_entries shown left)) last → Logs last new map_ends → SendsValue (object (entries_data es)) old new
  unfolding entries_data
  entries_sent es left n old first last new e none begun goes ended =
      let len : n ≡ members_len (entries_data es) = e ∙ sym (len-entries_data es) in (
        first,
        subst (λ k. Logs old first (map_begins (Some k))) len begun,
        goes new (subst (λ ys. SendsMembers (entries_data (view_entries shown ys)) last new) (sym none) ended),
      )
