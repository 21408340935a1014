-- Items that a loop over a value copies: what is made, before what is left, stays the same. And entries, by their keys and values.
use Rattle.std.proofs.Common.{◌≡◌, ℕ, suc, ◌+◌, ◌<◌, ◌≤◌, List, [], ◌∷◌, ◌++◌, length, get_or, drop, string_bytes, refl, sym, ap, ◌∙◌}
use Rattle.std.proofs.lemmas.List.{drop_more, drop_all}
use Rattle.std.specs.Map.{values_of}
use Rattle.graphql_spec.specs.Shown.{Shown, Name}
use Rattle.graphql_spec.specs.Values as spec
use Rattle.graphql_spec.specs.Values.{Values, no_items, item, Entries, no_entries, entry}
use Rattle.juniper_syntax.specs.FieldWords.{names}
use Rattle.juniper_syntax.specs.ValueView.{view_value, view_values, view_entries}
use Rattle.juniper_syntax.specs.declared.value.Value.{Value}
use Rattle.juniper_syntax.proofs.Values.{Pair}

-- one list after another
abbrev pub append_values : Values → Values → Values
append_values no_items vs = vs
append_values (item u us) vs = item u (append_values us vs)

pub append_values-none : (us : Values) → append_values us no_items ≡ us
append_values-none no_items = refl
append_values-none (item u us) = ap (item u) (append_values-none us)

module _ {S : Type 0} (shown : S → Shown) where
  -- an item at the end of the front is one at the beginning of what is left
  pub values_push : (us : List (Value S)) (u : Value S) (vs : Values) →
      append_values (view_values shown (us ++ u ∷ [])) vs ≡ append_values (view_values shown us) (item (view_value shown u) vs)
  values_push [] u vs = refl
  values_push (w ∷ us) u vs = ap (item (view_value shown w)) (values_push us u vs)

  -- a turn that copies the item x
  pub values_turn : (xs made more : List (Value S)) (i : ℕ) (x w : Value S) → more ≡ made ++ w ∷ [] → i < length xs → x ≡ get_or xs i x →
      view_value shown w ≡ view_value shown x
      → append_values (view_values shown more) (view_values shown (drop (i + 1) xs)) ≡ append_values (view_values shown made) (view_values shown (drop i xs))
  values_turn xs made more i x w pushed below at_i same =
      let here : drop i xs ≡ x ∷ drop (i + 1) xs = drop_more xs i x below ∙ ap (λ y. y ∷ drop (i + 1) xs) (sym at_i) in
      rw (pushed, here, sym same) (values_push made w (view_values shown (drop (i + 1) xs)))

  -- after the loop
  pub values_end : (xs made : List (Value S)) (i : ℕ) → length xs ≤ i →
      view_values shown made ≡ append_values (view_values shown made) (view_values shown (drop i xs))
  values_end xs made i past =
      let empty : drop i xs ≡ [] = drop_all i xs past in
      rw empty (sym (append_values-none (view_values shown made)))

-- items that are the same, one by one
item_inner : (u v : spec.Value) (us vs : Values) → item u us ≡ item v vs → (u ≡ v) × (us ≡ vs)
item_inner u v us vs e = (cc, cc)

names_inner : (k j : Name) (ks js : List Name) → ◌≡◌ {A = List Name} (k ∷ ks) (j ∷ js) → (k ≡ j) × (ks ≡ js)
names_inner k j ks js e = (cc, cc)

module _ {S T : Type 0} (seen : S → Shown) (shown : T → Shown) where
  -- values that show the same are as many
  pub values_long : (us : List (Value T)) (vs : List (Value S)) → view_values shown us ≡ view_values seen vs → length us ≡ length vs
  values_long [] [] e = refl
  values_long [] (v ∷ vs) e = cc
  values_long (u ∷ us) [] e = cc
  values_long (u ∷ us) (v ∷ vs) e =
      ap suc (values_long us vs (item_inner (view_value shown u) (view_value seen v) (view_values shown us) (view_values seen vs) e).1)

  -- beside keys that say the same they are the same entries
  pub entries_same : (es : List (Pair T)) (fs : List (Pair S)) → names es ≡ names fs → view_values shown (values_of es) ≡ view_values seen (values_of fs) →
      view_entries shown es ≡ view_entries seen fs
  entries_same [] [] n e = refl
  entries_same [] (g ∷ fs) n e = cc
  entries_same (f ∷ es) [] n e = cc
  entries_same (f ∷ es) (g ∷ fs) n e =
      let k = names_inner (string_bytes f.0) (string_bytes g.0) (names es) (names fs) n in
      let v = item_inner (view_value shown f.1) (view_value seen g.1) (view_values shown (values_of es)) (view_values seen (values_of fs)) e in
      (λ i. entry (k.0 i) (v.0 i) (entries_same es fs k.1 v.1 i))
