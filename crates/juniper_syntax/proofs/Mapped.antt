-- Values whose scalars become scalars of another type: each one, and what a loop over them makes before what is left.
use Rattle.std.proofs.Common.{◌≡◌, ℕ, ℤ, Bool, ◌+◌, ◌<◌, ◌≤◌, List, [], ◌∷◌, ◌++◌, length, get_or, drop, Some, sym, ap, ◌∙◌}
use Rattle.std.proofs.lemmas.List.{drop_more, drop_all}
use Rattle.graphql_spec.specs.Shown.{Text, Shown, int, text, boolean, shown_int, shown_text, shown_boolean}
use Rattle.juniper_syntax.specs.ValueView.{view_value, view_values}
use Rattle.juniper_syntax.specs.declared.value.Value.{Value}
use Rattle.juniper_syntax.proofs.ValueLists.{append_values, append_values-none, values_push}

pub shows_int : (x : Shown) (i : ℤ) → Some i ≡ shown_int x → int i ≡ x
unfolding shown_int
shows_int (int j) i e = cc
shows_int (text t) i e = cc
shows_int (boolean b) i e = cc

pub shows_boolean : (x : Shown) (b : Bool) → Some b ≡ shown_boolean x → boolean b ≡ x
unfolding shown_boolean
shows_boolean (int j) b e = cc
shows_boolean (text t) b e = cc
shows_boolean (boolean c) b e = cc

pub shows_text : (x : Shown) (t : Text) → Some t ≡ shown_text x → text t ≡ x
unfolding shown_text
shows_text (int j) t e = cc
shows_text (text u) t e = cc
shows_text (boolean b) t e = cc

module _ {S T : Type 0} (seen : S → Shown) (shown : T → Shown) where
  -- a turn that makes w of the item x
  pub mapped_turn : (xs : List (Value S)) (made more : List (Value T)) (i : ℕ) (x : Value S) (w : Value T) → more ≡ made ++ w ∷ [] → i < length xs →
      x ≡ get_or xs i x
      → view_value shown w ≡ view_value seen x
      → append_values (view_values shown more) (view_values seen (drop (i + 1) xs)) ≡ append_values (view_values shown made) (view_values seen (drop i xs))
  mapped_turn xs made more i x w pushed below at_i same =
      let here : drop i xs ≡ x ∷ drop (i + 1) xs = drop_more xs i x below ∙ ap (λ y. y ∷ drop (i + 1) xs) (sym at_i) in
      rw (pushed, here, sym same) (values_push shown made w (view_values seen (drop (i + 1) xs)))

  -- after the loop
  pub mapped_end : (xs : List (Value S)) (made : List (Value T)) (i : ℕ) → length xs ≤ i →
      view_values shown made ≡ append_values (view_values shown made) (view_values seen (drop i xs))
  mapped_end xs made i past =
      let empty : drop i xs ≡ [] = drop_all i xs past in
      rw empty (sym (append_values-none (view_values shown made)))
