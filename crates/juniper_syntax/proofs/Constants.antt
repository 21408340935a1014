-- Whether no variable stands in items or fields, as a loop over them finds it: what is left decides.
use Rattle.std.proofs.Common.{◌≡◌, ℕ, ◌+◌, ◌<◌, ◌≤◌, true, false, List, [], length, get_or, drop, refl}
use Rattle.std.proofs.lemmas.List.{drop_all}
use Rattle.graphql_spec.specs.Shown.{Shown}
use Rattle.graphql_spec.specs.Inputs.{is_const, items_are_const, fields_are_const}
use Rattle.juniper_syntax.specs.InputView.{view_input, view_items, view_fields}
use Rattle.juniper_syntax.proofs.Lists.{left-is}
use Rattle.juniper_syntax.proofs.InputLists.{Item, Field}

module _ {S : Type 0} (shown : S → Shown) where
  -- a turn past an item without variables
  pub items_pass : (xs : List (Item S)) (i : ℕ) (x : Item S) → i < length xs → x ≡ get_or xs i x → is_const (view_input shown x.item) ≡ true
      → items_are_const (view_items shown (drop (i + 1) xs)) ≡ items_are_const (view_items shown (drop i xs))
  unfolding items_are_const
  items_pass xs i x below at_i one = rw (left-is xs i x below at_i, one) refl

  pub fields_pass : (xs : List (Field S)) (i : ℕ) (x : Field S) → i < length xs → x ≡ get_or xs i x → is_const (view_input shown x.1.item) ≡ true
      → fields_are_const (view_fields shown (drop (i + 1) xs)) ≡ fields_are_const (view_fields shown (drop i xs))
  unfolding fields_are_const
  fields_pass xs i x below at_i one = rw (left-is xs i x below at_i, one) refl

  -- an item in which a variable stands
  pub items_stop : (xs : List (Item S)) (i : ℕ) (x : Item S) → i < length xs → x ≡ get_or xs i x → is_const (view_input shown x.item) ≡ false
      → false ≡ items_are_const (view_items shown (drop i xs))
  unfolding items_are_const
  items_stop xs i x below at_i one = rw (left-is xs i x below at_i, one) refl

  pub fields_stop : (xs : List (Field S)) (i : ℕ) (x : Field S) → i < length xs → x ≡ get_or xs i x → is_const (view_input shown x.1.item) ≡ false
      → false ≡ fields_are_const (view_fields shown (drop i xs))
  unfolding fields_are_const
  fields_stop xs i x below at_i one = rw (left-is xs i x below at_i, one) refl

  -- after the loop
  pub items_done : (xs : List (Item S)) (i : ℕ) → length xs ≤ i → true ≡ items_are_const (view_items shown (drop i xs))
  unfolding items_are_const
  items_done xs i past = let empty : drop i xs ≡ [] = drop_all i xs past in rw empty refl

  pub fields_done : (xs : List (Field S)) (i : ℕ) → length xs ≤ i → true ≡ fields_are_const (view_fields shown (drop i xs))
  unfolding fields_are_const
  fields_done xs i past = let empty : drop i xs ≡ [] = drop_all i xs past in rw empty refl
