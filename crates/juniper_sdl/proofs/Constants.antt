-- Which input values are constants. In a loop over items or fields what is left decides.
use Rattle.std.proofs.Common.{◌≡◌, ℕ, ◌+◌, ◌<◌, ◌≤◌, ℤ, pos, negsuc, true, false, List, [], length, get_or, drop, string_bytes, Some, None}
use Rattle.std.proofs.Common.{refl, sym, ap, SFits, w32, arith}
use Rattle.std.proofs.lemmas.List.{drop_all}
use Rattle.std.proofs.lemmas.Bool.{le-leb}
use Rattle.std.proofs.lemmas.Option.{none-some, same_Some}
use Rattle.graphql_spec.specs.Inputs.{scalar}
use Rattle.graphql_spec.specs.Shown.{Shown, boolean, int, shown_int, text}
use Rattle.graphql_spec.specs.Tokens.{fits_int, is_name}
use Rattle.juniper_syntax.specs.InputView.{view_input, view_items, view_fields}
use Rattle.juniper_syntax.proofs.Lists.{left-is}
use Rattle.juniper_syntax.proofs.InputLists.{Item, Field}
use Rattle.juniper_sdl.specs.Faults.{are_constants, have_constants, is_constant}

module _ {S : Type 0} (shown : S → Shown) where
  -- a turn past a constant
  pub items_pass : (xs : List (Item S)) (i : ℕ) (x : Item S) → i < length xs → x ≡ get_or xs i x → is_constant (view_input shown x.item) ≡ true
      → are_constants (view_items shown (drop (i + 1) xs)) ≡ are_constants (view_items shown (drop i xs))
  unfolding are_constants
  items_pass xs i x below at_i one = rw (left-is xs i x below at_i, one) refl

  pub fields_pass : (xs : List (Field S)) (i : ℕ) (x : Field S) → i < length xs → x ≡ get_or xs i x → is_name (string_bytes x.0.item) ≡ true
      → is_constant (view_input shown x.1.item) ≡ true
      → have_constants (view_fields shown (drop (i + 1) xs)) ≡ have_constants (view_fields shown (drop i xs))
  unfolding have_constants
  fields_pass xs i x below at_i name one = rw (left-is xs i x below at_i, name, one) refl

  -- what is no constant
  pub items_stop : (xs : List (Item S)) (i : ℕ) (x : Item S) → i < length xs → x ≡ get_or xs i x → is_constant (view_input shown x.item) ≡ false
      → false ≡ are_constants (view_items shown (drop i xs))
  unfolding are_constants
  items_stop xs i x below at_i one = rw (left-is xs i x below at_i, one) refl

  pub names_stop : (xs : List (Field S)) (i : ℕ) (x : Field S) → i < length xs → x ≡ get_or xs i x → is_name (string_bytes x.0.item) ≡ false
      → false ≡ have_constants (view_fields shown (drop i xs))
  unfolding have_constants
  names_stop xs i x below at_i name = rw (left-is xs i x below at_i, name) refl

  pub fields_stop : (xs : List (Field S)) (i : ℕ) (x : Field S) → i < length xs → x ≡ get_or xs i x → is_name (string_bytes x.0.item) ≡ true
      → is_constant (view_input shown x.1.item) ≡ false
      → false ≡ have_constants (view_fields shown (drop i xs))
  unfolding have_constants
  fields_stop xs i x below at_i name one = rw (left-is xs i x below at_i, name, one) refl

  -- after the loop
  pub items_done : (xs : List (Item S)) (i : ℕ) → length xs ≤ i → true ≡ are_constants (view_items shown (drop i xs))
  unfolding are_constants
  items_done xs i past = let empty : drop i xs ≡ [] = drop_all i xs past in rw empty refl

  pub fields_done : (xs : List (Field S)) (i : ℕ) → length xs ≤ i → true ≡ have_constants (view_fields shown (drop i xs))
  unfolding have_constants
  fields_done xs i past = let empty : drop i xs ≡ [] = drop_all i xs past in rw empty refl

-- ## Scalars

pub fits_is : (z : ℤ) → SFits w32 z → fits_int z ≡ true
unfolding fits_int
fits_is (pos k) h = le-leb k 2147483647 (omega (arith, h.sfits))
fits_is (negsuc k) h = rw (le-leb k 2147483647 (omega (arith, h.sfits))) refl

-- the Int that is shown
pub number_is : (x : Shown) (z : ℤ) → Some z ≡ shown_int x → fits_int z ≡ is_constant (scalar x)
unfolding is_constant shown_int
number_is (int i) z e = ap fits_int (same_Some z i e)
number_is (text t) z e = absurd (none-some z (sym e))
number_is (boolean b) z e = absurd (none-some z (sym e))

pub no_number : (x : Shown) → None ≡ shown_int x → true ≡ is_constant (scalar x)
unfolding is_constant shown_int
no_number (int i) e = absurd (none-some i e)
no_number (text t) e = refl
no_number (boolean b) e = refl
