-- Loops that test each item of a list: what is left decides.
use Rattle.std.proofs.Common.{◌≡◌, ℕ, ◌+◌, ◌<◌, ◌≤◌, Bool, true, false, List, [], map, length, get_or, drop, refl}
use Rattle.std.specs.List.{list_all}
use Rattle.std.proofs.lemmas.List.{drop_all}
use Rattle.juniper_syntax.proofs.Lists.{seen-left-is}

module _ {X Y : Type 0} (view : X → Y) (test : Y → Bool) where
  -- a turn past an item that passes
  pub all_pass : (xs : List X) (i : ℕ) (x : X) → i < length xs → x ≡ get_or xs i x → test (view x) ≡ true
      → list_all test (map view (drop (i + 1) xs)) ≡ list_all test (map view (drop i xs))
  all_pass xs i x below at_i one = rw (seen-left-is view xs i x below at_i, one) refl

  -- an item that does not
  pub all_stop : (xs : List X) (i : ℕ) (x : X) → i < length xs → x ≡ get_or xs i x → test (view x) ≡ false
      → false ≡ list_all test (map view (drop i xs))
  all_stop xs i x below at_i one = rw (seen-left-is view xs i x below at_i, one) refl

  -- after the loop
  pub all_done : (xs : List X) (i : ℕ) → length xs ≤ i → true ≡ list_all test (map view (drop i xs))
  all_done xs i past = let empty : drop i xs ≡ [] = drop_all i xs past in rw empty refl
