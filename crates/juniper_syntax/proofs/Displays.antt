-- What is written for a list or an object part by part, and for a scalar by what it shows.
use Rattle.std.specs.Prelude.{if◌then◌else◌}
use Rattle.std.proofs.Common.{◌≡◌, ℕ, ℤ, ◌+◌, ◌<◌, ◌≤◌, Bool, true, false, List, [], ◌++◌, length, get_or, drop, Option, Some, None, codes, string_bytes, refl}
use Rattle.std.proofs.Common.{ap, append_assoc, append-nil}
use Rattle.std.proofs.lemmas.List.{drop_all}
use Rattle.std.specs.Fmt.{signed_decimal}
use Rattle.std.specs.Str.{IsUtf8}
use Rattle.graphql_spec.specs.Shown.{Text, Shown, int, text, boolean, shown_int, shown_text, shown_boolean}
use Rattle.graphql_spec.specs.Inputs.{InputItems, no_items, item, InputFields, no_fields, input_field}
use Rattle.graphql_spec.specs.Display.{display, display_items, more_items, display_fields, more_fields, shown_text_of, quoted}
use Rattle.juniper_syntax.specs.InputView.{view_input, view_items, view_fields}
use Rattle.juniper_syntax.proofs.InputLists.{Item, Field}
use Rattle.juniper_syntax.proofs.Lists.{left-is}

-- a comma and a blank are UTF-8
pub comma-IsUtf8 : IsUtf8 (codes ", ")
unfolding lib.Utf8.encode
comma-IsUtf8 = (codes ", ", (refl, refl))

-- items, with a separator before the first
abbrev pub separated_items : Text → InputItems → Text
separated_items separator no_items = []
separated_items separator (item v at rest) = separator ++ (display v ++ more_items rest)

-- fields, with a separator before the first
abbrev pub separated_fields : Text → InputFields → Text
separated_fields separator no_fields = []
separated_fields separator (input_field k k_at v v_at rest) = separator ++ (k ++ (codes ": " ++ (display v ++ more_fields rest)))

pub first_items : (is : InputItems) → separated_items [] is ≡ display_items is
unfolding display
first_items no_items = refl
first_items (item v at rest) = refl

more-items-are : (is : InputItems) → more_items is ≡ separated_items (codes ", ") is
unfolding display
more-items-are no_items = refl
more-items-are (item v at rest) = refl

pub first_fields : (fs : InputFields) → separated_fields [] fs ≡ display_fields fs
unfolding display
first_fields no_fields = refl
first_fields (input_field k k_at v v_at rest) = refl

more-fields-are : (fs : InputFields) → more_fields fs ≡ separated_fields (codes ", ") fs
unfolding display
more-fields-are no_fields = refl
more-fields-are (input_field k k_at v v_at rest) = refl

module _ {S : Type 0} (shown : S → Shown) where
  -- a turn that writes the item x
  pub items_written : (xs : List (Item S)) (i : ℕ) (x : Item S) (separator done all : Text) → i < length xs → x ≡ get_or xs i x
      → done ++ separated_items separator (view_items shown (drop i xs)) ≡ all
      → (done ++ (separator ++ display (view_input shown x.item))) ++ separated_items (codes ", ") (view_items shown (drop (i + 1) xs)) ≡ all
  items_written xs i x separator done all below at_i whole =
      let read = rw (left-is xs i x below at_i, more-items-are) at whole in
      simp append_assoc read

  -- after the loop
  pub items_all : (xs : List (Item S)) (i : ℕ) (separator done all : Text) → length xs ≤ i
      → done ++ separated_items separator (view_items shown (drop i xs)) ≡ all → done ≡ all
  items_all xs i separator done all past whole =
      let none : drop i xs ≡ [] = drop_all i xs past in
      rw (none, append-nil) at whole

  pub fields_written : (xs : List (Field S)) (i : ℕ) (x : Field S) (separator done all : Text) → i < length xs → x ≡ get_or xs i x
      → done ++ separated_fields separator (view_fields shown (drop i xs)) ≡ all
      → (done ++ (separator ++ (string_bytes x.0.item ++ (codes ": " ++ display (view_input shown x.1.item)))))
      ++ separated_fields (codes ", ") (view_fields shown (drop (i + 1) xs)) ≡ all
  fields_written xs i x separator done all below at_i whole =
      let read = rw (left-is xs i x below at_i, more-fields-are) at whole in
      simp append_assoc read

  pub fields_all : (xs : List (Field S)) (i : ℕ) (separator done all : Text) → length xs ≤ i
      → done ++ separated_fields separator (view_fields shown (drop i xs)) ≡ all → done ≡ all
  fields_all xs i separator done all past whole =
      let none : drop i xs ≡ [] = drop_all i xs past in
      rw (none, append-nil) at whole

-- each of the three things that a scalar shows is written in its own way
pub number_text : (x : Shown) (o : Option ℤ) (i j : ℤ) → o ≡ shown_int x → o ≡ Some i → j ≡ i → signed_decimal j ≡ shown_text_of x
unfolding shown_int shown_text_of
number_text (int k) o i j e f same = ap signed_decimal (cc)
number_text (text t) o i j e f same = cc
number_text (boolean b) o i j e f same = cc

pub truth_text : (x : Shown) (o : Option Bool) (b : Bool) → o ≡ shown_boolean x → o ≡ Some b → (if b then codes "true" else codes "false") ≡ shown_text_of x
unfolding shown_boolean shown_text_of
truth_text (int j) o b e f = cc
truth_text (text t) o b e f = cc
truth_text (boolean true) o true e f = refl
truth_text (boolean true) o false e f = cc
truth_text (boolean false) o true e f = cc
truth_text (boolean false) o false e f = refl

pub quoted_text : (x : Shown) (o : Option Text) (t : Text) → o ≡ shown_text x → o ≡ Some t → quoted t ≡ shown_text_of x
unfolding shown_text shown_text_of
quoted_text (int j) o t e f = cc
quoted_text (text s) o t e f = cc
quoted_text (boolean c) o t e f = cc

-- a scalar shows one of the three
pub shows_one : (x : Shown) (o : Option ℤ) (p : Option Bool) (q : Option Text)
    → o ≡ shown_int x → p ≡ shown_boolean x → q ≡ shown_text x → o ≡ None → p ≡ None → q ≡ None → ⊥
unfolding shown_int shown_boolean shown_text
shows_one (int j) o p q a b c d e f = cc
shows_one (text t) o p q a b c d e f = cc
shows_one (boolean t) o p q a b c d e f = cc
