-- What is written for a value of an answer part by part.
use Rattle.std.proofs.Common.{◌≡◌, ℕ, ◌+◌, ◌<◌, ◌≤◌, List, [], ◌∷◌, ◌++◌, length, get_or, drop, codes, string_bytes, refl, append_assoc, append-nil}
use Rattle.std.proofs.lemmas.List.{drop_all}
use Rattle.graphql_spec.specs.Shown.{Text, Shown}
use Rattle.graphql_spec.specs.Display.{quoted}
use Rattle.graphql_spec.specs.Values.{Values, no_items, item, Entries, no_entries, entry}
use Rattle.graphql_spec.specs.ValueDisplay.{display_value, display_values, more_values, display_entries, more_entries}
use Rattle.juniper_syntax.specs.ValueView.{view_value, view_values, view_entries}
use Rattle.juniper_syntax.specs.declared.value.Value.{Value}
use Rattle.juniper_syntax.proofs.Values.{Pair}
use Rattle.juniper_syntax.proofs.Lists.{left-is}

-- items, with a separator before the first
abbrev pub separated_values : Text → Values → Text
separated_values separator no_items = []
separated_values separator (item v rest) = separator ++ (display_value v ++ more_values rest)

-- keys with values, with a separator before the first
abbrev pub separated_entries : Text → Entries → Text
separated_entries separator no_entries = []
separated_entries separator (entry k v rest) = separator ++ (quoted k ++ (codes ": " ++ (display_value v ++ more_entries rest)))

pub first_values : (vs : Values) → separated_values [] vs ≡ display_values vs
unfolding display_value
first_values no_items = refl
first_values (item v rest) = refl

more-values-are : (vs : Values) → more_values vs ≡ separated_values (codes ", ") vs
unfolding display_value
more-values-are no_items = refl
more-values-are (item v rest) = refl

pub first_entries : (es : Entries) → separated_entries [] es ≡ display_entries es
unfolding display_value
first_entries no_entries = refl
first_entries (entry k v rest) = refl

more-entries-are : (es : Entries) → more_entries es ≡ separated_entries (codes ", ") es
unfolding display_value
more-entries-are no_entries = refl
more-entries-are (entry k v rest) = refl

module _ {S : Type 0} (shown : S → Shown) where
  -- a turn that writes the item x
  pub values_written : (xs : List (Value S)) (i : ℕ) (x : Value S) (separator done all : Text) → i < length xs → x ≡ get_or xs i x
      → done ++ separated_values separator (view_values shown (drop i xs)) ≡ all
      → (done ++ (separator ++ display_value (view_value shown x))) ++ separated_values (codes ", ") (view_values shown (drop (i + 1) xs)) ≡ all
  values_written xs i x separator done all below at_i whole =
      let read = rw (left-is xs i x below at_i, more-values-are) at whole in
      simp append_assoc read

  -- after the loop
  pub values_all : (xs : List (Value S)) (i : ℕ) (separator done all : Text) → length xs ≤ i
      → done ++ separated_values separator (view_values shown (drop i xs)) ≡ all → done ≡ all
  values_all xs i separator done all past whole =
      let none : drop i xs ≡ [] = drop_all i xs past in
      rw (none, append-nil) at whole

  pub entries_written : (es rest : List (Pair S)) (x : Pair S) (separator done all : Text) → es ≡ x ∷ rest
      → done ++ separated_entries separator (view_entries shown es) ≡ all
      → (done ++ (separator ++ (quoted (string_bytes x.0) ++ (codes ": " ++ display_value (view_value shown x.1)))))
      ++ separated_entries (codes ", ") (view_entries shown rest) ≡ all
  entries_written es rest x separator done all is whole =
      let read = rw (is, more-entries-are) at whole in
      simp append_assoc read

  pub entries_all : (es : List (Pair S)) (separator done all : Text) → es ≡ []
      → done ++ separated_entries separator (view_entries shown es) ≡ all → done ≡ all
  entries_all es separator done all none whole = rw (none, append-nil) at whole
