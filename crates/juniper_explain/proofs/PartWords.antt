-- What is found at the variables in the arguments of some definitions, of what is listed of these.
use Rattle.std.proofs.Common.{◌≡◌, List, [], ◌∷◌, ◌++◌, map, refl, sym, ap, ◌∙◌}
use Rattle.std.specs.Borrow.{Bor}
use Rattle.std.specs.List.{flat_map}
use Rattle.std.proofs.lemmas.List.Concat.{flat_map-append}
use Rattle.graphql_spec.specs.Shown.{Shown}
use Rattle.graphql_spec.specs.Documents.{Definition, Word}
use Rattle.graphql_spec.specs.Schema.{Schema}
use Rattle.juniper_rules.specs.Listing.{PlacedListing, listing_of, placed_listing_of}
use Rattle.juniper_rules.specs.declared.lists.ListedOnTypes.{ListedOnTypes}
use Rattle.juniper_written.proofs.Lists.{flat-seen}
use Rattle.juniper_written.specs.WrittenView.{view_lists}
use Rattle.juniper_type_rules.specs.CallView.{view_calls}
use Rattle.juniper_type_rules.specs.Positions.{Place, places_in_call, places_used}
use Rattle.juniper_type_rules.specs.Variables.{words_given, words_used}

in-each : {A B C : Type 0} (f : A → List B) (found : B → List C) (xs : List A) → flat_map (λ x. flat_map found (f x)) xs ≡ flat_map found (flat_map f xs)
in-each f found [] = refl
in-each f found (x ∷ xs) = ap (λ l. flat_map found (f x) ++ l) (in-each f found xs) ∙ sym (flat_map-append found (f x) (flat_map f xs))

-- at those in one definition
abbrev pub at_words : {S C : Type 0} → (S → Shown) → (Word → List C) → Bor (ListedOnTypes S) → List C
at_words shown found p = flat_map found (flat_map (flat_map words_given) (view_lists shown p.now.listed.now.arguments))

pub words-of : {C : Type 0} (found : Word → List C) (s : Schema) (xs : List Definition) →
    flat_map (λ (l : PlacedListing). flat_map found (flat_map (flat_map words_given) l.listing.arguments)) (map (placed_listing_of s) xs)
    ≡ flat_map found (flat_map words_used xs)
unfolding placed_listing_of listing_of words_used
words-of found s xs =
    sym (flat-seen (placed_listing_of s) (λ (l : PlacedListing). flat_map found (flat_map (flat_map words_given) l.listing.arguments)) xs)
    ∙ in-each words_used found xs

-- at the positions in one definition
abbrev pub at_places : {S C : Type 0} → (S → Shown) → Schema → (Place → List C) → Bor (ListedOnTypes S) → List C
at_places shown s found p = flat_map found (flat_map (places_in_call s) (view_calls shown p.now.calls.items))

pub places-of : {C : Type 0} (found : Place → List C) (s : Schema) (xs : List Definition) →
    flat_map (λ (l : PlacedListing). flat_map found (flat_map (places_in_call s) l.calls)) (map (placed_listing_of s) xs)
    ≡ flat_map found (flat_map (places_used s) xs)
unfolding placed_listing_of listing_of places_used
places-of found s xs =
    sym (flat-seen (placed_listing_of s) (λ (l : PlacedListing). flat_map found (flat_map (places_in_call s) l.calls)) xs)
    ∙ in-each (places_used s) found xs
