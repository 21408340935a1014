-- What is searched among the entries of the names that a schema lists.
use Rattle.std.proofs.Common.{◌≡◌, ◌++◌, true, codes, List, map, Option, Some, None, option_map, MatchOption, refl, sym, ap, ap₂, subst, ◌∙◌}
use Rattle.std.specs.List.{list_all}
use Rattle.std.specs.Option.{option_or}
use Rattle.graphql_spec.specs.Shown.{Name}
use Rattle.graphql_spec.specs.Schema.{Entry, Schema}
use Rattle.graphql_spec.specs.Executable.{is_executable}
use Rattle.graphql_spec.specs.TypeList.{type_list}
use Rattle.juniper_schema.specs.Faults.{IsFirstFault, NamesDiffer}
use Rattle.juniper_schema.specs.Searching.{IsApart, at_type, entries_at, entries_of, fault_among, first_taken}
use Rattle.juniper_schema.specs.declared.faults.fault.Demand.TheVariants.{EntryNames}
use Rattle.juniper_schema.proofs.Faulty.{finds_first, reserved_is_first}
use Rattle.juniper_schema.proofs.Listing.{are_entries, taken_stands}

-- one answer or the other, seen
pub map_or : {X Y : Type 0} (view : X → Y) (a b : Option X) → option_map view (option_or a b) ≡ option_or (option_map view a) (option_map view b)
map_or view None b = refl
map_or view (Some x) b = refl

-- the same of what is seen of both
pub or_seen : {X Y : Type 0} (view : X → Y) (r a b : Option X) (p q : Option Y) → r ≡ option_or a b → option_map view a ≡ p → option_map view b ≡ q →
    option_map view r ≡ option_or p q
or_seen view r a b p q is f g = ap (option_map view) is ∙ (map_or view a b ∙ ap₂ option_or f g)

-- what is found among the entries is the first fault
pub searched : (s : Schema) (ns : List Name) (es : List Entry) → ns ≡ map (λ e. e.key) (type_list s) → IsApart s → NamesDiffer s →
    es ≡ (entries_of s ns ++ entries_at s (codes "_EmptyMutation")) ++ entries_at s (codes "_EmptySubscription") →
    MatchOption (fault_among s es) (is_executable s ≡ true) (IsFirstFault s)
searched s ns es is apart differ made = finds_first s es (λ test. ap (list_all test) made ∙ are_entries s ns is apart differ test)

-- the same of what is seen so
pub moved : {X Y : Type 0} (view : X → Y) (r : Option X) (o : Option Y) (P : Type 0) (Q : Y → Type 0) → option_map view r ≡ o → MatchOption o P Q →
    MatchOption r P (λ x. Q (view x))
moved {X} view r o P Q is m = go r (subst (λ p. MatchOption p P Q) (sym is) m)
  where
    go : (q : Option X) → MatchOption (option_map view q) P Q → MatchOption q P (λ x. Q (view x))
    go None m = m
    go (Some x) m = m

-- a name that is taken is the first fault
pub taken_first : (s : Schema) (ns : List Name) (n : Name) → ns ≡ map (λ e. e.key) (type_list s) → Some n ≡ first_taken ns ns →
    IsFirstFault s (at_type EntryNames n)
taken_first s ns n is found = let stands = taken_stands s ns n is found in reserved_is_first s n stands.0 stands.1
