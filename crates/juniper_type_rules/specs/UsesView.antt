-- What definitions use of variables, and how it is seen (5.8).
use Rattle.std.specs.Prelude.{◌≡◌, ◌||◌, ℕ, Bool, true, false, not, cond, filter, get_or, List, [], ◌∷◌, map, Option, Some, None, is_some, option_map}
use Rattle.std.specs.Borrow.{Bor}
use Rattle.std.specs.List.{flat_map, list_any}
use Rattle.std.specs.Option.{option_to_list}
use Rattle.graphql_spec.specs.Shown.{Shown, Name}
use Rattle.graphql_spec.specs.Positions.{Span as At}
use Rattle.graphql_spec.specs.Types.{TypeRef}
use Rattle.graphql_spec.specs.Documents as spec
use Rattle.graphql_spec.specs.Documents.{Document, Definition, Operation, operation, fragment, fragments}
use Rattle.graphql_spec.specs.Fragments.{spreads}
use Rattle.graphql_spec.specs.Placed.{Call, calls}
use Rattle.graphql_spec.specs.Schema.{Schema}
use Rattle.graphql_spec.specs.VariableUses as uses
use Rattle.graphql_spec.specs.VariableUses.{as_definitions, is_reached, names_used, uses_in_call, may_stand}
use Rattle.graphql_spec.specs.Written.{argument_lists}
use Rattle.juniper_syntax.specs.declared.position.Spanning.{Spanning}
use Rattle.juniper_syntax.specs.declared.position.Span.{Span}
use Rattle.juniper_syntax.specs.Positions.{view_span}
use Rattle.juniper_syntax.specs.DocumentView.{view_variable}
use Rattle.juniper_syntax.specs.declared.ast.VariableDefinition.{VariableDefinition}
use Rattle.juniper_meta.specs.MetaView.{view_type}
use Rattle.juniper_written.specs.WrittenView.{named, view_names}
use Rattle.juniper_written.specs.declared.name_map.NameMap.{NameMap}
use Rattle.juniper_type_rules.specs.Numbers.{AreNumbers, names_of, spread_numbers_of, view_lists}
use Rattle.juniper_type_rules.specs.Positions as positions
use Rattle.juniper_type_rules.specs.declared.reach.NumberedUsed.{NumberedUsed}
use Rattle.juniper_type_rules.specs.declared.reach.UsesOfFragments.{UsesOfFragments}
use Rattle.juniper_type_rules.specs.declared.uses.Place.{Place}
use Rattle.juniper_type_rules.specs.declared.uses.Use.{Use}
use Rattle.juniper_type_rules.specs.declared.uses.Used.{Used}

-- what a definition uses: its name, where it is a fragment; which tests one of the names of the variables passes; and which one of the
-- variables with their places
pub record Usage : Type 0 where
  pub fragment : Option Name
  pub names : (Name → Bool) → Bool
  pub uses : (uses.Use → Bool) → Bool

-- the name of a fragment
unfoldable pub fragment_name : Definition → Option Name
fragment_name (operation o) = None
fragment_name (fragment f) = Some f.name.item

-- what a definition uses in its own arguments (5.8.3, 5.8.5)
unfoldable pub usage_of : Schema → Definition → Usage
usage_of s x = record {
  fragment = fragment_name x;
  names = λ test. list_any test (names_used x);
  uses = λ test. list_any test (flat_map (uses_in_call s) (calls s x));
}

-- where these are the arguments in a definition, and those with their declarations these calls, this is what it uses
abbrev pub IsUsageIn : Schema → Definition → List (List spec.Argument) → List Call → Usage → Type 0
IsUsageIn s x arguments given used = arguments ≡ argument_lists x → given ≡ calls s x → used ≡ usage_of s x

-- ## Views

-- a variable at a place
abbrev pub view_use : Use → uses.Use
view_use u = record { variable = u.variable.now; place = view_type u.place.now; has_default = u.has_default }

abbrev pub view_uses : List Use → List uses.Use
view_uses = map view_use

-- a variable at a position, and where it is written
abbrev pub view_place : Place → positions.Place
view_place p = record { used = view_use p.used; span = view_span p.span }

abbrev pub view_places : List Place → List positions.Place
view_places = map view_place

-- what a definition uses
abbrev pub view_used : Used → Usage
view_used u = record {
  fragment = option_map (λ n. n.now) u.fragment;
  names = λ test. list_any test (view_names u.names.items);
  uses = λ test. list_any test (view_uses u.uses.items);
}

abbrev pub view_used_at : List (Bor Used) → List Usage
view_used_at = map (λ u. view_used u.now)

-- it has a variable
abbrev pub has_variables : Usage → Bool
has_variables u = u.names (λ n. true) || u.uses (λ u. true)

-- what those fragments with variables use that names lead to (5.8.3)
unfoldable pub uses_reached : Schema → Document → List Name → List Usage
uses_reached s d ks = filter has_variables (map (usage_of s) (as_definitions (filter (λ f. is_reached (fragments d) ks f.name.item) (fragments d))))

-- they are what an operation uses by itself, and then what those fragments with variables use that it reaches (5.8.3)
abbrev pub AreUsesOfParts : Schema → List (Bor Used) → Document → Definition → Type 0
AreUsesOfParts s us d x = (o : Operation) → x ≡ operation o → view_used_at us ≡ usage_of s x ∷ uses_reached s d (spreads o.selections)

-- ## Fragments by numbers

-- what a fragment uses, and the number of its name
abbrev pub view_numbered : NumberedUsed → Usage × ℕ
view_numbered u = (view_used u.used.now, u.number)

abbrev pub view_all_numbered : List NumberedUsed → List (Usage × ℕ)
view_all_numbered = map view_numbered

-- the number of a fragment's name
abbrev pub number_at : NameMap ℕ → Option Name → Option ℕ
number_at m None = None
number_at m (Some k) = named m k

-- what a fragment uses, with its number, where it has variables
unfoldable pub numbered_of : NameMap ℕ → Usage → List (Usage × ℕ)
numbered_of m u = cond (has_variables u) (map (λ i. (u, i)) (option_to_list (number_at m u.fragment))) []

-- the fragments of the document have numbers by their names; by these it has what each spreads, and what those use that have variables
pub record AreUsesOfFragments (s : Schema) (r : UsesOfFragments) (d : Document) : Type 0 where
  pub numbers : AreNumbers r.numbers (names_of (fragments d))
  pub lists : view_lists r.lists.items ≡ map (spread_numbers_of r.numbers (fragments d)) (names_of (fragments d))
  pub numbered : view_all_numbered r.numbered.items ≡ flat_map (numbered_of r.numbers) (map (usage_of s) (as_definitions (fragments d)))

-- ## Only private clauses cite what follows

-- a variable that is written here, at a position of this type, which may have a default
abbrev pub place_at : Name → At → TypeRef → Bool → positions.Place
place_at n at t b = record { used = record { variable = n; place = t; has_default = b }; span = at }

-- the definition of a variable that the map has at a name
unfoldable pub definition_at : {S : Type 0} → (S → Shown) → NameMap (Bor (Spanning (Bor (List ℕ)) Span × VariableDefinition S)) → Name →
    Option spec.VariableDefinition
definition_at shown m n = option_map (λ v. view_variable shown v.now) (named m n)

-- a variable may stand at a place, if it is defined
unfoldable pub allowed_by : (Name → Option spec.VariableDefinition) → uses.Use → Bool
allowed_by defined u = elim (defined u.variable) [ None ↦ true | Some v ↦ may_stand v u ]

-- a variable of the name is not defined
abbrev pub is_unknown : (Name → Option spec.VariableDefinition) → Name → Bool
is_unknown defined n = not (is_some (defined n))

-- a variable may not stand where it stands
abbrev pub is_misused : (Name → Option spec.VariableDefinition) → uses.Use → Bool
is_misused defined u = not (allowed_by defined u)

-- what is used is not all defined
abbrev pub uses_unknown : (Name → Option spec.VariableDefinition) → Usage → Bool
uses_unknown defined u = u.names (is_unknown defined)

-- what is used may not all stand where it stands
abbrev pub uses_misused : (Name → Option spec.VariableDefinition) → Usage → Bool
uses_misused defined u = u.uses (is_misused defined)

-- the name of a fragment
abbrev pub named_in : Usage → List Name
named_in u = option_to_list u.fragment

-- what is used, where its number is marked
abbrev pub where_marked : List Bool → Usage × ℕ → List Usage
where_marked marks p = cond (get_or marks p.1 false) (p.0 ∷ []) []
