-- What is written in a definition, kind by kind (5).
use Rattle.std.specs.Prelude.{map, List, [], ◌∷◌, ◌++◌, Option, Some, None}
use Rattle.graphql_spec.specs.Shown.{Name}
use Rattle.graphql_spec.specs.Documents.{Argument, written, Word, Directive, Head, Spread, Inline, Selections, Definition}
use Rattle.graphql_spec.specs.Fragments.{spreads}
use Rattle.graphql_spec.specs.Written.{heads, conditions, directives_in, selections_of, all_conditions, all_directives}

-- the fields, the names of the fragments that are spread, the type conditions, and the directives
pub record Parts : Type 0 where
  pub fields : List Head
  pub spreads : List Name
  pub conditions : List Name
  pub directives : List Directive

-- what is written in a definition, at any depth
unfoldable pub parts_of : Definition → Parts
parts_of x = record { fields = heads (selections_of x); spreads = spreads (selections_of x); conditions = all_conditions x; directives = all_directives x }

-- the arguments of each field and each directive; of a definition's parts they are `argument_lists`
unfoldable pub lists_of : Parts → List (List Argument)
lists_of p = map (λ h. written h.arguments) p.fields ++ map (λ d. written d.arguments) p.directives

-- ## Selections; only private clauses cite what follows

-- what is written in selections, at any depth
unfoldable pub parts_in : Selections → Parts
parts_in s = record { fields = heads s; spreads = spreads s; conditions = conditions s; directives = directives_in s }

-- the one behind the other, kind by kind
unfoldable pub joined : Parts → Parts → Parts
joined p q = record {
  fields = p.fields ++ q.fields;
  spreads = p.spreads ++ q.spreads;
  conditions = p.conditions ++ q.conditions;
  directives = p.directives ++ q.directives;
}

-- a field without what stands below it
unfoldable pub field_parts : Head → Parts
field_parts h = record { fields = h ∷ []; spreads = []; conditions = []; directives = h.directives }

-- a spread
unfoldable pub spread_parts : Spread → Parts
spread_parts x = record { fields = []; spreads = x.name.item ∷ []; conditions = []; directives = x.directives }

-- a condition that is written
unfoldable pub condition_names : Option Word → List Name
condition_names None = []
condition_names (Some w) = w.item ∷ []

-- an inline fragment without what stands below it
unfoldable pub inline_parts : Inline → Parts
inline_parts x = record { fields = []; spreads = []; conditions = condition_names x.condition; directives = x.directives }
