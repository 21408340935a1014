-- The nearest name so far; only private clauses cite this file.
use Rattle.std.specs.Prelude.{List, Option, option_map}
use Rattle.std.specs.Option.{option_or}
use Rattle.graphql_spec.specs.Shown.{Name}
use Rattle.juniper_explain.specs.Nearest.{nearest}
use Rattle.juniper_explain.specs.declared.nearest.Near.{Near}

-- what is nearest in the end, where these names are left
abbrev pub chosen : Near → Name → List Name → Option Name
chosen c n ks = option_or (nearest n c.bound ks) (option_map (λ k. k.now) c.name)
