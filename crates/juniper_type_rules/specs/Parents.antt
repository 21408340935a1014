-- The types that selections stand on; only private clauses cite this file.
use Rattle.std.specs.Prelude.{◌≡◌, None, MatchOption}
use Rattle.graphql_spec.specs.Shown.{Shown}
use Rattle.graphql_spec.specs.Schema.{Schema}
use Rattle.graphql_spec.specs.Fields.{type_named}
use Rattle.juniper_meta.specs.MetaView.{shape_of}
use Rattle.juniper_type_rules.specs.declared.parent.Parent.{Parent}

module _ {S : Type 0} (shown : S → Shown) where
  -- what is declared at the name is found
  abbrev pub IsParent : Schema → Parent S → Type 0
  IsParent s p = MatchOption p.meta (type_named s p.name.now ≡ None) (λ m. type_named s p.name.now ≡ shape_of shown m.now)
