-- How fields on their types are seen.
use Rattle.std.specs.Prelude.{map, option_map}
use Rattle.graphql_spec.specs.Shown.{Shown}
use Rattle.graphql_spec.specs.Placed as spec
use Rattle.juniper_meta.specs.MetaView as metas
use Rattle.juniper_syntax.specs.DocumentView.{view_field}
use Rattle.juniper_written.specs.WrittenView.{view_directives_at}
use Rattle.juniper_type_rules.specs.Placing.{Parts}
use Rattle.juniper_type_rules.specs.declared.placed.Placed.{Placed}
use Rattle.juniper_type_rules.specs.declared.placed.PlacedParts.{PlacedParts}

module _ {S : Type 0} (shown : S → Shown) where
  -- a field on its parent type
  abbrev pub view_placed : Placed S → spec.Placed
  view_placed p = record { parent = p.parent.now; head = view_field shown p.field.now; declared = option_map (λ f. metas.view_field shown f.now) p.declared }

  abbrev pub view_parts : PlacedParts S → Parts
  view_parts p = record { fields = map view_placed p.fields.items; directives = view_directives_at shown p.directives.items }
