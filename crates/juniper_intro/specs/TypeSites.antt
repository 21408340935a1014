-- A type as it is referred to and declared, as code has it (4.2.2).
use Rattle.std.specs.Prelude.{◌≡◌, ℕ, List, [], unwrap_or}
use Rattle.std.specs.Option.{option_and_then}
use Rattle.graphql_spec.specs.Constants.{Members}
use Rattle.graphql_spec.specs.Fields.{shape_of}
use Rattle.graphql_spec.specs.Introspected.{declared_as, description_of, own_name}
use Rattle.graphql_spec.specs.Resolvers.{Tree}
use Rattle.graphql_spec.specs.Schema.{Schema}
use Rattle.graphql_spec.specs.Shown.{Name, Shown}
use Rattle.juniper_intro.specs.HandleView.{view_type_place}
use Rattle.juniper_intro.specs.Handles.{Handle, type_held}
use Rattle.juniper_intro.specs.References.{view_reference}
use Rattle.juniper_intro.specs.Shapes.{shape_in}
use Rattle.juniper_intro.specs.declared.types.TypeSite.{TypeSite}
use Rattle.juniper_meta.specs.MetaView.{view_meta}

-- ## Only private clauses cite what follows

-- what is declared is what the schema declares at the name that the reference is
pub record IsDeclaredSo {S : Type 0} (shown : S → Shown) (s : Schema) (t : TypeSite S) : Type 0 where
  pub shape : shape_in shown t.declared ≡ shape_of (declared_as s (view_reference t.reference))
  pub description : option_and_then (λ m. (view_meta shown m.now).description) t.declared ≡ description_of (declared_as s (view_reference t.reference))

-- what a type answers to each field of `__Type`, by its reference and by what is declared
abbrev pub site_held : {S : Type 0} → (S → Shown) → Schema → List Name → (Name → ℕ) → TypeSite S → Members → List (Name × Tree Handle)
site_held shown s names number t args = type_held s names number (view_type_place t.place) t.depth (view_reference t.reference)
    (shape_in shown t.declared) (number (unwrap_or (own_name (view_reference t.reference)) [])) args
