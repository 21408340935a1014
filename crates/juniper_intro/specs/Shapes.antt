-- What a declaration is, as code has it (4.2.2).
use Rattle.std.specs.Prelude.{Option, option_map}
use Rattle.std.specs.Borrow.{Bor}
use Rattle.graphql_spec.specs.Schema.{Shape}
use Rattle.graphql_spec.specs.Shown.{Shown}
use Rattle.juniper_meta.specs.MetaView.{view_meta}
use Rattle.juniper_meta.specs.declared.meta.MetaType.{MetaType}

-- ## Only private clauses cite what follows

-- where there is one
abbrev pub shape_in : {S : Type 0} → (S → Shown) → Option (Bor (MetaType S)) → Option Shape
shape_in shown o = option_map (λ m. (view_meta shown m.now).shape) o
