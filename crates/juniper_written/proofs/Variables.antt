-- The variables that an operation defines.
use Rattle.std.proofs.Common.{◌≡◌, Option, Some, None, option_map, map, refl}
use Rattle.graphql_spec.specs.Shown.{Shown}
use Rattle.graphql_spec.specs.Documents as spec
use Rattle.graphql_spec.specs.Documents.{variables_of}
use Rattle.juniper_syntax.specs.Positions.{view_spanning}
use Rattle.juniper_syntax.specs.declared.position.Spanning.{Spanning}
use Rattle.juniper_syntax.specs.declared.position.Span.{Span}
use Rattle.juniper_syntax.specs.DocumentView.{view_variable}
use Rattle.juniper_syntax.specs.declared.ast.VariableDefinitions.{VariableDefinitions}
use Rattle.juniper_written.specs.WrittenView.{view_variables}

-- those that are seen are those of the operation
pub variables-seen : {S : Type 0} (shown : S → Shown) (o : Option (Spanning (VariableDefinitions S) Span)) (r : spec.Operation) →
    r.variables ≡ option_map (view_spanning (λ v. map (view_variable shown) v.items.items)) o → view_variables shown o ≡ variables_of r
unfolding variables_of
variables-seen shown None r is = rw is refl
variables-seen shown (Some v) r is = rw is refl
