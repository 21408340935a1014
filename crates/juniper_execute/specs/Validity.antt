-- Documents that may be executed (5).
use Rattle.std.specs.Prelude.{◌≡◌, Bool, []}
use Rattle.graphql_spec.specs.Documents.{Document}
use Rattle.graphql_spec.specs.Rules.{rule_errors}
use Rattle.graphql_spec.specs.Schema.{Schema}

-- no rule is violated, be introspection disabled or not
abbrev pub IsValid : Schema → Document → Type 0
IsValid s d = (disabled : Bool) × (rule_errors s disabled d ≡ [])
