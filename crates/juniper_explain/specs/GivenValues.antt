-- Explanations of given values of variables (CoerceVariableValues, 6.1.2), and how they and the errors are made of the same reasons.
use Rattle.std.specs.Prelude.{codes, List, [], ◌∷◌, ◌++◌, Option, Some, None, map, string_bytes}
use Rattle.std.specs.List.{flat_map}
use Rattle.graphql_spec.specs.Shown.{Name, Text}
use Rattle.graphql_spec.specs.Positions.{Position}
use Rattle.graphql_spec.specs.Display.{display}
use Rattle.graphql_spec.specs.Documents.{VariableDefinition}
use Rattle.graphql_spec.specs.Inputs.{Input, Variables}
use Rattle.graphql_spec.specs.Requests.{default_fits, item_of, no_fitting_value}
use Rattle.graphql_spec.specs.Rules.{RuleError}
use Rattle.graphql_spec.specs.Schema.{Schema}
use Rattle.graphql_spec.specs.Types.{TypeRef, type_text}
use Rattle.juniper_syntax.specs.Positions.{view_position}
use Rattle.juniper_explain.specs.Reasons.{text_unless, value_reasons, variable_path}
use Rattle.juniper_explain.specs.declared.variable_values.VariableExplanation.{VariableExplanation as CodeExplanation}

-- where a variable is defined, and what is said of its value
pub record VariableExplanation : Type 0 where
  pub place : Position
  pub text : Text

abbrev pub view_variable_explanation : CodeExplanation → VariableExplanation
view_variable_explanation e = record { place = view_position e.location; text = string_bytes e.message }

abbrev pub view_variable_explanations : List CodeExplanation → List VariableExplanation
view_variable_explanations = map view_variable_explanation

-- a variable for which no value is given: it is missing, or its default does not fit
unfoldable pub absent_text : Name → TypeRef → Option Input → Text
absent_text n t None = codes "Variable `$" ++ (n ++ (codes "` is missing; it is `" ++ (type_text t ++ codes "`")))
absent_text n t (Some w) = codes "Default `" ++ (display w ++ (codes "` of `$" ++ (n ++ (codes "` is no `" ++ (type_text t ++ codes "`")))))

-- nothing where the default fits, or may be wanting
unfoldable pub absent_reasons : Schema → Name → TypeRef → Option Input → List Text
absent_reasons s n t o = text_unless (default_fits s t o) (absent_text n t o)

-- why a variable has no fitting value; nothing where it has one
unfoldable pub variable_reasons : Schema → VariableDefinition → Option Input → List Text
variable_reasons s v None = absent_reasons s v.name.item v.of_type.item (item_of v.default)
variable_reasons s v (Some x) = value_reasons s x v.of_type.item (variable_path v.name.item)

-- a reason, where the variable is defined
unfoldable pub told_at : VariableDefinition → Text → VariableExplanation
told_at v x = record { place = v.name.span.start; text = x }

-- all reasons, variable by variable
unfoldable pub variable_explanations : Schema → List VariableDefinition → Variables → List VariableExplanation
variable_explanations s vs given = flat_map (λ v. map (told_at v) (variable_reasons s v (given v.name.item))) vs

-- the error that is listed of a variable: none where there is no reason
unfoldable pub error_for : VariableDefinition → List Text → List RuleError
error_for v [] = []
error_for v (x ∷ xs) = record { message = no_fitting_value v.name.item; start = v.name.span.start } ∷ []
