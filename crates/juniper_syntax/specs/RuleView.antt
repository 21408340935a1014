-- How an error of validation is seen (5, 7.1.2).
use Rattle.std.specs.Prelude.{string_bytes}
use Rattle.graphql_spec.specs.Rules as rules
use Rattle.juniper_syntax.specs.Positions.{view_position}
use Rattle.juniper_syntax.specs.declared.rule.RuleError.{RuleError}

abbrev pub view_rule_error : RuleError → rules.RuleError
view_rule_error e = record { message = string_bytes e.message; start = view_position e.location }
