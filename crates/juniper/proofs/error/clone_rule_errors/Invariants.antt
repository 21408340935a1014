use Rattle.std.proofs.Common.{◌≡◌, map, take}
use Rattle.juniper_syntax.specs.RuleView.{view_rule_error}
use Rattle.juniper.proofs.error.clone_rule_errors.Given as goal

abbrev pub invariant-loop-error : goal.invariant-loop-error
invariant-loop-error l = map view_rule_error l.clones.items ≡ map view_rule_error (take l.error-index l.errors)
