use Rattle.std.proofs.Common.{map, ap, ◌∙◌}
use Rattle.juniper_syntax.specs.RuleView.{view_rule_error}
use Rattle.juniper.specs.RequestErrors.{not_valid}
use Rattle.juniper.proofs.error.GraphQLError.try_clone.Goals as goal

pub returns-in_ok-clone_rule_errors-in-ValidationError : goal.returns-in_ok-clone_rule_errors-in-ValidationError
returns-in_ok-clone_rule_errors-in-ValidationError c =
    rw c.in-ValidationError.is (ap not_valid (c.in_ok-clone_rule_errors-in-ValidationError.ensures ∙ ap (map view_rule_error) c.as_slice.ensures.value))
