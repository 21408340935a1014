use Rattle.std.proofs.Common.{map, ap}
use Rattle.juniper_syntax.specs.RuleView.{view_rule_error}
use Rattle.juniper.specs.RequestErrors.{not_valid}
use Rattle.juniper.proofs.error.GraphQLError.from_rule.Goals as goal

pub returns : goal.returns
returns c = ap (λ es. not_valid (map view_rule_error es)) c.in_ok-vec.ensures.items
