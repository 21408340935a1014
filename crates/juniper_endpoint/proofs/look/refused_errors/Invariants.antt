use Rattle.std.proofs.Common.{◌≡◌, map, take}
use Rattle.juniper_json.specs.Each.{view_refused}
use Rattle.juniper_syntax.specs.RuleView.{view_rule_error}
use Rattle.juniper_syntax.specs.DocumentView.{view_variable}
use Rattle.juniper_syntax.specs.Scalars.{default_shown}
use Rattle.juniper_endpoint.specs.Replied.{refused_errors}
use Rattle.juniper_endpoint.proofs.look.refused_errors.Given as goal

abbrev pub invariant-loop-variable : goal.invariant-loop-variable
invariant-loop-variable l =
    map view_rule_error l.errors.items ≡ refused_errors (map view_refused l.refused) (map (view_variable default_shown) (take l.variable-index l.defined))
