use Rattle.std.proofs.Common.{◌≡◌, ◌++◌, map, drop}
use Rattle.std.specs.List.{flat_map}
use Rattle.graphql_spec.specs.Documents.{span_of_definition}
use Rattle.graphql_spec.specs.Rules.{reported}
use Rattle.juniper_syntax.specs.Positions.{view_position}
use Rattle.juniper_syntax.specs.RuleView.{view_rule_error}
use Rattle.juniper_syntax.specs.DocumentView.{view_definition}
use Rattle.juniper_rules.proofs.report.report.Given as goal

-- what is listed, and then what is left to list; the start is the definition's
abbrev pub invariant-loop-is_violated : goal.invariant-loop-is_violated
invariant-loop-is_violated g l =
    let x = view_definition g.S.ScalarValue.shown l.definition in
    (view_position l.start ≡ (span_of_definition x).start)
    × (map view_rule_error l.errors.items ++ flat_map (λ f. reported f.0 f.1.now x) (drop l.is_violated-index l.findings)
    ≡ map view_rule_error l.initial.errors.items ++ flat_map (λ f. reported f.0 f.1.now x) l.findings)
