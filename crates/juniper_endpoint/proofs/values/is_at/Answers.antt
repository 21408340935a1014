use Rattle.std.proofs.Common.{◌≡◌, Some, option_map, ap, sym, ◌∙◌}
use Rattle.graphql_spec.specs.Positions.{same_position}
use Rattle.juniper_syntax.specs.Positions.{view_position}
use Rattle.juniper_syntax.specs.RuleView.{view_rule_error}
use Rattle.juniper_json.proofs.Refused.{first_place}
use Rattle.juniper_endpoint.proofs.values.is_at.Goals as goal

pub returns-in-None : goal.returns-in-None
returns-in-None c =
    let first = first_place view_position c.locations.result.now _ _ c.locations.ensures (c.copied.ensures ∙ c.first.ensures.value) in
    absurd (cc (sym (ap (option_map view_position) c.in-None.is) ∙ first))

pub returns-in-Some : goal.returns-in-Some
unfolding same_position
returns-in-Some c =
    let first = first_place view_position c.locations.result.now _ _ c.locations.ensures (c.copied.ensures ∙ c.first.ensures.value) in
    let same : Some (view_position c.in-Some.start) ≡ Some (view_rule_error c.args.error.now).start =
    sym (ap (option_map view_position) c.in-Some.is) ∙ first in
    let start : view_position c.in-Some.start ≡ (view_rule_error c.args.error.now).start = cc in
    c.eq.ensures ∙ ap (λ p. same_position p (view_position c.args.place)) start
