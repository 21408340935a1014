use Rattle.std.proofs.Common.{None, Some, option_copied, sym, ap, ◌∙◌}
use Rattle.juniper_syntax.specs.Positions.{view_position}
use Rattle.juniper_syntax.specs.RuleView.{view_rule_error}
use Rattle.juniper_endpoint.proofs.Explaining.{listed-first}
use Rattle.juniper_endpoint.proofs.values.listed_at.Goals as goal

pub returns-in-None : goal.returns-in-None
returns-in-None c = listed-first view_rule_error c.args.errors.now (view_position c.args.place) None
    (sym (ap option_copied c.in-None.is) ∙ c.error_at.ensures)

pub returns-in_ok-text-in-Some : goal.returns-in_ok-text-in-Some
returns-in_ok-text-in-Some c =
    ap (λ t. Some (record { text = t; number = None })) (c.in_ok-text-in-Some.ensures.ok ∙ c.message.ensures)
    ∙ listed-first view_rule_error c.args.errors.now (view_position c.args.place) (Some c.in-Some.error.now)
    (sym (ap option_copied c.in-Some.is) ∙ c.error_at.ensures)
