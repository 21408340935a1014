use Rattle.std.proofs.Common.{None, Some, true, ap, ◌∙◌}
use Rattle.graphql_spec.specs.VariableUses.{may_stand}
use Rattle.juniper_type_rules.specs.UsesView.{allowed_by, view_use}
use Rattle.juniper_type_rules.proofs.ByName.{found-is, missing-is}
use Rattle.juniper_type_rules.proofs.variables_in_allowed_position.is_allowed.Goals as goal

pub returns-in-Some : goal.returns-in-Some
unfolding allowed_by
returns-in-Some g c =
    let u = view_use c.args.used.now in
    c.may_stand.ensures ∙ ap (λ o. elim o [ None ↦ true | Some v ↦ may_stand v u ])
    (found-is g.S.ScalarValue.shown c.args.defined.now u.variable c.get.result c.in-Some.variable c.get.ensures c.in-Some.is)

pub returns-in-None : goal.returns-in-None
unfolding allowed_by
returns-in-None g c =
    let u = view_use c.args.used.now in
    ap (λ o. elim o [ None ↦ true | Some v ↦ may_stand v u ])
    (missing-is g.S.ScalarValue.shown c.args.defined.now u.variable c.get.result c.get.ensures c.in-None.is)
