use Rattle.std.proofs.Common.{not, ap, ◌∙◌}
use Rattle.juniper_type_rules.proofs.ByName.{there-is}
use Rattle.juniper_type_rules.proofs.no_undefined_variables.is_undefined.Goals as goal

pub returns : goal.returns
returns g c = ap not (c.contains.ensures ∙ there-is g.S.ScalarValue.shown c.args.defined.now c.args.name.now)
