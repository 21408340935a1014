use Rattle.juniper_syntax.proofs.ValueEquality.{values-same}
use Rattle.juniper_syntax.proofs.laws.equal_values_show_the_same.Goals as goal

pub returns : goal.returns
returns g c = values-same g.row.S g.S.PartialEq g.S.PartialEq-dict
    (record { laws = g.met.S.PartialEq.laws }) g.S.ScalarValue.shown g.met.S.ScalarValue.eq_is_same_shown c.args.u.now c.args.v.now
