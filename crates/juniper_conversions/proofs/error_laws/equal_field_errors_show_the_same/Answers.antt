use Rattle.juniper_syntax.proofs.ValueEquality.{values-same}
use Rattle.juniper_conversions.specs.ErrorView.{view_error}
use Rattle.juniper_conversions.proofs.ErrorEquality.{error-equal, error-same}
use Rattle.juniper_conversions.proofs.error_laws.equal_field_errors_show_the_same.Goals as goal

pub returns-clause-equal : goal.returns-clause-equal
returns-clause-equal g c =
    let view = view_error g.S.ScalarValue.shown in
    error-equal (view c.args.a.now) (view c.args.b.now) _
    (values-same g.row.S g.S.PartialEq g.S.PartialEq-dict (record { laws = g.met.S.PartialEq.laws }) g.S.ScalarValue.shown g.met.S.ScalarValue.eq_is_same_shown
    c.args.a.now.extensions c.args.b.now.extensions)

pub returns-clause-same : goal.returns-clause-same
returns-clause-same g c =
    let view = view_error g.S.ScalarValue.shown in
    error-same (view c.args.a.now) (view c.args.b.now) _
    (values-same g.row.S g.S.PartialEq g.S.PartialEq-dict (record { laws = g.met.S.PartialEq.laws }) g.S.ScalarValue.shown g.met.S.ScalarValue.eq_is_same_shown
    c.args.a.now.extensions c.args.b.now.extensions)
