use Rattle.juniper_syntax.proofs.ValueEquality.{values-same}
use Rattle.graphql_spec.specs.Positions.{same_position}
use Rattle.juniper_conversions.specs.ErrorView.{view_listed}
use Rattle.juniper_conversions.proofs.ErrorEquality.{path-equal, path-same, listed-equal, listed-same}
use Rattle.juniper_conversions.proofs.error_laws.equal_execution_errors_show_the_same.Goals as goal

pub returns-clause-equal : goal.returns-clause-equal
unfolding same_position
returns-clause-equal g c =
    let view = view_listed g.S.ScalarValue.shown in
    let a = c.args.a.now in
    let b = c.args.b.now in
    listed-equal (view a) (view b) _ _ (path-equal a.path.items b.path.items) (path-same a.path.items b.path.items)
    (values-same g.row.S g.S.PartialEq g.S.PartialEq-dict (record { laws = g.met.S.PartialEq.laws }) g.S.ScalarValue.shown g.met.S.ScalarValue.eq_is_same_shown
    a.error.extensions b.error.extensions)

pub returns-clause-same : goal.returns-clause-same
unfolding same_position
returns-clause-same g c =
    let view = view_listed g.S.ScalarValue.shown in
    let a = c.args.a.now in
    let b = c.args.b.now in
    listed-same (view a) (view b) _ _ (path-equal a.path.items b.path.items) (path-same a.path.items b.path.items)
    (values-same g.row.S g.S.PartialEq g.S.PartialEq-dict (record { laws = g.met.S.PartialEq.laws }) g.S.ScalarValue.shown g.met.S.ScalarValue.eq_is_same_shown
    a.error.extensions b.error.extensions)
