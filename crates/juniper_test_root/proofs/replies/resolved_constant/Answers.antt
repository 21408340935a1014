use Rattle.std.proofs.Common.{ap, ◌∙◌}
use Rattle.graphql_spec.specs.Resolvers.{leaf}
use Rattle.juniper_conversions.proofs.Meanings.{means-Null, means-Scalar, means-Enum, means-Variable, means-List, means-Object}
use Rattle.juniper_values.proofs.Resolutions.{view-Null, view-Scalar}
use Rattle.juniper_test_root.proofs.replies.resolved_constant.Goals as goal

pub returns-in-Null : goal.returns-in-Null
returns-in-Null g c = rw (c.in-Null.is, means-Null g.S.ScalarValue.shown) (view-Null g.S.ScalarValue.shown)

pub returns-in-Variable : goal.returns-in-Variable
returns-in-Variable g c = rw (c.in-Variable.is, means-Variable g.S.ScalarValue.shown c.in-Variable.field-0) (view-Null g.S.ScalarValue.shown)

pub returns-in-List : goal.returns-in-List
returns-in-List g c = rw (c.in-List.is, means-List g.S.ScalarValue.shown c.in-List.field-0) (view-Null g.S.ScalarValue.shown)

pub returns-in-Object : goal.returns-in-Object
returns-in-Object g c = rw (c.in-Object.is, means-Object g.S.ScalarValue.shown c.in-Object.field-0) (view-Null g.S.ScalarValue.shown)

pub returns-in_ok-try_clone-in-Scalar : goal.returns-in_ok-try_clone-in-Scalar
returns-in_ok-try_clone-in-Scalar g c =
    rw (c.in-Scalar.is, means-Scalar g.S.ScalarValue.shown c.in-Scalar.scalar)
    (view-Scalar g.S.ScalarValue.shown c.in_ok-try_clone-in-Scalar.field-0 ∙ ap leaf c.in_ok-try_clone-in-Scalar.ensures)

pub returns-in-Enum : goal.returns-in-Enum
returns-in-Enum g c =
    rw (c.in-Enum.is, means-Enum g.S.ScalarValue.shown c.in-Enum.name) (rw c.as_str.ensures.value at c.resolved_text.ensures)
