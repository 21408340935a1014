use Rattle.std.proofs.Common.{refl, ap, ◌∙◌}
use Rattle.juniper_conversions.proofs.Meanings.{means-Null, means-Scalar, means-Enum, means-Variable, means-List, means-Object}
use Rattle.juniper_value_tests.proofs.cell.int_of.Goals as goal

pub returns-in-Scalar : goal.returns-in-Scalar
returns-in-Scalar g c = rw (c.in-Scalar.is, means-Scalar g.S.ScalarValue.shown c.in-Scalar.scalar) c.try_to_int.ensures

pub returns-in-Null : goal.returns-in-Null
returns-in-Null g c = rw (c.in-Null.is, means-Null g.S.ScalarValue.shown) refl

pub returns-in-Enum : goal.returns-in-Enum
returns-in-Enum g c = rw (c.in-Enum.is, means-Enum g.S.ScalarValue.shown c.in-Enum.field-0) refl

pub returns-in-Variable : goal.returns-in-Variable
returns-in-Variable g c = rw (c.in-Variable.is, means-Variable g.S.ScalarValue.shown c.in-Variable.field-0) refl

pub returns-in-List : goal.returns-in-List
returns-in-List g c = rw (c.in-List.is, means-List g.S.ScalarValue.shown c.in-List.field-0) refl

pub returns-in-Object : goal.returns-in-Object
returns-in-Object g c = rw (c.in-Object.is, means-Object g.S.ScalarValue.shown c.in-Object.field-0) refl
