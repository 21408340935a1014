use Rattle.std.proofs.Common.{refl, ap, ◌∙◌}
use Rattle.graphql_spec.specs.Constants.{find, members}
use Rattle.juniper_syntax.specs.InputView.{view_fields}
use Rattle.std.specs.Option.{option_and_then}
use Rattle.juniper_conversions.specs.Conversions.{int_of}
use Rattle.juniper_conversions.proofs.Meanings.{means-Null, means-Scalar, means-Enum, means-Variable, means-List, means-Object}
use Rattle.juniper_value_tests.proofs.cell.int_at.Goals as goal

pub returns-in_ok-field_at-in-Object : goal.returns-in_ok-field_at-in-Object
returns-in_ok-field_at-in-Object g c =
    let shown = g.S.ScalarValue.shown in
    rw (c.in-Object.is, means-Object shown c.in-Object.fields)
    (c.int_of.ensures ∙ ap (option_and_then int_of) (c.in_ok-field_at-in-Object.ensures
    ∙ ap (λ fs. find c.args.name.now (members (view_fields shown fs))) c.deref.ensures.value))

pub returns-in_err-field_at-in-Object : goal.returns-in_err-field_at-in-Object
returns-in_err-field_at-in-Object g c =
    let shown = g.S.ScalarValue.shown in
    rw (c.in-Object.is, means-Object shown c.in-Object.fields)
    (c.from_residual.ensures ∙ ap (option_and_then int_of) (c.in_err-field_at-in-Object.ensures
    ∙ ap (λ fs. find c.args.name.now (members (view_fields shown fs))) c.deref.ensures.value))

pub returns-in-Null : goal.returns-in-Null
returns-in-Null g c = rw (c.in-Null.is, means-Null g.S.ScalarValue.shown) refl

pub returns-in-Scalar : goal.returns-in-Scalar
returns-in-Scalar g c = rw (c.in-Scalar.is, means-Scalar g.S.ScalarValue.shown c.in-Scalar.field-0) refl

pub returns-in-Enum : goal.returns-in-Enum
returns-in-Enum g c = rw (c.in-Enum.is, means-Enum g.S.ScalarValue.shown c.in-Enum.field-0) refl

pub returns-in-Variable : goal.returns-in-Variable
returns-in-Variable g c = rw (c.in-Variable.is, means-Variable g.S.ScalarValue.shown c.in-Variable.field-0) refl

pub returns-in-List : goal.returns-in-List
returns-in-List g c = rw (c.in-List.is, means-List g.S.ScalarValue.shown c.in-List.field-0) refl
