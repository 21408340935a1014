use Rattle.std.proofs.Common.{ap, sym, ◌∙◌}
use Rattle.graphql_spec.specs.Constants.{is_null, meaning}
use Rattle.juniper_syntax.specs.InputView.{view_input}
use Rattle.juniper_syntax.proofs.Inputs.{view-Null, view-Scalar, view-Enum, view-Variable, view-List, view-Object}
use Rattle.juniper_syntax.proofs.input.InputValue.is_null.Goals as goal

pub returns-in-Null : goal.returns-in-Null
unfolding meaning
returns-in-Null g c =
    let shown = g.S.ScalarValue.shown in
    sym (ap (λ v. is_null (meaning v)) (ap (view_input shown) c.in-Null.is ∙ view-Null shown))

pub returns-in-Scalar : goal.returns-in-Scalar
unfolding meaning
returns-in-Scalar g c =
    let shown = g.S.ScalarValue.shown in
    sym (ap (λ v. is_null (meaning v)) (ap (view_input shown) c.in-Scalar.is ∙ view-Scalar shown c.in-Scalar.field-0))

pub returns-in-Enum : goal.returns-in-Enum
unfolding meaning
returns-in-Enum g c =
    let shown = g.S.ScalarValue.shown in
    sym (ap (λ v. is_null (meaning v)) (ap (view_input shown) c.in-Enum.is ∙ view-Enum shown c.in-Enum.field-0))

pub returns-in-Variable : goal.returns-in-Variable
unfolding meaning
returns-in-Variable g c =
    let shown = g.S.ScalarValue.shown in
    sym (ap (λ v. is_null (meaning v)) (ap (view_input shown) c.in-Variable.is ∙ view-Variable shown c.in-Variable.field-0))

pub returns-in-List : goal.returns-in-List
unfolding meaning
returns-in-List g c =
    let shown = g.S.ScalarValue.shown in
    sym (ap (λ v. is_null (meaning v)) (ap (view_input shown) c.in-List.is ∙ view-List shown c.in-List.field-0))

pub returns-in-Object : goal.returns-in-Object
unfolding meaning
returns-in-Object g c =
    let shown = g.S.ScalarValue.shown in
    sym (ap (λ v. is_null (meaning v)) (ap (view_input shown) c.in-Object.is ∙ view-Object shown c.in-Object.field-0))
