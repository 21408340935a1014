use Rattle.std.proofs.Common.{Some, refl, sym, ap, ◌∙◌}
use Rattle.graphql_spec.specs.Constants.{meaning}
use Rattle.graphql_spec.specs.Introspection.{given_text}
use Rattle.juniper_syntax.specs.InputView.{view_input}
use Rattle.juniper_intro.proofs.Given.{given-shown}
use Rattle.juniper_conversions.proofs.Meanings.{means-Null, means-Scalar, means-Enum, means-Variable, means-List, means-Object}
use Rattle.juniper_intro.proofs.arguments.text_of.Goals as goal

pub returns-in-Scalar : goal.returns-in-Scalar
returns-in-Scalar g c =
    let shown = g.S.ScalarValue.shown in
    c.try_to_str.ensures ∙ (sym (given-shown _) ∙ ap (λ m. given_text (Some m))
    (sym (ap (λ v. meaning (view_input shown v)) c.in-Scalar.is ∙ means-Scalar shown _)))

pub returns-in-Null : goal.returns-in-Null
unfolding given_text
returns-in-Null g c = rw (c.in-Null.is, means-Null g.S.ScalarValue.shown) refl

pub returns-in-Enum : goal.returns-in-Enum
unfolding given_text
returns-in-Enum g c = rw (c.in-Enum.is, means-Enum g.S.ScalarValue.shown c.in-Enum.field-0) refl

pub returns-in-Variable : goal.returns-in-Variable
unfolding given_text
returns-in-Variable g c = rw (c.in-Variable.is, means-Variable g.S.ScalarValue.shown c.in-Variable.field-0) refl

pub returns-in-List : goal.returns-in-List
unfolding given_text
returns-in-List g c = rw (c.in-List.is, means-List g.S.ScalarValue.shown c.in-List.field-0) refl

pub returns-in-Object : goal.returns-in-Object
unfolding given_text
returns-in-Object g c = rw (c.in-Object.is, means-Object g.S.ScalarValue.shown c.in-Object.field-0) refl
