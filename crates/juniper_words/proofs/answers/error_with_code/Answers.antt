use Rattle.std.proofs.Common.{ap, ◌∙◌}
use Rattle.graphql_spec.specs.Shown.{text}
use Rattle.juniper_words.proofs.Coded.{code_alone, coded}
use Rattle.juniper_words.proofs.answers.error_with_code.Goals as goal

pub returns : goal.returns
returns g c =
    let shown = g.S.ScalarValue.shown in
    coded shown c.new.result c.args.message.now c.args.code.now _ c.new.ensures.message c.new.ensures.extensions
    (code_alone shown c.in_ok-extensions.extensions c.put_field.new.self c.in_ok-shown.shown c.args.code.now c.in_ok-extensions.ensures
    c.in_ok-put_field.ensures.ok (c.in_ok-shown.ensures ∙ ap text c.in_ok-from_str.ensures.ok))
