use Rattle.std.proofs.Common.{◌∙◌, sym, ap, Some}
use Rattle.graphql_spec.specs.Constants.{no_members}
use Rattle.juniper_syntax.specs.InputView.{view_input}
use Rattle.juniper_values.specs.ArgumentView.{meant, meant_lent, members_onto, view_arguments}
use Rattle.juniper_values.proofs.ArgumentMembers.{default-new, default-there, put-new}
use Rattle.juniper_values.proofs.arguments.Arguments.put.Goals as goal

pub returns-then-has : goal.returns-then-has
returns-then-has g c =
    let shown = g.S.ScalarValue.shown in
    sym (default-there c.args.name.now (Some (view_input shown c.args.value.item)) (view_arguments shown c.args.self.now) (sym c.has.ensures ∙ c.if-has.true))

pub returns : goal.returns
returns g c =
    let shown = g.S.ScalarValue.shown in
    let all = c.args.self.now in
    let lent = members_onto (meant_lent shown) no_members all.lent.items.entries in
    let absent = sym c.has.ensures ∙ c.if-has.false in
    ap (members_onto (meant shown) lent) c.in_ok-insert.ensures.entries
    ∙ (put-new (meant shown) lent all.items c.args.name c.args.value absent
    ∙ sym (default-new c.args.name.now (view_input shown c.args.value.item) (view_arguments shown all) absent))
