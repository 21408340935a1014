use Rattle.std.proofs.Common.{◌∙◌, sym, ap, Some}
use Rattle.graphql_spec.specs.Constants.{no_members}
use Rattle.juniper_syntax.specs.InputView.{view_input}
use Rattle.juniper_values.specs.ArgumentView.{meant, meant_lent, members_onto, view_arguments}
use Rattle.juniper_values.proofs.ArgumentMembers.{default-new, default-there, past, put-new, was-absent}
use Rattle.juniper_values.proofs.arguments.Arguments.lend.Goals as goal

pub returns-then-has : goal.returns-then-has
returns-then-has g c =
    let shown = g.S.ScalarValue.shown in
    sym (default-there c.args.name.now (Some (view_input shown c.args.value.now.item)) (view_arguments shown c.args.self.now)
    (sym c.has.ensures ∙ c.if-has.true))

pub returns : goal.returns
returns g c =
    let shown = g.S.ScalarValue.shown in
    let all = c.args.self.now in
    let own = all.items.entries in
    let k = c.args.name in
    let v = c.args.value in
    let lent = members_onto (meant_lent shown) no_members all.lent.items.entries in
    let absent = sym c.has.ensures ∙ c.if-has.false in
    ap (λ es. members_onto (meant shown) (members_onto (meant_lent shown) no_members es) own) c.in_ok-insert.ensures.entries
    ∙ (ap (λ ms. members_onto (meant shown) ms own)
    (put-new (meant_lent shown) no_members all.lent.items k v (was-absent (meant shown) own lent k.now absent))
    ∙ (past (meant shown) own lent k.now (meant_lent shown v) absent
    ∙ sym (default-new k.now (view_input shown v.now.item) (view_arguments shown all) absent)))
