use Rattle.std.proofs.Common.{◌∙◌, sym}
use Rattle.graphql_spec.specs.Constants.{no_members}
use Rattle.juniper_values.specs.ArgumentView.{meant, meant_lent, members_onto}
use Rattle.juniper_values.proofs.ArgumentMembers.{found-other, found-own, nothing-there}
use Rattle.juniper_values.proofs.arguments.Arguments.get_input_value.Goals as goal

pub returns-in-Some : goal.returns-in-Some
returns-in-Some g c =
    let shown = g.S.ScalarValue.shown in
    let all = c.args.self.now in
    found-own (meant shown) (members_onto (meant_lent shown) no_members all.lent.items.entries) all.items c.args.name.now c.get.result c.in-Some.value
    c.get.ensures.value c.in-Some.is

pub returns-in-Some-get : goal.returns-in-Some-get
returns-in-Some-get g c =
    let shown = g.S.ScalarValue.shown in
    let all = c.args.self.now in
    found-own (meant_lent shown) no_members all.lent.items c.args.name.now c.get-in-None.result c.in-Some-get.value c.get-in-None.ensures.value c.in-Some-get.is
    ∙ sym (found-other (meant shown) (members_onto (meant_lent shown) no_members all.lent.items.entries) all.items c.args.name.now c.get.result
    c.get.ensures.value c.in-None.is)

pub returns-in-None-get : goal.returns-in-None-get
returns-in-None-get g c =
    let shown = g.S.ScalarValue.shown in
    let all = c.args.self.now in
    nothing-there c.args.name.now ∙ (sym (found-other (meant_lent shown) no_members all.lent.items c.args.name.now c.get-in-None.result c.get-in-None.ensures.value c.in-None-get.is)
    ∙ sym (found-other (meant shown) (members_onto (meant_lent shown) no_members all.lent.items.entries) all.items c.args.name.now c.get.result
    c.get.ensures.value c.in-None.is))
