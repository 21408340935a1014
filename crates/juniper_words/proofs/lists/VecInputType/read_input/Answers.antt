use Rattle.std.proofs.Common.{◌∙◌, Err, Global, Vec, ap, map, subst, sym}
use Rattle.graphql_spec.specs.Constants.{meaning}
use Rattle.juniper_conversions.specs.Messages.{message_alone}
use Rattle.juniper_syntax.specs.InputView.{view_input}
use Rattle.juniper_words.specs.InputsRead.{ReadsAs}
use Rattle.juniper_words.proofs.ReadLists.{list-items, list-null, list-single, meant}
use Rattle.juniper_words.proofs.lists.VecInputType.read_input.Goals as goal

pub returns-then-is_null : goal.returns-then-is_null
returns-then-is_null g c =
    list-null g.T.InputType.read (meaning (view_input g.S.ScalarValue.shown c.args.value.now)) (sym c.is_null.ensures ∙ c.if-is_null.true)
    ∙ sym (ap Err (c.error_of_message.ensures ∙ ap message_alone c.in_ok-message.ensures.ok))

pub returns-in-Some : goal.returns-in-Some
returns-in-Some g c =
    let shown = g.S.ScalarValue.shown in
    subst (λ r. ReadsAs {A = Vec g.row.T.Denot Global} (λ v. map g.T.InputType.seen v.items) shown c.read_items.result r)
    (sym (list-items g.T.InputType.read (meaning (view_input shown c.args.value.now)) (map (meant shown) c.in-Some.items.now) c.in-Some.ensures))
    c.read_items.ensures

pub returns-in-None : goal.returns-in-None
returns-in-None g c =
    let shown = g.S.ScalarValue.shown in
    subst (λ r. ReadsAs {A = Vec g.row.T.Denot Global} (λ v. map g.T.InputType.seen v.items) shown c.read_single.result r)
    (sym (list-single g.T.InputType.read (meaning (view_input shown c.args.value.now)) (sym c.is_null.ensures ∙ c.if-is_null.false) c.in-None.ensures))
    c.read_single.ensures
