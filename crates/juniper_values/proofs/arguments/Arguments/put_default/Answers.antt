use Rattle.std.proofs.Common.{◌∙◌, sym, ap, option_map, string_bytes}
use Rattle.graphql_spec.specs.Constants.{no_members}
use Rattle.juniper_syntax.specs.InputView.{view_input}
use Rattle.juniper_values.specs.ArgumentView.{meant, meant_lent, members_onto, view_arguments}
use Rattle.graphql_spec.specs.Constants.{insert, meaning}
use Rattle.juniper_values.proofs.ArgumentMembers.{default-new, default-none, default-there, put-new}
use Rattle.juniper_values.proofs.arguments.Arguments.put_default.Goals as goal

pub returns-then-has : goal.returns-then-has
returns-then-has g c =
    let shown = g.S.ScalarValue.shown in
    rw (← c.as_str-name.ensures.value)
    (sym (default-there c.as_str-name.result.now (option_map (view_input shown) c.args.argument.now.default_value) (view_arguments shown c.args.self.now)
    (sym c.has.ensures ∙ c.if-has.true)))

pub returns-in-None : goal.returns-in-None
returns-in-None g c =
    rw (c.in-None.is) (sym (default-none (string_bytes c.args.argument.now.name) (view_arguments g.S.ScalarValue.shown c.args.self.now)))

pub returns-in_ok-insert-in-Some : goal.returns-in_ok-insert-in-Some
returns-in_ok-insert-in-Some g c =
    let shown = g.S.ScalarValue.shown in
    let all = c.args.self.now in
    let k = c.as_str-name.result in
    let lent = members_onto (meant_lent shown) no_members all.lent.items.entries in
    let absent = sym c.has.ensures ∙ c.if-has.false in
    rw (c.in-Some.is, ← c.as_str-name.ensures.value)
    (ap (members_onto (meant shown) lent) c.in_ok-insert-in-Some.ensures.entries
    ∙ (put-new (meant shown) lent all.items k c.unlocated-value.result absent
    ∙ (ap (λ v. insert k.now (meaning v) (view_arguments shown all))
    (ap (view_input shown) c.unlocated-value.ensures.item ∙ c.in_ok-try_clone-in-Some.ensures)
    ∙ sym (default-new k.now (view_input shown c.in-Some.value) (view_arguments shown all) absent))))
