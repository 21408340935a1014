use Rattle.std.proofs.Common.{◌≡◌, option_map, string_bytes, sym, ap, ◌∙◌}
use Rattle.std.proofs.lemmas.Result.{on_ok_weaker, on_err_weaker}
use Rattle.graphql_spec.specs.Values.{look_up, put}
use Rattle.juniper_syntax.specs.ValueView.{view_value, view_object}
use Rattle.juniper_syntax.specs.declared.value.Object.{out-Object}
use Rattle.juniper_syntax.proofs.Values.{view-out, view-roll, look_up-view, put-view, same-view, if_ok_weaker}
use Rattle.juniper_syntax.proofs.value.Object.add_field.Goals as goal

pub returns-clause-old : goal.returns-clause-old
returns-clause-old g c =
    let shown = g.S.ScalarValue.shown in
    let key = string_bytes c.args.key in
    let fields = (out-Object g.row.S.Denot c.args.self.now).fields in
    let at = sym (ap (look_up key) (view-out shown c.args.self.now) ∙ look_up-view shown key fields) in
    if_ok_weaker c.insert.result _ (λ o. option_map (view_value shown) o ≡ look_up key (view_object shown c.args.self.now))
    (λ o e. ap (option_map (view_value shown)) e ∙ at) c.insert.ensures.old

pub returns-clause-ok : goal.returns-clause-ok
returns-clause-ok g c =
    let shown = g.S.ScalarValue.shown in
    let key = string_bytes c.args.key in
    let fields = (out-Object g.row.S.Denot c.args.self.now).fields in
    on_ok_weaker c.insert.result
    (λ e. view-roll shown c.insert.new.self ∙ put-view shown fields c.insert.new.self key c.args.value e
    ∙ ap (put key (view_value shown c.args.value)) (sym (view-out shown c.args.self.now)))
    c.insert.ensures.ok

pub returns-clause-err : goal.returns-clause-err
returns-clause-err g c =
    let shown = g.S.ScalarValue.shown in
    let fields = (out-Object g.row.S.Denot c.args.self.now).fields in
    on_err_weaker c.insert.result
    (λ e. view-roll shown c.insert.new.self ∙ same-view shown c.insert.new.self fields e ∙ sym (view-out shown c.args.self.now))
    c.insert.ensures.err
