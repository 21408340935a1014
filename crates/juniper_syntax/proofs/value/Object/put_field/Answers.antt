use Rattle.std.proofs.Common.{sym, ap, ◌∙◌}
use Rattle.std.proofs.lemmas.Result.{on_ok_weaker, on_err_weaker}
use Rattle.graphql_spec.specs.Values.{put}
use Rattle.juniper_syntax.specs.ValueView.{view_value}
use Rattle.juniper_syntax.specs.declared.value.Object.{out-Object}
use Rattle.juniper_syntax.proofs.Values.{view-out, view-roll, put-view, same-view}
use Rattle.juniper_syntax.proofs.value.Object.put_field.Goals as goal

pub returns-clause-ok : goal.returns-clause-ok
returns-clause-ok g c =
    let shown = g.S.ScalarValue.shown in
    let key = c.args.key.now in
    let fields = (out-Object g.row.S.Denot c.args.self.now).fields in
    on_ok_weaker c.put.result
    (λ e. view-roll shown c.put.new.self ∙ put-view shown fields c.put.new.self key c.args.value e
    ∙ ap (put key (view_value shown c.args.value)) (sym (view-out shown c.args.self.now)))
    c.put.ensures.ok

pub returns-clause-err : goal.returns-clause-err
returns-clause-err g c =
    let shown = g.S.ScalarValue.shown in
    let fields = (out-Object g.row.S.Denot c.args.self.now).fields in
    on_err_weaker c.put.result
    (λ e. view-roll shown c.put.new.self ∙ same-view shown c.put.new.self fields e ∙ sym (view-out shown c.args.self.now))
    c.put.ensures.err
