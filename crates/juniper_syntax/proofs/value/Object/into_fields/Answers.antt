use Rattle.std.proofs.Common.{◌≡◌, sym, ◌∙◌}
use Rattle.juniper_syntax.specs.ValueView.{view_object, view_entries}
use Rattle.juniper_syntax.specs.FieldWords.{said}
use Rattle.juniper_syntax.specs.declared.value.Object.{out-Object}
use Rattle.juniper_syntax.proofs.Values.{view-out, same-view, if_ok_weaker}
use Rattle.juniper_syntax.proofs.value.Object.into_fields.Goals as goal

pub returns : goal.returns
returns g c =
    let shown = g.S.ScalarValue.shown in
    let fields = (out-Object g.row.S.Denot c.args.self).fields in
    if_ok_weaker c.into_entries.result (λ entries. said entries ≡ said fields) (λ entries. view_entries shown entries ≡ view_object shown c.args.self)
    (λ entries same. same-view shown entries fields same ∙ sym (view-out shown c.args.self))
    c.into_entries.ensures
