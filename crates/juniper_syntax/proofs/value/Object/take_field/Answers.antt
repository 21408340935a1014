use Rattle.std.proofs.Common.{option_map, sym, ap, ◌∙◌}
use Rattle.graphql_spec.specs.Values.{look_up, put}
use Rattle.juniper_syntax.specs.ValueView.{view_value, view_entries}
use Rattle.juniper_syntax.specs.declared.value.Value.{Null}
use Rattle.juniper_syntax.specs.declared.value.Object.{out-Object}
use Rattle.juniper_syntax.proofs.Values.{view-Null, view-out, view-roll, look_up-view, put-set, set-none, if_some}
use Rattle.juniper_syntax.proofs.value.Object.take_field.Goals as goal

pub returns-clause-value : goal.returns-clause-value
returns-clause-value g c =
    let shown = g.S.ScalarValue.shown in
    let key = c.args.key.now in
    let fields = (out-Object g.row.S.Denot c.args.self.now).fields in
    ap (option_map (view_value shown)) c.replace.ensures.old ∙ sym (ap (look_up key) (view-out shown c.args.self.now) ∙ look_up-view shown key fields)

pub returns-clause-some : goal.returns-clause-some
returns-clause-some g c =
    let shown = g.S.ScalarValue.shown in
    let key = c.args.key.now in
    let fields = (out-Object g.row.S.Denot c.args.self.now).fields in
    if_some c.replace.result _
    (λ v e. view-roll shown c.replace.new.self ∙ ap (view_entries shown) c.replace.ensures.new ∙ put-set shown key fields v Null (sym c.replace.ensures.old ∙ e)
    ∙ (λ i. put key (view-Null shown i) (sym (view-out shown c.args.self.now) i)))

pub returns-clause-none : goal.returns-clause-none
returns-clause-none g c none =
    let shown = g.S.ScalarValue.shown in
    let key = c.args.key.now in
    let fields = (out-Object g.row.S.Denot c.args.self.now).fields in
    view-roll shown c.replace.new.self ∙ ap (view_entries shown) (c.replace.ensures.new ∙ set-none shown key fields Null (sym c.replace.ensures.old ∙ none))
    ∙ sym (view-out shown c.args.self.now)
