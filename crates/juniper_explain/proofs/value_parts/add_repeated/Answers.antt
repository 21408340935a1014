use Rattle.std.proofs.Common.{ap, map, ◌++◌, ◌∙◌}
use Rattle.juniper_meta.specs.MetaView.{view_argument}
use Rattle.juniper_syntax.specs.InputView.{view_fields}
use Rattle.juniper_explain.specs.Reasons.{declared_at, repeated_at, repeated_names}
use Rattle.juniper_explain.specs.ReasonsView.{view_messages}
use Rattle.juniper_explain.proofs.ReasonLoops.{repeated-all}
use Rattle.juniper_explain.proofs.value_parts.add_repeated.Goals as goal

pub returns : goal.returns
unfolding repeated_at declared_at
returns g c =
    let shown = g.S.ScalarValue.shown in
    let fs = view_fields shown c.args.fields.now in
    let p = c.args.path.now in
    let old = view_messages c.args.messages.now.items in
    repeated-all shown (map (view_argument shown) c.input_fields-declared.result.now) p c.loop-left.left.now (view_messages c.loop-left.messages.items) _
    c.in_default.len_below c.loop-left.invariant
    ∙ ap (λ ds. old ++ repeated_names fs ds p) c.input_fields-declared.ensures
