use Rattle.std.proofs.Common.{◌≡◌, ◌++◌, length, map}
use Rattle.juniper_meta.specs.MetaView.{view_argument}
use Rattle.juniper_syntax.specs.InputView.{view_fields}
use Rattle.juniper_explain.specs.Reasons.{repeated_names}
use Rattle.juniper_explain.specs.ReasonsView.{view_messages}
use Rattle.juniper_explain.proofs.value_parts.add_repeated.Given as goal

-- what is said, and then what the fields that are left show
abbrev pub invariant-loop-left : goal.invariant-loop-left
invariant-loop-left g l =
    let shown = g.S.ScalarValue.shown in
    let ds = map (view_argument shown) l.declared in
    view_messages l.messages.items ++ repeated_names (view_fields shown l.left) ds l.path
    ≡ view_messages l.initial.messages.items ++ repeated_names (view_fields shown l.fields) ds l.path

abbrev pub decreases-loop-left : goal.decreases-loop-left
decreases-loop-left g l = length l.left
