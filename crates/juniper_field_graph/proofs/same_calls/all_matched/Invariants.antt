use Rattle.std.proofs.Common.{◌≡◌, drop}
use Rattle.juniper_field_graph.specs.NamedValues.{view_named}
use Rattle.juniper_field_graph.specs.SameValues.{same_fields}
use Rattle.juniper_field_graph.proofs.same_calls.all_matched.Given as goal

-- what is left decides
abbrev pub invariant-loop-argument : goal.invariant-loop-argument
invariant-loop-argument g l =
    let shown = g.S.ScalarValue.shown in
    let others = view_named (λ n. n.now) shown l.others in
    same_fields (view_named (λ n. n.now) shown (drop l.argument-index l.arguments)) others ≡ same_fields (view_named (λ n. n.now) shown l.arguments) others
