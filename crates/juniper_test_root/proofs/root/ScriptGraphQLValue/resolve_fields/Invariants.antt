use Rattle.std.proofs.Common.{map, take}
use Rattle.juniper_values.specs.ArgumentView.{view_arguments}
use Rattle.juniper_values.specs.ResolvedView.{AllAnswer}
use Rattle.juniper_types.specs.ExecutorView.{context_of}
use Rattle.juniper_test_root.specs.Scripts.{reply}
use Rattle.juniper_test_root.proofs.root.ScriptGraphQLValue.resolve_fields.Given as goal

-- the nodes before this one are answered
abbrev pub invariant-loop-node : goal.invariant-loop-node
invariant-loop-node g l =
    let shown = g.S.ScalarValue.shown in
    AllAnswer shown (λ node. reply l.self (context_of l.executor) node l.field_name (view_arguments shown l.arguments))
    (map (λ n. n.now) (take l.node-index l.nodes)) l.made.items
