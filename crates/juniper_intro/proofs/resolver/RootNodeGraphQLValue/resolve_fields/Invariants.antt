use Rattle.std.proofs.Common.{map, take}
use Rattle.juniper_values.specs.ResolvedView.{AllAnswer}
use Rattle.juniper_types.specs.ExecutorView.{context_of}
use Rattle.juniper_schema.specs.SchemaView.{view_schema}
use Rattle.juniper_values.specs.ArgumentView.{view_arguments}
use Rattle.juniper_intro.specs.HeldReplies.{held_answer}
use Rattle.juniper_intro.specs.Introspectors.{names_of, number_of, schema_of}
use Rattle.juniper_intro.proofs.resolver.RootNodeGraphQLValue.resolve_fields.Given as goal

-- the nodes before this one are answered
abbrev pub invariant-loop-node : goal.invariant-loop-node
invariant-loop-node g l =
    let shown = g.S.ScalarValue.shown in
    AllAnswer shown (λ node. held_answer (view_schema shown (schema_of l.self.introspector)) (names_of l.self.introspector)
    (number_of l.self.introspector) (g.Q.GraphQLValue.answer l.self.query l.info (context_of l.executor)) (g.Q.GraphQLValue.root l.self.query)
    node l.field_name (view_arguments shown l.arguments)) (map (λ n. n.now) (take l.node-index l.nodes)) l.made.items
