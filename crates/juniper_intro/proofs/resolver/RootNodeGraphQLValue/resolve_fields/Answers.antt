use Rattle.std.proofs.Common.{ap, arith, length, map, subst, sym, ◌∙◌}
use Rattle.std.proofs.lemmas.List.{length-map}
use Rattle.std.specs.Prelude.{option_map}
use Rattle.graphql_spec.specs.SeenNodes.{map_reply}
use Rattle.juniper_schema.specs.SchemaView.{view_schema}
use Rattle.juniper_types.proofs.Batches.{answers-more, answers-whole}
use Rattle.juniper_values.specs.ResolvedView.{AllAnswer}
use Rattle.juniper_types.specs.ExecutorView.{context_of}
use Rattle.juniper_values.specs.ArgumentView.{view_arguments}
use Rattle.juniper_intro.proofs.Users.{users-answer, users-some}
use Rattle.juniper_intro.specs.HandleView.{of_user}
use Rattle.juniper_intro.specs.Introspectors.{names_of, number_of, schema_of}
use Rattle.juniper_intro.proofs.resolver.RootNodeGraphQLValue.resolve_fields.Goals as goal

pub loop-node-preserved : goal.loop-node-preserved
loop-node-preserved g c =
    let l = c.loop-node in
    answers-more g.S.ScalarValue.shown _ (λ n. n.now) c.args.nodes.now l.node-index c.node-item.result l.made.items c.push.new.self.items _
    c.loop-node-test.true c.node-item.is c.in_ok-push.ensures.items c.resolve_field-answer.ensures l.invariant

pub resolve_all_users-requires-clause-some : goal.resolve_all_users-requires-clause-some
resolve_all_users-requires-clause-some g c =
    let nodes = c.args.nodes.now in
    let users = c.in-Some.users.items in
    let found = sym c.in_ok-users.ensures ∙ ap (option_map (λ users. map (λ n. n.now) users.items)) c.in-Some.is in
    let asked = length-map nodes (λ n. n.now) in
    let some = users-some (map (λ n. n.now) nodes) (map (λ n. n.now) users) found (omega (arith, asked, c.requires.some)) in
    let counted = length-map users (λ n. n.now) in
    let same = ap length c.deref.ensures.value in
    omega (arith, some, counted, same)

pub returns : goal.returns
returns g c =
    answers-whole g.S.ScalarValue.shown _ (λ n. n.now) c.args.nodes.now c.loop-node.node-index c.loop-node.made.items c.loop-node-test.false
    c.loop-node.invariant

pub returns-in-Some : goal.returns-in-Some
returns-in-Some g c =
    let shown = g.S.ScalarValue.shown in
    let self = c.args.self.now in
    let answer = g.Q.GraphQLValue.answer self.query c.args.info.now (context_of c.args.executor.now) in
    let name = c.args.field_name.now in
    let given = view_arguments shown c.args.arguments.now in
    let found = sym c.in_ok-users.ensures ∙ ap (option_map (λ users. map (λ n. n.now) users.items)) c.in-Some.is in
    let plain = sym c.is_introspection.ensures ∙ c.if-not-is_introspection.true in
    users-answer shown (view_schema shown (schema_of self.introspector)) (names_of self.introspector) (number_of self.introspector) answer
    (g.Q.GraphQLValue.root self.query) name given (map (λ n. n.now) c.args.nodes.now) (map (λ n. n.now) c.in-Some.users.items)
    c.in_ok-answers.answers.items plain found
    (subst (λ l. AllAnswer shown (λ n. map_reply of_user (answer n name given)) (map (λ n. n.now) l) c.in_ok-answers.answers.items) c.deref.ensures.value
    c.in_ok-answers.ensures)
