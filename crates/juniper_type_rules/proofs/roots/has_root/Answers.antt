use Rattle.std.proofs.Common.{is_some, ap, sym, ◌∙◌}
use Rattle.graphql_spec.specs.Placed.{root_type}
use Rattle.juniper_syntax.specs.DocumentView.{view_kind}
use Rattle.juniper_schema.specs.SchemaView.{view_schema}
use Rattle.juniper_type_rules.proofs.Tests.{some-map}
use Rattle.juniper_type_rules.proofs.roots.has_root.Goals as goal

pub returns-in-Query : goal.returns-in-Query
unfolding root_type
returns-in-Query g c = ap (λ k. is_some (root_type (view_schema g.S.ScalarValue.shown c.args.schema.now) (view_kind k))) (sym c.in-Query.is)

pub returns-in-Mutation : goal.returns-in-Mutation
unfolding root_type
returns-in-Mutation g c =
    c.is_some.ensures ∙ (sym (some-map (λ n. n.now) c.mutation_name.result) ∙ (ap is_some c.mutation_name.ensures
    ∙ ap (λ k. is_some (root_type (view_schema g.S.ScalarValue.shown c.args.schema.now) (view_kind k))) (sym c.in-Mutation.is)))

pub returns-in-Subscription : goal.returns-in-Subscription
unfolding root_type
returns-in-Subscription g c = ap (λ k. is_some (root_type (view_schema g.S.ScalarValue.shown c.args.schema.now) (view_kind k))) (sym c.in-Subscription.is)
