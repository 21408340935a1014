use Rattle.graphql_spec.specs.Introspection.{user}
use Rattle.juniper_intro.proofs.Held.{map-reply_twice}
use Rattle.juniper_intro.proofs.Naming.{all-named}
use Rattle.juniper_intro.proofs.RootReplies.{replies-rooted, top-seen, types-rooted}
use Rattle.juniper_intro.specs.HandleView.{of_user, view_node}
use Rattle.juniper_intro.specs.Introspectors.{names_of, number_of}
use Rattle.juniper_intro.specs.RootView.{resolver_of, schema_of, view_node_of}
use Rattle.juniper_schema.specs.SchemaView.{view_schema}
use Rattle.juniper_intro.proofs.laws.root_replies.Goals as goal

pub returns-clause-types : goal.returns-clause-types
unfolding view_node_of
returns-clause-types g c =
    let r = c.args.root.now in
    let q = resolver_of r in
    λ i d n. types-rooted (view_schema g.S.ScalarValue.shown (schema_of r)) (names_of r.introspector) (g.Q.GraphQLValue.concrete q i d)
    (g.Q.GraphQLValue.root q) n

pub returns-clause-replies : goal.returns-clause-replies
unfolding view_node_of
returns-clause-replies g c =
    let r = c.args.root.now in
    let q = resolver_of r in
    let s = view_schema g.S.ScalarValue.shown (schema_of r) in
    let names = names_of r.introspector in
    let all = all-named s names r.introspector.names.numbers r.introspector.named r.introspector.names.numbered in
    λ i d n f args. replies-rooted s r.introspector.executable names (number_of r.introspector) all (g.Q.GraphQLValue.answer q i d)
    (g.Q.GraphQLValue.root q) n f args

pub returns-clause-top : goal.returns-clause-top
unfolding view_node_of
returns-clause-top g c =
    let r = c.args.root.now in top-seen (view_schema g.S.ScalarValue.shown (schema_of r)) (names_of r.introspector) r.top r.at_top

pub returns-clause-users : goal.returns-clause-users
unfolding view_node_of
returns-clause-users g c =
    let r = c.args.root.now in
    λ reply. map-reply_twice of_user (view_node (view_schema g.S.ScalarValue.shown (schema_of r)) (names_of r.introspector)) reply
