-- What a root holds (3.3).
use Rattle.std.specs.Prelude.{Bool}
use Rattle.std.specs.declared.cmp.PartialEq.{Ghosts as Equality}
use Rattle.std.specs.declared.fmt.Debug.{Ghosts as Shows}
use Rattle.graphql_spec.specs.Introspection as rooted
use Rattle.graphql_spec.specs.Shown.{Shown}
use Rattle.juniper_intro.specs.HandleView.{view_node}
use Rattle.juniper_intro.specs.Introspectors as introspectors
use Rattle.juniper_intro.specs.declared.node.RootedNode.{RootedNode}
use Rattle.juniper_intro.specs.declared.root.RootNode.{RootNode}
use Rattle.juniper_registry.specs.declared.graphql_type.GraphQLReference.{Ghosts as References}
use Rattle.juniper_registry.specs.declared.graphql_type.GraphQLType.{Ghosts as Types}
use Rattle.juniper_schema.specs.SchemaView.{view_schema}
use Rattle.juniper_schema.specs.declared.schema.SchemaType.{SchemaType}
use Rattle.juniper_syntax.specs.declared.scalar.ScalarValue.{Ghosts as Scalars}
use Rattle.juniper_types.specs.declared.resolver.GraphQLValue.{Ghosts as Values}

module _ {Q M Sub S C N I J K : Type 0} {values : Values Q S C N I} {query : Types Q S I} {query_ref : References Q S I} {mutation : Types M S J}
    {mutation_ref : References M S J} {subscription : Types Sub S K} {subscription_ref : References Sub S K}
    {scalar : Scalars S} {equality : Equality S} {shows : Shows S} where
  -- the schema
  abbrev pub schema_of : RootNode Q M Sub S C N I J K values query query_ref mutation mutation_ref subscription subscription_ref scalar equality shows →
      SchemaType S scalar equality shows
  schema_of r = introspectors.schema_of r.introspector

  -- the query's resolver, and what it is told about its type
  abbrev pub resolver_of : RootNode Q M Sub S C N I J K values query query_ref mutation mutation_ref subscription subscription_ref scalar equality shows → Q
  resolver_of r = r.query

  abbrev pub info_of : RootNode Q M Sub S C N I J K values query query_ref mutation mutation_ref subscription subscription_ref scalar equality shows → I
  info_of r = r.query_info

  -- the mutation's resolver, and what it is told about its type
  abbrev pub mutation_of : RootNode Q M Sub S C N I J K values query query_ref mutation mutation_ref subscription subscription_ref scalar equality shows → M
  mutation_of r = r.mutation

  abbrev pub mutation_info_of : RootNode Q M Sub S C N I J K values query query_ref mutation mutation_ref subscription subscription_ref scalar equality shows →
      J
  mutation_info_of r = r.mutation_info

  -- the value of the subscription's type, and what it is told about that type
  abbrev pub subscription_of : RootNode Q M Sub S C N I J K values query query_ref mutation mutation_ref subscription subscription_ref scalar equality shows →
      Sub
  subscription_of r = r.subscription

  abbrev pub subscription_info_of : RootNode Q M Sub S C N I J K values query query_ref mutation mutation_ref subscription subscription_ref scalar equality
      shows → K
  subscription_info_of r = r.subscription_info

  -- whether introspection is disabled
  abbrev pub is_disabled : RootNode Q M Sub S C N I J K values query query_ref mutation mutation_ref subscription subscription_ref scalar equality shows → Bool
  is_disabled r = r.is_introspection_disabled

  -- the node that one of the root's is seen as (4)
  unfoldable pub view_node_of : (S → Shown) →
      RootNode Q M Sub S C N I J K values query query_ref mutation mutation_ref subscription subscription_ref scalar equality shows →
      RootedNode N → rooted.RootedNode N
  view_node_of shown r = view_node (view_schema shown (schema_of r)) (introspectors.names_of r.introspector)
