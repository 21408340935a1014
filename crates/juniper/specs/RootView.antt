-- What requests are executed with on a root (3.3, 6.1).
use Rattle.std.specs.Prelude.{Bool}
use Rattle.std.specs.declared.cmp.PartialEq.{Ghosts as Equality}
use Rattle.std.specs.declared.fmt.Debug.{Ghosts as Shows}
use Rattle.graphql_spec.specs.Constants.{Members}
use Rattle.graphql_spec.specs.Introspection.{RootedNode, rooted_service}
use Rattle.graphql_spec.specs.Outcomes.{Service}
use Rattle.graphql_spec.specs.Resolvers.{Reply}
use Rattle.graphql_spec.specs.Shown.{Name, Shown}
use Rattle.juniper_intro.specs.RootView.{info_of, is_disabled, mutation_info_of, mutation_of, resolver_of, schema_of}
use Rattle.juniper_intro.specs.declared.root.RootNode.{RootNode}
use Rattle.juniper_registry.specs.declared.graphql_type.GraphQLReference.{Ghosts as References}
use Rattle.juniper_registry.specs.declared.graphql_type.GraphQLType.{Ghosts as Types}
use Rattle.juniper_schema.specs.SchemaView.{view_schema}
use Rattle.juniper_syntax.specs.declared.scalar.ScalarValue.{Ghosts as Scalars}
use Rattle.juniper_types.specs.declared.resolver.GraphQLValue.{Ghosts as Values}
use Rattle.juniper.specs.Services.{service_in, steps_at}

module _ {Q M Sub S C N I J K : Type 0} {values : Values Q S C N I} {query : Types Q S I} {query_ref : References Q S I} {mutation : Types M S J}
    {mutation_ref : References M S J} {subscription : Types Sub S K} {subscription_ref : References Sub S K}
    {scalar : Scalars S} {equality : Equality S} {shows : Shows S} where
  -- the root's schema with the meaning of the user's resolver, and of its steps where the schema has a mutation type
  abbrev pub users_service_of : (Q → I → C → N → Name) → (Q → I → C → N → Name → Members → Reply N) → (Q → N) →
      (M → J → C → Name → Members → C × Reply N) → (M → J → C → Name → Members → C → Bool) → (S → Shown) →
      RootNode Q M Sub S C N I J K values query query_ref mutation mutation_ref subscription subscription_ref scalar equality shows → Service C N
  users_service_of concrete answer root step torn shown r =
      service_in concrete answer root (resolver_of r) (info_of r) (steps_at step torn (mutation_of r) (mutation_info_of r)) (view_schema shown (schema_of r))
      (is_disabled r)

  -- the same with introspection (4)
  abbrev pub service_of : (Q → I → C → N → Name) → (Q → I → C → N → Name → Members → Reply N) → (Q → N) →
      (M → J → C → Name → Members → C × Reply N) → (M → J → C → Name → Members → C → Bool) → (S → Shown) →
      RootNode Q M Sub S C N I J K values query query_ref mutation mutation_ref subscription subscription_ref scalar equality shows → Service C (RootedNode N)
  service_of concrete answer root step torn shown r = rooted_service (users_service_of concrete answer root step torn shown r)
