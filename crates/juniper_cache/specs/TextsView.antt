-- How a cache of texts is seen.
use Rattle.std.specs.Prelude.{ℕ, List}
use Rattle.std.specs.declared.cmp.PartialEq.{Ghosts as Equality}
use Rattle.std.specs.declared.fmt.Debug.{Ghosts as Shows}
use Rattle.graphql_spec.specs.Shown.{Shown, Text}
use Rattle.juniper.specs.declared.prepared.Bounds.{Bounds}
use Rattle.juniper_intro.specs.RootView.{is_disabled, schema_of}
use Rattle.juniper_intro.specs.declared.root.RootNode.{RootNode}
use Rattle.juniper_registry.specs.declared.graphql_type.GraphQLReference.{Ghosts as References}
use Rattle.juniper_registry.specs.declared.graphql_type.GraphQLType.{Ghosts as Types}
use Rattle.juniper_schema.specs.SchemaView.{view_schema}
use Rattle.juniper_syntax.specs.declared.scalar.ScalarValue.{Ghosts as Scalars}
use Rattle.juniper_types.specs.declared.resolver.GraphQLValue.{Ghosts as Values}
use Rattle.juniper_cache.specs.Texts.{IsAdmitted, entry_texts}
use Rattle.juniper_cache.specs.declared.text_cache.TextCache.{TextCache}

module _ {Q M Sub S C N I J K : Type 0} {values : Values Q S C N I} {query : Types Q S I} {query_ref : References Q S I} {mutation : Types M S J}
    {mutation_ref : References M S J} {subscription : Types Sub S K} {subscription_ref : References Sub S K}
    {scalar : Scalars S} {equality : Equality S} {shows : Shows S} where
  -- the root for which it keeps texts
  abbrev pub served_root : TextCache Q M Sub S C N I J K values query query_ref mutation mutation_ref subscription subscription_ref scalar equality shows →
      RootNode Q M Sub S C N I J K values query query_ref mutation mutation_ref subscription subscription_ref scalar equality shows
  served_root c = c.root.now

  -- its bounds
  abbrev pub bounds_within : TextCache Q M Sub S C N I J K values query query_ref mutation mutation_ref subscription subscription_ref scalar equality shows →
      Bounds
  bounds_within c = c.bounds

  -- how many it may keep
  abbrev pub most_texts : TextCache Q M Sub S C N I J K values query query_ref mutation mutation_ref subscription subscription_ref scalar equality shows → ℕ
  most_texts c = c.kept.cap

  -- it may keep a text: its document is valid for the root and within the bounds
  abbrev pub Admits : (S → Shown) →
      TextCache Q M Sub S C N I J K values query query_ref mutation mutation_ref subscription subscription_ref scalar equality shows → Text → Type 0
  Admits shown c t = IsAdmitted c.bounds (view_schema shown (schema_of c.root.now)) (is_disabled c.root.now) t

  -- those that it keeps, the most recently used first
  abbrev pub texts_in : TextCache Q M Sub S C N I J K values query query_ref mutation mutation_ref subscription subscription_ref scalar equality shows →
      List Text
  texts_in c = entry_texts c.kept.entries
