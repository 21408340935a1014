-- How a prepared document is seen.
use Rattle.std.specs.Prelude.{◌≡◌, Some}
use Rattle.std.specs.declared.cmp.PartialEq.{Ghosts as Equality}
use Rattle.std.specs.declared.fmt.Debug.{Ghosts as Shows}
use Rattle.graphql_spec.specs.Documents.{Document}
use Rattle.graphql_spec.specs.Outcomes.{Reads}
use Rattle.graphql_spec.specs.Shown.{Shown, Text}
use Rattle.juniper_intro.specs.RootView.{is_disabled, schema_of}
use Rattle.juniper_intro.specs.declared.root.RootNode.{RootNode}
use Rattle.juniper_registry.specs.declared.graphql_type.GraphQLReference.{Ghosts as References}
use Rattle.juniper_registry.specs.declared.graphql_type.GraphQLType.{Ghosts as Types}
use Rattle.juniper_schema.specs.SchemaView.{view_schema}
use Rattle.juniper_syntax.specs.DocumentView.{view_document}
use Rattle.juniper_syntax.specs.declared.scalar.ScalarValue.{Ghosts as Scalars}
use Rattle.juniper_types.specs.declared.resolver.GraphQLValue.{Ghosts as Values}
use Rattle.juniper.specs.Objections.{IsAccepted}
use Rattle.juniper.specs.declared.prepared.Bounds.{Bounds}
use Rattle.juniper.specs.declared.prepared.Prepared.{Prepared}

module _ {Q M Sub S C N I J K : Type 0} {values : Values Q S C N I} {query : Types Q S I} {query_ref : References Q S I} {mutation : Types M S J}
    {mutation_ref : References M S J} {subscription : Types Sub S K} {subscription_ref : References Sub S K}
    {scalar : Scalars S} {equality : Equality S} {shows : Shows S} where
  -- the root that it is valid for
  abbrev pub root_of : Prepared Q M Sub S C N I J K values query query_ref mutation mutation_ref subscription subscription_ref scalar equality shows →
      RootNode Q M Sub S C N I J K values query query_ref mutation mutation_ref subscription subscription_ref scalar equality shows
  root_of p = p.root.now

  -- its text
  abbrev pub source_of : Prepared Q M Sub S C N I J K values query query_ref mutation mutation_ref subscription subscription_ref scalar equality shows → Text
  source_of p = p.text.now

  -- its document
  abbrev pub document_of : (S → Shown) →
      Prepared Q M Sub S C N I J K values query query_ref mutation mutation_ref subscription subscription_ref scalar equality shows → Document
  document_of shown p = view_document shown p.document

  -- its text is read as its document (2)
  abbrev pub IsOfText : (S → Shown) →
      Prepared Q M Sub S C N I J K values query query_ref mutation mutation_ref subscription subscription_ref scalar equality shows → Type 0
  IsOfText shown p = Reads (source_of p) (Some (document_of shown p))

  -- it is for this root and of this text, which the bounds let pass, and its document is valid for the root
  abbrev pub IsPreparedFrom : (S → Shown) → Bounds →
      RootNode Q M Sub S C N I J K values query query_ref mutation mutation_ref subscription subscription_ref scalar equality shows → Text →
      Prepared Q M Sub S C N I J K values query query_ref mutation mutation_ref subscription subscription_ref scalar equality shows → Type 0
  IsPreparedFrom shown b root text p = (root_of p ≡ root) × (source_of p ≡ text)
      × IsAccepted b text (view_schema shown (schema_of root)) (is_disabled root) (document_of shown p)
