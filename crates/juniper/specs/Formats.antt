-- The requests with which a schema is asked about itself (4).
use Rattle.std.specs.Prelude.{None}
use Rattle.graphql_spec.specs.IntrospectionQueries.{all_text, text_without_descriptions}
use Rattle.graphql_spec.specs.Outcomes.{Request}
use Rattle.graphql_spec.specs.Shown.{Text}
use Rattle.juniper.specs.declared.introspection.IntrospectionFormat.{IntrospectionFormat}
use Rattle.juniper.specs.declared.introspection.IntrospectionFormat.TheVariants.{All, WithoutDescriptions}

-- the text of a format
abbrev pub text_of : IntrospectionFormat → Text
text_of All = all_text
text_of WithoutDescriptions = text_without_descriptions

-- its request: without the name of an operation and values of variables
abbrev pub asking : IntrospectionFormat → Request
asking f = record { text = text_of f; operation = None; variables = λ name. None }
