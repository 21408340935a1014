use Rattle.std.proofs.Common.{refl}
use Rattle.graphql_spec.specs.IntrospectionQueries.{query_lines, word_of, asks_description, ended, all_text, text_without_descriptions}
use Rattle.juniper.proofs.introspection.query_text.Goals as goal

pub returns-in-All : goal.returns-in-All
unfolding query_lines word_of asks_description ended all_text text_without_descriptions
returns-in-All c = rw (c.in-All.is) refl

pub returns-in-WithoutDescriptions : goal.returns-in-WithoutDescriptions
unfolding query_lines word_of asks_description ended all_text text_without_descriptions
returns-in-WithoutDescriptions c = rw (c.in-WithoutDescriptions.is) refl
