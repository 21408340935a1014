-- The texts of the introspection queries: how long they are, and how many lines ask for descriptions alone.
use Rattle.std.specs.Prelude.{◌≡◌, length}
use Rattle.std.specs.List.{filter}
use Rattle.std.proofs.Common.{refl}
use Rattle.graphql_spec.specs.IntrospectionQueries.{query_lines, word_of, asks_description, ended, all_text, text_without_descriptions}

lengths : (length query_lines ≡ 50) × (length (filter asks_description query_lines) ≡ 6) × (length all_text ≡ 943) × (length text_without_descriptions ≡ 849)
unfolding query_lines word_of asks_description ended all_text text_without_descriptions
lengths = (refl, refl, refl, refl)
