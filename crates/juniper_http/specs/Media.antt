-- The media types of answers.
use Rattle.std.specs.Prelude.{ℕ, List, codes}
use Rattle.juniper_http.specs.declared.media.MediaType.{MediaType}
use Rattle.juniper_http.specs.declared.media.MediaType.TheVariants.{GraphqlResponse, Json}

-- the value of content-type
abbrev pub media_text : MediaType → List ℕ
media_text GraphqlResponse = codes "application/graphql-response+json; charset=utf-8"
media_text Json = codes "application/json; charset=utf-8"
