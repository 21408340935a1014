-- The statuses and the bodies of answers.
use Rattle.std.specs.Prelude.{ℕ, List, codes}
use Rattle.juniper_http.specs.declared.media.MediaType.{MediaType}
use Rattle.juniper_http.specs.declared.media.MediaType.TheVariants.{GraphqlResponse, Json}
use Rattle.juniper_http.specs.declared.outcome.Outcome.{Outcome}
use Rattle.juniper_http.specs.declared.outcome.Outcome.TheVariants.{Executed, Refused, Writes, OutOfMemory}

-- A request that is refused before execution is a 400, but for a client that takes application/json alone: there each
-- well-formed request has status 200.
abbrev pub refused_status : MediaType → ℕ
refused_status GraphqlResponse = 400
refused_status Json = 200

-- the status of an answer
abbrev pub status_of : Outcome → MediaType → ℕ
status_of Executed media = 200
status_of Refused media = refused_status media
status_of Writes media = 405
status_of OutOfMemory media = 500

-- the body that says a reply
abbrev pub reply_text : Outcome → List ℕ → List ℕ
reply_text Executed line = line
reply_text Refused line = line
reply_text Writes line = line
reply_text OutOfMemory line = codes "{\"errors\":[{\"message\":\"Out of memory\"}]}"
