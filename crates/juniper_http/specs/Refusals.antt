-- Requests that are refused before they are put to the endpoint.
use Rattle.std.specs.Prelude.{ℕ, List, ◌++◌, codes}
use Rattle.juniper_request.specs.Requests.{message, place_text}
use Rattle.juniper_http.specs.declared.refusal.Refusal.{Refusal}
use Rattle.juniper_http.specs.declared.refusal.Refusal.TheVariants.{NotFound, Method, NotAcceptable, MediaType, Coding, TooLarge, NotJson, NotARequest}
use Rattle.juniper_http.specs.declared.refusal.Refusal.TheVariants.{EmptyBatch, LongBatch, LongAnswer}

-- the status of a refusal
abbrev pub refusal_status : Refusal → ℕ
refusal_status NotFound = 404
refusal_status Method = 405
refusal_status NotAcceptable = 406
refusal_status MediaType = 415
refusal_status Coding = 415
refusal_status TooLarge = 413
refusal_status LongBatch = 413
refusal_status LongAnswer = 413
refusal_status (NotJson fault) = 400
refusal_status (NotARequest e) = 400
refusal_status EmptyBatch = 400

-- what is told of it
abbrev pub refusal_message : Refusal → List ℕ
refusal_message NotFound = codes "not found"
refusal_message Method = codes "only GET, HEAD, POST and OPTIONS are supported"
refusal_message NotAcceptable = codes "accept application/graphql-response+json or application/json"
refusal_message MediaType = codes "the body must be JSON in UTF-8"
refusal_message Coding = codes "the body must have no content-encoding"
refusal_message TooLarge = codes "the body is too large"
refusal_message (NotJson fault) = place_text fault
refusal_message (NotARequest e) = message e
refusal_message EmptyBatch = codes "the batch is empty"
refusal_message LongBatch = codes "the batch is too long"
refusal_message LongAnswer = codes "the answers to the batch are too long"

-- its body: errors, and no data
abbrev pub refusal_text : Refusal → List ℕ
refusal_text why = codes "{\"errors\":[{\"message\":\"" ++ refusal_message why ++ codes "\"}]}"
