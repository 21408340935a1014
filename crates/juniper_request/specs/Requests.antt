-- What the JSON of a request asks ("GraphQL over HTTP", request parameters).
use Rattle.std.specs.Prelude.{◌≡◌, ℕ, List, [], ◌∷◌, ◌++◌, map, decimal, Option, Some, None, option_map, codes, Result, Ok, Err, IsUtf8}
use Rattle.serde_json.specs.Data.{Data, null, boolean, number, string, array, object, Items, no_items, item, Members}
use Rattle.serde_json.specs.Find.{get_member}
use Rattle.serde_json.specs.Read.{read}
use Rattle.serde_json.specs.View.{members_view, view}
use Rattle.juniper_request.specs.declared.error.NotJson.{NotJson}
use Rattle.juniper_request.specs.declared.error.RequestError.{RequestError}
use Rattle.juniper_request.specs.declared.error.RequestError.TheVariants.{NotAnObject, Query, OperationName, Variables, Extensions}
use Rattle.juniper_request.specs.declared.read.GraphQLBatchRequest.{GraphQLBatchRequest}
use Rattle.juniper_request.specs.declared.read.GraphQLBatchRequest.TheVariants.{Single, Batch}
use Rattle.juniper_request.specs.declared.request.GraphQLRequest.{GraphQLRequest}

-- ## One request

-- the text of a document, the name of an operation, the values of variables, and what else is agreed on
pub record Asked : Type 0 where
  pub query : List ℕ
  pub operation_name : Option (List ℕ)
  pub variables : Option Members
  pub extensions : Option Members

abbrev pub view_request : GraphQLRequest → Asked
view_request r = record {
  query = r.query.now;
  operation_name = option_map (λ t. t.now) r.operation_name;
  variables = option_map (λ m. members_view m.now.entries) r.variables;
  extensions = option_map (λ m. members_view m.now.entries) r.extensions;
}

abbrev pub view_answer : Result GraphQLRequest RequestError → Result Asked RequestError
view_answer (Ok r) = Ok (view_request r)
view_answer (Err e) = Err e

-- a text
abbrev pub text_in : Option Data → Option (List ℕ)
text_in None = None
text_in (Some null) = None
text_in (Some (boolean b)) = None
text_in (Some (number n)) = None
text_in (Some (string s)) = Some s
text_in (Some (array ds)) = None
text_in (Some (object ms)) = None

-- a text that may be missing or null; None where there is something else
abbrev pub maybe_text_in : Option Data → Option (Option (List ℕ))
maybe_text_in None = Some None
maybe_text_in (Some null) = Some None
maybe_text_in (Some (boolean b)) = None
maybe_text_in (Some (number n)) = None
maybe_text_in (Some (string s)) = Some (Some s)
maybe_text_in (Some (array ds)) = None
maybe_text_in (Some (object ms)) = None

-- the members of an object that may be missing or null; None where there is something else
abbrev pub maybe_members_in : Option Data → Option (Option Members)
maybe_members_in None = Some None
maybe_members_in (Some null) = Some None
maybe_members_in (Some (boolean b)) = None
maybe_members_in (Some (number n)) = None
maybe_members_in (Some (string s)) = None
maybe_members_in (Some (array ds)) = None
maybe_members_in (Some (object ms)) = Some (Some ms)

-- what is found goes on, and what is not is this error
abbrev pub found_or : {A B : Type 0} → RequestError → Option A → (A → Result B RequestError) → Result B RequestError
found_or e None next = Err e
found_or e (Some a) next = next a

-- the request of an object's members
abbrev pub request_by : Members → Result Asked RequestError
request_by ms =
    found_or Query (text_in (get_member (codes "query") ms)) (λ query.
    found_or OperationName (maybe_text_in (get_member (codes "operationName") ms)) (λ name.
    found_or Variables (maybe_members_in (get_member (codes "variables") ms)) (λ variables.
    found_or Extensions (maybe_members_in (get_member (codes "extensions") ms)) (λ extensions.
    Ok (record { query = query; operation_name = name; variables = variables; extensions = extensions })))))

-- the request that JSON is
abbrev pub request_in : Data → Result Asked RequestError
request_in null = Err NotAnObject
request_in (boolean b) = Err NotAnObject
request_in (number n) = Err NotAnObject
request_in (string s) = Err NotAnObject
request_in (array ds) = Err NotAnObject
request_in (object ms) = request_by ms

-- the text of an error
abbrev pub message : RequestError → List ℕ
message NotAnObject = codes "a request must be an object"
message Query = codes "query must be a string"
message OperationName = codes "operationName must be a string or null"
message Variables = codes "variables must be an object or null"
message Extensions = codes "extensions must be an object or null"

-- the text of a place where bytes are no JSON
abbrev pub place_text : NotJson → List ℕ
place_text e = codes "not JSON, at line " ++ decimal e.line ++ codes " column " ++ decimal e.column

-- ## Bodies

-- the JSON of one request, or of several
pub data Body : Type 0 where
  single : Data → Body
  batch : List Data → Body

abbrev pub each : Items → List Data
each no_items = []
each (item d ds) = d ∷ each ds

-- An array is a batch.
abbrev pub body_in : Data → Body
body_in null = single null
body_in (boolean b) = single (boolean b)
body_in (number n) = single (number n)
body_in (string s) = single (string s)
body_in (array ds) = batch (each ds)
body_in (object ms) = single (object ms)

abbrev pub view_body : GraphQLBatchRequest → Body
view_body (Single json) = single (view json)
view_body (Batch members) = batch (map view members.items)

-- The bytes are JSON in UTF-8 that holds these requests, or they are none.
abbrev pub IsRead : List ℕ → Result GraphQLBatchRequest NotJson → Type 0
IsRead bytes (Ok requests) = IsUtf8 bytes × ((d : Data) × (read bytes ≡ Some d) × (view_body requests ≡ body_in d))
IsRead bytes (Err e) = IsUtf8 bytes → read bytes ≡ None
