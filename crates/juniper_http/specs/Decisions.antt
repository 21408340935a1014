-- What is to be done for a request.
use Rattle.std.specs.Prelude.{◌≡◌, ℕ, ◌||◌, ◌&&◌, List, Bool, not, if◌then◌else◌, Option, Some, None, codes}
use Rattle.std.specs.Str.{bytes_eq}
use Rattle.juniper_http.specs.declared.decision.Body.{Body}
use Rattle.juniper_http.specs.declared.decision.Body.TheVariants as body
use Rattle.juniper_http.specs.declared.decision.Facts.{Facts}
use Rattle.juniper_http.specs.declared.decision.Step.{Step}
use Rattle.juniper_http.specs.declared.decision.Step.TheVariants.{ShowPage, TellMethods, Refuse, ReadQuery, ReadJson, ReadDocument}
use Rattle.juniper_http.specs.declared.decision.Verb.{Verb}
use Rattle.juniper_http.specs.declared.decision.Verb.TheVariants as verb
use Rattle.juniper_http.specs.declared.media.MediaType.{MediaType}
use Rattle.juniper_http.specs.declared.media.MediaType.TheVariants.{GraphqlResponse}
use Rattle.juniper_request.specs.declared.error.RequestError.TheVariants.{Query}
use Rattle.juniper_http.specs.declared.refusal.Refusal.TheVariants as why

-- what a method asks for
abbrev pub verb_of : List ℕ → Verb
verb_of m =
    if (bytes_eq m (codes "GET") || bytes_eq m (codes "HEAD")) then verb.Reads
    else (if bytes_eq m (codes "POST") then verb.Posts else (if bytes_eq m (codes "OPTIONS") then verb.AsksMethods else verb.Other))

-- the paths at which requests are served
abbrev pub is_served : List ℕ → Bool
is_served path = bytes_eq path (codes "/") || bytes_eq path (codes "/graphql")

-- The paths at which there is an answer to what a method asks for. `OPTIONS *` asks of the server as a whole (RFC 9110, section 9.3.7).
abbrev pub is_known : Verb → List ℕ → Bool
is_known verb.Reads path = is_served path
is_known verb.Posts path = is_served path
is_known verb.AsksMethods path = is_served path || bytes_eq path (codes "*")
is_known verb.Other path = is_served path

-- A request that says nothing of what it takes gets GraphQL's own media type.
abbrev pub media_of : Facts → Option MediaType
media_of f = if f.has_accept then f.media else Some GraphqlResponse

-- a body of this type, with an answer of this media type
abbrev pub body_step : Body → MediaType → Step
body_step body.Json media = ReadJson media
body_step body.Document media = ReadDocument media
body_step body.Coded media = Refuse why.Coding
body_step body.Other media = Refuse why.MediaType

abbrev pub read_step : Bool → Option MediaType → Step
read_step has_query None = Refuse why.NotAcceptable
read_step has_query (Some media) = if has_query then ReadQuery media else Refuse (why.NotARequest Query)

abbrev pub post_step : Bool → Body → Option MediaType → Step
post_step fits b None = Refuse why.NotAcceptable
post_step fits b (Some media) = if fits then body_step b media else Refuse why.TooLarge

abbrev pub verb_step : Verb → Facts → Step
verb_step verb.Other f = Refuse why.Method
verb_step verb.AsksMethods f = TellMethods
verb_step verb.Reads f = if (not f.has_query && (f.has_accept && f.wants_page)) then ShowPage else read_step f.has_query (media_of f)
verb_step verb.Posts f = post_step f.fits f.body (media_of f)

-- what is to be done for a request of which this is known
abbrev pub step_of : Facts → Step
step_of f = if f.is_known_path then verb_step f.verb f else Refuse why.NotFound

-- A body is read for a POST alone, and so is what may write.
abbrev pub PostsToWrite : Verb → Step → Type 0
PostsToWrite v ShowPage = Unit {0}
PostsToWrite v TellMethods = Unit {0}
PostsToWrite v (Refuse w) = Unit {0}
PostsToWrite v (ReadQuery media) = Unit {0}
PostsToWrite v (ReadJson media) = v ≡ verb.Posts
PostsToWrite v (ReadDocument media) = v ≡ verb.Posts
