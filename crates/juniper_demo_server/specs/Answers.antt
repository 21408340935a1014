-- What the program answers.
use Rattle.std.specs.Prelude.{◌≡◌, ◌⊎◌, false, List, [], ◌∷◌, ◌++◌, Option, Some, None, Result, Ok, Err, codes, string_bytes}
use Rattle.graphql_spec.specs.Shown.{Text, Name}
use Rattle.graphql_spec.specs.Values.{Value}
use Rattle.graphql_spec.specs.Inputs.{Variables}
use Rattle.graphql_spec.specs.Errors.{Listed}
use Rattle.graphql_spec.specs.Schema.{Schema}
use Rattle.graphql_spec.specs.Introspection.{RootedNode, rooted_service}
use Rattle.graphql_spec.specs.Outcomes.{Request, Response, Service, Steps, responds}
use Rattle.juniper.specs.Answering.{Responds}
use Rattle.juniper.specs.Promised.{IsFullOutcome}
use Rattle.juniper.specs.RequestErrors.{RequestError, request_error_text}
use Rattle.juniper_json.specs.AnswerText.{answer_text}
use Rattle.juniper_json.specs.Given.{variables_by}
use Rattle.juniper_json.specs.declared.read.VariablesError.{VariablesError}
use Rattle.juniper_json.specs.declared.read.VariablesError.TheVariants.{NotAnObject, Float, OutOfRange}
use Rattle.juniper_demo_server.specs.Demo.{concrete_type, reply, step, torn}
use Rattle.juniper_demo_server.specs.DemoSchema.{IsDemoSchema}
use Rattle.juniper_demo_server.specs.declared.demo.DemoContext.{DemoContext}
use Rattle.juniper_demo_server.specs.declared.demo.DemoNode.{DemoNode}
use Rattle.juniper_demo_server.specs.declared.demo.DemoNode.TheVariants.{Query}
use Rattle.juniper_demo_server.specs.declared.outcome.Answer.{Answer}

-- ## Lines

-- words that are not understood: this line, with status 2
abbrev pub IsRefusal : Text → Answer → Type 0
IsRefusal line a = (a.status ≡ 2) × (string_bytes a.line ≡ line)

-- the usage
abbrev pub IsUsage : Answer → Type 0
IsUsage a = IsRefusal (codes "usage: juniper_demo TEXT [NAME] [VARIABLES]") a

-- why a text gives no values of variables
abbrev pub variables_text : VariablesError → Text
variables_text NotAnObject = codes "variables: not a JSON object"
variables_text Float = codes "variables: float"
variables_text OutOfRange = codes "variables: number out of range"

-- the text of an answer with these data and errors, with status 0
abbrev pub ShowsData : Value → List Listed → Answer → Type 0
ShowsData v es a = (a.status ≡ 0) × (string_bytes a.line ≡ answer_text v es)

-- why a request is refused, with status 1
abbrev pub ShowsRefusal : RequestError → Answer → Type 0
ShowsRefusal e a = (a.status ≡ 1) × (string_bytes a.line ≡ codes "refused: " ++ request_error_text e)

-- ## Requests

-- no variable has a value
abbrev pub no_values : Variables
no_values = λ name. None

-- the name of an operation: an empty word is none
abbrev pub name_in : Text → Option Name
name_in [] = None
name_in (b ∷ bs) = Some (b ∷ bs)

-- what the demo's mutations mean (6.2.2)
abbrev pub demo_steps : Steps DemoContext DemoNode
demo_steps = record { step = step; torn = λ c field arguments. torn c }

-- what requests to the demo are executed with, on a schema (6.1): its own fields, and introspection (4)
abbrev pub demo_service : Schema → Service DemoContext (RootedNode DemoNode)
demo_service s = rooted_service (record {
  schema = s;
  introspection_disabled = false;
  concrete = λ c. concrete_type;
  answer = reply;
  root = Query;
  mutation = Some demo_steps;
})

-- a request on a schema, in a context: what its execution gives, or why it is refused (6.1)
abbrev pub IsAnswerOn : Schema → Request → DemoContext → Answer → DemoContext → Type 0
IsAnswerOn s q c a after =
    ((v : Value) × (es : List Listed) × IsFullOutcome (demo_service s) q c (responds v es) after × ShowsData v es a)
    ⊎ ((e : RequestError) × Responds (λ r. IsFullOutcome (demo_service s) q c r after) e × ShowsRefusal e a)

-- the same on a schema with the demo's types, each once and in whatever order
unfoldable pub IsAnswerWith : Text → Option Name → Variables → DemoContext → Answer → DemoContext → Type 0
IsAnswerWith t n vars c a after = (s : Schema) × IsDemoSchema s × IsAnswerOn s (record { text = t; operation = n; variables = vars }) c a after

-- the context after an outcome of the request (6.1)
unfoldable pub IsLeftWith : Text → Option Name → Variables → DemoContext → DemoContext → Type 0
IsLeftWith t n vars c after = (s : Schema) × IsDemoSchema s
    × ((r : Response) × IsFullOutcome (demo_service s) (record { text = t; operation = n; variables = vars }) c r after)

-- a context that the request may leave where memory is wanting: the one before, or one after an outcome
abbrev pub MayLeave : Text → Option Name → Variables → DemoContext → DemoContext → Type 0
MayLeave t n vars c after = (after ≡ c) ⊎ IsLeftWith t n vars c after

-- with the values of variables, if there are any
abbrev pub MayLeaveGiven : Text → Option Name → Result Variables VariablesError → DemoContext → DemoContext → Type 0
MayLeaveGiven t n (Ok vars) c after = MayLeave t n vars c after
MayLeaveGiven t n (Err e) c after = after ≡ c

-- and where the words may
abbrev pub MayBeLeftBy : List Text → DemoContext → DemoContext → Type 0
MayBeLeftBy [] c after = after ≡ c
MayBeLeftBy (t ∷ []) c after = MayLeave t None no_values c after
MayBeLeftBy (t ∷ (n ∷ [])) c after = MayLeave t (name_in n) no_values c after
MayBeLeftBy (t ∷ (n ∷ (given ∷ []))) c after = MayLeaveGiven t (name_in n) (variables_by given) c after
MayBeLeftBy (t ∷ (n ∷ (given ∷ (word ∷ rest)))) c after = after ≡ c

-- with the values of variables, or why there are none
abbrev pub IsAnswerGiven : Text → Option Name → Result Variables VariablesError → DemoContext → Answer → DemoContext → Type 0
IsAnswerGiven t n (Ok vars) c a after = IsAnswerWith t n vars c a after
IsAnswerGiven t n (Err e) c a after = IsRefusal (variables_text e) a × (after ≡ c)

-- the words are the text of a request, the name of an operation and the values of variables, of which the last may be left
-- out; any other number of them gets the usage
abbrev pub IsAnswerTo : List Text → DemoContext → Answer → DemoContext → Type 0
IsAnswerTo [] c a after = IsUsage a × (after ≡ c)
IsAnswerTo (t ∷ []) c a after = IsAnswerWith t None no_values c a after
IsAnswerTo (t ∷ (n ∷ [])) c a after = IsAnswerWith t (name_in n) no_values c a after
IsAnswerTo (t ∷ (n ∷ (given ∷ []))) c a after = IsAnswerGiven t (name_in n) (variables_by given) c a after
IsAnswerTo (t ∷ (n ∷ (given ∷ (word ∷ rest)))) c a after = IsUsage a × (after ≡ c)
