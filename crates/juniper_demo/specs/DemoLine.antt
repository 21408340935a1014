-- What the demo answers to the request that its crate keeps (6.1, 7.2.2).
use Rattle.std.specs.Prelude.{◌≡◌, ◌⊎◌, ◌++◌, List, [], ◌∷◌, None, codes, string_bytes}
use Rattle.graphql_spec.specs.Shown.{Text}
use Rattle.graphql_spec.specs.Values.{Value}
use Rattle.graphql_spec.specs.Inputs.{Variables}
use Rattle.graphql_spec.specs.Errors.{Listed}
use Rattle.graphql_spec.specs.Schema.{Schema}
use Rattle.graphql_spec.specs.Outcomes.{Request, Response, refuses, responds, out_of_memory}
use Rattle.graphql_spec.specs.ExactAnswers.{IsExactOutcome}
use Rattle.juniper.specs.Promised.{IsFullOutcome}
use Rattle.juniper.specs.RequestErrors as error
use Rattle.juniper_json.specs.AnswerText.{answer_text}
use Rattle.juniper_demo_server.specs.Answers.{IsAnswerTo, ShowsRefusal, demo_service}
use Rattle.juniper_demo_server.specs.DemoSchema.{IsDemoSchema, demo_schema}
use Rattle.juniper_demo_server.specs.declared.demo.DemoContext.{DemoContext}
use Rattle.juniper_demo_server.specs.declared.outcome.Answer.{Answer}

-- the text of the request
abbrev pub the_request : Text
the_request = codes "{ id again: id name @skip(if: true) fail id }"

-- the line of its answer
abbrev pub the_line : Text
the_line = codes "{\"data\":{\"id\":\"q1\",\"again\":\"q1\",\"fail\":null},\"errors\":["
    ++ codes "{\"message\":\"failed\",\"locations\":[{\"line\":1,\"column\":37}],\"path\":[\"fail\"]}]}"

-- the request without a name of an operation, with whatever values of variables
abbrev pub asking : Variables → Request
asking vars = record { text = the_request; operation = None; variables = vars }

-- a response that is written as the line, or want of memory
abbrev pub IsTheLine : Response → Type 0
IsTheLine (refuses r) = ⊥
IsTheLine (responds v es) = answer_text v es ≡ the_line
IsTheLine out_of_memory = Unit {0}

-- each outcome of the request is the line, or want of memory, and leaves the context: on a schema with the demo's types, in whatever
-- order, with whatever values of variables, and in whatever context
abbrev pub OutcomesAreTheLine : Type 0
OutcomesAreTheLine = (s : Schema) → IsDemoSchema s → (vars : Variables) (c after : DemoContext) (r : Response) →
    IsExactOutcome (demo_service s) (asking vars) c r after → IsTheLine r × (after ≡ c)

-- and there is one that is all that is promised
abbrev pub TheLineIsAnswered : Type 0
TheLineIsAnswered = (vars : Variables) (c : DemoContext) → (v : Value) × (es : List Listed) ×
    IsFullOutcome (demo_service demo_schema) (asking vars) c (responds v es) c × (answer_text v es ≡ the_line)

-- so what is answered to the request as the program's one word is the line, with status 0, or that memory was wanting
abbrev pub WordIsAnsweredByTheLine : Type 0
WordIsAnsweredByTheLine = (c after : DemoContext) (a : Answer) → IsAnswerTo (the_request ∷ []) c a after →
    (((a.status ≡ 0) × (string_bytes a.line ≡ the_line)) ⊎ ShowsRefusal error.out_of_memory a) × (after ≡ c)
