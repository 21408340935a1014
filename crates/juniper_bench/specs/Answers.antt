-- What the program answers.
use Rattle.std.specs.Prelude.{◌≡◌, ◌≢◌, ◌⊎◌, Bool, false, MatchOption, ◌+◌, ℕ, cond, length, ◌++◌, codes, decimal, string_bytes}
use Rattle.graphql_spec.specs.Shown.{Text}
use Rattle.graphql_spec.specs.Documents.{Document}
use Rattle.graphql_spec.specs.Grammar.{Spells}
use Rattle.graphql_spec.specs.Positions.{Position}
use Rattle.graphql_spec.specs.Rules.{rule_errors}
use Rattle.graphql_spec.specs.Schema.{Schema}
use Rattle.graphql_spec.specs.Executable.{is_executable}
use Rattle.juniper_syntax.specs.Refusals.{refusal_text, view_refusal}
use Rattle.juniper_syntax.specs.declared.error.ParseError.{ParseError}
use Rattle.juniper_syntax.specs.declared.error.ParseError.TheVariants.{Memory}
use Rattle.serde_json.specs.Read.{read}
use Rattle.juniper_bench.specs.Counts.{capped, fields_of}
use Rattle.juniper_bench.specs.declared.answers.Answer.{Answer}

-- how numbers of definitions, fields and bytes are told
abbrev pub counts_line : ℕ → ℕ → ℕ → Text
counts_line ds fs bs = codes "definitions: " ++ (decimal ds ++ (codes ", fields: " ++ (decimal fs ++ (codes ", bytes: " ++ decimal bs))))

-- how a refusal is told, with its place, counted from 1
abbrev pub refusal_line : ParseError → Position → Text
refusal_line e p =
    codes "refused: " ++ (refusal_text (view_refusal e) ++ (codes " at " ++ (decimal (capped (p.line + 1)) ++ (codes ":" ++ decimal (capped (p.column + 1))))))

-- a text that spells a document: what it counts, with status 0
abbrev pub IsCounted : Text → Answer → Type 0
IsCounted t a = (d : Document) × Spells t d × (a.status ≡ 0) × (string_bytes a.line ≡ counts_line (length d) (capped (fields_of d)) (length t))

-- a text that spells none, unless it is memory that lacks: why and where, with status 1
abbrev pub IsRefused : Text → Answer → Type 0
IsRefused t a = (e : ParseError) × (p : Position) × (e ≢ Memory → (d : Document) → Spells t d → ⊥) × (a.status ≡ 1) × (string_bytes a.line ≡ refusal_line e p)

-- the answer to a text that is to be a document
abbrev pub IsAnswerTo : Text → Answer → Type 0
IsAnswerTo t a = IsCounted t a ⊎ IsRefused t a

-- how numbers of definitions and errors are told
abbrev pub list_line : ℕ → ℕ → Text
list_line ds es = codes "definitions: " ++ (decimal ds ++ (codes ", errors: " ++ decimal es))

-- the answer for a document that is validated on a schema which is made (5): how many errors are listed, with status 0
abbrev pub IsListed : Document → Answer → Type 0
IsListed d a = (s : Schema) × (a.status ≡ 0) × (string_bytes a.line ≡ list_line (length d) (length (rule_errors s false d)))

-- the answer to a text whose document is to be validated
abbrev pub IsListFor : Text → Answer → Type 0
IsListFor t a = ((d : Document) × Spells t d × IsListed d a) ⊎ IsRefused t a

-- the answer to a text that is to be JSON: how many bytes it has, with status 0; to one that is none that it is none, with status 1
abbrev pub IsScanOf : Text → Answer → Type 0
IsScanOf t a = MatchOption (read t)
    ((a.status ≡ 1) × (string_bytes a.line ≡ codes "refused: not JSON"))
    (λ v. (a.status ≡ 0) × (string_bytes a.line ≡ codes "bytes: " ++ decimal (length t)))

-- whether requests can be executed on a schema, in a word
unfoldable pub executable_word : Bool → Text
executable_word b = cond b (codes "yes") (codes "no")

-- how it is told whether requests can be executed on a schema that was made of so many types
abbrev pub schema_line : ℕ → Bool → Text
schema_line n b = codes "types: " ++ (decimal n ++ (codes ", executable: " ++ executable_word b))

-- the answer for a schema that was made of so many types (3), with status 0
abbrev pub IsTestOf : ℕ → Answer → Type 0
IsTestOf n a = (s : Schema) × (a.status ≡ 0) × (string_bytes a.line ≡ schema_line n (is_executable s))
