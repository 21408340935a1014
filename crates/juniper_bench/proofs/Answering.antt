-- The line for a refusal answers the text, that of a list the document, and that of a test the schema.
use Rattle.std.proofs.Common.{ℕ, ◌≡◌, ◌≢◌, Result, Ok, Err, List, false, inl, inr, length, string_bytes, ap, ◌∙◌}
use Rattle.std.specs.Prelude.{IfOk}
use Rattle.graphql_spec.specs.Shown.{Text}
use Rattle.graphql_spec.specs.Documents.{Document}
use Rattle.graphql_spec.specs.Grammar.{Spells}
use Rattle.graphql_spec.specs.Positions.{Position}
use Rattle.graphql_spec.specs.Rules.{RuleError, rule_errors}
use Rattle.graphql_spec.specs.Schema.{Schema}
use Rattle.graphql_spec.specs.Executable.{is_executable}
use Rattle.juniper_syntax.specs.declared.error.ParseError.{ParseError}
use Rattle.juniper_syntax.specs.declared.error.ParseError.TheVariants.{Memory}
use Rattle.juniper_bench.specs.Answers.{IsAnswerTo, IsListFor, IsListed, IsTestOf, list_line, refusal_line, schema_line}
use Rattle.juniper_bench.specs.declared.answers.Answer.{Answer}

pub answers-refusal : {E : Type 0} (t : Text) (r : Result Answer E) (e : ParseError) (p : Position) → (e ≢ Memory → (d : Document) → Spells t d → ⊥) →
    IfOk r (λ a. a.status ≡ 1) → IfOk r (λ a. string_bytes a.line ≡ refusal_line e p) → IfOk r (IsAnswerTo t)
answers-refusal t (Ok a) e p none status line = inr (e, p, none, status, line)
answers-refusal t (Err _) e p none status line = tt

pub answers-test : {E : Type 0} (n : ℕ) (s : Schema) (r : Result Answer E) → IfOk r (λ a. a.status ≡ 0) →
    IfOk r (λ a. string_bytes a.line ≡ schema_line n (is_executable s)) → IfOk r (IsTestOf n)
answers-test n s (Ok a) status line = (s, status, line)
answers-test n s (Err _) status line = tt

pub lists-document : {E : Type 0} (t : Text) (r : Result Answer E) (d : Document) → Spells t d → IfOk r (IsListed d) → IfOk r (IsListFor t)
lists-document t (Ok a) d spelled listed = inl (d, spelled, listed)
lists-document t (Err _) d spelled listed = tt

pub lists-refusal : {E : Type 0} (t : Text) (r : Result Answer E) (e : ParseError) (p : Position) → (e ≢ Memory → (d : Document) → Spells t d → ⊥) →
    IfOk r (λ a. a.status ≡ 1) → IfOk r (λ a. string_bytes a.line ≡ refusal_line e p) → IfOk r (IsListFor t)
lists-refusal t (Ok a) e p none status line = inr (e, p, none, status, line)
lists-refusal t (Err _) e p none status line = tt

-- as many errors as the definition has are listed
pub answers-list : {E : Type 0} (s : Schema) (d : Document) (r : Result Answer E) (es : List RuleError) → es ≡ rule_errors s false d →
    IfOk r (λ a. a.status ≡ 0) → IfOk r (λ a. string_bytes a.line ≡ list_line (length d) (length es)) → IfOk r (IsListed d)
answers-list s d (Ok a) es is status line = (s, status, line ∙ ap (λ l. list_line (length d) (length l)) is)
answers-list s d (Err _) es is status line = tt
