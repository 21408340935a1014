use Rattle.std.proofs.Common.{◌≡◌, map, Some, ap, sym, ◌∙◌}
use Rattle.std.proofs.lemmas.Result.{err_from_is_err_and}
use Rattle.graphql_spec.specs.Documents as spec
use Rattle.graphql_spec.specs.Grammar.{before_all}
use Rattle.juniper_tokens.specs.Lexing.{Lexed}
use Rattle.juniper_language.specs.Reading as read
use Rattle.juniper_tokens.specs.TokenViews.{view_lexed, view_token}
use Rattle.juniper_syntax.specs.DocumentView.{view_document}
use Rattle.juniper_language.proofs.DocumentLaws.{spells_alone, nothing_read, fault_spells}
use Rattle.juniper_language.proofs.parser.parse_document_source.Goals as goal

pub returns-in_err-found : goal.returns-in_err-found
returns-in_err-found g c =
    let p = err_from_is_err_and c.from_residual-in_err-found.result c.from_residual-in_err-found.ensures.1 in
    let tokens : Lexed = view_lexed c.in_ok-lexed.lexed in
    let start : c.new-parser.result ≡ before_all tokens.tokens = c.new-parser.ensures ∙ ap (λ ts. before_all (map view_token ts)) c.deref.ensures.value in
    rw (p.1, p.2) (λ other. nothing_read c.args.text.now tokens c.in_ok-lexed.ensures (ap read.document (sym start) ∙ c.in_err-found.ensures other))

pub returns-in_err-whole_text : goal.returns-in_err-whole_text
returns-in_err-whole_text g c =
    let p = err_from_is_err_and c.from_residual-in_err-whole_text.result c.from_residual-in_err-whole_text.ensures.1 in
    rw (p.1, p.2) (λ other. fault_spells c.args.text.now (view_lexed c.in_ok-lexed.lexed) c.in_ok-lexed.ensures c.in_err-whole_text.ensures)

pub returns : goal.returns
returns g c =
    let shown = g.S.ScalarValue.shown in
    let tokens : Lexed = view_lexed c.in_ok-lexed.lexed in
    let start : c.new-parser.result ≡ before_all tokens.tokens = c.new-parser.ensures ∙ ap (λ ts. before_all (map view_token ts)) c.deref.ensures.value in
    let found : spec.Document = view_document shown c.in_ok-found.found in
    let given : read.document (before_all tokens.tokens) ≡ Some (found, c.document.new.parser) = ap read.document (sym start) ∙ c.in_ok-found.ensures in
    spells_alone c.args.text.now tokens found c.document.new.parser c.in_ok-lexed.ensures c.in_ok-whole_text.ensures given
