use Rattle.std.proofs.Common.{◌≡◌, ◌≢◌, ◌∙◌, ap, subst}
use Rattle.std.specs.Str.{IsUtf8}
use Rattle.juniper_tokens.specs.Lexing.{lexeme_len}
use Rattle.juniper_tokens.proofs.Boundaries.{taken_boundary}
use Rattle.juniper_tokens.proofs.Plain.{lexeme_plain}
use Rattle.juniper_tokens.proofs.lexer.Lexer.token.Goals as goal

pub take_lexeme-word-requires-clause-boundary : goal.take_lexeme-word-requires-clause-boundary
take_lexeme-word-requires-clause-boundary c =
    let same : c.rest.result.now ≡ c.args.self.now.ahead = c.rest.ensures in
    let is : c.lexeme_len-length.result ≡ lexeme_len c.args.self.now.ahead = c.lexeme_len-length.ensures ∙ ap lexeme_len same in
    let text : IsUtf8 c.args.self.now.ahead = subst (λ x. IsUtf8 x) same c.rest.utf8 in
    let some : lexeme_len c.args.self.now.ahead ≢ 0 = λ none. c.if-length-eq0.false (is ∙ none) in
    rw is (taken_boundary c.args.self.now.ahead some text)

pub take_lexeme-word-requires-clause-plain : goal.take_lexeme-word-requires-clause-plain
take_lexeme-word-requires-clause-plain c =
    let is : c.lexeme_len-length.result ≡ lexeme_len c.args.self.now.ahead = c.lexeme_len-length.ensures ∙ ap lexeme_len c.rest.ensures in
    let some : lexeme_len c.args.self.now.ahead ≢ 0 = λ none. c.if-length-eq0.false (is ∙ none) in
    rw is (lexeme_plain c.args.self.now.ahead some)
