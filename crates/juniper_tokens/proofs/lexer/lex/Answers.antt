use Rattle.std.proofs.Common.{◌≡◌, ◌≢◌, ◌++◌, [], ◌∷◌, length, map, sym, ◌∙◌, ap, subst, arith}
use Rattle.std.proofs.lemmas.Bool.{eqb-true, eqb-false}
use Rattle.std.proofs.lemmas.List.{map-append}
use Rattle.std.specs.Str.{IsUtf8}
use Rattle.juniper_tokens.specs.Lexing.{Front, behind, ignored_len, lexeme_len, lex_from, lexed}
use Rattle.juniper_tokens.specs.TokenViews.{view_token}
use Rattle.juniper_tokens.proofs.Boundaries.{ignored_boundary}
use Rattle.juniper_tokens.proofs.LexSteps.{ends_whole, ends_fault, goes_on}
use Rattle.juniper_tokens.proofs.lexer.lex.Goals as goal

pub take-requires : goal.take-requires
take-requires c =
    let s : Front = c.short_token.new.self in
    let same : c.as_bytes.result.now ≡ s.ahead = c.as_bytes.ensures.value ∙ c.rest-in-loop-lexer.ensures in
    let is : c.ignored_len-ignored.result ≡ ignored_len s.ahead = c.ignored_len-ignored.ensures ∙ ap ignored_len same in
    let text : IsUtf8 s.ahead = subst (λ x. IsUtf8 x) same c.as_bytes.ensures.utf8 in
    let gap : ignored_len s.ahead ≢ 0 = omega (arith, is, c.if-ignored-gt0.true) in
    rw is (ignored_boundary s.ahead gap text)

pub returns-in_default-token : goal.returns-in_default-token
returns-in_default-token c =
    let s : Front = c.short_token.new.self in
    let found = map view_token c.loop-lexer.tokens.items in
    let same : s ≡ c.loop-lexer.lexer = c.in_default.ensures ∙ c.skip_blanks.ensures.none c.if-skip_blanks.false in
    let kept : behind found (lex_from s) ≡ lexed c.args.text.now = ap (λ x. behind found (lex_from x)) same ∙ c.loop-lexer.invariant in
    let rest : length c.rest.result.now ≡ length s.ahead = ap length c.rest.ensures ∙ sym (ap (λ (x : Front). length x.ahead) same) in
    let some : length s.ahead ≢ 0 = λ none. eqb-false (length c.rest.result.now) 0 (sym c.loop-lexer-test.ensures) (rest ∙ none) in
    let is : c.ignored_len-ignored.result ≡ ignored_len s.ahead = c.ignored_len-ignored.ensures
    ∙ ap ignored_len (c.as_bytes.ensures.value ∙ c.rest-in-loop-lexer.ensures) in
    let no_gap : ignored_len s.ahead ≡ 0 = omega (arith, is, c.if-ignored-gt0.false) in
    let nothing : lexeme_len s.ahead ≡ 0 = c.in_default-token.ensures.0 in
    rw (c.position.ensures, c.in_default-token.ensures.1) (ends_fault found s (lexed c.args.text.now) some no_gap nothing kept)

pub loop-lexer-preserved-in-Some : goal.loop-lexer-preserved-in-Some
loop-lexer-preserved-in-Some c =
    let s : Front = c.skip_blanks.new.self in
    let found = map view_token c.loop-lexer.tokens.items in
    let token = c.in-Some.token in
    let same : s ≡ c.loop-lexer.lexer = c.skip_blanks.ensures.none c.if-skip_blanks.false in
    let kept : behind found (lex_from s) ≡ lexed c.args.text.now = ap (λ x. behind found (lex_from x)) same ∙ c.loop-lexer.invariant in
    let rest : length c.rest.result.now ≡ length s.ahead = ap length c.rest.ensures ∙ sym (ap (λ (x : Front). length x.ahead) same) in
    let some : length s.ahead ≢ 0 = λ none. eqb-false (length c.rest.result.now) 0 (sym c.loop-lexer-test.ensures) (rest ∙ none) in
    let all : map view_token c.push.new.self.items ≡ found ++ view_token token ∷ [] = ap (map view_token) c.in_ok-push.ensures.items
    ∙ map-append view_token c.loop-lexer.tokens.items (token ∷ []) in
    let step = c.in-Some.ensures in
    rw all (goes_on found (view_token token) s c.short_token.new.self (lexed c.args.text.now) some step.0 step.1 step.2 step.3 kept)

pub loop-lexer-preserved : goal.loop-lexer-preserved
loop-lexer-preserved c =
    let s : Front = c.short_token.new.self in
    let found = map view_token c.loop-lexer.tokens.items in
    let token = c.in-Some-token.token in
    let same : s ≡ c.loop-lexer.lexer = c.in_default.ensures ∙ c.skip_blanks.ensures.none c.if-skip_blanks.false in
    let kept : behind found (lex_from s) ≡ lexed c.args.text.now = ap (λ x. behind found (lex_from x)) same ∙ c.loop-lexer.invariant in
    let rest : length c.rest.result.now ≡ length s.ahead = ap length c.rest.ensures ∙ sym (ap (λ (x : Front). length x.ahead) same) in
    let some : length s.ahead ≢ 0 = λ none. eqb-false (length c.rest.result.now) 0 (sym c.loop-lexer-test.ensures) (rest ∙ none) in
    let is : c.ignored_len-ignored.result ≡ ignored_len s.ahead = c.ignored_len-ignored.ensures
    ∙ ap ignored_len (c.as_bytes.ensures.value ∙ c.rest-in-loop-lexer.ensures) in
    let no_gap : ignored_len s.ahead ≡ 0 = omega (arith, is, c.if-ignored-gt0.false) in
    let all : map view_token c.push-in-loop-lexer.new.self.items ≡ found ++ view_token token ∷ [] = ap (map view_token) c.in_ok-push-2.ensures.items
    ∙ map-append view_token c.loop-lexer.tokens.items (token ∷ []) in
    let step = c.in-Some-token.ensures in
    rw all (goes_on found (view_token token) s c.token.new.self (lexed c.args.text.now) some no_gap step.0 step.1 step.2 kept)

pub returns : goal.returns
returns c =
    let s : Front = c.loop-lexer.lexer in
    let none : length s.ahead ≡ 0 = sym (ap length c.rest.ensures) ∙ eqb-true (length c.rest.result.now) 0 (sym c.loop-lexer-test.ensures) in
    rw c.position-2.ensures (ends_whole (map view_token c.loop-lexer.tokens.items) s (lexed c.args.text.now) none c.loop-lexer.invariant)
