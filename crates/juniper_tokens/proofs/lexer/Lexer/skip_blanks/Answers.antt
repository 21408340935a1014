use Rattle.std.proofs.Common.{◌≡◌, ◌<◌, get_or, ap, sym, ◌∙◌, subst}
use Rattle.std.specs.List.{prefix_len}
use Rattle.std.specs.Str.{IsUtf8}
use Rattle.juniper_tokens.specs.Spots.{is_space}
use Rattle.juniper_tokens.proofs.Shorts.{line_boundary, line_skipped, some_spaces, spaces_boundary, spaces_plain, spaces_skipped}
use Rattle.juniper_tokens.proofs.lexer.Lexer.skip_blanks.Goals as goal

pub take_plain-requires-clause-boundary : goal.take_plain-requires-clause-boundary
take_plain-requires-clause-boundary c =
    let same : c.as_bytes-bytes.result.now ≡ c.args.self.now.ahead = c.as_bytes-bytes.ensures.value ∙ c.rest.ensures in
    let text : IsUtf8 c.args.self.now.ahead = subst (λ x. IsUtf8 x) same c.as_bytes-bytes.ensures.utf8 in
    rw (c.spaces_len.ensures, same) (spaces_boundary c.args.self.now.ahead text)

pub take_plain-requires-clause-plain : goal.take_plain-requires-clause-plain
take_plain-requires-clause-plain c =
    let same : c.as_bytes-bytes.result.now ≡ c.args.self.now.ahead = c.as_bytes-bytes.ensures.value ∙ c.rest.ensures in
    rw (c.spaces_len.ensures, same) (spaces_plain c.args.self.now.ahead)

pub take-requires : goal.take-requires
take-requires c =
    let same : c.as_bytes-bytes.result.now ≡ c.args.self.now.ahead = c.as_bytes-bytes.ensures.value ∙ c.rest.ensures in
    let text : IsUtf8 c.args.self.now.ahead = subst (λ x. IsUtf8 x) same c.as_bytes-bytes.ensures.utf8 in
    let line : get_or c.args.self.now.ahead 0 0 ≡ 10 = sym (ap (λ bs. get_or bs 0 0) same) ∙ c.if-first-eq10.true in
    line_boundary c.args.self.now.ahead line text

pub returns-then-is_space-clause-some : goal.returns-then-is_space-clause-some
returns-then-is_space-clause-some c = λ _.
    let same : c.as_bytes-bytes.result.now ≡ c.args.self.now.ahead = c.as_bytes-bytes.ensures.value ∙ c.rest.ensures in
    let count : c.spaces_len.result ≡ prefix_len is_space c.args.self.now.ahead = c.spaces_len.ensures ∙ ap (prefix_len is_space) same in
    let some : 0 < c.spaces_len.result = rw (c.spaces_len.ensures) (some_spaces c.as_bytes-bytes.result.now (sym c.is_space.ensures ∙ c.if-is_space.true)) in
    spaces_skipped c.args.self.now c.take_plain.new.self c.spaces_len.result count some c.take_plain.ensures.moved

pub returns-then-first-eq10-clause-some : goal.returns-then-first-eq10-clause-some
returns-then-first-eq10-clause-some c = λ _.
    let same : c.as_bytes-bytes.result.now ≡ c.args.self.now.ahead = c.as_bytes-bytes.ensures.value ∙ c.rest.ensures in
    let line : get_or c.args.self.now.ahead 0 0 ≡ 10 = sym (ap (λ bs. get_or bs 0 0) same) ∙ c.if-first-eq10.true in
    line_skipped c.args.self.now c.take.new.self line c.take.ensures.moved
