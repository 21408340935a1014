use Rattle.std.proofs.Common.{◌≡◌, true, get_or, refl, ap, sym, ◌∙◌, subst}
use Rattle.std.specs.List.{prefix_len}
use Rattle.std.specs.Str.{IsUtf8}
use Rattle.graphql_spec.specs.Tokens.{is_mark, starts_name, continues_name}
use Rattle.juniper_tokens.proofs.Shorts.{mark_boundary, mark_plain_front, mark_read, some_name, name_boundary, name_plain_front, name_read}
use Rattle.juniper_tokens.proofs.lexer.Lexer.short_token.Goals as goal

pub take_plain-taken-requires-clause-boundary : goal.take_plain-taken-requires-clause-boundary
take_plain-taken-requires-clause-boundary c =
    let same : c.as_bytes-bytes.result.now ≡ c.args.self.now.ahead = c.as_bytes-bytes.ensures.value ∙ c.rest.ensures in
    let text : IsUtf8 c.args.self.now.ahead = subst (λ x. IsUtf8 x) same c.as_bytes-bytes.ensures.utf8 in
    let is : is_mark (get_or c.args.self.now.ahead 0 0) ≡ true = sym (ap (λ bs. is_mark (get_or bs 0 0)) same) ∙ sym c.is_mark.ensures ∙ c.if-is_mark.true in
    mark_boundary c.args.self.now.ahead is text

pub take_plain-taken-requires-clause-plain : goal.take_plain-taken-requires-clause-plain
take_plain-taken-requires-clause-plain c =
    let same : c.as_bytes-bytes.result.now ≡ c.args.self.now.ahead = c.as_bytes-bytes.ensures.value ∙ c.rest.ensures in
    let is : is_mark (get_or c.args.self.now.ahead 0 0) ≡ true = sym (ap (λ bs. is_mark (get_or bs 0 0)) same) ∙ sym c.is_mark.ensures ∙ c.if-is_mark.true in
    mark_plain_front c.args.self.now.ahead is

pub take_plain-taken-requires-then-starts_name-clause-boundary : goal.take_plain-taken-requires-then-starts_name-clause-boundary
take_plain-taken-requires-then-starts_name-clause-boundary c =
    let same : c.as_bytes-bytes.result.now ≡ c.args.self.now.ahead = c.as_bytes-bytes.ensures.value ∙ c.rest.ensures in
    let text : IsUtf8 c.args.self.now.ahead = subst (λ x. IsUtf8 x) same c.as_bytes-bytes.ensures.utf8 in
    rw (c.name_len.ensures, same) (name_boundary c.args.self.now.ahead text)

pub take_plain-taken-requires-then-starts_name-clause-some : goal.take_plain-taken-requires-then-starts_name-clause-some
take_plain-taken-requires-then-starts_name-clause-some c =
    rw (c.name_len.ensures) (some_name c.as_bytes-bytes.result.now (sym c.starts_name.ensures ∙ c.if-starts_name.true))

pub take_plain-taken-requires-then-starts_name-clause-plain : goal.take_plain-taken-requires-then-starts_name-clause-plain
take_plain-taken-requires-then-starts_name-clause-plain c =
    let same : c.as_bytes-bytes.result.now ≡ c.args.self.now.ahead = c.as_bytes-bytes.ensures.value ∙ c.rest.ensures in
    rw (c.name_len.ensures, same) (name_plain_front c.args.self.now.ahead)

pub returns-then-is_mark : goal.returns-then-is_mark
returns-then-is_mark c =
    let same : c.as_bytes-bytes.result.now ≡ c.args.self.now.ahead = c.as_bytes-bytes.ensures.value ∙ c.rest.ensures in
    let is : is_mark (get_or c.args.self.now.ahead 0 0) ≡ true = sym (ap (λ bs. is_mark (get_or bs 0 0)) same) ∙ sym c.is_mark.ensures ∙ c.if-is_mark.true in
    mark_read c.args.self.now c.take_plain-taken.new.self _ is
    (rw (c.take_plain-taken.ensures.place, same) refl) c.take_plain-taken.ensures.moved

pub returns-then-starts_name : goal.returns-then-starts_name
returns-then-starts_name c =
    let same : c.as_bytes-bytes.result.now ≡ c.args.self.now.ahead = c.as_bytes-bytes.ensures.value ∙ c.rest.ensures in
    let is : starts_name (get_or c.args.self.now.ahead 0 0) ≡ true =
    sym (ap (λ bs. starts_name (get_or bs 0 0)) same) ∙ sym c.starts_name.ensures ∙ c.if-starts_name.true in
    let count : c.name_len.result ≡ prefix_len continues_name c.args.self.now.ahead = c.name_len.ensures ∙ ap (prefix_len continues_name) same in
    name_read c.args.self.now c.take_plain-taken-then-starts_name.new.self _ c.name_len.result is count
    (rw (c.take_plain-taken-then-starts_name.ensures.place, c.take_plain-taken-then-starts_name.ensures.word) refl)
    c.take_plain-taken-then-starts_name.ensures.moved
