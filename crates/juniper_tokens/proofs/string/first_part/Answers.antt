use Rattle.std.proofs.Common.{◌≡◌, Some, ap, ap₂, sym, ◌∙◌, subst}
use Rattle.std.specs.List.{prefix_len}
use Rattle.std.specs.Str.{IsCharBoundary}
use Rattle.juniper_tokens.specs.Strings.{is_plain}
use Rattle.juniper_tokens.proofs.StringParts.{plain_boundary, plain_first, escape_first}
use Rattle.juniper_tokens.proofs.string.first_part.Goals as goal

pub split_at-requires : goal.split_at-requires
split_at-requires c =
    let text = c.args.text.now in
    let count : c.plain_len-plain.result ≡ prefix_len is_plain text = c.plain_len-plain.ensures.run ∙ ap (prefix_len is_plain) c.as_bytes.ensures.value in
    subst (λ n. IsCharBoundary text n) (sym count) (plain_boundary text)

pub returns-then-plain-gt0 : goal.returns-then-plain-gt0
returns-then-plain-gt0 c =
    let text = c.args.text.now in
    let count : c.plain_len-plain.result ≡ prefix_len is_plain text = c.plain_len-plain.ensures.run ∙ ap (prefix_len is_plain) c.as_bytes.ensures.value in
    ap₂ (λ x y. Some (x, y)) c.split_at.ensures.front c.split_at.ensures.back ∙ plain_first text c.plain_len-plain.result count c.if-plain-gt0.true

pub returns-in_err-character : goal.returns-in_err-character
returns-in_err-character c =
    let text = c.args.text.now in
    let count : c.plain_len-plain.result ≡ prefix_len is_plain text = c.plain_len-plain.ensures.run ∙ ap (prefix_len is_plain) c.as_bytes.ensures.value in
    rw c.from_residual.ensures (c.in_err-character.ensures ∙ escape_first text c.plain_len-plain.result count c.if-plain-gt0.false)

pub returns : goal.returns
returns c =
    let text = c.args.text.now in
    let count : c.plain_len-plain.result ≡ prefix_len is_plain text = c.plain_len-plain.ensures.run ∙ ap (prefix_len is_plain) c.as_bytes.ensures.value in
    c.in_ok-character.ensures ∙ escape_first text c.plain_len-plain.result count c.if-plain-gt0.false
