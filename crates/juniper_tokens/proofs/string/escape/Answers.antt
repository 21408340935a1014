use Rattle.std.proofs.Common.{◌+◌, subst}
use Rattle.std.specs.Str.{IsCharBoundary}
use Rattle.juniper_tokens.proofs.UnicodeEscapes.{behind_first, escape_boundary}
use Rattle.juniper_tokens.proofs.string.escape.Goals as goal

pub split_at-requires : goal.split_at-requires
split_at-requires c =
    let bytes = c.as_bytes.result.now in
    let found = c.in_ok-character-in-len1-up in
    subst (λ x. IsCharBoundary x (found.length + 1)) c.as_bytes.ensures.value
    (escape_boundary bytes _ found.length _ (behind_first bytes) c.as_bytes.ensures.utf8 c.in-len1-up.len_at_least c.if-first-ne92.false found.ensures.length
    found.ensures.value)
