use Rattle.juniper_tokens.proofs.UnicodeEscapes.{behind_first, nothing_read, letter_wrong, letter_named, code_wrong, code_named}
use Rattle.juniper_tokens.proofs.string.escaped_character.Goals as goal

pub returns-in-empty-clause-value : goal.returns-in-empty-clause-value
returns-in-empty-clause-value c = nothing_read c.args.text.now c.in-empty.len_below

pub returns-in_err-character-in-len1-up-clause-value : goal.returns-in_err-character-in-len1-up-clause-value
returns-in_err-character-in-len1-up-clause-value c =
    rw c.from_residual.ensures (code_wrong c.args.text.now _ (behind_first c.args.text.now) c.in-len1-up.len_at_least c.if-first-eq117.true
    c.in_err-character-in-len1-up.ensures.value)

pub returns-in_err-character-in-len1-up-2-clause-value : goal.returns-in_err-character-in-len1-up-2-clause-value
returns-in_err-character-in-len1-up-2-clause-value c =
    rw c.from_residual-in_err-character-in-len1-up-2.ensures (letter_wrong c.args.text.now c.in-len1-up.len_at_least c.if-first-eq117.false
    c.in_err-character-in-len1-up-2.ensures)

pub returns-in_ok-character-in-len1-up-clause-value : goal.returns-in_ok-character-in-len1-up-clause-value
returns-in_ok-character-in-len1-up-clause-value c =
    code_named c.args.text.now _ c.in_ok-character-in-len1-up.character
    (behind_first c.args.text.now) c.in-len1-up.len_at_least c.if-first-eq117.true c.in_ok-character-in-len1-up.ensures.value

pub returns-in_ok-character-in-len1-up-2-clause-value : goal.returns-in_ok-character-in-len1-up-2-clause-value
returns-in_ok-character-in-len1-up-2-clause-value c =
    letter_named c.args.text.now c.in_ok-character-in-len1-up-2.character c.in-len1-up.len_at_least c.if-first-eq117.false
    c.in_ok-character-in-len1-up-2.ensures
