use Rattle.std.proofs.Common.{◌<◌, arith}
use Rattle.juniper_tokens.proofs.Escapes.{code_of}
use Rattle.juniper_tokens.proofs.UnicodeEscapes.{first_wrong, second_wrong, third_wrong, fourth_wrong, four_named, too_short}
use Rattle.juniper_tokens.proofs.string.unicode.Goals as goal

pub returns-in_err-first-in-len4-up-clause-value : goal.returns-in_err-first-in-len4-up-clause-value
returns-in_err-first-in-len4-up-clause-value c =
    rw c.from_residual.ensures (first_wrong c.args.digits.now c.in-len4-up.len_at_least c.in_err-first-in-len4-up.ensures.value)

pub returns-in_err-second-in-len4-up-clause-value : goal.returns-in_err-second-in-len4-up-clause-value
returns-in_err-second-in-len4-up-clause-value c =
    rw c.from_residual-in_err-second-in-len4-up.ensures
    (second_wrong c.args.digits.now c.in_ok-first-in-len4-up.first c.in-len4-up.len_at_least c.in_ok-first-in-len4-up.ensures.value
    c.in_err-second-in-len4-up.ensures.value)

pub returns-in_err-third-in-len4-up-clause-value : goal.returns-in_err-third-in-len4-up-clause-value
returns-in_err-third-in-len4-up-clause-value c =
    rw c.from_residual-in_err-third-in-len4-up.ensures
    (third_wrong c.args.digits.now c.in_ok-first-in-len4-up.first c.in_ok-second-in-len4-up.second c.in-len4-up.len_at_least
    c.in_ok-first-in-len4-up.ensures.value
    c.in_ok-second-in-len4-up.ensures.value c.in_err-third-in-len4-up.ensures.value)

pub returns-in_err-fourth-in-len4-up-clause-value : goal.returns-in_err-fourth-in-len4-up-clause-value
returns-in_err-fourth-in-len4-up-clause-value c =
    rw c.from_residual-in_err-fourth-in-len4-up.ensures
    (fourth_wrong c.args.digits.now c.in_ok-first-in-len4-up.first c.in_ok-second-in-len4-up.second c.in_ok-third-in-len4-up.third c.in-len4-up.len_at_least
    c.in_ok-first-in-len4-up.ensures.value c.in_ok-second-in-len4-up.ensures.value c.in_ok-third-in-len4-up.ensures.value
    c.in_err-fourth-in-len4-up.ensures.value)

pub returns-in_default-clause-value : goal.returns-in_default-clause-value
returns-in_default-clause-value c = too_short c.args.digits.now c.in_default.len_below

pub returns-in_ok-fourth-in-len4-up-clause-value : goal.returns-in_ok-fourth-in-len4-up-clause-value
returns-in_ok-fourth-in-len4-up-clause-value c =
    let w = c.in_ok-first-in-len4-up.first in
    let x = c.in_ok-second-in-len4-up.second in
    let y = c.in_ok-third-in-len4-up.third in
    let z = c.in_ok-fourth-in-len4-up.fourth in
    let small : code_of w x y z < 65536 =
    omega (
      arith,
      c.in_ok-first-in-len4-up.ensures.bound,
      c.in_ok-second-in-len4-up.ensures.bound,
      c.in_ok-third-in-len4-up.ensures.bound,
      c.in_ok-fourth-in-len4-up.ensures.bound,
    ) in
    four_named c.args.digits.now w x y z c.from_u32.result c.in-len4-up.len_at_least c.in_ok-first-in-len4-up.ensures.value
    c.in_ok-second-in-len4-up.ensures.value
    c.in_ok-third-in-len4-up.ensures.value c.in_ok-fourth-in-len4-up.ensures.value c.from_u32.ensures.value small
