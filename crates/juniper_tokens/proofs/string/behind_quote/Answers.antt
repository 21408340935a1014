use Rattle.std.proofs.Common.{arith}
use Rattle.std.proofs.lemmas.Str.Pattern.{strip_prefix_char}
use Rattle.juniper_tokens.proofs.StringTokens.{behind_is}
use Rattle.juniper_tokens.proofs.string.behind_quote.Goals as goal

pub returns : goal.returns
returns c =
    behind_is c.args.text.now c.strip_prefix.result (strip_prefix_char 34 c.args.text.now c.strip_prefix.result c.strip_prefix.ensures.cases (omega arith))
