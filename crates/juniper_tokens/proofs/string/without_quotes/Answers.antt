use Rattle.std.proofs.Common.{Some, None, ◌∙◌, arith}
use Rattle.std.proofs.lemmas.Str.Pattern.{strip_suffix_char}
use Rattle.juniper_tokens.proofs.StringTokens.{quotes_none, quotes_some, last_is}
use Rattle.juniper_tokens.proofs.string.without_quotes.Goals as goal

pub returns-in-None : goal.returns-in-None
returns-in-None c = quotes_none c.args.word.now c.in-None.ensures

pub returns-in-None-strip_suffix : goal.returns-in-None-strip_suffix
returns-in-None-strip_suffix c =
    let left = c.in-Some.left.now in
    last_is left None (strip_suffix_char 34 left None c.in-None-strip_suffix.ensures.cases (omega arith)) ∙ quotes_some c.args.word.now left c.in-Some.ensures

pub returns-in-Some-strip_suffix : goal.returns-in-Some-strip_suffix
returns-in-Some-strip_suffix c =
    let left = c.in-Some.left.now in
    let raw = Some c.in-Some-strip_suffix.raw in
    last_is left raw (strip_suffix_char 34 left raw c.in-Some-strip_suffix.ensures.cases (omega arith)) ∙ quotes_some c.args.word.now left c.in-Some.ensures
