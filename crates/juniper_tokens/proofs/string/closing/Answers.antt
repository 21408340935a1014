use Rattle.std.proofs.Common.{◌≡◌, ◌≢◌, length, true, false, is_some, sym, ◌∙◌}
use Rattle.std.proofs.lemmas.Bool.{eqb-false}
use Rattle.juniper_tokens.specs.Strings.{behind_quote}
use Rattle.juniper_tokens.specs.TokenViews.{view_part}
use Rattle.juniper_tokens.proofs.StringParts.{decodes_less, leaves_text}
use Rattle.juniper_tokens.proofs.StringTokens.{found_quote, closes_here, closes_later, closes_nowhere}
use Rattle.juniper_tokens.proofs.string.closing.Goals as goal

pub returns-then-is_some : goal.returns-then-is_some
returns-then-is_some c =
    let left = c.loop-left.left.now in
    let found : is_some (behind_quote left) ≡ true = found_quote left c.behind_quote.result true c.behind_quote.ensures c.if-is_some.ensures in
    sym c.loop-left.invariant.1 ∙ closes_here left found

pub returns-in_default : goal.returns-in_default
returns-in_default c =
    let left = c.loop-left.left.now in
    let some : length left ≢ 0 = eqb-false (length left) 0 (sym c.loop-left-test.ensures) in
    let none : is_some (behind_quote left) ≡ false = found_quote left c.behind_quote.result false c.behind_quote.ensures c.if-is_some.ensures in
    sym c.loop-left.invariant.1 ∙ closes_nowhere left some none c.in_default.ensures

pub loop-left-smaller : goal.loop-left-smaller
loop-left-smaller c = decodes_less c.loop-left.left.now (view_part c.in-Some.field-0-0, c.in-Some.behind.now) c.in-Some.ensures

pub loop-left-preserved : goal.loop-left-preserved
loop-left-preserved c =
    let left = c.loop-left.left.now in
    let some : length left ≢ 0 = eqb-false (length left) 0 (sym c.loop-left-test.ensures) in
    let none : is_some (behind_quote left) ≡ false = found_quote left c.behind_quote.result false c.behind_quote.ensures c.if-is_some.ensures in (
      leaves_text left (view_part c.in-Some.field-0-0, c.in-Some.behind.now) c.in-Some.ensures c.loop-left.invariant.0,
      closes_later left (view_part c.in-Some.field-0-0, c.in-Some.behind.now) some none c.in-Some.ensures ∙ c.loop-left.invariant.1,
    )
