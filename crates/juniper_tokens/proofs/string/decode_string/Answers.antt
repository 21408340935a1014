use Rattle.std.proofs.Common.{◌≢◌, length, sym}
use Rattle.std.specs.String.{string_bytes}
use Rattle.std.proofs.lemmas.Bool.{eqb-false}
use Rattle.graphql_spec.specs.Tokens.{decoded_string}
use Rattle.juniper_tokens.specs.TokenViews.{view_part}
use Rattle.juniper_tokens.proofs.StringParts.{decodes_less, decodes_on, leaves_text}
use Rattle.juniper_tokens.proofs.string.decode_string.Goals as goal

pub loop-left-preserved : goal.loop-left-preserved
loop-left-preserved c =
    let left = c.loop-left.left.now in
    let some : length left ≢ 0 = eqb-false (length left) 0 (sym c.loop-left-test.ensures) in (
      leaves_text left (view_part c.in-Some.found, c.in-Some.behind.now) c.in-Some.ensures c.loop-left.invariant.0,
      decodes_on (string_bytes c.loop-left.text) (string_bytes c.push_part.new.text) left (view_part c.in-Some.found, c.in-Some.behind.now)
          (decoded_string c.args.raw.now) some c.in-Some.ensures
          c.in_ok-push_part.ensures c.loop-left.invariant.1,
    )

pub loop-left-smaller : goal.loop-left-smaller
loop-left-smaller c = decodes_less c.loop-left.left.now (view_part c.in-Some.found, c.in-Some.behind.now) c.in-Some.ensures
