use Rattle.std.proofs.Common.{◌≡◌, length}
use Rattle.graphql_spec.specs.Tokens.{characters}
use Rattle.juniper_tokens.specs.Strings.{closing}
use denote.Text.{Utf8}
use denote.Shadow.{shadow}
use Rattle.juniper_tokens.proofs.string.closing.Given as goal

abbrev pub invariant-loop-left : goal.invariant-loop-left
invariant-loop-left l = shadow (Utf8 l.left) × (closing characters l.left ≡ closing characters l.fn.text)

abbrev pub decreases-loop-left : goal.decreases-loop-left
decreases-loop-left l = length l.left
