use Rattle.std.proofs.Common.{◌≡◌, length}
use Rattle.std.specs.String.{string_bytes}
use Rattle.graphql_spec.specs.Tokens.{characters, before, decode_from, decoded_string}
use denote.Text.{Utf8}
use denote.Shadow.{shadow}
use Rattle.juniper_tokens.proofs.string.decode_string.Given as goal

abbrev pub invariant-loop-left : goal.invariant-loop-left
invariant-loop-left l = shadow (Utf8 l.left) × (before (string_bytes l.text) (decode_from characters l.left) ≡ decoded_string l.fn.raw)

abbrev pub decreases-loop-left : goal.decreases-loop-left
decreases-loop-left l = length l.left
