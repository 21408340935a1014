use Rattle.std.proofs.Common.{◌≡◌, ◌-◌, ◌≤◌, List, ℕ, ◌++◌, take, drop}
use Rattle.std.specs.Fmt.{HasWritten, IsPlainFormatter}
use Rattle.std.specs.List.{flat_map}
use Rattle.std.specs.Str.{IsCharBoundary}
use Rattle.graphql_spec.specs.Display.{written_byte}
use Rattle.juniper_syntax.proofs.display.write_escaped.Given as goal

-- what is written, the run since the last escape, and what is left are all
abbrev pub invariant-loop-at : goal.invariant-loop-at
invariant-loop-at g l =
    (l.start ≤ l.at) × IsCharBoundary l.fn.text l.start × (done : List ℕ)
    × (done ++ (take (l.at - l.start) (drop l.start l.fn.text) ++ flat_map written_byte (drop l.at l.fn.text)) ≡ flat_map written_byte l.fn.text)
    × (IsPlainFormatter l.initial.f → HasWritten g.W.Write.write_str_gives l.initial.f done l.f)
