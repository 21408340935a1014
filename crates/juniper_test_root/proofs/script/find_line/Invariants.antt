use Rattle.std.proofs.Common.{◌≡◌, drop}
use Rattle.juniper_test_root.specs.Scripts.{find_line}
use Rattle.juniper_test_root.proofs.script.find_line.Given as goal

-- what is left decides
abbrev pub invariant-loop-line : goal.invariant-loop-line
invariant-loop-line l = find_line l.owner l.field l.lines ≡ find_line l.owner l.field (drop l.line-index l.lines)
