use Rattle.std.proofs.Common.{refl, rules}
use Rattle.juniper_rules.proofs.report.report.Goals as goal

pub loop-is_violated-init : goal.loop-is_violated-init
loop-is_violated-init g c = (search rules, refl)
