use Rattle.std.proofs.Common.{◌≤◌, rules}
use Rattle.juniper_merging.proofs.Joint.{says-turned}
use Rattle.juniper_merging.proofs.conflicts.Conflicts.at.Goals as goal

pub returns-in_ok-clash : goal.returns-in_ok-clash
returns-in_ok-clash c vs H known =
    let a = c.args.a in
    let b = c.args.b in
    let less : a ≤ b = search rules in
    says-turned vs (H b) (H a) c.in_ok-clash.clash (c.in_ok-clash.ensures vs H known less)

pub returns-in_ok-clash-2 : goal.returns-in_ok-clash-2
returns-in_ok-clash-2 c vs H known =
    let a = c.args.a in
    let b = c.args.b in
    let less : b ≤ a = search rules in
    c.in_ok-clash-2.ensures vs H known less
