use Rattle.std.proofs.Common.{refl}
use Rattle.juniper_merging.specs.declared.sets.Gathering.{Gathering}
use Rattle.juniper_merging.proofs.Gathered.{set-gathered}
use Rattle.juniper_merging.proofs.sets.Gathering.put.Goals as goal

pub returns : goal.returns
returns c t all =
    let old = c.args.self.now in
    let new : Gathering = record { fields = old.fields; parts = c.push.new.self } in
    set-gathered t old new all c.args.set refl c.in_ok-push.ensures.items
