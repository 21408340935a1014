use Rattle.std.proofs.Common.{refl}
use Rattle.juniper_merging.specs.declared.sets.Gathering.{Gathering}
use Rattle.juniper_merging.proofs.Gathered.{field-gathered}
use Rattle.juniper_merging.proofs.sets.Gathering.push.Goals as goal

pub returns : goal.returns
returns c t all =
    let old = c.args.self.now in
    let new : Gathering = record { fields = c.push.new.self; parts = old.parts } in
    field-gathered t old new all c.args.field refl c.in_ok-push.ensures.items
