use Rattle.std.proofs.Common.{[], ◌∙◌}
use Rattle.juniper_written.proofs.Lists.{flat-all, flat-seen}
use Rattle.juniper_type_rules.specs.UsesView.{numbered_of, view_used, view_all_numbered}
use Rattle.juniper_type_rules.proofs.reach.numbered_in.Goals as goal

pub returns : goal.returns
returns c =
    flat-all (λ u. numbered_of c.args.numbers.now (view_used u)) c.args.all.now [] c.loop-used.used-index (view_all_numbered c.loop-used.numbered.items)
    c.loop-used-test.false c.loop-used.invariant
    ∙ flat-seen view_used (numbered_of c.args.numbers.now) c.args.all.now
