use Rattle.std.proofs.Common.{[], ◌∙◌}
use Rattle.juniper_written.proofs.Lists.{flat-all, flat-seen}
use Rattle.juniper_written.specs.WrittenView.{view_names}
use Rattle.juniper_type_rules.specs.UsesView.{named_in, view_used}
use Rattle.juniper_type_rules.proofs.reach.fragment_names.Goals as goal

pub returns : goal.returns
returns c =
    flat-all (λ u. named_in (view_used u)) c.args.all.now [] c.loop-used.used-index (view_names c.loop-used.names.items) c.loop-used-test.false
    c.loop-used.invariant
    ∙ flat-seen view_used named_in c.args.all.now
