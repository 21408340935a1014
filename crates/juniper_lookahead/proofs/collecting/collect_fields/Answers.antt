use Rattle.juniper_lookahead.proofs.ForType.{all-collected, for_type}
use Rattle.juniper_lookahead.proofs.Gathering.{start-within}
use Rattle.juniper_lookahead.proofs.collecting.collect_fields.Goals as goal

pub add_fields-requires-clause-within : goal.add_fields-requires-clause-within
add_fields-requires-clause-within g c =
    let collector = c.args.collector.now in
    start-within (for_type g.S.ScalarValue.shown collector (g.P.Conditions.possible collector.possible) c.args.concrete.now) c.requires.acyclic _
    c.requires.made.counted _

pub returns : goal.returns
returns g c =
    let collector = c.args.collector.now in
    all-collected g.S.ScalarValue.shown collector (g.P.Conditions.possible collector.possible) c.args.concrete.now c.in_ok-fields.fields.items
    c.add_fields.new.fields.items _ c.in_ok-fields.ensures.items c.in_ok-add_fields.ensures
