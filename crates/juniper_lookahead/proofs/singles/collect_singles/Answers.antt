use Rattle.juniper_lookahead.proofs.ForType.{all-alone, all-single, for_type}
use Rattle.juniper_lookahead.proofs.Gathering.{start-within}
use Rattle.juniper_lookahead.proofs.singles.collect_singles.Goals as goal

pub add_singles-requires-clause-within : goal.add_singles-requires-clause-within
add_singles-requires-clause-within g c =
    let collector = c.args.collector.now in
    start-within (for_type g.S.ScalarValue.shown collector (g.P.Conditions.possible collector.possible) c.args.concrete.now) c.requires.acyclic _
    c.requires.made.counted _

pub returns-clause-fields : goal.returns-clause-fields
returns-clause-fields g c =
    let collector = c.args.collector.now in
    all-single g.S.ScalarValue.shown collector (g.P.Conditions.possible collector.possible) c.args.concrete.now c.new-fields.result.items
    c.add_singles.new.fields.items _ c.new-fields.ensures.items c.in_ok-add_singles.ensures.fields

pub returns-clause-alone : goal.returns-clause-alone
returns-clause-alone g c =
    let collector = c.args.collector.now in
    all-alone g.S.ScalarValue.shown collector (g.P.Conditions.possible collector.possible) c.args.concrete.now c.add_singles.new.fields.items
    c.in_ok-add_singles.ensures.alone
