use Rattle.std.proofs.Common.{ap, option_map}
use Rattle.graphql_spec.specs.Documents.{fragments}
use Rattle.juniper_syntax.specs.DocumentView.{view_definition}
use Rattle.juniper_written.specs.SpreadsView.{spread_by, spreads_at}
use Rattle.juniper_written.proofs.ByName.{spreads-split, spreads-none, first-init, first-next, first-all}
use Rattle.juniper_written.proofs.by_name.first_spreads.Goals as goal

pub loop-definition-init : goal.loop-definition-init
unfolding spread_by
loop-definition-init g c =
    first-init (λ ds k. spreads_at (fragments ds) k) spreads-split spreads-none (view_definition g.S.ScalarValue.shown) c.args.document.now
    (spread_by c.new-first.result)
    (λ k. ap (option_map _) (c.new-first.ensures k))

pub loop-definition-preserved : goal.loop-definition-preserved
loop-definition-preserved g c =
    first-next (λ ds k. spreads_at (fragments ds) k) spreads-split spreads-none (view_definition g.S.ScalarValue.shown) c.args.document.now
    (spread_by c.loop-definition.first) (spread_by c.put_spreads.new.spreads)
    c.loop-definition.definition-index c.definition-item.result c.loop-definition-test.true c.definition-item.is c.loop-definition.invariant
    c.in_ok-put_spreads.ensures

pub returns : goal.returns
returns g c =
    first-all (λ ds k. spreads_at (fragments ds) k) spreads-split spreads-none (view_definition g.S.ScalarValue.shown) c.args.document.now
    (spread_by c.loop-definition.first)
    c.loop-definition.definition-index c.loop-definition-test.false c.loop-definition.invariant
