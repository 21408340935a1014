use Rattle.std.proofs.Common.{ap, option_map}
use Rattle.graphql_spec.specs.Documents.{fragments}
use Rattle.graphql_spec.specs.Fragments.{fragment_of}
use Rattle.juniper_syntax.specs.DocumentView.{view_definition}
use Rattle.juniper_written.specs.SpreadsView.{fragment_at}
use Rattle.juniper_written.proofs.ByName.{fragment-splits, fragment-none, first-init, first-next, first-all}
use Rattle.juniper_written.proofs.by_name.first_fragments.Goals as goal

pub loop-definition-init : goal.loop-definition-init
unfolding fragment_at
loop-definition-init g c =
    first-init (λ ds k. fragment_of (fragments ds) k) fragment-splits fragment-none (view_definition g.S.ScalarValue.shown) c.args.document.now
    (fragment_at g.S.ScalarValue.shown c.new-first.result)
    (λ k. ap (option_map _) (c.new-first.ensures k))

pub loop-definition-preserved : goal.loop-definition-preserved
loop-definition-preserved g c =
    let shown = g.S.ScalarValue.shown in
    first-next (λ ds k. fragment_of (fragments ds) k) fragment-splits fragment-none (view_definition shown) c.args.document.now
    (fragment_at shown c.loop-definition.first) (fragment_at shown c.put_fragment.new.first)
    c.loop-definition.definition-index c.definition-item.result c.loop-definition-test.true c.definition-item.is c.loop-definition.invariant
    c.in_ok-put_fragment.ensures

pub returns : goal.returns
returns g c =
    first-all (λ ds k. fragment_of (fragments ds) k) fragment-splits fragment-none (view_definition g.S.ScalarValue.shown) c.args.document.now
    (fragment_at g.S.ScalarValue.shown c.loop-definition.first)
    c.loop-definition.definition-index c.loop-definition-test.false c.loop-definition.invariant
