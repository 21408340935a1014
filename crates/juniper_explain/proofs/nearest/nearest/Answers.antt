use Rattle.std.proofs.Common.{ap, arith, drop, length, sym, ◌+◌, ◌<◌, ◌≤◌, ◌∙◌}
use Rattle.std.proofs.lemmas.List.{drop_all}
use Rattle.juniper_syntax.proofs.Lists.{seen-left-is}
use Rattle.juniper_written.specs.WrittenView.{view_names}
use Rattle.juniper_explain.specs.NearView.{chosen}
use Rattle.juniper_explain.specs.Nearest.{nearest}
use Rattle.juniper_explain.proofs.Nearing.{first-near}
use Rattle.juniper_explain.proofs.nearest.nearest.Goals as goal

pub loop-index-init : goal.loop-index-init
loop-index-init c = first-near c.args.name.now c.args.bound (view_names c.args.names.now.items)

pub loop-index-preserved : goal.loop-index-preserved
loop-index-preserved c =
    let xs = c.args.names.now.items in
    let i = c.loop-index.index in
    let below : i < length xs = omega (arith, c.loop-index-test.true, c.len-index-end.ensures, c.args.names.now.ok.0) in
    c.nearer-near.ensures c.args.name.now (view_names (drop (i + 1) xs)) c.in_ok-edits.ensures.value
    ∙ (ap (chosen c.loop-index.near c.args.name.now) (sym (seen-left-is (λ n. n.now) xs i c.index-other.result.now below c.index-other.ensures))
    ∙ c.loop-index.invariant)

pub returns : goal.returns
unfolding nearest
returns c =
    let xs = c.args.names.now.items in
    let past : length xs ≤ c.loop-index.index = omega (arith, c.loop-index-test.false, c.len-index-end.ensures, c.args.names.now.ok.0) in
    ap (λ l. chosen c.loop-index.near c.args.name.now (view_names l)) (sym (drop_all c.loop-index.index xs past)) ∙ c.loop-index.invariant
