use Rattle.std.proofs.Common.{◌++◌, ◌∷◌, ◌<◌, ◌≤◌, [], length, arith, ap, map, ◌∙◌}
use Rattle.juniper_syntax.proofs.Lists.{seen-push}
use Rattle.juniper_written.proofs.Lists.{seen-all, seen-next, seen-twice}
use Rattle.juniper_type_rules.specs.Numbers.{spread_numbers_of, view_lists}
use Rattle.juniper_type_rules.proofs.numbers.spread_numbers.Goals as goal

pub loop-index-init : goal.loop-index-init
loop-index-init c = λ fs are.
    ap (λ l. view_lists l ++ map (λ n. spread_numbers_of c.args.numbers.now fs n.now) c.args.names.now.items) c.new-lists.ensures.items

pub loop-index-preserved : goal.loop-index-preserved
loop-index-preserved c = λ fs are.
    let ns = c.args.names.now in
    let l = c.loop-index in
    let below : l.index < length ns.items = omega (arith, c.loop-index-test.true, c.len-index-end.ensures, ns.ok.0) in
    seen-next (λ n. spread_numbers_of c.args.numbers.now fs n.now) ns.items [] l.index c.index.result.now
    (view_lists l.lists.items) (view_lists c.push.new.self.items) below c.index.ensures (l.invariant fs are)
    (seen-push (λ v. v.items) l.lists.items c.push.new.self.items c.in_ok-list.list c.in_ok-push.ensures.items
    ∙ ap (λ k. view_lists l.lists.items ++ k ∷ []) (c.in_ok-list.ensures fs are))

pub returns : goal.returns
returns c = λ fs are.
    let ns = c.args.names.now in
    let past : length ns.items ≤ c.loop-index.index = omega (arith, c.loop-index-test.false, c.len-index-end.ensures, ns.ok.0) in
    seen-all (λ n. spread_numbers_of c.args.numbers.now fs n.now) ns.items [] c.loop-index.index (view_lists c.loop-index.lists.items) past
    (c.loop-index.invariant fs are)
    ∙ seen-twice (λ n. n.now) (spread_numbers_of c.args.numbers.now fs) ns.items
