use Rattle.std.proofs.Common.{[], arith, ◌≤◌, length, ◌∙◌}
use Rattle.std.specs.Option.{option_to_list}
use Rattle.juniper_written.specs.WrittenView.{named}
use Rattle.juniper_written.proofs.Lists.{flat-all, flat-seen}
use Rattle.juniper_type_rules.specs.Numbers.{numbers_at}
use Rattle.juniper_type_rules.proofs.numbers.numbers_at.Goals as goal

pub returns : goal.returns
unfolding numbers_at
returns c =
    let ns = c.args.names.now in
    let m = c.args.numbers.now in
    let past : length ns.items ≤ c.loop-index.index = omega (arith, c.loop-index-test.false, c.len-index-end.ensures, ns.ok.0) in
    flat-all (λ n. option_to_list (named m n.now)) ns.items [] c.loop-index.index c.loop-index.all.items past c.loop-index.invariant
    ∙ flat-seen (λ n. n.now) (λ k. option_to_list (named m k)) ns.items
