use Rattle.std.proofs.Common.{◌≡◌, ◌<◌, [], length, get_or, arith, ap, sym, ◌∙◌}
use Rattle.std.proofs.lemmas.List.{get_or-map, length-map}
use Rattle.juniper_written.specs.WrittenView.{view_names}
use Rattle.juniper_type_rules.proofs.Numbering.{all-numbered, next-numbered, none-numbered}
use Rattle.juniper_type_rules.proofs.numbers.numbers_of.Goals as goal

pub loop-number-init : goal.loop-number-init
loop-number-init c = none-numbered c.new-numbers.result (view_names c.args.names.now.items) c.new-numbers.ensures

pub loop-number-preserved : goal.loop-number-preserved
loop-number-preserved c =
    let ns = c.args.names.now in
    let i = c.loop-number.number in
    let many : length (view_names ns.items) ≡ length ns.items = length-map ns.items (λ n. n.now) in
    let within : i < length ns.items = omega (arith, c.loop-number-test.true, c.len-number-end.ensures, ns.ok.0) in
    let below : i < length (view_names ns.items) = omega (arith, within, many) in
    let is : get_or (view_names ns.items) i [] ≡ c.index.result.now.now =
    get_or-map (λ n. n.now) ns.items i c.index.result.now [] within ∙ ap (λ n. n.now) (sym c.index.ensures) in
    next-numbered c.loop-number.numbers c.put_first.new.self (view_names ns.items) i c.index.result.now.now below is c.in_ok-put_first.ensures
    c.loop-number.invariant

pub returns : goal.returns
returns c =
    let ns = c.args.names.now in
    let many = length-map ns.items (λ n. n.now) in
    all-numbered c.loop-number.numbers (view_names ns.items) c.loop-number.number
    (omega (arith, many, c.loop-number-test.false, c.len-number-end.ensures, ns.ok.0)) c.loop-number.invariant
