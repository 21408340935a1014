use Rattle.std.proofs.Common.{◌≡◌, length, arith, subst, sym, ◌∙◌}
use Rattle.std.proofs.lemmas.List.{length-map}
use Rattle.juniper_type_rules.specs.Numbers.{IsFound, view_lists}
use Rattle.juniper_type_rules.proofs.Walking.{walk-ends, walk-first, walk-next, at-turn, past-turn}
use Rattle.juniper_type_rules.proofs.found.found_from.Goals as goal

pub loop-turn-init : goal.loop-turn-init
loop-turn-init c =
    let lists = view_lists c.args.lists.now in
    let many : length lists ≡ length c.args.lists.now = length-map c.args.lists.now (λ v. v.items) in
    let f = c.in_ok-found.found in
    let new = c.in_ok-found.ensures in
    let added = c.in_ok-add_all.ensures (length lists) (subst (λ n. IsFound n f.marks.items f.order.items) (sym many) new.found) in
    (added.0, walk-first lists c.args.starts.now f.order.items c.add_all.new.self.order.items new.none added.1)

pub loop-turn-preserved : goal.loop-turn-preserved
loop-turn-preserved c =
    let lists = view_lists c.args.lists.now in
    let order = c.loop-turn.found.order.items in
    let walk = c.loop-turn.invariant in
    let x = c.in-Some.number in
    let at = c.at.ensures in
    let followed = c.in_ok-follow-in-Some.ensures (length lists) walk.0 in
    let here = at-turn order c.loop-turn.turn x (sym at ∙ c.in-Some.is) in
    (followed.0, walk-next lists c.args.starts.now c.loop-turn.turn x order c.follow.new.self.order.items here.0 here.1 followed.1 walk.1)

pub returns-in-None : goal.returns-in-None
returns-in-None c =
    let lists = view_lists c.args.lists.now in
    let many : length lists ≡ length c.args.lists.now = length-map c.args.lists.now (λ v. v.items) in
    let f = c.loop-turn.found in
    let walk = c.loop-turn.invariant in
    walk-ends lists c.args.starts.now c.loop-turn.turn f.marks.items f.order.items walk.0
    (past-turn f.order.items c.loop-turn.turn (sym c.at.ensures ∙ c.in-None.is)) (omega (arith, many, c.loop-turn-test.true)) walk.1

pub returns : goal.returns
returns c =
    let lists = view_lists c.args.lists.now in
    let many : length lists ≡ length c.args.lists.now = length-map c.args.lists.now (λ v. v.items) in
    let f = c.loop-turn.found in
    let walk = c.loop-turn.invariant in
    let count = walk.0.count in
    walk-ends lists c.args.starts.now c.loop-turn.turn f.marks.items f.order.items walk.0
    (omega (arith, count, many, c.loop-turn-test.false)) (omega (arith, many, c.loop-turn.auto.turn-end)) walk.1
