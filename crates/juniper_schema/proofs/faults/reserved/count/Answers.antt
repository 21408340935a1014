use Rattle.std.proofs.Common.{true, false, map, arith, sym, ap, ◌∙◌}
use Rattle.juniper_schema.specs.Searching.{times_listed}
use Rattle.juniper_schema.proofs.Counting.{counted, counted_all}
use Rattle.juniper_schema.proofs.faults.reserved.count.Goals as goal
use Rattle.juniper_schema.proofs.faults.reserved.count.Goals.{then-eq, else-eq}

pub loop-own-preserved : goal.loop-own-preserved
loop-own-preserved c =
    elim c.if-eq.branch [
      | then-eq w ↦
          let turn = counted c.args.name.now c.deref-own-items.result.now c.loop-own.own-index _ c.loop-own-test.true true (sym w.if-eq.true ∙ c.eq.ensures) in
          (omega (arith, w.found-is, c.loop-own.invariant.0), omega (arith, w.found-is, turn, c.loop-own.invariant.1))
      | else-eq w ↦
          let turn = counted c.args.name.now c.deref-own-items.result.now c.loop-own.own-index _ c.loop-own-test.true false (sym w.if-eq.false
          ∙ c.eq.ensures) in
          (omega (arith, w.found-is, c.loop-own.invariant.0), omega (arith, w.found-is, turn, c.loop-own.invariant.1))
    ]

pub returns : goal.returns
returns c =
    let none = counted_all c.args.name.now c.deref-own-items.result.now c.loop-own.own-index c.loop-own-test.false in
    omega (arith, none, c.loop-own.invariant.1, ap (λ ns. times_listed c.args.name.now (map (λ n. n.now) ns)) c.deref-own-items.ensures.value)
