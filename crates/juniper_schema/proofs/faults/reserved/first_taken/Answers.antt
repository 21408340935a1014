use Rattle.std.proofs.Common.{true, false, map, sym, ap, ◌∙◌}
use Rattle.juniper_schema.specs.Searching.{first_taken}
use Rattle.juniper_schema.proofs.Counting.{none_taken, taken_turn}
use Rattle.juniper_schema.proofs.faults.reserved.first_taken.Goals as goal

pub returns-then-is_taken : goal.returns-then-is_taken
returns-then-is_taken c =
    let xs = c.deref-name-items.result.now in let ns = map (λ n. n.now) c.args.names.now.items in
    sym (taken_turn ns xs c.loop-name.name-index _ c.loop-name-test.true true (sym c.if-is_taken.true ∙ c.is_taken.ensures))
    ∙ (c.loop-name.invariant ∙ ap (λ l. first_taken ns (map (λ n. n.now) l)) c.deref-name-items.ensures.value)

pub loop-name-preserved : goal.loop-name-preserved
loop-name-preserved c =
    let xs = c.deref-name-items.result.now in let ns = map (λ n. n.now) c.args.names.now.items in
    sym (taken_turn ns xs c.loop-name.name-index _ c.loop-name-test.true false (sym c.if-is_taken.false ∙ c.is_taken.ensures)) ∙ c.loop-name.invariant

pub returns : goal.returns
returns c =
    let xs = c.deref-name-items.result.now in let ns = map (λ n. n.now) c.args.names.now.items in
    sym (none_taken ns xs c.loop-name.name-index c.loop-name-test.false)
    ∙ (c.loop-name.invariant ∙ ap (λ l. first_taken ns (map (λ n. n.now) l)) c.deref-name-items.ensures.value)
