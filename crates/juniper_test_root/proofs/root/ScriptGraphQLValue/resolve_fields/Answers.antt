use Rattle.std.proofs.Common.{ℕ, List, [], get_or}
use Rattle.std.proofs.lemmas.List.{get_or_default}
use Rattle.std.specs.Borrow.{Bor}
use Rattle.juniper_types.proofs.Batches.{answers-more, answers-whole}
use Rattle.juniper_test_root.specs.declared.script.Node.{Node}
use Rattle.juniper_test_root.proofs.root.ScriptGraphQLValue.resolve_fields.Goals as goal

pub loop-node-preserved : goal.loop-node-preserved
loop-node-preserved g c =
    let l = c.loop-node in
    let xs = c.args.nodes.now in
    let nothing : Bor (List ℕ) = record { ref_ptr = (0, 0); now = [] } in
    let none : Bor Node = record { ref_ptr = (0, 0); now = record { name = nothing; object_type = nothing } } in
    let x = get_or xs l.node-index none in
    answers-more g.S.ScalarValue.shown _ (λ n. n.now) xs l.node-index x l.made.items c.push.new.self.items _ c.loop-node-test.true
    (get_or_default xs l.node-index none x c.loop-node-test.true) c.in_ok-push.ensures.items c.resolve_field-answer.ensures l.invariant

pub returns : goal.returns
returns g c =
    answers-whole g.S.ScalarValue.shown _ (λ n. n.now) c.args.nodes.now c.loop-node.node-index c.loop-node.made.items c.loop-node-test.false
    c.loop-node.invariant
