use Rattle.std.proofs.Common.{◌≡◌, Some, ap, false, subst, sym, ◌∙◌}
use Rattle.std.specs.Prelude.{◌+◌, length}
use Rattle.std.specs.List.{slice_get}
use Rattle.std.proofs.lemmas.List.{length-append}
use Rattle.std.proofs.lemmas.Option.{slice_get-get_or}
use Rattle.juniper_merging.specs.Conflicts.{IsQuietEntry}
use Rattle.juniper_merging.specs.Nodes.{IsNode}
use Rattle.juniper_merging.specs.Questions.{seen}
use Rattle.juniper_merging.proofs.Quiet.{none-quiet, one-quiet}
use Rattle.juniper_merging.proofs.loud.loud_nodes.Goals as goal

pub loop-node-init : goal.loop-node-init
loop-node-init c t H nodes = (
  ap length c.in_ok-loud.ensures.items,
  none-quiet t c.args.vertices.now H c.in_ok-loud.loud.items c.in_ok-loud.ensures.items,
)

pub loop-node-preserved : goal.loop-node-preserved
loop-node-preserved c t H nodes =
    let vertices = c.args.vertices.now in
    let loud = c.loop-node.loud.items in
    let k = c.loop-node.node-index in
    let n = c.node-item.result in
    let r = c.loop-node.invariant t H nodes in
    let there : slice_get c.args.nodes.now k ≡ Some n = slice_get-get_or c.args.nodes.now k n c.loop-node-test.true ∙ ap Some (sym c.node-item.is) in (
      ap length c.in_ok-push.ensures.items ∙ (length-append loud _ ∙ ap (λ n. n + 1) r.0),
      one-quiet t vertices H loud c.push.new.self.items c.is_loud_node-is_loud.result n
          (subst (λ i. IsNode (seen t vertices) H n (H i)) (sym r.0) (nodes k n there)) c.in_ok-push.ensures.items
          (λ e. (
            λ i m. subst (λ l. IsQuietEntry vertices l i) c.deref.ensures.value (c.is_loud_node-is_loud.ensures.entries e i m),
            λ p m. subst (λ l. slice_get l p ≡ Some false) c.deref.ensures.value (c.is_loud_node-is_loud.ensures.parts e p m),
          )) r.1,
    )
