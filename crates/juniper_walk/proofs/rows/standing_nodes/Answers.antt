use Rattle.std.proofs.Common.{◌∙◌, ◌+◌, ◌++◌, drop, is_some, map, refl, sym, ap}
use Rattle.juniper_assemble.specs.SpotView.{view_nodes}
use Rattle.juniper_walk.specs.Lists.{picked}
use Rattle.juniper_walk.proofs.Columns.{item-at, node-found, node-skipped, nodes-whole}
use Rattle.juniper_walk.proofs.rows.standing_nodes.Goals as goal
use Rattle.juniper_walk.proofs.rows.standing_nodes.Goals.{then-is_some+in_ok-push, else-is_some}

pub loop-number-preserved : goal.loop-number-preserved
loop-number-preserved g c =
    let i = c.loop-number.number in
    let xs = c.args.spots.now in
    let rows = c.args.rows.now in
    let below = c.loop-number-test.true in
    let rest = map (λ x. x.what) (picked (map (λ r. is_some r.object) (drop (i + 1) rows)) (view_nodes (drop (i + 1) xs))) in
    elim c.if-is_some.branch [
      | then-is_some+in_ok-push w ↦ ap (λ v. map (λ n. n.now) v.items ++ rest) w.nodes-is
          ∙ node-found xs rows i w.index-spots-number.result c.index-rows-number.result below c.requires w.index-spots-number.is c.index-rows-number.is
          c.loop-number.nodes.items _ _ _
          (ap (λ q. is_some q.object) c.index-rows-number.is ∙ (sym c.is_some.ensures ∙ w.if-is_some.true)) w.in_ok-push.ensures.items refl c.loop-number.invariant
      | else-is_some w ↦
          let x = item-at xs i below in
          ap (λ v. map (λ n. n.now) v.items ++ rest) w.nodes-is
          ∙ node-skipped xs rows i x.0 c.index-rows-number.result below c.requires x.1 c.index-rows-number.is
          c.loop-number.nodes.items _ (ap (λ q. is_some q.object) c.index-rows-number.is ∙ (sym c.is_some.ensures ∙ w.if-is_some.false)) c.loop-number.invariant
    ]

pub returns : goal.returns
returns g c =
    nodes-whole c.args.spots.now c.args.rows.now c.loop-number.number c.loop-number.nodes.items _ c.loop-number-test.false c.requires c.loop-number.invariant
