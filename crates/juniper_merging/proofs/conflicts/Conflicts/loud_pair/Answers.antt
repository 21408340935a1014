use Rattle.std.proofs.Common.{◌≡◌, [], nat_eq, true, false, ap, sym, ◌∙◌, rules}
use Rattle.juniper_merging.specs.Conflicts.{over}
use Rattle.juniper_merging.specs.MergingGraph.{can_meet, view_vertex}
use Rattle.juniper_merging.proofs.Beside.{by-over, keys-differ, shapes-differ}
use Rattle.juniper_merging.proofs.Vertices.{same-meet}
use Rattle.juniper_merging.proofs.conflicts.Conflicts.loud_pair.Goals as goal

pub returns-then-x-y : goal.returns-then-x-y
unfolding view_vertex
returns-then-x-y c vs t H F G known one other p q =
    let differ : nat_eq c.args.x.now.key c.args.y.now.key ≡ false = search rules in
    keys-differ vs H F G c.args.first.now c.args.second.now one other ((λ k. nat_eq (p k).key (q k).key) ∙ differ)

pub returns-then-x-y-2 : goal.returns-then-x-y-2
unfolding view_vertex
returns-then-x-y-2 c vs t H F G known one other p q =
    let same : nat_eq c.args.x.now.key c.args.y.now.key ≡ true = search rules in
    let unlike : nat_eq c.args.x.now.shape c.args.y.now.shape ≡ false = search rules in
    shapes-differ vs H F G c.args.first.now c.args.second.now one other ((λ k. nat_eq (p k).key (q k).key) ∙ same)
    ((λ k. nat_eq (p k).shape (q k).shape) ∙ unlike)

pub returns : goal.returns
unfolding view_vertex
returns c vs t H F G known one other p q =
    let x = c.args.x.now in
    let y = c.args.y.now in
    let same : nat_eq x.key y.key ≡ true = search rules in
    let alike : nat_eq x.shape y.shape ≡ true = search rules in
    by-over vs H F G c.args.first.now c.args.second.now one other c.in_ok-below.below c.over.result ((λ k. nat_eq (p k).key (q k).key) ∙ same)
    ((λ k. nat_eq (p k).shape (q k).shape) ∙ alike)
    (c.over.ensures ∙ (ap (λ b. over b (nat_eq x.call y.call) c.in_ok-below.below) (same-meet [] t x y)
    ∙ (λ k. over (can_meet (sym p k) (sym q k)) (nat_eq (sym p k).call (sym q k).call) c.in_ok-below.below)))
    (c.in_ok-below.ensures vs H known)
