use Rattle.std.proofs.Common.{ap, refl, subst, sym, ◌∙◌}
use Rattle.std.specs.Prelude.{Vec, length, ◌+◌}
use Rattle.std.specs.declared.alloc.Global.{Global}
use Rattle.std.proofs.lemmas.List.{length-append}
use Rattle.juniper_merging.specs.Conflicts.{IsIndexOf}
use Rattle.juniper_merging.specs.Nodes.{Says}
use Rattle.juniper_merging.specs.Questions.{seen}
use Rattle.juniper_merging.specs.declared.clash.Clash.{Clash}
use Rattle.juniper_merging.specs.declared.conflicts.Conflicts.{Conflicts}
use Rattle.juniper_merging.proofs.Answered.{within-more}
use Rattle.juniper_merging.proofs.Indexed.{index-none}
use Rattle.juniper_merging.proofs.conflicts.Conflicts.answer_node.Goals as goal

pub returns : goal.returns
returns c t H nodes there a =
    let vs = seen t c.args.vertices.now in
    let k = c.args.number in
    let n = c.args.node.now in
    let old = c.args.self.now in
    let x = c.in_ok-within.within in
    let r = c.in_ok-within.ensures t H (H k) a.known (nodes k n there) (index-none vs c.args.index.now.items a.empty) in
    let mid : Conflicts = record { loud = old.loud; asks = old.asks; known = old.known; within = c.push.new.self } in
    let more = within-more vs H old mid x refl refl refl c.in_ok-push.ensures.items (subst (λ i. Says vs (H i) x) (sym a.count) r.1) a.known in
    record {
      known = c.in_ok-answer_pairs.ensures.known t H nodes there (subst (λ l. IsIndexOf vs l n.entries.items) (sym c.deref.ensures.value) r.0) more;
      count = ap (λ (v : Vec Clash Global). length v.items) c.in_ok-answer_pairs.ensures.within ∙ (ap length c.in_ok-push.ensures.items
          ∙ (length-append old.within.items _ ∙ ap (λ i. i + 1) a.count));
      empty = c.clear_entries.ensures t (subst (IsIndexOf vs c.clash_within.new.index.items) (sym c.deref-2.ensures.value) r.0);
    }
