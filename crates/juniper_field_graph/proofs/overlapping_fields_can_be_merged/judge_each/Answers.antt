use Rattle.std.proofs.Common.{◌++◌, ◌∷◌, [], map, take, not, sym, subst}
use Rattle.std.proofs.lemmas.List.{take_all}
use Rattle.graphql_spec.specs.Laws.{In}
use Rattle.juniper_merging.specs.Questions.{fields_of}
use Rattle.juniper_merging.specs.Tables.{table_of}
use Rattle.juniper_field_graph.specs.Gathering.{IsAnswer, Pairwise}
use Rattle.juniper_field_graph.proofs.SetTables.{pairwise-both, pairwise-none, pairwise-one, was-false, was-true}
use Rattle.juniper_field_graph.proofs.Taken.{taken-more}
use Rattle.juniper_field_graph.proofs.overlapping_fields_can_be_merged.judge_each.Goals as goal

pub loop-sets-init : goal.loop-sets-init
loop-sets-init c is =
    let graph = c.args.graph.now in
    let Is = IsAnswer (fields_of graph) (table_of graph.sets.now) in (
      c.in_ok-answers.ensures is,
      subst (Pairwise Is []) (sym c.new-found.ensures.items) (pairwise-none Is),
    )

pub loop-sets-preserved : goal.loop-sets-preserved
loop-sets-preserved c is =
    let graph = c.args.graph.now in
    let Is = IsAnswer (fields_of graph) (table_of graph.sets.now) in
    let lists = c.args.lists.now in
    let i = c.loop-sets.sets-index in
    let item = c.sets-item.result in
    let before = c.loop-sets.invariant is in
    let merge = c.in_ok-merge.merge in
    let own : Is item.items (not merge) = (
      λ e set j. c.in_ok-merge.ensures.merges is before.0 (was-true merge e) set (subst (In set) (sym c.deref.ensures.value) j),
      λ e. let w = c.in_ok-merge.ensures.differs is before.0 (was-false merge e) in (w.0, subst (In w.0) c.deref.ensures.value w.1, w.2),
    ) in (
      before.0,
      subst (λ l. Pairwise Is l c.push.new.self.items) (sym (taken-more (λ v. v.items) lists i item c.loop-sets-test.true c.sets-item.is))
          (subst (Pairwise Is (map (λ v. v.items) (take i lists) ++ item.items ∷ [])) (sym c.in_ok-push.ensures.items)
          (pairwise-both Is (map (λ v. v.items) (take i lists)) (item.items ∷ []) c.loop-sets.found.items (not merge ∷ []) before.1
          (pairwise-one Is item.items (not merge) own))),
    )

pub returns : goal.returns
returns c is =
    let graph = c.args.graph.now in
    subst (λ l. Pairwise (IsAnswer (fields_of graph) (table_of graph.sets.now)) (map (λ v. v.items) l) c.loop-sets.found.items)
    (take_all c.loop-sets.sets-index c.args.lists.now c.loop-sets-test.false) (c.loop-sets.invariant is).1
