use Rattle.std.proofs.Common.{◌≡◌, ◌++◌, ◌≤◌, Some, sym, subst, ℕ, arith, true}
use Rattle.std.specs.List.{slice_get}
use Rattle.juniper_merging.specs.Nodes.{Alike, Good, flat}
use Rattle.juniper_merging.specs.Questions.{fields_of}
use Rattle.juniper_merging.specs.Tables.{joined, table_of}
use Rattle.juniper_merging.specs.United.{Agrees, AreEntriesMade, AreEntriesOf, AreWholesMade, IsJudged, count_of}
use Rattle.juniper_merging.specs.Uniting.{own_fields, own_parts}
use Rattle.juniper_merging.specs.declared.heads.Head.{Head}
use Rattle.juniper_merging.proofs.Beside.{itself-alike}
use Rattle.juniper_merging.proofs.Held.{alike-through, joined-alike, joined-own}
use Rattle.juniper_merging.proofs.Making.{agrees-through, entries-below, entries-moved, heads-entries, no-entries, whole-judged}
use Rattle.juniper_merging.proofs.Places.{alike-both}
use Rattle.juniper_merging.proofs.uniting.Uniting.unite_sets.Goals as goal

pub returns : goal.returns
returns c there H is below holds =
    let g = c.args.graph.now in
    let vs = fields_of g in
    let sets = g.sets.now in
    let t = table_of sets in
    let old = c.args.self.now in
    let node = c.args.node in
    let ms = c.args.members.now in
    let F = own_fields sets ms in
    let heads = c.in_ok-heads.heads.items in
    let parts = c.in_ok-parts.parts.items in
    let es = c.in_ok-entries.entries.items in
    let wholes = c.in_ok-wholes.wholes.items in
    let h = c.in_ok-heads.ensures t in
    let j = is.judged node c.in_ok-judge.judge c.in_ok-judge.ensures in
    let whole : Alike (H node) (F ++ joined t parts) = subst (λ l. Alike l (F ++ joined t parts)) (sym holds)
    (alike-through (joined t ms) (F ++ joined t (own_parts sets ms)) (F ++ joined t parts) (joined-own sets there ms)
    (alike-both (λ x y. x ≡ y) F (joined t (own_parts sets ms)) F (joined t parts) (itself-alike F)
    (joined-alike t (own_parts sets ms) parts c.in_ok-parts.ensures))) in
    let judged : (p : ℕ) (hd : Head) → slice_get heads p ≡ Some hd → hd.is_many ≡ true → IsJudged vs t H c.in_ok-judge.judge (joined t hd.below.items) =
    λ p hd at many g. whole-judged vs t F heads h.0 (H node) (joined t parts) h.1 whole (j.1 g) p hd at many in
    let r = subst (λ l. AreEntriesMade vs t old c.entries_of.new.self l c.in_ok-judge.judge es) c.deref.ensures.value (c.in_ok-entries.ensures vs t) H j.0
    judged is in
    let w = subst (λ l. AreWholesMade vs t c.entries_of.new.self c.wholes_of.new.self l wholes) c.deref-2.ensures.value (c.in_ok-wholes.ensures vs t) r.0 r.3 in
    let L = w.0 in
    let n = count_of old in
    let m = count_of c.entries_of.new.self in
    let k = count_of c.wholes_of.new.self in
    let entries : AreEntriesOf vs t L k heads es = entries-moved vs t r.0 L m k heads es w.2 w.1 r.4 in
    let same : Agrees H L n = agrees-through H r.0 L n m r.2 r.1 w.1 in
    let le : n ≤ k = let a = r.2 in let b = w.2 in omega (arith, a, b) in
    let at : L node ≡ H node = same node below in
    c.in_ok-put_node.ensures vs t L F w.3 (omega (arith, below, le)) (let b = j.0 in omega (arith, b, le))
    (record { children = entries-below vs t L k heads es entries; parts = w.4.0 })
    (heads-entries vs t F heads h.0 L k es h.1 entries) (no-entries vs t F heads h.0 L k es h.1 entries)
    (subst (λ l. Alike l (F ++ flat L wholes)) (sym at) (subst (λ l. Alike (H node) (F ++ l)) (sym w.4.1) whole))
    (λ g. subst (Good vs true) (sym at) (j.1 (subst (Good vs true) (same c.in_ok-judge.judge j.0) g)))
