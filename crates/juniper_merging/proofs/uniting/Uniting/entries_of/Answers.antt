use Rattle.std.proofs.Common.{length, sym, subst, arith, true}
use Rattle.std.specs.Prelude.{take}
use Rattle.std.proofs.lemmas.List.{take_all}
use Rattle.juniper_merging.specs.Nodes.{Good}
use Rattle.juniper_merging.specs.United.{AreEntriesMade, count_of}
use Rattle.juniper_merging.proofs.Making.{agrees-through, entries-moved, last-at, more-entries, still-at}
use Rattle.juniper_merging.proofs.Passed.{one-more}
use Rattle.juniper_merging.proofs.uniting.Uniting.entries_of.Goals as goal

pub loop-place-preserved : goal.loop-place-preserved
loop-place-preserved c vs t =
    let heads = c.args.heads.now in
    let i = c.loop-place.place in
    let hd = c.index-heads-place.result in
    subst (λ l. AreEntriesMade vs t c.args.self.now c.entry_of.new.self l c.args.judge c.push.new.self.items)
    (sym (one-more heads i hd c.loop-place-test.true c.index-heads-place.is))
    (λ H below judged is.
    let r = c.loop-place.invariant vs t H below (λ p he at many. judged p he (still-at (take i heads) hd he p at) many) is in
    let s = c.in_ok-entry.ensures vs t r.0 (let l = r.2 in omega (arith, below, l)) (λ many g. judged (length (take i heads)) hd (last-at (take i heads) hd)
    many
    (subst (Good vs true) (r.1 c.args.judge below) g)) r.3 in (
      s.0,
      agrees-through H r.0 s.0 (count_of c.args.self.now) (count_of c.loop-place.self) r.2 r.1 s.1,
      (let l = r.2 in let m = s.2 in omega (arith, l, m)),
      s.3,
      more-entries vs t s.0 (count_of c.entry_of.new.self) (take i heads) c.loop-place.entries.items c.push.new.self.items hd c.in_ok-entry.entry
          (entries-moved vs t r.0 s.0 (count_of c.loop-place.self) (count_of c.entry_of.new.self) (take i heads) c.loop-place.entries.items s.2 s.1 r.4) s.4
          c.in_ok-push.ensures.items,
    ))

pub returns : goal.returns
returns c vs t = subst (λ l. AreEntriesMade vs t c.args.self.now c.loop-place.self l c.args.judge c.loop-place.entries.items)
    (take_all c.loop-place.place c.args.heads.now (let l = c.loop-place-test.false in omega (arith, l))) (c.loop-place.invariant vs t)
