use Rattle.std.proofs.Common.{sym, subst, get_or}
use Rattle.std.specs.Prelude.{take}
use Rattle.juniper_merging.specs.Numbered.{AreEntriesAt}
use Rattle.juniper_merging.proofs.Looked.{no-entry, read-entry}
use Rattle.juniper_merging.proofs.Numbering.{more-entries-at}
use Rattle.juniper_merging.proofs.Passed.{one-more}
use Rattle.juniper_merging.proofs.numbered.Numbered.entries_at.Goals as goal

pub loop-entry-preserved : goal.loop-entry-preserved
loop-entry-preserved c =
    let entries = c.args.entries.now in
    let numbers = c.args.self.now.numbers.items in
    let i = c.loop-entry.entry-index in
    let x = get_or entries i no-entry in
    subst (λ l. AreEntriesAt numbers l c.push.new.self.items)
    (sym (one-more entries i x c.loop-entry-test.true (read-entry entries i c.loop-entry-test.true)))
    (more-entries-at numbers (take i entries) c.loop-entry.found.items c.push.new.self.items x c.in_ok-placed.placed c.loop-entry.invariant
    c.in_ok-placed.ensures c.in_ok-push.ensures.items)
