use Rattle.std.proofs.Common.{get_or, subst, sym}
use Rattle.std.specs.Prelude.{take}
use Rattle.std.proofs.lemmas.List.{take_all}
use Rattle.juniper_merging.specs.Questions.{seen}
use Rattle.juniper_merging.proofs.Indexed.{AreCleared, all-cleared, cleared-more, cleared-none}
use Rattle.juniper_merging.proofs.Looked.{no-entry, read-entry}
use Rattle.juniper_merging.proofs.Passed.{one-more}
use Rattle.juniper_merging.proofs.key_index.clear_entries.Goals as goal

pub loop-entry-init : goal.loop-entry-init
loop-entry-init c t = cleared-none (seen t c.args.vertices.now) c.args.index.now.items

pub loop-entry-preserved : goal.loop-entry-preserved
loop-entry-preserved c t =
    let vs = seen t c.args.vertices.now in
    let es = c.args.entries.now in
    let i = c.loop-entry.entry-index in
    let x = get_or es i no-entry in
    let old = c.args.index.now.items in
    let new = c.clear_entry.new.index.items in
    subst (λ l. AreCleared vs l old new) (sym (one-more es i x c.loop-entry-test.true (read-entry es i c.loop-entry-test.true)))
    (cleared-more vs (take i es) x old c.loop-entry.index.items new (c.clear_entry.ensures t) (c.loop-entry.invariant t))

pub returns : goal.returns
returns c t is =
    let vs = seen t c.args.vertices.now in
    let es = c.args.entries.now in
    all-cleared vs es c.args.index.now.items c.loop-entry.index.items is
    (subst (λ l. AreCleared vs l c.args.index.now.items c.loop-entry.index.items) (take_all c.loop-entry.entry-index es c.loop-entry-test.false)
    (c.loop-entry.invariant t))
