use Rattle.std.proofs.Common.{get_or}
use Rattle.juniper_merging.specs.Conflicts.{IsQuietEntry}
use Rattle.juniper_merging.proofs.Looked.{all-before, no-entry, none-before, one-before, read-entry}
use Rattle.juniper_merging.proofs.loud.has_loud_entry.Goals as goal

pub loop-entry-init : goal.loop-entry-init
loop-entry-init c = none-before (IsQuietEntry c.args.vertices.now c.args.loud.now) c.args.entries.now 0

pub loop-entry-preserved : goal.loop-entry-preserved
loop-entry-preserved c =
    let es = c.args.entries.now in
    let i = c.loop-entry.entry-index in
    one-before (IsQuietEntry c.args.vertices.now c.args.loud.now) es i (get_or es i no-entry) c.loop-entry-test.true
    (read-entry es i c.loop-entry-test.true) c.loop-entry.invariant (c.is_loud.ensures c.if-is_loud.false)

pub returns : goal.returns
returns c e =
    all-before (IsQuietEntry c.args.vertices.now c.args.loud.now) c.args.entries.now c.loop-entry.entry-index c.loop-entry-test.false c.loop-entry.invariant
