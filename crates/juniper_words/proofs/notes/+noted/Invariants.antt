use Rattle.std.proofs.Common.{length}
use Rattle.juniper_words.proofs.notes.+noted.Given as goal

abbrev pub decreases-noted : goal.decreases-noted
decreases-noted l = length l.notes.now
