use Rattle.std.proofs.Common.{length}
use Rattle.juniper_http.proofs.content_type.+are_fine.Given as goal

abbrev pub decreases-are_fine : goal.decreases-are_fine
decreases-are_fine l = length l.parameters.now
