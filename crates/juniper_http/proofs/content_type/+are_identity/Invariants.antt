use Rattle.std.proofs.Common.{length}
use Rattle.juniper_http.proofs.content_type.+are_identity.Given as goal

abbrev pub decreases-are_identity : goal.decreases-are_identity
decreases-are_identity l = length l.codings.now
