use Rattle.std.proofs.Common.{◌==◌, lit<}
use Rattle.juniper_http.specs.ContentTypes.{is_identity}
use Rattle.juniper_http.proofs.Pieces.{first_passes, first_fails, one_passes}
use Rattle.juniper_http.proofs.content_type.+are_identity.Goals as goal

pub returns-then-is_identity : goal.returns-then-is_identity
returns-then-is_identity t c =
    first_passes is_identity (λ b. b == 44) c.args.codings.now c.in-Some.first.now c.in-Some.rest.now c.is_identity.result c.are_identity.result
    (c.in-Some.ensures.byte (lit< tt) (λ w o h. h)) c.is_identity.ensures c.if-is_identity.true c.are_identity.ensures

pub returns-else-is_identity : goal.returns-else-is_identity
returns-else-is_identity t c =
    first_fails is_identity (λ b. b == 44) c.args.codings.now c.in-Some.first.now c.in-Some.rest.now c.is_identity.result
    (c.in-Some.ensures.byte (lit< tt) (λ w o h. h)) c.is_identity.ensures c.if-is_identity.false

pub returns-in-None : goal.returns-in-None
returns-in-None t c =
    one_passes is_identity (λ b. b == 44) c.args.codings.now c.is_identity-in-None.result
    (c.in-None.ensures.byte (lit< tt) (λ w o h. h)) c.is_identity-in-None.ensures
