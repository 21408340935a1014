use Rattle.std.proofs.Common.{◌==◌, lit<}
use Rattle.juniper_http.specs.ContentTypes.{is_fine}
use Rattle.juniper_http.proofs.Pieces.{first_passes, first_fails, one_passes}
use Rattle.juniper_http.proofs.content_type.+are_fine.Goals as goal

pub returns-then-is_fine : goal.returns-then-is_fine
returns-then-is_fine t c =
    first_passes is_fine (λ b. b == 59) c.args.parameters.now c.in-Some.first.now c.in-Some.rest.now c.is_fine.result c.are_fine.result
    (c.in-Some.ensures.byte (lit< tt) (λ w o h. h)) c.is_fine.ensures c.if-is_fine.true c.are_fine.ensures

pub returns-else-is_fine : goal.returns-else-is_fine
returns-else-is_fine t c =
    first_fails is_fine (λ b. b == 59) c.args.parameters.now c.in-Some.first.now c.in-Some.rest.now c.is_fine.result
    (c.in-Some.ensures.byte (lit< tt) (λ w o h. h)) c.is_fine.ensures c.if-is_fine.false

pub returns-in-None : goal.returns-in-None
returns-in-None t c =
    one_passes is_fine (λ b. b == 59) c.args.parameters.now c.is_fine-in-None.result (c.in-None.ensures.byte (lit< tt) (λ w o h. h)) c.is_fine-in-None.ensures
