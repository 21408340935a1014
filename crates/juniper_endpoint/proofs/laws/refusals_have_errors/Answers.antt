use Rattle.juniper_endpoint.proofs.Refusing.{some-told}
use Rattle.juniper_endpoint.proofs.laws.refusals_have_errors.Goals as goal

pub returns : goal.returns
returns g c = λ S q before e r after explanations is full. some-told S q before e r after explanations is full
