use Rattle.std.proofs.lemmas.Result.{IfOk-weaker}
use Rattle.graphql_spec.specs.Documents.{fragments}
use Rattle.juniper_written.proofs.by_name.FragmentsByName.reached.Goals as goal

pub returns : goal.returns
returns g c = IfOk-weaker c.reached.result _ _ (λ r every d are n. every (fragments d) are.spread n) c.reached.ensures
