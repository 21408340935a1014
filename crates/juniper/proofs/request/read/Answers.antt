use Rattle.graphql_spec.specs.Documents.{Document}
use Rattle.graphql_spec.specs.Grammar.{Spells}
use Rattle.juniper.proofs.Composing.{read-failed}
use Rattle.juniper.proofs.request.read.Goals as goal

pub returns-in-Err : goal.returns-in-Err
returns-in-Err g c = read-failed ((d : Document) → Spells c.args.text.now d → ⊥) c.in-Err.error c.from.result c.from.ensures c.in-Err.ensures
