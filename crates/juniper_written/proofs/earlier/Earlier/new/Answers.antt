use Rattle.graphql_spec.specs.Documents.{operations, fragments}
use Rattle.graphql_spec.specs.Fragments.{fragment_of}
use Rattle.graphql_spec.specs.Rules.{names_operation}
use Rattle.juniper_written.proofs.earlier.Earlier.new.Goals as goal

pub returns : goal.returns
unfolding names_operation operations fragments fragment_of
returns c = (λ n. c.new.ensures n, λ n. c.new-2.ensures n)
