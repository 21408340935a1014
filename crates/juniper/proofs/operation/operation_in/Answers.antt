use Rattle.std.proofs.Common.{ap, ◌∷◌, []}
use Rattle.graphql_spec.specs.Documents.{operations}
use Rattle.juniper_syntax.specs.DocumentView.{view_definition}
use Rattle.juniper.proofs.operation.operation_in.Goals as goal

pub returns-in-Operation : goal.returns-in-Operation
unfolding operations
returns-in-Operation g c = ap (λ d. operations (view_definition g.S.ScalarValue.shown d ∷ [])) c.in-Operation.is

pub returns-in-Fragment : goal.returns-in-Fragment
unfolding operations
returns-in-Fragment g c = ap (λ d. operations (view_definition g.S.ScalarValue.shown d ∷ [])) c.in-Fragment.is
