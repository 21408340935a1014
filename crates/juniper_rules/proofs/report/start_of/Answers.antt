use Rattle.std.proofs.Common.{ap, sym}
use Rattle.graphql_spec.specs.Documents.{span_of_definition}
use Rattle.juniper_syntax.specs.DocumentView.{view_definition}
use Rattle.juniper_rules.proofs.report.start_of.Goals as goal

pub returns-in-Fragment : goal.returns-in-Fragment
unfolding span_of_definition
returns-in-Fragment g c = ap (λ x. (span_of_definition (view_definition g.S.ScalarValue.shown x)).start) (sym c.in-Fragment.is)
