use Rattle.std.proofs.Common.{ap, sym}
use Rattle.juniper_syntax.specs.DocumentView.{view_definition}
use Rattle.juniper_type_rules.specs.UsesView.{fragment_name}
use Rattle.juniper_type_rules.proofs.uses.fragment_name.Goals as goal

pub returns-in-Fragment : goal.returns-in-Fragment
unfolding fragment_name
returns-in-Fragment g c = ap (λ x. fragment_name (view_definition g.S.ScalarValue.shown x)) (sym c.in-Fragment.is)

pub returns-in-Operation : goal.returns-in-Operation
unfolding fragment_name
returns-in-Operation g c = ap (λ x. fragment_name (view_definition g.S.ScalarValue.shown x)) (sym c.in-Operation.is)
