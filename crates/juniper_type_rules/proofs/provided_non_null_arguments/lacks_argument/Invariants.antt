use Rattle.graphql_spec.specs.Rules.{gives_too_few}
use Rattle.juniper_type_rules.specs.CallView.{view_call}
use Rattle.juniper_written.proofs.Deciding.{IsOpen}
use Rattle.juniper_type_rules.proofs.provided_non_null_arguments.lacks_argument.Given as goal

abbrev pub invariant-loop-call : goal.invariant-loop-call
invariant-loop-call g l =
    let shown = g.S.ScalarValue.shown in
    IsOpen (view_call shown) (gives_too_few) l.calls l.call-index
