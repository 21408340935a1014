use Rattle.graphql_spec.specs.Rules.{gives_unknown}
use Rattle.juniper_type_rules.specs.CallView.{view_call}
use Rattle.juniper_written.proofs.Deciding.{IsOpen}
use Rattle.juniper_type_rules.proofs.known_argument_names.has_unknown_argument.Given as goal

abbrev pub invariant-loop-call : goal.invariant-loop-call
invariant-loop-call g l =
    let shown = g.S.ScalarValue.shown in
    IsOpen (view_call shown) (gives_unknown) l.calls l.call-index
