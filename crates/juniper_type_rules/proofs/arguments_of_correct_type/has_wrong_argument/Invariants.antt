use Rattle.graphql_spec.specs.Rules.{gives_wrong}
use Rattle.juniper_type_rules.specs.CallView.{view_call}
use Rattle.juniper_schema.specs.SchemaView.{view_schema}
use Rattle.juniper_written.proofs.Deciding.{IsOpen}
use Rattle.juniper_type_rules.proofs.arguments_of_correct_type.has_wrong_argument.Given as goal

abbrev pub invariant-loop-call : goal.invariant-loop-call
invariant-loop-call g l =
    let shown = g.S.ScalarValue.shown in
    IsOpen (view_call shown) (gives_wrong (view_schema shown l.schema)) l.calls l.call-index
