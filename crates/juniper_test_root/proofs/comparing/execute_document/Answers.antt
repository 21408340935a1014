use Rattle.std.proofs.Common.{option_map}
use Rattle.graphql_spec.proofs.ValidRuns.{choice-in}
use Rattle.juniper_syntax.specs.DocumentView.{view_document, view_operation}
use Rattle.juniper_test_root.proofs.comparing.execute_document.Goals as goal

-- the operation that is chosen is one of the document's
pub execute_validated_query-requires-clause-member : goal.execute_validated_query-requires-clause-member
execute_validated_query-requires-clause-member g c =
    let shown = g.S.ScalarValue.shown in
    choice-in (view_document shown c.args.document.now) (option_map (λ n. n.now) c.args.operation_name)
    (view_operation shown c.in_ok-operation.operation.now) c.in_ok-operation.ensures

pub execute_by_join-requires-clause-member : goal.execute_by_join-requires-clause-member
execute_by_join-requires-clause-member g c =
    let shown = g.S.ScalarValue.shown in
    choice-in (view_document shown c.args.document.now) (option_map (λ n. n.now) c.args.operation_name)
    (view_operation shown c.in_ok-operation.operation.now) c.in_ok-operation.ensures
