use Rattle.std.proofs.Common.{◌≡◌, drop, map, option_map}
use Rattle.graphql_spec.specs.Documents.{operations}
use Rattle.graphql_spec.specs.Requests.{choose_named, unknown}
use Rattle.juniper_syntax.specs.DocumentView.{view_definition, view_operation}
use Rattle.juniper.specs.Choices.{choice_of}
use Rattle.juniper.proofs.operation.operation_named.Given as goal

-- what is left, with what was found, decides
abbrev pub invariant-loop-definition : goal.invariant-loop-definition
invariant-loop-definition g l =
    let shown = g.S.ScalarValue.shown in
    choose_named l.name (operations (map (view_definition shown) (drop l.definition-index l.document)))
    (choice_of (option_map (λ o. view_operation shown o.now) l.found))
    ≡ choose_named l.name (operations (map (view_definition shown) l.document)) unknown
