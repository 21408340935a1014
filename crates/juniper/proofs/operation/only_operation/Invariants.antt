use Rattle.std.proofs.Common.{◌≡◌, ◌++◌, drop, map, option_map}
use Rattle.graphql_spec.specs.Documents.{operations}
use Rattle.juniper_syntax.specs.DocumentView.{view_definition, view_operation}
use Rattle.juniper.specs.Choices.{found_in}
use Rattle.juniper.proofs.operation.only_operation.Given as goal

-- what was found, and what is left, are all operations
abbrev pub invariant-loop-definition : goal.invariant-loop-definition
invariant-loop-definition g l =
    let shown = g.S.ScalarValue.shown in
    found_in (option_map (λ o. view_operation shown o.now) l.found) ++ operations (map (view_definition shown) (drop l.definition-index l.document))
    ≡ operations (map (view_definition shown) l.document)
