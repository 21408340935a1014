use Rattle.std.proofs.Common.{◌≡◌, drop, map}
use Rattle.graphql_spec.specs.VariableUses.{definition_of}
use Rattle.juniper_syntax.specs.DocumentView.{view_variable}
use Rattle.juniper_explain.proofs.misused.first_of.Given as goal

-- what is left decides
abbrev pub invariant-loop-variable : goal.invariant-loop-variable
invariant-loop-variable g l =
    let view = view_variable g.S.ScalarValue.shown in
    definition_of (map view (drop l.variable-index l.variables)) l.name ≡ definition_of (map view l.variables) l.name
