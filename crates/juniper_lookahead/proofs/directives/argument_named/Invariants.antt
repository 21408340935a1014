use Rattle.std.proofs.Common.{◌≡◌, drop, map}
use Rattle.graphql_spec.specs.Directives.{argument_named}
use Rattle.graphql_spec.specs.Documents.{written}
use Rattle.juniper_syntax.specs.DocumentView.{view_argument, view_arguments}
use Rattle.juniper_lookahead.proofs.directives.argument_named.Given as goal

-- what is left decides
abbrev pub invariant-loop-name : goal.invariant-loop-name
invariant-loop-name g l =
    let shown = g.S.ScalarValue.shown in
    argument_named l.wanted (map (view_argument shown) (drop l.name-index l.name-items))
    ≡ argument_named l.wanted (written (view_arguments shown l.fn.arguments))
