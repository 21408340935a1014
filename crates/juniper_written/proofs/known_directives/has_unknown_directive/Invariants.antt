use Rattle.std.specs.Option.{is_none}
use Rattle.graphql_spec.specs.Placed.{directive_named}
use Rattle.juniper_syntax.specs.DocumentView.{view_directive}
use Rattle.juniper_written.proofs.Deciding.{IsOpen}
use Rattle.juniper_written.proofs.known_directives.has_unknown_directive.Given as goal

abbrev pub invariant-loop-index : goal.invariant-loop-index
invariant-loop-index g l =
    IsOpen (λ d. view_directive g.S.ScalarValue.shown d.now) (λ d. is_none (directive_named d.name.item)) l.written.directives.items l.index
