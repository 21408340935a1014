use Rattle.std.proofs.Common.{not, ◌&&◌}
use Rattle.std.specs.List.{list_any}
use Rattle.std.specs.Str.{bytes_eq}
use Rattle.graphql_spec.specs.Documents.{written}
use Rattle.graphql_spec.specs.Rules.{must_be_written}
use Rattle.juniper_meta.specs.MetaView.{view_argument}
use Rattle.juniper_syntax.specs.DocumentView.{view_arguments}
use Rattle.juniper_written.proofs.Deciding.{IsOpen}
use Rattle.juniper_type_rules.proofs.provided_non_null_arguments.gives_too_few.Given as goal

abbrev pub invariant-loop-argument : goal.invariant-loop-argument
invariant-loop-argument g l =
    let shown = g.S.ScalarValue.shown in
    IsOpen (view_argument shown) (λ d. must_be_written d && not (list_any (λ a. bytes_eq d.name a.name.item) (written (view_arguments shown l.given))))
    l.argument-items l.argument-index
