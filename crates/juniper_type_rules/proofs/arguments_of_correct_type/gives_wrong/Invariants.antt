use Rattle.std.proofs.Common.{map}
use Rattle.juniper_schema.specs.SchemaView.{view_schema}
use Rattle.juniper_type_rules.specs.SetTests.{misfits}
use Rattle.graphql_spec.specs.Fields.{declaration_in}
use Rattle.juniper_meta.specs.MetaView as metas
use Rattle.juniper_syntax.specs.DocumentView.{view_argument}
use Rattle.juniper_written.proofs.Deciding.{IsOpen}
use Rattle.juniper_type_rules.proofs.arguments_of_correct_type.gives_wrong.Given as goal

abbrev pub invariant-loop-argument : goal.invariant-loop-argument
invariant-loop-argument g l =
    let shown = g.S.ScalarValue.shown in
    IsOpen (view_argument shown) (λ a. misfits (view_schema shown l.schema)
    (declaration_in (map (metas.view_argument shown) l.declared) a.name.item) a.value.item) l.argument-items l.argument-index
