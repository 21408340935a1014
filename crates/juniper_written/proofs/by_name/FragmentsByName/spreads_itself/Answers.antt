use Rattle.std.proofs.Common.{ap, ◌∙◌}
use Rattle.graphql_spec.specs.Documents.{fragments}
use Rattle.juniper_syntax.specs.DocumentView.{view_definition, view_fragment, view_operation}
use Rattle.juniper_written.specs.WrittenView.{view_names}
use Rattle.juniper_written.proofs.Ruling.{itself-is, operation-never}
use Rattle.juniper_written.proofs.by_name.FragmentsByName.spreads_itself.Goals as goal

pub returns-in_ok-found-in-Fragment : goal.returns-in_ok-found-in-Fragment
returns-in_ok-found-in-Fragment g c = λ d are is.
    let view = view_definition g.S.ScalarValue.shown in
    c.in_ok-found-in-Fragment.ensures (fragments d) are.spread are.groups
    ∙ itself-is d (view c.args.definition.now) (view_fragment g.S.ScalarValue.shown c.in-Fragment.fragment) (ap view c.in-Fragment.is)
    (view_names c.args.names.now) is

pub returns-in-Operation : goal.returns-in-Operation
returns-in-Operation g c = λ d are is.
    let view = view_definition g.S.ScalarValue.shown in
    operation-never d (view c.args.definition.now) (view_operation g.S.ScalarValue.shown c.in-Operation.field-0) (ap view c.in-Operation.is)
