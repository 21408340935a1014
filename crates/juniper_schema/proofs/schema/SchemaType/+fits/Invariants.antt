use Rattle.std.proofs.Common.{◌≡◌, drop}
use Rattle.graphql_spec.specs.Fields.{type_named}
use Rattle.graphql_spec.specs.Fits.{all_fit}
use Rattle.juniper_meta.specs.MetaView.{view_type}
use Rattle.juniper_syntax.specs.InputView.{view_fields, view_items}
use Rattle.juniper_schema.specs.Fitting.{declared_of, each_fits}
use Rattle.juniper_schema.specs.SchemaView.{view_schema}
use Rattle.juniper_schema.proofs.schema.SchemaType.+fits.Given as goal

-- what is left decides
abbrev pub invariant-all_fit-loop-item : goal.invariant-all_fit-loop-item
invariant-all_fit-loop-item g l =
    let shown = g.S.ScalarValue.shown in
    all_fit (view_schema shown l.self) l.given (view_items shown (drop l.item-index l.items)) (view_type l.reference)
    ≡ all_fit (view_schema shown l.self) l.given (view_items shown l.items) (view_type l.reference)

-- what is left decides
abbrev pub invariant-each_fits-loop-name : goal.invariant-each_fits-loop-name
invariant-each_fits-loop-name g l =
    let shown = g.S.ScalarValue.shown in
    each_fits (view_schema shown l.self) l.given (view_fields shown (drop l.name-index l.fields))
    (declared_of (type_named (view_schema shown l.self) l.type_name))
    ≡ each_fits (view_schema shown l.self) l.given (view_fields shown l.fields) (declared_of (type_named (view_schema shown l.self) l.type_name))
