use Rattle.graphql_spec.specs.Fields.{type_named}
use Rattle.graphql_spec.specs.Fits.{scalar_fits}
use Rattle.juniper_meta.specs.MetaView.{view_type}
use Rattle.juniper_schema.specs.SchemaView.{view_schema}
use Rattle.juniper_schema.proofs.Fitting.{through_no, through_yes}
use Rattle.juniper_schema.proofs.schema.SchemaType.scalar_stands.Goals as goal

pub returns-then-not-takes_one : goal.returns-then-not-takes_one
returns-then-not-takes_one g c = through_no (λ n. scalar_fits c.args.given (g.S.ScalarValue.shown c.args.scalar.now)
    (type_named (view_schema g.S.ScalarValue.shown c.args.self.now) n))
    (view_type c.args.reference.now) c.takes_one.result c.takes_one.ensures c.if-not-takes_one.true

pub returns : goal.returns
returns g c =
    through_yes (λ n. scalar_fits c.args.given (g.S.ScalarValue.shown c.args.scalar.now) (type_named (view_schema g.S.ScalarValue.shown c.args.self.now) n))
    (view_type c.args.reference.now) c.innermost_name.result.now c.scalar_fits.result c.takes_one.result c.takes_one.ensures c.if-not-takes_one.false
    c.innermost_name.ensures
    c.scalar_fits.ensures
