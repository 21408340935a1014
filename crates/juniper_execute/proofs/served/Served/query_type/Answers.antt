use Rattle.juniper_schema.specs.SchemaView.{view_schema}
use Rattle.juniper_execute.proofs.Executing.{query-is-there}
use Rattle.juniper_execute.proofs.served.Served.query_type.Goals as goal

pub unreachable-requires : goal.unreachable-requires
unreachable-requires g c =
    let root = c.args.self.now in
    query-is-there (view_schema g.S.ScalarValue.shown root.schema.now) root.executable c.query_name.result.now c.query_name.ensures c.in-None.ensures.shape
