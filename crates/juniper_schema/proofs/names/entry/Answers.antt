use Rattle.std.proofs.Common.{string_bytes}
use Rattle.juniper_meta.specs.MetaView.{view_meta}
use Rattle.juniper_schema.proofs.Lookups.{entry_found, shape_found}
use Rattle.juniper_schema.proofs.names.entry.Goals as goal

pub returns-clause-meta : goal.returns-clause-meta
returns-clause-meta g c =
    entry_found (λ k. string_bytes k) (view_meta g.S.ScalarValue.shown) c.args.types.now.entries c.args.name.now c.get.result c.get.ensures.value

pub returns-clause-shape : goal.returns-clause-shape
returns-clause-shape g c = shape_found (view_meta g.S.ScalarValue.shown) c.get.result _
    (entry_found (λ k. string_bytes k) (view_meta g.S.ScalarValue.shown) c.args.types.now.entries c.args.name.now c.get.result c.get.ensures.value)
