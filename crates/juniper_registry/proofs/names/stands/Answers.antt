use Rattle.std.proofs.Common.{string_bytes, ◌∙◌}
use Rattle.juniper_meta.specs.MetaView.{view_meta}
use Rattle.juniper_registry.proofs.Tables.{stands_found}
use Rattle.juniper_registry.proofs.names.stands.Goals as goal

pub returns : goal.returns
returns g c = c.contains_key.ensures ∙ stands_found (λ k. string_bytes k) (view_meta g.S.ScalarValue.shown) c.args.types.now.entries c.args.name.now
