use Rattle.std.proofs.Common.{string_bytes, not, sym, ap, ◌∙◌}
use Rattle.std.specs.Option.{option_copied}
use Rattle.juniper_meta.specs.MetaView.{view_meta}
use Rattle.juniper_registry.proofs.Tables.{none_found, some_found}
use Rattle.juniper_registry.proofs.names.declares.Goals as goal

pub returns-in-Some : goal.returns-in-Some
returns-in-Some g c = ap not c.is_placeholder.ensures ∙ some_found (λ k. string_bytes k)
    (view_meta g.S.ScalarValue.shown) c.args.types.now.entries c.args.name.now c.in-Some.meta.now (sym (ap option_copied c.in-Some.is) ∙ c.get.ensures.value)

pub returns-in-None : goal.returns-in-None
returns-in-None g c = none_found (λ k. string_bytes k) (view_meta g.S.ScalarValue.shown) c.args.types.now.entries c.args.name.now
    (sym (ap option_copied c.in-None.is) ∙ c.get.ensures.value)
