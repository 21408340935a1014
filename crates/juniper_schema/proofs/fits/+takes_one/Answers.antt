use Rattle.std.proofs.Common.{◌&&◌, false, ap, sym, ◌∙◌}
use Rattle.juniper_meta.specs.MetaView.{view_type}
use Rattle.juniper_schema.specs.Fitting.{takes_one}
use Rattle.juniper_schema.proofs.Fitting.{one_met}
use Rattle.juniper_schema.proofs.TypeLevels.{view-List}
use Rattle.juniper_schema.proofs.fits.+takes_one.Goals as goal

pub returns-then-is_met : goal.returns-then-is_met
returns-then-is_met t c =
    let inside = view_type c.in-List.inner.value in
    one_met (view_type c.args.reference.now) false c.in-List.size inside
    (ap view_type c.in-List.is ∙ view-List c.in-List.inner c.in-List.size) c.is_met.result c.is_met.ensures c.takes_one.result
    (c.takes_one.ensures ∙ (ap (λ u. takes_one (view_type u)) c.deref.ensures ∙ sym (ap (λ b. b && takes_one inside) c.if-is_met.true)))

pub returns-else-is_met : goal.returns-else-is_met
returns-else-is_met t c =
    let inside = view_type c.in-List.inner.value in
    one_met (view_type c.args.reference.now) false c.in-List.size inside
    (ap view_type c.in-List.is ∙ view-List c.in-List.inner c.in-List.size) c.is_met.result c.is_met.ensures c.is_met.result
    (c.if-is_met.false ∙ sym (ap (λ b. b && takes_one inside) c.if-is_met.false))
