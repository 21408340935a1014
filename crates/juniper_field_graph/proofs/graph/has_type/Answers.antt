use Rattle.std.proofs.Common.{sym, ap, ◌∙◌}
use Rattle.juniper_meta.specs.MetaView.{view_type}
use Rattle.juniper_schema.specs.SchemaView.{view_schema}
use Rattle.juniper_field_graph.specs.KindsView.{has_type}
use Rattle.juniper_field_graph.proofs.Found.{found-view}
use Rattle.juniper_field_graph.proofs.graph.has_type.Goals as goal

pub returns-in-Some : goal.returns-in-Some
unfolding has_type
returns-in-Some g c =
    c.types_agree.ensures ∙ sym (ap (has_type (view_schema g.S.ScalarValue.shown c.args.schema.now) (view_type c.args.declared_type.now))
    (found-view (λ f. view_type f.declared_type.now) c.args.fields.now c.args.number c.get.result c.in-Some.field c.get.ensures.lookup.3 c.in-Some.is))
