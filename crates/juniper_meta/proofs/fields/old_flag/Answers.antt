use Rattle.std.proofs.Common.{Some, ap, ap₂, ◌∙◌}
use Rattle.graphql_spec.specs.BuiltIns.{field_without, old_flag}
use Rattle.graphql_spec.specs.Schema.{plain_field}
use Rattle.juniper_meta.specs.MetaView.{deprecated_field}
use Rattle.juniper_meta.proofs.fields.old_flag.Goals as goal

pub returns : goal.returns
unfolding old_flag field_without plain_field
returns g c = c.deprecated.ensures ∙ ap₂ deprecated_field (c.in_ok-field.ensures ∙ ap (field_without c.args.name.now) c.in_ok-must.ensures)
    (ap Some c.in_ok-reason.ensures.ok)
