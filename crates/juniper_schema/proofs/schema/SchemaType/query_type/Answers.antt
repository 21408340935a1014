use Rattle.std.proofs.Common.{option_map, ap, ◌∙◌}
use Rattle.juniper_schema.specs.MadeTypes.{concrete}
use Rattle.juniper_schema.specs.SchemaView.{entry_meta, view_schema}
use Rattle.juniper_schema.proofs.schema.SchemaType.query_type.Goals as goal

pub returns : goal.returns
returns g c = c.entry_type.ensures ∙ ap (λ n. option_map concrete (entry_meta (view_schema g.S.ScalarValue.shown c.args.self.now) n)) c.as_str.ensures.value
