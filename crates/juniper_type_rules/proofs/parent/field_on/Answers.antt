use Rattle.std.proofs.Common.{◌≡◌, None, MatchOption, subst}
use Rattle.graphql_spec.specs.Fields.{type_named}
use Rattle.juniper_meta.specs.MetaView.{shape_of}
use Rattle.juniper_schema.specs.SchemaView.{view_schema}
use Rattle.juniper_schema.proofs.MetaFields.{no_type}
use Rattle.juniper_type_rules.proofs.parent.field_on.Goals as goal

pub returns-in-None : goal.returns-in-None
returns-in-None g c is =
    let shown = g.S.ScalarValue.shown in
    let s = view_schema shown c.args.schema.now in
    let n = c.args.parent.now.name.now in
    no_type s n c.args.name.now (subst (λ o. MatchOption o (type_named s n ≡ None) (λ m. type_named s n ≡ shape_of shown m.now)) c.in-None.is is)
