use Rattle.std.proofs.Common.{ap, sym, ◌∙◌}
use Rattle.graphql_spec.specs.Rules.{can_look, has_root}
use Rattle.juniper_syntax.specs.DocumentView.{view_definition}
use Rattle.juniper_schema.specs.SchemaView.{view_schema}
use Rattle.juniper_type_rules.proofs.introspection.can_look.Goals as goal

pub returns-in-Operation : goal.returns-in-Operation
unfolding can_look has_root
returns-in-Operation g c =
    let shown = g.S.ScalarValue.shown in
    c.has_root.ensures ∙ ap (λ x. can_look (view_schema shown c.args.schema.now) (view_definition shown x)) (sym c.in-Operation.is)

pub returns-in-Fragment : goal.returns-in-Fragment
unfolding can_look
returns-in-Fragment g c =
    let shown = g.S.ScalarValue.shown in
    ap (λ x. can_look (view_schema shown c.args.schema.now) (view_definition shown x)) (sym c.in-Fragment.is)
