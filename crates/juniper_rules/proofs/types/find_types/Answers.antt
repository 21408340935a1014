use Rattle.std.proofs.Common.{ap, map, ◌++◌, ◌∙◌}
use Rattle.std.proofs.lemmas.Result.{on_ok_weaker}
use Rattle.graphql_spec.specs.Documents.{Definition}
use Rattle.juniper_syntax.specs.RuleView.{view_rule_error}
use Rattle.juniper_schema.specs.SchemaView.{view_schema}
use Rattle.juniper_rules.specs.Listing.{definition_of}
use Rattle.juniper_rules.proofs.Phases.{types-found}
use Rattle.juniper_rules.proofs.types.find_types.Goals as goal

pub returns : goal.returns
returns g c =
    let shown = g.S.ScalarValue.shown in
    let x : Definition = definition_of shown c.args.on_types.now.listed.now in
    let inside = c.types_inside-inside.ensures in
    on_ok_weaker c.report.result (λ listed disabled d ds is. listed ∙ ap (λ es. map view_rule_error c.args.errors.now.items ++ es)
    (types-found (view_schema shown c.args.schema.now) disabled d ds x _ _ _ _ _ _ _ _
    (inside.condition is)
    c.has_other_variable.ensures
    (inside.field is)
    (inside.set is)
    (inside.unknown is)
    (inside.lacking is)
    (inside.wrong is)
    c.in_ok-has_wrong_default.ensures)) c.report.ensures
