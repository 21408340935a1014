use Rattle.std.proofs.Common.{ap, map, ◌++◌, ◌∙◌}
use Rattle.std.proofs.lemmas.Result.{on_ok_weaker}
use Rattle.graphql_spec.specs.Documents.{Definition}
use Rattle.juniper_syntax.specs.RuleView.{view_rule_error}
use Rattle.juniper_schema.specs.SchemaView.{view_schema}
use Rattle.juniper_rules.specs.Listing.{definition_of}
use Rattle.juniper_rules.proofs.Phases.{names-found}
use Rattle.juniper_rules.proofs.names.find_names.Goals as goal

pub returns : goal.returns
returns g c =
    let shown = g.S.ScalarValue.shown in
    let x : Definition = definition_of shown c.args.listed.now in
    let inside = c.in_ok-inside.ensures in
    on_ok_weaker c.report.result (λ listed disabled d ds fragments count earlier is. listed ∙ ap (λ es. map view_rule_error c.args.errors.now.items ++ es)
    (names-found (view_schema shown c.args.schema.now) disabled d ds x _ _ _ _ _ _ _ _ _ _
    (c.repeats_operation.ensures ds earlier)
    (c.is_not_alone.ensures d count)
    (c.repeats_fragment.ensures ds earlier)
    (inside.unknown d fragments is)
    (inside.cycle d fragments is)
    inside.variable
    (inside.argument is)
    (inside.field is)
    (inside.directive is)
    (inside.named is))) c.report.ensures
