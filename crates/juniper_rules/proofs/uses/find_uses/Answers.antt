use Rattle.std.proofs.Common.{ap, map, ◌++◌, ◌∙◌}
use Rattle.std.proofs.lemmas.Result.{on_ok_weaker}
use Rattle.graphql_spec.specs.Documents.{Definition}
use Rattle.juniper_syntax.specs.RuleView.{view_rule_error}
use Rattle.juniper_schema.specs.SchemaView.{view_schema}
use Rattle.juniper_rules.specs.Listing.{definition_of}
use Rattle.juniper_rules.proofs.Phases.{uses-found}
use Rattle.juniper_rules.proofs.uses.find_uses.Goals as goal

pub returns : goal.returns
returns g c =
    let shown = g.S.ScalarValue.shown in
    let x : Definition = definition_of shown c.args.listed.now in
    let inside = c.in_ok-inside.ensures in
    on_ok_weaker c.report.result (λ listed d ds uses is own merging. listed ∙ ap (λ es. map view_rule_error c.args.errors.now.items ++ es)
    (uses-found (view_schema shown c.args.given.now.schema.now) c.args.given.now.introspection_disabled d ds x _ _ _ _
    (inside.undefined d uses is own)
    (inside.misused d uses is own)
    merging
    (inside.schema is))) c.report.ensures
