use Rattle.std.proofs.Common.{map, take}
use Rattle.juniper_written.specs.NamesBefore.{IsEarlier}
use Rattle.juniper_schema.specs.SchemaView.{view_schema}
use Rattle.juniper_written.specs.SpreadsView.{AreFragmentsOf}
use Rattle.juniper_syntax.specs.DocumentView.{view_definition}
use Rattle.juniper_rules.specs.Listing.{AreListed, definition_of}
use Rattle.juniper_explain.specs.Explanations.{view_explanations}
use Rattle.juniper_explain.specs.Nodes.{name_findings}
use Rattle.juniper_explain.proofs.Judging.{IsToldBefore}
use Rattle.juniper_explain.proofs.names.explain_names.Given as goal

-- what is explained, and then what the definitions that are left show behind the earlier ones
abbrev pub invariant-loop-one : goal.invariant-loop-one
invariant-loop-one g l =
    let shown = g.S.ScalarValue.shown in
    let d = map (view_definition shown) l.document in
    IsEarlier l.earlier (map (definition_of shown) (take l.one-index l.listed))
    × (AreListed shown l.listed d → AreFragmentsOf shown l.fragments d → IsToldBefore (definition_of shown)
    (name_findings (view_schema shown l.schema) d) l.listed l.one-index (view_explanations l.explanations.items))
