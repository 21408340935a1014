use Rattle.std.proofs.Common.{map}
use Rattle.juniper_schema.specs.SchemaView.{view_schema}
use Rattle.juniper_syntax.specs.DocumentView.{view_definition}
use Rattle.juniper_field_graph.specs.MetView.{met_at}
use Rattle.juniper_field_graph.proofs.MetDefinitions.{definition-next, definitions-all, definitions-none}
use Rattle.juniper_field_graph.proofs.MetTables.{none-met}
use Rattle.juniper_field_graph.proofs.Meeting.{document-plain}
use Rattle.juniper_field_graph.proofs.plain_keys.has_plain_keys.Goals as goal

pub loop-definition-init : goal.loop-definition-init
loop-definition-init g c =
    let shown = g.S.ScalarValue.shown in
    let s = view_schema shown c.args.schema.now in
    definitions-none shown s c.args.document.now (met_at shown s c.new-met.result) (none-met shown s c.new-met.result c.new-met.ensures.empty)

pub loop-definition-preserved : goal.loop-definition-preserved
loop-definition-preserved g c =
    let shown = g.S.ScalarValue.shown in
    let s = view_schema shown c.args.schema.now in
    definition-next shown s c.args.document.now c.loop-definition.definition-index c.definition-item.result (met_at shown s c.loop-definition.met)
    (met_at shown s c.meet_definition.new.met) c.loop-definition-test.true c.definition-item.is c.loop-definition.invariant
    (c.in_ok-meet_definition.ensures c.if-not-branch.false)

pub returns : goal.returns
returns g c = λ plain.
    let shown = g.S.ScalarValue.shown in
    let s = view_schema shown c.args.schema.now in
    let now = met_at shown s c.loop-definition.met in
    document-plain s now (map (view_definition shown) c.args.document.now)
    (definitions-all shown s c.args.document.now c.loop-definition.definition-index now c.loop-definition-test.false c.loop-definition.invariant)
