use Rattle.std.proofs.Common.{[], ap, map, take, ◌∙◌}
use Rattle.juniper_schema.specs.SchemaView.{view_schema}
use Rattle.juniper_rules.specs.Listing.{definition_of}
use Rattle.juniper_rules.proofs.Listing.{definitions-on-types, on-types-at}
use Rattle.juniper_explain.specs.Explanations.{view_explanations}
use Rattle.juniper_explain.specs.Nodes.{type_findings}
use Rattle.juniper_explain.proofs.Judging.{told, told-all, told-first, told-next}
use Rattle.juniper_explain.proofs.types.explain_types.Goals as goal

pub loop-one-init : goal.loop-one-init
loop-one-init g c = λ d are.
    let shown = g.S.ScalarValue.shown in
    told-first (λ x. definition_of shown x.listed.now) (type_findings (view_schema shown c.args.schema.now)) c.args.listed.now _
    (ap view_explanations c.new-explanations.ensures.items)

pub loop-one-preserved : goal.loop-one-preserved
loop-one-preserved g c = λ d are.
    let shown = g.S.ScalarValue.shown in
    let s = view_schema shown c.args.schema.now in
    let xs = c.args.listed.now in
    let i = c.loop-one.one-index in
    told-next (λ x. definition_of shown x.listed.now) (type_findings s) xs i c.one-item.result c.loop-one-test.true c.one-item.is
    (view_explanations c.loop-one.explanations.items) _
    (c.in_ok-explain_definition.ensures (map (λ x. definition_of shown x.listed.now) (take i xs))
    (on-types-at shown s xs d are i c.one-item.result c.loop-one-test.true c.one-item.is)) (c.loop-one.invariant d are)

pub returns : goal.returns
returns g c = λ d are.
    let shown = g.S.ScalarValue.shown in
    let s = view_schema shown c.args.schema.now in
    told-all (λ x. definition_of shown x.listed.now) (type_findings s) c.args.listed.now c.loop-one.one-index c.loop-one-test.false _
    (c.loop-one.invariant d are)
    ∙ ap (told (type_findings s) []) (definitions-on-types shown s c.args.listed.now d are)
