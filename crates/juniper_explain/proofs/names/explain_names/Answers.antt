use Rattle.std.proofs.Common.{[], ap, map, subst, sym, take, ◌++◌, ◌∙◌}
use Rattle.std.specs.List.{flat_map}
use Rattle.juniper_written.specs.NamesBefore.{IsEarlier}
use Rattle.juniper_schema.specs.SchemaView.{view_schema}
use Rattle.juniper_syntax.specs.DocumentView.{view_definition}
use Rattle.juniper_rules.specs.Listing.{definition_of}
use Rattle.juniper_rules.proofs.AtEach.{earlier-is}
use Rattle.juniper_rules.proofs.Listing.{definitions-are, listed-at}
use Rattle.juniper_explain.specs.Explanations.{view_explanations}
use Rattle.juniper_explain.specs.Nodes.{inside_findings, name_findings}
use Rattle.juniper_explain.proofs.Joined.{behind-three}
use Rattle.juniper_explain.proofs.Judging.{told, told-all, told-first, told-next}
use Rattle.juniper_explain.proofs.names.explain_names.Goals as goal

pub loop-one-init : goal.loop-one-init
loop-one-init g c =
    let shown = g.S.ScalarValue.shown in (
      c.new-earlier.ensures,
      λ listed fragments. told-first (definition_of shown)
          (name_findings (view_schema shown c.args.schema.now) (map (view_definition shown) c.args.document.now)) c.args.listed.now _
          (ap view_explanations c.new-explanations.ensures.items),
    )

pub loop-one-preserved : goal.loop-one-preserved
unfolding name_findings
loop-one-preserved g c =
    let shown = g.S.ScalarValue.shown in
    let s = view_schema shown c.args.schema.now in
    let d = map (view_definition shown) c.args.document.now in
    let xs = c.args.listed.now in
    let i = c.loop-one.one-index in
    let before = map (definition_of shown) (take i xs) in
    let x = definition_of shown c.one-item.result in (
      subst (λ ds. IsEarlier c.add.new.self ds) (sym (earlier-is (definition_of shown) xs i c.one-item.result c.loop-one-test.true c.one-item.is))
          (c.in_ok-add.ensures before c.loop-one.invariant.0),
      λ listed fragments. told-next (definition_of shown) (name_findings s d) xs i c.one-item.result c.loop-one-test.true c.one-item.is
          (view_explanations c.loop-one.explanations.items) _
          (c.in_ok-explain_inside.ensures d fragments (listed-at shown xs d listed i c.one-item.result c.loop-one-test.true c.one-item.is)
          ∙ (ap (λ l. l ++ flat_map (λ k. k) (inside_findings s d x))
          (c.in_ok-explain_definition.ensures d before c.count_operations-operation_count.ensures c.loop-one.invariant.0)
          ∙ behind-three (view_explanations c.loop-one.explanations.items) _ _ _ (flat_map (λ k. k) (inside_findings s d x))))
          (c.loop-one.invariant.1 listed fragments),
    )

pub returns : goal.returns
returns g c listed fragments =
    let shown = g.S.ScalarValue.shown in
    let d = map (view_definition shown) c.args.document.now in
    let f = name_findings (view_schema shown c.args.schema.now) d in
    told-all (definition_of shown) f c.args.listed.now c.loop-one.one-index c.loop-one-test.false _ (c.loop-one.invariant.1 listed fragments)
    ∙ ap (told f []) (definitions-are shown c.args.listed.now d listed)
