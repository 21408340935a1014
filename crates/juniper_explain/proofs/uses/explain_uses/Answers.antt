use Rattle.std.proofs.Common.{◌≡◌, ◌<◌, [], length, arith, ap, map, sym, take, ◌∙◌}
use Rattle.graphql_spec.specs.Rules.{cannot_merge}
use Rattle.juniper_explain.specs.Explanations.{view_explanations}
use Rattle.juniper_explain.specs.Nodes.{use_findings}
use Rattle.juniper_schema.specs.SchemaView.{view_schema}
use Rattle.juniper_type_rules.specs.UsesView.{usage_of, view_used}
use Rattle.juniper_rules.specs.Listing.{definition_of}
use Rattle.juniper_explain.proofs.Judging.{told, told-all, told-first, told-next}
use Rattle.juniper_rules.proofs.Listing.{definitions-on-types, on-types-at}
use Rattle.juniper_rules.proofs.SideBySide.{beside-is, mark-is}
use Rattle.juniper_explain.proofs.uses.explain_uses.Goals as goal

pub loop-index-init : goal.loop-index-init
loop-index-init g c = λ d listed are merging.
    let shown = g.S.ScalarValue.shown in
    told-first (λ x. definition_of shown x.listed.now) (use_findings (view_schema shown c.args.schema.now) c.args.introspection_disabled d) c.args.listed.now _
    (ap (view_explanations) c.new-explanations.ensures.items)

pub loop-index-preserved : goal.loop-index-preserved
loop-index-preserved g c = λ d listed are merging.
    let shown = g.S.ScalarValue.shown in
    let s = view_schema shown c.args.schema.now in
    let xs = c.args.listed.now in
    let i = c.loop-index.index in
    let x = c.index-listed-index.result in
    let below : i < length xs = c.loop-index-test.true in
    let us = c.in_ok-used.used.items in
    let own_definitions : map (λ y. definition_of shown y.listed.now) xs ≡ d = definitions-on-types shown s xs d listed in
    let used : map view_used us ≡ map (usage_of s) d = c.in_ok-used.ensures.each d listed in
    let same : map view_used us ≡ map (usage_of s) (map (λ y. definition_of shown y.listed.now) xs) = used ∙ ap (map (usage_of s)) (sym own_definitions) in
    let within : i < length us = omega (arith, below, c.in_ok-used.ensures.count) in
    let own = beside-is (λ y. definition_of shown y.listed.now) (usage_of s) xs i x below c.index-listed-index.is view_used us
    c.index-own.result.now same within c.index-own.ensures in
    let uses = c.in_ok-used_by_fragments.ensures s d (ap (map view_used) c.deref.ensures.value ∙ used) are.spread in
    let marked = c.is_marked-cannot_merge.ensures ∙ mark-is (λ y. definition_of shown y.listed.now)
    (cannot_merge s d) xs i x below c.index-listed-index.is c.args.cannot_merge.now (merging ∙ ap (map (cannot_merge s d)) (sym own_definitions)) in
    let is = on-types-at shown s xs d listed i x below c.index-listed-index.is in
    told-next (λ y. definition_of shown y.listed.now) (use_findings s c.args.introspection_disabled d) xs i x below c.index-listed-index.is
    (view_explanations c.loop-index.explanations.items) _
    (c.in_ok-explain_definition.ensures d (map (λ y. definition_of shown y.listed.now) (take i xs)) uses listed are is own marked)
    (c.loop-index.invariant d listed are merging)

pub returns : goal.returns
returns g c = λ d listed are merging.
    let shown = g.S.ScalarValue.shown in
    let s = view_schema shown c.args.schema.now in
    let f = use_findings s c.args.introspection_disabled d in
    told-all (λ x. definition_of shown x.listed.now) f c.args.listed.now c.loop-index.index c.loop-index-test.false _
    (c.loop-index.invariant d listed are merging)
    ∙ ap (told f []) (definitions-on-types shown s c.args.listed.now d listed)
