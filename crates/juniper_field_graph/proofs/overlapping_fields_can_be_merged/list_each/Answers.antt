use Rattle.std.proofs.Common.{map, ap, ◌∙◌}
use Rattle.std.proofs.lemmas.List.{map-append}
use Rattle.juniper_schema.specs.SchemaView.{view_schema}
use Rattle.juniper_syntax.specs.DocumentView.{view_definition}
use Rattle.juniper_field_graph.specs.Gathering.{list_named, set_named}
use Rattle.juniper_field_graph.proofs.ListingSteps.{definition-ready, gathered-so-far-all, gathered-so-far-next, gathered-so-far-none, lists-more}
use Rattle.juniper_field_graph.proofs.Taken.{in-taken}
use Rattle.juniper_field_graph.proofs.overlapping_fields_can_be_merged.list_each.Goals as goal

pub loop-definition-init : goal.loop-definition-init
loop-definition-init g c fs ends unknown is finds are ready =
    let shown = g.S.ScalarValue.shown in
    gathered-so-far-none shown (view_schema shown c.args.known.now.schema.now) fs c.args.gathered.now.graph c.args.document.now _ is
    (ap (map (λ v. v.items)) c.new-lists.ensures.items)

pub loop-definition-preserved : goal.loop-definition-preserved
loop-definition-preserved g c fs ends unknown is finds are ready =
    let shown = g.S.ScalarValue.shown in
    let s = view_schema shown c.args.known.now.schema.now in
    let before = c.loop-definition.invariant fs ends unknown is finds are ready in
    let old = c.args.gathered.now in
    let now = c.loop-definition.gathered in
    let new = c.list_definition.new.gathered in
    let i = c.loop-definition.definition-index in
    let x = c.definition-item.result in
    let lists = map (λ v. v.items) c.loop-definition.lists.items in
    let own = c.in_ok-sets.ensures fs ends unknown before.grown.graph
    (finds (view_definition shown x) (in-taken (view_definition shown) c.args.document.now i x c.loop-definition-test.true c.definition-item.is))
    (lists-more shown s fs old.graph now.graph before.grown (list_named c.args.listed.now) are)
    (definition-ready shown s fs old.graph now.graph (set_named c.args.known.now.fragments.now) c.args.document.now lists i x
    c.loop-definition-test.true c.definition-item.is ready before) in
    gathered-so-far-next shown s fs old.graph now.graph new.graph c.args.document.now lists _ c.in_ok-sets.sets.items i x
    c.loop-definition-test.true c.definition-item.is before own.0 own.1
    (ap (map (λ v. v.items)) c.in_ok-push.ensures.items ∙ map-append (λ v. v.items) c.loop-definition.lists.items _)

pub returns : goal.returns
returns g c fs ends unknown is finds are ready =
    let shown = g.S.ScalarValue.shown in
    gathered-so-far-all shown (view_schema shown c.args.known.now.schema.now) fs c.args.gathered.now.graph c.loop-definition.gathered.graph
    c.args.document.now _ c.loop-definition.definition-index c.loop-definition-test.false
    (c.loop-definition.invariant fs ends unknown is finds are ready)
