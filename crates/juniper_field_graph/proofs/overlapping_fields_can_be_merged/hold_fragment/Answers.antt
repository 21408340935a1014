use Rattle.std.proofs.Common.{sym, ap, subst, ◌∙◌}
use Rattle.juniper_schema.specs.SchemaView.{view_schema}
use Rattle.juniper_syntax.specs.DocumentView.{view_fragment, view_selections}
use Rattle.juniper_field_graph.specs.Gathering.{IsReadyIn, IsSetGatheredAt, list_named, set_named}
use Rattle.juniper_field_graph.proofs.HoldingSteps.{fragment-held}
use Rattle.juniper_field_graph.proofs.overlapping_fields_can_be_merged.hold_fragment.Goals as goal

pub returns : goal.returns
returns g c fs ends unknown is ready =
    let shown = g.S.ScalarValue.shown in
    let s = view_schema shown c.args.schema.now in
    let f = view_fragment shown c.args.fragment.now in
    let set = ap (view_selections shown) c.deref.ensures.value in
    let new = c.gather_set.new.gathered in
    fragment-held shown s fs c.args.gathered.now.graph new.graph c.clear.new.self.items new.sets.items (set_named c.args.held.now)
    (set_named c.put_set_at.new.held) (list_named c.args.listed.now) (list_named c.put_list_at.new.listed) f c.in_ok-set.set c.in_ok-sets.sets.items
    (subst (λ x. IsSetGatheredAt shown s fs c.args.gathered.now.graph new.graph c.clear.new.self.items new.sets.items f.condition.item x
    c.in_ok-set.set) set
    (c.in_ok-set.ensures fs ends unknown is (subst (IsReadyIn shown s fs c.args.gathered.now.graph (set_named c.args.held.now)) (sym set) ready)))
    c.clear.ensures.items (c.in_ok-sets.ensures ∙ c.deref-2.ensures.value) c.in_ok-put_set_at.ensures c.in_ok-put_list_at.ensures
