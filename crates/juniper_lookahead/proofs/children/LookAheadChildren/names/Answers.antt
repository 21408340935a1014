use Rattle.std.proofs.Common.{ap, map, sym, ◌∙◌}
use Rattle.std.proofs.lemmas.Simd.{map-map}
use Rattle.juniper_lookahead.specs.SelectionView.{view_selection}
use Rattle.juniper_lookahead.specs.ChildrenView.{name_of, view_children}
use Rattle.juniper_lookahead.proofs.children.LookAheadChildren.names.Goals as goal

pub returns : goal.returns
unfolding view_children
returns g c = ap (map (λ x. name_of (view_selection x))) (c.iter.ensures.rest ∙ c.deref.ensures.value)
    ∙ sym (map-map name_of view_selection c.args.self.now.items.items)
