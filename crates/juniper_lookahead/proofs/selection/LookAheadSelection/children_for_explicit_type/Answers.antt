use Rattle.std.proofs.Common.{ap, filter, map, ◌∙◌, rules}
use Rattle.std.proofs.lemmas.Fn.{filter_same}
use Rattle.juniper_lookahead.specs.SelectionView.{view_selection}
use Rattle.juniper_lookahead.specs.ChildrenView.{applies_to, children_for, view_children}
use Rattle.juniper_lookahead.proofs.Below.{seen-filter}
use Rattle.juniper_lookahead.proofs.selection.LookAheadSelection.children_for_explicit_type.Goals as goal

pub returns : goal.returns
unfolding children_for view_children
returns g c =
    let test = applies_to c.args.type_name.now in
    ap (map view_selection) (filter_same _ (λ x. test (view_selection x)) _ (λ x b f' k. search rules) _ _ c.retain.ensures.filtered)
    ∙ (seen-filter view_selection test _ ∙ ap (filter test) c.in_ok-children.ensures)
