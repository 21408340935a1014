use Rattle.std.proofs.Common.{map}
use Rattle.std.specs.Vec.Iter.{into_iter_items}
use Rattle.juniper_intro.proofs.Rooting.{AreSeen}
use Rattle.juniper_intro.specs.HandleView.{of_user}
use Rattle.juniper_intro.specs.Rooting.{layers_of}
use Rattle.juniper_values.specs.ResolvedView.{view_resolved}
use Rattle.juniper_intro.proofs.rooted.+rooted.Given as goal

abbrev pub decreases-rooted : goal.decreases-rooted
decreases-rooted g l = layers_of (view_resolved g.S.ScalarValue.shown l.answer)

-- what is made goes before what is left
abbrev pub invariant-loop-item : goal.invariant-loop-item
invariant-loop-item g l =
    let shown = g.S.ScalarValue.shown in
    AreSeen of_user (map (view_resolved shown) l.made.items) (map (view_resolved shown) (into_iter_items l.item-iterator))
    (map (view_resolved shown) (into_iter_items l.initial.item-iterator))
