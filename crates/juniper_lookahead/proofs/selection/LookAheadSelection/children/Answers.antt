use Rattle.std.proofs.Common.{ap, map, ◌∙◌}
use Rattle.juniper_lookahead.specs.SelectionView.{view_selection}
use Rattle.juniper_lookahead.specs.ChildrenView.{view_children}
use Rattle.juniper_lookahead.specs.Choosing.{any_type}
use Rattle.juniper_lookahead.proofs.Gathering.{start-within}
use Rattle.juniper_lookahead.proofs.Below.{count-among, none-below, some-below}
use Rattle.juniper_lookahead.proofs.selection.LookAheadSelection.children.Goals as goal
use Rattle.juniper_lookahead.proofs.selection.LookAheadSelection.children.Goals.{in-Some+in_ok-add_children-in-Some, in-None}

pub add_children-requires-clause-within : goal.add_children-requires-clause-within
add_children-requires-clause-within g c =
    let s = c.args.self.now in
    start-within (any_type g.S.ScalarValue.shown s.variables.now s.fragments.now) s.acyclic _
    (c.len-spreads_left.ensures.len ∙ count-among g.S.ScalarValue.shown s.fragments.now) _

pub returns : goal.returns
unfolding view_selection view_children
returns g c =
    let s = c.args.self.now in
    elim c.match-field.branch [
      | in-Some+in_ok-add_children-in-Some w ↦ rw w.items-is
          (some-below g.S.ScalarValue.shown s.variables.now s.fragments.now s.field.now _ w.in-Some.selections w.deref.result.now _ _ w.in-Some.is
          w.deref.ensures.value (ap (map view_selection) c.new-items.ensures.items) w.in_ok-add_children-in-Some.ensures)
      | in-None w ↦ rw w.items-is (none-below g.S.ScalarValue.shown s.variables.now s.fragments.now s.field.now _ _ w.in-None.is
          (ap (map view_selection) c.new-items.ensures.items))
    ]
