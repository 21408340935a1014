use Rattle.std.proofs.Common.{◌≡◌, ◌++◌, map}
use Rattle.std.specs.Vec.Iter.{into_iter_items}
use Rattle.juniper_conversions.specs.ErrorView.{view_listed}
use Rattle.juniper_walk.specs.Rows.{listed_of, so_far, values_of}
use Rattle.juniper_walk.proofs.rows.end_rows.Given as goal

-- what is done goes before what is left
abbrev pub invariant-loop-row : goal.invariant-loop-row
invariant-loop-row g l =
    let shown = g.S.ScalarValue.shown in
    record {
      values : values_of shown l.done.items ++ map (λ r. so_far shown r.object) (into_iter_items l.row-iterator)
          ≡ values_of shown l.initial.done.items ++ map (λ r. so_far shown r.object) (into_iter_items l.initial.row-iterator);
      listed : listed_of shown l.done.items ++ map (λ r. map (view_listed shown) r.errors.items) (into_iter_items l.row-iterator)
          ≡ listed_of shown l.initial.done.items ++ map (λ r. map (view_listed shown) r.errors.items) (into_iter_items l.initial.row-iterator);
    }
