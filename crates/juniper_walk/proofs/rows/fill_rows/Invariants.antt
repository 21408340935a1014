use Rattle.std.proofs.Common.{◌≡◌, ◌≤◌, ◌+◌, length}
use Rattle.std.specs.Prelude.{List}
use Rattle.std.specs.Vec.Iter.{into_iter_items}
use Rattle.graphql_spec.specs.ExactAnswers.{whole}
use Rattle.graphql_spec.specs.GroupLaws.{first_start}
use Rattle.graphql_spec.specs.Resolvers.{World}
use Rattle.graphql_spec.specs.Selections.{Forest, Occurrence, all_below}
use Rattle.graphql_spec.specs.Shown.{Name}
use Rattle.graphql_spec.specs.NodeLaws.{AreWalkedOnce}
use Rattle.graphql_spec.specs.Skeletons.{Spot}
use Rattle.juniper_walk.specs.Rows.{AreIn, ArePending, IsNext, listed_of, row_fields, values_of}
use Rattle.juniper_walk.specs.Budget.{fields_in_all}
use Rattle.juniper_walk.proofs.rows.fill_rows.Given as goal

-- the other answers wait for the nodes that are left
abbrev pub invariant-loop-open : goal.invariant-loop-open
invariant-loop-open g l =
    let shown = g.S.ScalarValue.shown in
    record {
      counted : length l.rows.items ≡ length l.initial.rows.items;
      within : AreIn (length l.rows.items) (into_iter_items l.open-iterator);
      fields : row_fields shown l.rows.items + length (into_iter_items l.open-iterator) + fields_in_all (values_of shown (into_iter_items l.objects))
          ≤ row_fields shown l.initial.rows.items + length (into_iter_items l.initial.open-iterator)
          + fields_in_all (values_of shown (into_iter_items l.initial.objects));
      pending : (W : World g.row.N.Denot) → (s : Forest) → (T : Name) → (ks : List Name) → (k : Name) → (os : List Occurrence) →
          (xs ns : List (Spot g.row.N.Denot)) → IsNext W s T ks k os →
          ArePending W s T shown ks k os 0 xs l.initial.rows.items (into_iter_items l.initial.open-iterator) ns →
          AreWalkedOnce whole first_start W (all_below os) ns (values_of shown (into_iter_items l.initial.objects))
          (listed_of shown (into_iter_items l.initial.objects)) →
          (ms : List (Spot g.row.N.Denot)) × ArePending W s T shown ks k os 0 xs l.rows.items (into_iter_items l.open-iterator) ms
          × AreWalkedOnce whole first_start W (all_below os) ms (values_of shown (into_iter_items l.objects)) (listed_of shown (into_iter_items l.objects));
    }
