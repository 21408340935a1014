use Rattle.std.proofs.Common.{◌≡◌, ◌++◌, map}
use Rattle.std.specs.Vec.Iter.{into_iter_items}
use Rattle.graphql_spec.specs.Resolvers.{answered}
use Rattle.juniper_values.specs.ResolvedView.{view_resolved}
use Rattle.juniper_values.proofs.wrappers.VecIntoResolvable.into_resolvable.Given as goal

abbrev pub invariant-loop-item : goal.invariant-loop-item
invariant-loop-item g l =
    map g.T.IntoResolvable.resolves (into_iter_items l.initial.item-iterator)
    ≡ map (λ r. answered (view_resolved g.S.ScalarValue.shown r)) l.items.items ++ map g.T.IntoResolvable.resolves (into_iter_items l.item-iterator)
