-- A resolver's answer beside what it stands for, level by level.
use Rattle.std.proofs.Common.{◌≡◌, Vec, Global, map, rules}
use Rattle.graphql_spec.specs.Shown.{Shown}
use Rattle.graphql_spec.specs.Resolvers as spec
use Rattle.juniper_values.specs.ResolvedView.{view_resolved, trees_of}
use Rattle.juniper_values.specs.declared.resolved.Resolved.{Resolved, Null, Scalar, List as ListOf, Node, the_lemmas}

module _ {N S : Type 0} (shown : S → Shown) where
  pub view-Null : view_resolved {N = N} shown Null ≡ spec.nothing
  view-Null = search (rules, the_lemmas)

  pub view-Scalar : (s : S) → view_resolved {N = N} shown (Scalar s) ≡ spec.leaf (shown s)
  view-Scalar s = search (rules, the_lemmas)

  pub view-List : (v : Vec (Resolved N S) Global) → view_resolved shown (ListOf v) ≡ spec.items (trees_of (map (view_resolved shown) v.items))
  view-List v = search (rules, the_lemmas)

  pub view-Node : (n : N) → view_resolved shown (Node n) ≡ spec.node n
  view-Node n = search (rules, the_lemmas)
