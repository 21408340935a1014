-- How deep the lists of an answer are.
use Rattle.std.specs.Prelude.{ℕ, suc, max}
use Rattle.graphql_spec.specs.Resolvers.{Tree, nothing, leaf, items, node, Trees, no_trees, tree}

-- ## Only proofs cite what follows

unfoldable mutual
  pub layers_of : {N : Type 0} → Tree N → ℕ
  layers_of nothing = 0
  layers_of (leaf x) = 0
  layers_of (items ts) = suc (layers_of_all ts)
  layers_of (node m) = 0

  pub layers_of_all : {N : Type 0} → Trees N → ℕ
  layers_of_all no_trees = 0
  layers_of_all (tree a ts) = max (layers_of a) (layers_of_all ts)
