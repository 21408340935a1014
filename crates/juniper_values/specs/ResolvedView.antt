-- How the code's answers of resolvers are seen (6.4.2).
use Rattle.std.specs.Prelude.{◌≡◌, List, [], ◌∷◌, Result, Ok, Err}
use Rattle.graphql_spec.specs.Shown.{Shown}
use Rattle.graphql_spec.specs.Resolvers as spec
use Rattle.graphql_spec.specs.Resolvers.{Tree, Trees, no_trees, tree, Reply, answered, failed}
use Rattle.juniper_conversions.specs.ErrorView.{view_error}
use Rattle.juniper_values.specs.declared.resolved.Resolved.{Resolved, fold-Resolved}
use Rattle.juniper_values.specs.declared.resolved.Resolved.TheOpen.{Resolved-F}
use Rattle.juniper_conversions.specs.declared.field_error.ResolveError.{ResolveError}
use Rattle.juniper_conversions.specs.declared.field_error.ResolveError.TheVariants.{Field, Memory}

abbrev pub trees_of : {N : Type 0} → List (Tree N) → Trees N
trees_of [] = no_trees
trees_of (t ∷ ts) = tree t (trees_of ts)

-- one level, with each answer inside already seen
abbrev pub tree_step : {N S : Type 0} → (S → Shown) → Resolved-F N S (Tree N) → Tree N
tree_step shown Resolved-F.Null = spec.nothing
tree_step shown (Resolved-F.Scalar s) = spec.leaf (shown s)
tree_step shown (Resolved-F.List v) = spec.items (trees_of v.items)
tree_step shown (Resolved-F.Node n) = spec.node n

abbrev pub view_resolved : {N S : Type 0} → (S → Shown) → Resolved N S → Tree N
view_resolved {N} {S} shown = fold-Resolved N S (Tree N) (tree_step shown)

abbrev pub FailsWith : {N S : Type 0} → (S → Shown) → ResolveError S → Reply N → Type 0
FailsWith shown (Field e) reply = reply ≡ failed (view_error shown e)
FailsWith shown Memory reply = Unit {0}

-- a resolver's answer is this reply, but where memory was refused
abbrev pub Answers : {N S : Type 0} → (S → Shown) → Result (Resolved N S) (ResolveError S) → Reply N → Type 0
Answers shown (Ok r) reply = reply ≡ answered (view_resolved shown r)
Answers shown (Err e) reply = FailsWith shown e reply

-- one answer for each node, in their order, and each is this reply of its node, but where memory was refused
abbrev pub AllAnswer : {M N S : Type 0} → (S → Shown) → (M → Reply N) → List M → List (Result (Resolved N S) (ResolveError S)) → Type 0
AllAnswer shown reply [] [] = Unit {0}
AllAnswer shown reply (m ∷ ms) (a ∷ answers) = Answers shown a (reply m) × AllAnswer shown reply ms answers
AllAnswer shown reply ms answers = ⊥
