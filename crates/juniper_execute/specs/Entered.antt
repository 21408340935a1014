-- How many fields a mutation enters at most: its root fields, and those below each under the context that its step leaves, whatever a null takes away
-- (6.2.2).
use Rattle.std.specs.Prelude.{ℕ, ◌+◌, List, [], ◌∷◌}
use Rattle.graphql_spec.specs.Execution.{type_of}
use Rattle.graphql_spec.specs.Mutation.{Mutation, root_fields, step_of}
use Rattle.graphql_spec.specs.Selections.{Forest, Occurrence, all_below, keys, with_key}
use Rattle.graphql_spec.specs.Shown.{Name}
use Rattle.graphql_spec.specs.Skeletons.{reply_node_spots}
use Rattle.juniper_walk.specs.Entered.{entered_nodes, own_fields}

module _ {C N : Type 0} (M : Mutation C N) (T : Name) where
  -- below the occurrences of one response key, whose step begins in this context
  unfoldable pub entered_group : C → List Occurrence → ℕ
  entered_group c os = entered_nodes (M.world (step_of M T c os).0) (all_below os)
      (reply_node_spots (M.world (step_of M T c os).0) [] (type_of (M.world (step_of M T c os).0) T os) (step_of M T c os).1)

  -- below these response keys, one after the other
  unfoldable pub entered_groups : List Name → List Occurrence → C → ℕ
  entered_groups [] os c = 0
  entered_groups (k ∷ ks) os c = entered_group c (with_key k os) + entered_groups ks os (step_of M T c (with_key k os)).0

  -- all that the selections s of the root enter
  unfoldable pub entered_run : Forest → C → ℕ
  entered_run s c = own_fields (M.world c).possible T s + entered_groups (keys (root_fields M T s c)) (root_fields M T s c) c
