-- What resolvers mean, and what requests ask of them (6.2.2, 6.4).
use Rattle.std.specs.Prelude.{Bool, true, false, [], ◌∷◌}
use Rattle.graphql_spec.specs.Constants.{Members}
use Rattle.graphql_spec.specs.Inputs.{Variables}
use Rattle.graphql_spec.specs.Mutation.{Mutation}
use Rattle.graphql_spec.specs.Outcomes.{Steps}
use Rattle.graphql_spec.specs.Resolvers.{Reply, World, world_of}
use Rattle.graphql_spec.specs.Schema.{Schema}
use Rattle.graphql_spec.specs.Shown.{Name}
use Rattle.graphql_spec.specs.Types.{TypeRef, named, list_of}

-- what the resolvers of nodes mean
pub record Meaning (C N : Type 0) : Type 0 where
  -- the object type of a node (ResolveAbstractType, 6.4.3)
  pub concrete : C → N → Name
  -- the reply to a field of a node (ResolveFieldValue, 6.4.2)
  pub answer : C → N → Name → Members → Reply N

module _ {C N : Type 0} (m : Meaning C N) (s : Schema) (vars : Variables) where
  -- all that an execution in one context asks (6.4)
  abbrev pub world_at : C → World N
  world_at c = world_of s vars (m.concrete c) (m.answer c)

  -- the mutation root, for these steps (6.2.2)
  abbrev pub mutation_at : Steps C N → Mutation C N
  mutation_at steps = record { world = world_at; step = steps.step; torn = steps.torn }

-- the type that stands for that of a field which is not declared: nullable, and without a name
unfoldable pub is_undeclared : TypeRef → Bool
is_undeclared (named false []) = true
is_undeclared (named false (x ∷ xs)) = false
is_undeclared (named true n) = false
is_undeclared (list_of r size t) = false
