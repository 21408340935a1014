-- What requests are executed with, as code has it (6.1); only private clauses cite this.
use Rattle.std.specs.Prelude.{ℕ, Bool, List, Result}
use Rattle.std.specs.declared.cmp.PartialEq.{Ghosts as Equality}
use Rattle.std.specs.declared.fmt.Debug.{Ghosts as Shows}
use Rattle.graphql_spec.specs.Inputs.{Variables}
use Rattle.graphql_spec.specs.Mutation.{Mutation}
use Rattle.graphql_spec.specs.Outcomes.{Steps}
use Rattle.graphql_spec.specs.Resolvers.{World}
use Rattle.graphql_spec.specs.Schema.{Schema}
use Rattle.graphql_spec.specs.Shown.{Shown}
use Rattle.juniper_conversions.specs.declared.execution_error.ExecutionError.{ExecutionError}
use Rattle.juniper_execute.specs.Meanings.{Meaning, mutation_at, world_at}
use Rattle.juniper_execute.specs.RootFields.{all_fields, selected_in, values_in}
use Rattle.juniper_execute.specs.Stepping.{RunsGroup, RunsGroups}
use Rattle.juniper_execute.specs.Walkings.{starts_by}
use Rattle.juniper_execute.specs.declared.node_resolver.NodeTypes.{Ghosts as Nodes}
use Rattle.juniper_execute.specs.declared.question.Question.{Question}
use Rattle.juniper_execute.specs.declared.root_walk.RootWalk.{RootWalk}
use Rattle.juniper_execute.specs.declared.served.Served.{Served}
use Rattle.juniper_schema.specs.SchemaView.{view_schema}
use Rattle.juniper_syntax.specs.declared.scalar.ScalarValue.{Ghosts as Scalars}
use Rattle.juniper_syntax.specs.declared.value.Object.{Object}
use Rattle.juniper_walk.specs.Plans.{key_at}
use Rattle.juniper_walk.specs.Walking.{SelectionsAgree}
use Rattle.juniper_walk.specs.declared.plan.Plan.{Plan}
use Rattle.juniper_walk.specs.declared.walked.Walked.{Walked}

module _ {R S C N : Type 0} {nodes : Nodes R S C N} {scalar : Scalars S} {equality : Equality S} {shows : Shows S} where
  -- the schema
  abbrev pub schema_of : (S → Shown) → Served R S C N nodes scalar equality shows → Schema
  schema_of shown r = view_schema shown r.schema.now

  module _ (meaning : R → Meaning C N) (shown : S → Shown) (r : Served R S C N nodes scalar equality shows) where
    -- all that an execution in one context asks, for the values of variables (6.4)
    abbrev pub served_world : Variables → C → World N
    served_world vars c = world_at (meaning r.resolver.now) (schema_of shown r) vars c

    -- the root of a mutation with these steps, for the values of variables (6.2.2)
    abbrev pub mutation_root : Steps C N → Variables → Mutation C N
    mutation_root steps vars = mutation_at (meaning r.resolver.now) (schema_of shown r) vars steps

    -- the same of the walk over its root fields
    abbrev pub mutation_in : {M : Type 0} → (M → Steps C N) → RootWalk M S → Mutation C N
    mutation_in steps w = mutation_root (steps w.steps.now) (values_in shown w)

    module _ {M : Type 0} (steps : M → Steps C N) (w : RootWalk M S) where
      -- to every depth its root fields agree, whatever the context, as those of a valid operation do
      abbrev pub RootAgrees : Type 0
      RootAgrees = (c : C) → SelectionsAgree ((mutation_in steps w).world c) w.concrete.now (selected_in shown w)

      -- the root group of a number ran, or memory was wanting in it
      abbrev pub RunsRootGroup : {E : Type 0} → Plan S (Question S) → ℕ → C → Object S → List (ExecutionError S) → Result Bool E → Object S →
          List (ExecutionError S) → C → Type 0
      RunsRootGroup p i before entries errors result put_in listed after = RunsGroup shown (mutation_in steps w) w.concrete.now (starts_by r.walking)
          (key_at p i) (all_fields shown w (schema_of shown r)) before entries errors result put_in listed after

      -- all of its root groups ran, up to and with the first whose null rises, or memory was wanting in one
      abbrev pub RunsRoot : {E : Type 0} → C → Result (Walked S) E → C → Type 0
      RunsRoot before result after = RunsGroups shown (mutation_in steps w) w.concrete.now (starts_by r.walking) (all_fields shown w (schema_of shown r))
          before result after
