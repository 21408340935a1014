-- What requests are executed with, by the parts of a root (6.1).
use Rattle.std.specs.Prelude.{Bool, option_map}
use Rattle.graphql_spec.specs.Shown.{Name}
use Rattle.graphql_spec.specs.Constants.{Members}
use Rattle.graphql_spec.specs.Schema.{Schema}
use Rattle.graphql_spec.specs.Resolvers.{Reply}
use Rattle.graphql_spec.specs.Outcomes.{Service, Steps}
use Rattle.graphql_spec.specs.SeenNodes.{map_reply}
use Rattle.juniper_intro.specs.HandleView.{of_user}
use Rattle.juniper_intro.specs.declared.node.RootedNode.{RootedNode}
use Rattle.juniper_execute.specs.Meanings.{Meaning}

module _ {Q I C N : Type 0} (concrete : Q → I → C → N → Name) (answer : Q → I → C → N → Name → Members → Reply N) where
  -- a resolver with its info over a schema, and the steps of the mutation type, if the schema has one (6.2)
  abbrev pub service_in : (Q → N) → Q → I → Steps C N → Schema → Bool → Service C N
  service_in root q i m s disabled = record {
    schema = s;
    introspection_disabled = disabled;
    concrete = λ c. concrete q i c;
    answer = λ c. answer q i c;
    root = root q;
    mutation = option_map (λ (T : Name). m) s.mutation;
  }

-- the steps of a mutation's resolver with its info (6.2.2)
abbrev pub steps_at : {M J C N : Type 0} → (M → J → C → Name → Members → C × Reply N) → (M → J → C → Name → Members → C → Bool) → M → J → Steps C N
steps_at step torn m j = record { step = step m j; torn = torn m j }

-- ## Only private clauses cite what follows

-- the same with a root's nodes in place of the user's
abbrev pub rooted_steps : {M J C N : Type 0} → (M → J → C → Name → Members → C × Reply N) → (M → J → C → Name → Members → C → Bool) → M → J →
    Steps C (RootedNode N)
rooted_steps step torn m j = record { step = λ c f args. ((step m j c f args).0, map_reply of_user (step m j c f args).1); torn = torn m j }

-- what a resolver with its info means
abbrev pub meaning_of : {Q I C N : Type 0} → (Q → I → C → N → Name) → (Q → I → C → N → Name → Members → Reply N) → Q → I → Meaning C N
meaning_of concrete answer q i = record { concrete = concrete q i; answer = answer q i }

-- what requests are executed with, by what resolvers mean and the steps of the mutation, over a schema and with a root's node (6.2)
abbrev pub service_at : {C N : Type 0} → Meaning C N → Steps C N → N → Schema → Bool → Service C N
service_at m steps n s disabled = record {
  schema = s;
  introspection_disabled = disabled;
  concrete = m.concrete;
  answer = m.answer;
  root = n;
  mutation = option_map (λ (T : Name). steps) s.mutation;
}
