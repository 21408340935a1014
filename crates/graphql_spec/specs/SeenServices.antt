-- Services whose nodes are seen as others: a request has the same outcome (6.1).
use Rattle.std.specs.Prelude.{Bool, ◌≡◌, Option, option_map}
use Rattle.graphql_spec.specs.Shown.{Name}
use Rattle.graphql_spec.specs.Inputs.{Variables}
use Rattle.graphql_spec.specs.Constants.{Members}
use Rattle.graphql_spec.specs.Schema.{Schema}
use Rattle.graphql_spec.specs.Errors.{Place}
use Rattle.graphql_spec.specs.Resolvers.{Reply, world_of}
use Rattle.graphql_spec.specs.Mutation.{Mutation}
use Rattle.graphql_spec.specs.Requests.{Outcome}
use Rattle.graphql_spec.specs.Outcomes.{Request, Response, Service, Steps, IsOutcome, IsOutcomeOf}
use Rattle.graphql_spec.specs.SeenNodes.{map_reply}

-- steps that leave the same contexts, and reply alike with the nodes that theirs are seen as
unfoldable pub seen_steps : {C M N : Type 0} → (M → N) → Steps C M → Steps C N
seen_steps h m = record { step = λ c f args. ((m.step c f args).0, map_reply h (m.step c f args).1); torn = m.torn }

-- the mutation of these steps, completed by these replies
unfoldable pub mutation_of : {C N : Type 0} → Schema → Variables → (C → N → Name) → (C → N → Name → Members → Reply N) → Steps C N → Mutation C N
mutation_of s vars concrete answer m = record { world = λ c. world_of s vars (concrete c) (answer c); step = m.step; torn = m.torn }

-- a service by its parts
abbrev pub service : {C N : Type 0} → Schema → Bool → (C → N → Name) → (C → N → Name → Members → Reply N) → N → Option (Steps C N) → Service C N
service s disabled concrete answer root m =
    record { schema = s; introspection_disabled = disabled; concrete = concrete; answer = answer; root = root; mutation = m }

-- Where nodes are seen as others of the same types, and reply alike to each field in each context, so do the steps' replies: what is
-- an outcome with these nodes is an outcome with those.
abbrev pub SeenOutcomes : Type 0 → Type 0 → Type 0 → Type 0
SeenOutcomes C M N = (s : Schema) (disabled : Bool) (h : M → N) (concrete : C → M → Name) (answer : C → M → Name → Members → Reply M)
    (concrete' : C → N → Name) (answer' : C → N → Name → Members → Reply N) → ((c : C) (m : M) → concrete c m ≡ concrete' c (h m)) →
    ((c : C) (m : M) (f : Name) (args : Members) → map_reply h (answer c m f args) ≡ answer' c (h m) f args) → (root : M) (steps : Option (Steps C M)) →
    let V : Service C M = service s disabled concrete answer root steps in
    let W : Service C N = service s disabled concrete' answer' (h root) (option_map (seen_steps h) steps) in
    (tell : Place → Place) → ((q : Request) (c : C) (r : Response) (after : C) → IsOutcome V tell q c r after → IsOutcome W tell q c r after)
    × ((x : Outcome) (c : C) (r : Response) (after : C) → IsOutcomeOf V tell x c r after → IsOutcomeOf W tell x c r after)
