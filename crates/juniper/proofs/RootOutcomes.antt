-- What is an outcome with the nodes that code holds is one with the nodes that they are seen as.
use Rattle.std.proofs.Common.{◌≡◌, ◌<◌, ℕ, Bool, true, Option, Some, None, option_map, refl, ap, ap₂, subst}
use Rattle.graphql_spec.proofs.SeenNodes.{selects-any}
use Rattle.graphql_spec.proofs.SeenServices.{seen_outcomes}
use Rattle.graphql_spec.specs.Constants.{Members}
use Rattle.graphql_spec.specs.Documents.{OperationType, query, mutation, subscription}
use Rattle.graphql_spec.specs.ExactAnswers.{whole}
use Rattle.graphql_spec.specs.Inputs.{Variables}
use Rattle.graphql_spec.specs.Introspection as rooted
use Rattle.graphql_spec.specs.Introspection.{rooted_answer, rooted_concrete, rooted_service}
use Rattle.graphql_spec.specs.Outcomes.{Response, Service, Steps, out_of_memory, refuses, responds}
use Rattle.graphql_spec.specs.Requests.{Outcome, selected}
use Rattle.graphql_spec.specs.Resolvers.{Reply}
use Rattle.graphql_spec.specs.Schema.{Schema}
use Rattle.graphql_spec.specs.Selections.{Forest}
use Rattle.graphql_spec.specs.SeenServices.{mutation_of, seen_steps, service}
use Rattle.graphql_spec.specs.Shown.{Name}
use Rattle.juniper_intro.specs.RootLaws.{RepliesAreSeen, TypesAreSeen, UsersAreSeen}
use Rattle.juniper_intro.specs.declared.node.RootedNode.{RootedNode}
use Rattle.juniper_walk.proofs.SeenEntered.{entered_alike}
use Rattle.juniper_execute.proofs.SeenEntered.{run-seen}
use Rattle.juniper.specs.Budgets.{EntersMore, IsRunOver}
use Rattle.juniper.specs.Services.{rooted_steps, service_in, steps_at}
use Rattle.juniper.specs.WalkedOutcomes.{IsWalkedOutcome, ListsBy}
use Rattle.juniper_execute.specs.declared.walking.Walking.{Walking}
use Rattle.juniper_execute.specs.declared.walking.Walking.TheVariants.{Grouped, Joined}
use Rattle.juniper.proofs.SeenFailures.{firsts-seen}

-- steps whose replies are a root's nodes are seen as the user's
steps-seen : {M J C N : Type 0} (sees : RootedNode N → rooted.RootedNode N) → UsersAreSeen sees →
    (step : M → J → C → Name → Members → C × Reply N) (torn : M → J → C → Name → Members → C → Bool) (m : M) (j : J) (o : Option Name) →
    option_map (seen_steps sees) (option_map (λ (T : Name). rooted_steps step torn m j) o)
    ≡ option_map (seen_steps rooted.user) (option_map (λ (T : Name). steps_at step torn m j) o)
unfolding seen_steps
steps-seen sees users step torn m j None = refl
steps-seen sees users step torn m j (Some T) =
    ap Some (λ k. record { step = λ c f args. ((step m j c f args).0, users (step m j c f args).1 k); torn = torn m j })

module _ {Q M C N I J : Type 0} (concrete : Q → I → C → N → Name) (answer : Q → I → C → N → Name → Members → Reply N) (root : Q → N)
    (step : M → J → C → Name → Members → C × Reply N) (torn : M → J → C → Name → Members → C → Bool)
    (held_concrete : I → C → RootedNode N → Name) (held_answer : I → C → RootedNode N → Name → Members → Reply (RootedNode N)) (top : RootedNode N)
    (sees : RootedNode N → rooted.RootedNode N) (q : Q) where
  -- a root as a resolver, with the steps of its mutation
  abbrev pub held_service : Schema → Bool → I → M → J → Service C (RootedNode N)
  held_service s disabled i m j =
      service s disabled (held_concrete i) (held_answer i) top (option_map (λ (T : Name). rooted_steps step torn m j) s.mutation)

  -- the user's resolvers, with introspection
  abbrev pub seen_service : Schema → Bool → I → M → J → Service C (rooted.RootedNode N)
  seen_service s disabled i m j = rooted_service (service_in concrete answer root q i (steps_at step torn m j) s disabled)

  module _ (s : Schema) (types : TypesAreSeen sees (root q) (concrete q) held_concrete) (replies : RepliesAreSeen sees (root q) s (answer q) held_answer)
      (is_root : sees top ≡ rooted.root) (users : UsersAreSeen sees) where
    -- the steps of a mutation whose replies are a root's nodes
    abbrev held_steps : M → J → Option (Steps C (RootedNode N))
    held_steps m j = option_map (λ (T : Name). rooted_steps step torn m j) s.mutation

    abbrev seen_by : Bool → I → M → J → Service C (rooted.RootedNode N)
    seen_by disabled i m j = service s disabled (λ d. rooted_concrete (root q) (concrete q i d)) (λ d. rooted_answer (root q) s (answer q i d)) (sees top)
        (option_map (seen_steps sees) (held_steps m j))

    lists-seen : (w : Walking) (disabled : Bool) (i : I) (m : M) (j : J) (y : Outcome) (c : C) (x : Response) →
        ListsBy (held_service s disabled i m j) w y c x → ListsBy (seen_by disabled i m j) w y c x
    lists-seen w disabled i m j y c (refuses r) l = tt
    lists-seen Grouped disabled i m j y c (responds v es) l =
        firsts-seen s sees (held_concrete i) (held_answer i) (λ d. rooted_concrete (root q) (concrete q i d))
        (λ d. rooted_answer (root q) s (answer q i d)) (types i) (replies i) disabled top (held_steps m j) (λ z. z ≡ y) c (responds v es) l
    lists-seen Joined disabled i m j y c (responds v es) l = tt
    lists-seen w disabled i m j y c out_of_memory l = tt

    pub outcome-seen : (w : Walking) (disabled : Bool) (i : I) (m : M) (j : J) (y : Outcome) (c : C) (x : Response) (after : C) →
        IsWalkedOutcome (held_service s disabled i m j) w y c x after → IsWalkedOutcome (seen_service s disabled i m j) w y c x after
    unfolding rooted_service
    outcome-seen w disabled i m j y c x after o =
        let seen = (seen_outcomes s disabled sees (held_concrete i) (held_answer i) (λ d. rooted_concrete (root q) (concrete q i d))
        (λ d. rooted_answer (root q) s (answer q i d)) (types i) (replies i) top (held_steps m j) whole).1 y c x after o.0 in
        subst (λ (V : Service C (rooted.RootedNode N)). IsWalkedOutcome V w y c x after)
        (ap₂ (λ (t : rooted.RootedNode N) (z : Option (Steps C (rooted.RootedNode N))). service s disabled
        (λ d. rooted_concrete (root q) (concrete q i d)) (λ d. rooted_answer (root q) s (answer q i d)) t z)
        is_root (steps-seen sees users step torn m j s.mutation)) (seen, o.1, lists-seen w disabled i m j y c x o.2)

    -- the same where the parts of the root come by other names
    pub outcome-moved : (w : Walking) (disabled : Bool) (i : I) (m : M) (j : J) (x : Schema) (h : I) (n : M) (k : J) (t : RootedNode N) → x ≡ s → h ≡ i →
        n ≡ m → k ≡ j → t ≡ top → (y : Schema → Outcome) (c : C) (z : Response) (after : C) →
        IsWalkedOutcome (service x disabled (held_concrete h) (held_answer h) t (option_map (λ (T : Name). rooted_steps step torn n k) x.mutation)) w (y x)
        c z after → IsWalkedOutcome (seen_service s disabled i m j) w (y s) c z after
    outcome-moved w disabled i m j x h n k t ex eh en ek et y c z after o =
        outcome-seen w disabled i m j (y s) c z after
        (subst (λ v. IsWalkedOutcome (held_service s disabled i m v) w (y s) c z after) ek
        (subst (λ v. IsWalkedOutcome (held_service s disabled i v k) w (y s) c z after) en
        (subst (λ v. IsWalkedOutcome (held_service s disabled v n k) w (y s) c z after) eh
        (subst (λ v. IsWalkedOutcome (held_service v disabled h n k) w (y v) c z after) ex
        (subst (λ v. IsWalkedOutcome (service x disabled (held_concrete h) (held_answer h) v
        (option_map (λ (T : Name). rooted_steps step torn n k) x.mutation)) w (y x) c z after) et o)))))

    -- what an operation of a kind enters
    enters-seen : (disabled : Bool) (i : I) (m : M) (j : J) (kind : OperationType) (vars : Variables) (f : Forest) (c : C) (n : ℕ) →
        EntersMore (held_service s disabled i m j) kind vars f c n → EntersMore (seen_by disabled i m j) kind vars f c n
    unfolding mutation_of
    enters-seen disabled i m j query vars f c n less =
        let same = entered_alike s vars sees (λ g. true) (held_concrete i c) (held_answer i c) (rooted_concrete (root q) (concrete q i c))
        (rooted_answer (root q) s (answer q i c)) (types i c) (λ x g args y. replies i c x g args) s.query top f (selects-any f) in
        subst (λ (k : ℕ). n < k) same less
    enters-seen disabled i m j mutation vars f c n (k, T, (has, at), less) = (
      seen_steps sees k,
      T,
      (ap (option_map (seen_steps sees)) has, at),
      subst (λ (z : ℕ). n < z) (run-seen s vars sees (held_concrete i) (held_answer i) (λ d. rooted_concrete (root q) (concrete q i d))
          (λ d. rooted_answer (root q) s (answer q i d)) (types i) (replies i) k T f c) less,
    )
    enters-seen disabled i m j subscription vars f c n x = x

    over-seen : (disabled : Bool) (i : I) (m : M) (j : J) (y : Outcome) (c : C) (n : ℕ) → IsRunOver (held_service s disabled i m j) y c n →
        IsRunOver (seen_service s disabled i m j) y c n
    unfolding rooted_service
    over-seen disabled i m j y c n (d, o, vars, is, more) =
        subst (λ (V : Service C (rooted.RootedNode N)). IsRunOver V y c n)
        (ap₂ (λ (t : rooted.RootedNode N) (z : Option (Steps C (rooted.RootedNode N))). service s disabled
        (λ d. rooted_concrete (root q) (concrete q i d)) (λ d. rooted_answer (root q) s (answer q i d)) t z)
        is_root (steps-seen sees users step torn m j s.mutation)) (d, o, vars, is, enters-seen disabled i m j o.kind vars (selected d o vars) c n more)

    -- the same where the parts of the root come by other names
    pub over-moved : (disabled : Bool) (i : I) (m : M) (j : J) (x : Schema) (h : I) (n : M) (k : J) (t : RootedNode N) → x ≡ s → h ≡ i →
        n ≡ m → k ≡ j → t ≡ top → (y : Schema → Outcome) (c : C) (z : ℕ) →
        IsRunOver (service x disabled (held_concrete h) (held_answer h) t (option_map (λ (T : Name). rooted_steps step torn n k) x.mutation)) (y x) c z →
        IsRunOver (seen_service s disabled i m j) (y s) c z
    over-moved disabled i m j x h n k t ex eh en ek et y c z o =
        over-seen disabled i m j (y s) c z
        (subst (λ v. IsRunOver (held_service s disabled i m v) (y s) c z) ek
        (subst (λ v. IsRunOver (held_service s disabled i v k) (y s) c z) en
        (subst (λ v. IsRunOver (held_service s disabled v n k) (y s) c z) eh
        (subst (λ v. IsRunOver (held_service v disabled h n k) (y v) c z) ex
        (subst (λ v. IsRunOver (service x disabled (held_concrete h) (held_answer h) v
        (option_map (λ (T : Name). rooted_steps step torn n k) x.mutation)) (y x) c z) et o)))))
