-- A mutation whose nodes are seen as others enters as many fields (6.2.2).
use Rattle.std.proofs.Common.{◌≡◌, ◌+◌, ℕ, true, List, [], ◌∷◌, refl, sym, ap, ap₂, ◌∙◌, inl, inr}
use Rattle.std.proofs.lemmas.Bool.{cases_Bool}
use Rattle.std.specs.Str.{bytes_eq}
use Rattle.graphql_spec.specs.Constants.{Members}
use Rattle.graphql_spec.specs.Execution.{type_of}
use Rattle.graphql_spec.specs.Fields.{is_possible, typename}
use Rattle.graphql_spec.specs.Inputs.{Variables}
use Rattle.graphql_spec.specs.Mutation.{Mutation, root_fields, step_of}
use Rattle.graphql_spec.specs.Outcomes.{Steps}
use Rattle.graphql_spec.specs.Resolvers.{Reply, world_of}
use Rattle.graphql_spec.specs.Schema.{Schema}
use Rattle.graphql_spec.specs.SeenNodes.{map_reply, map_tree}
use Rattle.graphql_spec.specs.SeenServices.{mutation_of, seen_steps}
use Rattle.graphql_spec.specs.Selections.{Forest, Occurrence, all_below, keys, with_key}
use Rattle.graphql_spec.specs.Shown.{Name}
use Rattle.graphql_spec.specs.Skeletons.{reply_node_spots}
use Rattle.graphql_spec.proofs.SeenNodes.{selects-any}
use Rattle.juniper_walk.specs.Entered.{entered_nodes, own_fields}
use Rattle.juniper_walk.proofs.SeenEntered.{nodes-seen}
use Rattle.juniper_execute.specs.Entered.{entered_group, entered_groups, entered_run}

module _ {C M N : Type 0} (s : Schema) (vars : Variables) (h : M → N) (concrete : C → M → Name) (answer : C → M → Name → Members → Reply M)
    (concrete' : C → N → Name) (answer' : C → N → Name → Members → Reply N) (same_type : (c : C) (m : M) → concrete c m ≡ concrete' c (h m))
    (same_reply : (c : C) (m : M) (f : Name) (args : Members) → map_reply h (answer c m f args) ≡ answer' c (h m) f args)
    (steps : Steps C M) (T : Name) where
  abbrev V : Mutation C M
  V = mutation_of s vars concrete answer steps

  abbrev W : Mutation C N
  W = mutation_of s vars concrete' answer' (seen_steps h steps)

  step-seen : (c : C) (os : List Occurrence) → step_of W T c os ≡ ((step_of V T c os).0, map_reply h (step_of V T c os).1)
  unfolding step_of mutation_of seen_steps map_reply map_tree world_of
  step-seen c [] = refl
  step-seen c (o ∷ os) = elim (cases_Bool (bytes_eq o.head.name.item typename)) [ inl q ↦ rw q refl | inr q ↦ rw q refl ]

  type-seen : (c : C) (os : List Occurrence) → type_of (V.world c) T os ≡ type_of (W.world c) T os
  unfolding type_of mutation_of world_of
  type-seen c [] = refl
  type-seen c (o ∷ os) = refl

  -- below one response key
  group-seen : (c : C) (os : List Occurrence) → entered_group V T c os ≡ entered_group W T c os
  unfolding entered_group mutation_of
  group-seen c os =
      let c' : C = (step_of V T c os).0 in
      let r : Reply M = (step_of V T c os).1 in
      let below : Forest = all_below os in
      let one : entered_nodes (V.world c') below (reply_node_spots (V.world c') [] (type_of (V.world c') T os) r)
      ≡ entered_nodes (W.world c') below (reply_node_spots (W.world c') [] (type_of (V.world c') T os) (map_reply h r))
      = nodes-seen s vars h (concrete c') (answer c') (concrete' c') (answer' c') (same_type c') (λ f. true) (λ m f args x. same_reply c' m f args) []
      (type_of (V.world c') T os) r below (selects-any below) in
      let two : entered_nodes (W.world c') below (reply_node_spots (W.world c') [] (type_of (V.world c') T os) (map_reply h r))
      ≡ entered_nodes (W.world c') below (reply_node_spots (W.world c') [] (type_of (W.world c') T os) (map_reply h r))
      = ap (λ t. entered_nodes (W.world c') below (reply_node_spots (W.world c') [] t (map_reply h r))) (type-seen c' os) in
      let three : entered_nodes (W.world c') below (reply_node_spots (W.world c') [] (type_of (W.world c') T os) (map_reply h r)) ≡ entered_group W T c os
      = ap (λ (x : C × Reply N). entered_nodes (W.world x.0) below (reply_node_spots (W.world x.0) [] (type_of (W.world x.0) T os) x.1))
      (sym (step-seen c os)) in
      one ∙ (two ∙ three)

  groups-seen : (ks : List Name) (os : List Occurrence) (c : C) → entered_groups V T ks os c ≡ entered_groups W T ks os c
  unfolding entered_groups
  groups-seen [] os c = refl
  groups-seen (k ∷ ks) os c =
      let next : (step_of V T c (with_key k os)).0 ≡ (step_of W T c (with_key k os)).0 = ap (λ (x : C × Reply N). x.0) (sym (step-seen c (with_key k os))) in
      ap₂ (λ (a b : ℕ). a + b) (group-seen c (with_key k os))
      (groups-seen ks os (step_of V T c (with_key k os)).0 ∙ ap (entered_groups W T ks os) next)

  -- all of it
  pub run-seen : (f : Forest) (c : C) → entered_run V T f c ≡ entered_run W T f c
  unfolding entered_run mutation_of world_of
  run-seen f c = ap (λ (n : ℕ). own_fields (is_possible s) T f + n) (groups-seen (keys (root_fields V T f c)) (root_fields V T f c) c)
