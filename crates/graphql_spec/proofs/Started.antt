-- each failure has an occurrence of its field
use Rattle.std.specs.Prelude.{ℕ, true, false, List, [], ◌∷◌, ◌++◌, ◌≡◌, cond, zero, suc, map}
use Rattle.std.proofs.lemmas.Bool.{cases_Bool}
use Rattle.std.proofs.Common.{refl, sym, ap, ◌∙◌, inl, inr}
use Rattle.graphql_spec.specs.Positions.{Position}
use Rattle.graphql_spec.specs.Shown.{Name}
use Rattle.graphql_spec.specs.Selections.{Occurrence, depth, occurrences, keys, with_key, all_below}
use Rattle.graphql_spec.specs.Errors.{key, index, Place}
use Rattle.graphql_spec.specs.Types.{TypeRef, named, list_of, required}
use Rattle.graphql_spec.specs.Failures.{landing, Failure, starts_of, faults, all_faults, reply_faults, key_failures, failures, failures_of}
use Rattle.graphql_spec.specs.Resolvers.{Tree, nothing, leaf, items, node, Trees, no_trees, tree, Reply, answered, failed, World}
use Rattle.graphql_spec.specs.Execution.{type_of, reply_of}
use Rattle.graphql_spec.specs.Laws.{In, pair_at, pairs, FailuresHavePairs}
use Rattle.graphql_spec.proofs.Lists.{with_key-known}
use Rattle.graphql_spec.proofs.Grouping.{in_append}
use Rattle.graphql_spec.proofs.Nulls.{in_flat_map}

abbrev pub Started : List Failure → Type 0
Started fs = (g : Failure) → In g fs → g.starts ≡ [] → ⊥

pub no_pairs : (fs : List Failure) → Started fs → pairs fs ≡ [] → fs ≡ []
unfolding pairs
no_pairs [] s e = refl
no_pairs (f ∷ fs) s e = absurd (s f (inl refl) (none_mapped f.starts e))
  where
    none_mapped : (xs : List Position) → map (pair_at f) xs ++ pairs fs ≡ [] → xs ≡ []
    none_mapped [] q = refl
    none_mapped (x ∷ xs) q = cc

module _ {N : Type 0} (W : World N) (at : Place → Place → Name → N → List Failure) (inside : (place to : Place) (U : Name) (n : N) → Started (at place to U n))
    (starts : List Position) (some : starts ≡ [] → ⊥) where
  alone : (f : Failure) → f.starts ≡ starts → Started (f ∷ [])
  alone f e g (inl q) z = some (sym e ∙ (sym (ap (λ x. x.starts) q) ∙ z))
  alone f e g (inr q) z = absurd q

  mutual
    unfolding faults required landing

    faults-started : (here above : Place) (t : TypeRef) (a : Tree N) → Started (faults W at here starts above t a)
    faults-started here above (named true n) nothing g i = alone _ refl g i
    faults-started here above (named false n) nothing g i = absurd i
    faults-started here above (list_of true size n) nothing g i = alone _ refl g i
    faults-started here above (list_of false size n) nothing g i = absurd i
    faults-started here above (named r n) (leaf x) g i = elim (cases_Bool (W.accepts n x)) [ inl q ↦ absurd (rw q at i) | inr q ↦ alone _ refl g (rw q at i) ]
    faults-started here above (named r n) (node m) g i = elim (cases_Bool (W.possible (W.concrete m) n)) [
      | inl q ↦ inside here (cond r above here) (W.concrete m) m g (rw q at i)
      | inr q ↦ alone _ refl g (rw q at i)
    ]
    faults-started here above (named r n) (items ts) g i = alone _ refl g i
    faults-started here above (list_of r size t) (leaf x) g i = alone _ refl g i
    faults-started here above (list_of r size t) (node m) g i = alone _ refl g i
    faults-started here above (list_of r size t) (items ts) g i = items-started here 0 (cond r above here) t ts g i

    items-started : (here : Place) (n : ℕ) (above : Place) (t : TypeRef) (ts : Trees N) → Started (all_faults W at here n starts above t ts)
    items-started here n above t no_trees g i = absurd i
    items-started here n above t (tree a rest) g i =
        elim (in_append g (faults W at (here ++ index n ∷ []) starts above t a) (all_faults W at here (suc n) starts above t rest) i) [
          | inl j ↦ faults-started (here ++ index n ∷ []) above t a g j
          | inr j ↦ items-started here (suc n) above t rest g j
        ]

  pub reply-started : (here above : Place) (t : TypeRef) (r : Reply N) → Started (reply_faults W at here starts above t r)
  unfolding reply_faults
  reply-started here above t (answered a) = faults-started here above t a
  reply-started here above t (failed e) = alone _ refl

module _ {N : Type 0} (W : World N) where
  pub started : (d : ℕ) (here above : Place) (T : Name) (m : N) (os : List Occurrence) → Started (failures W d here above T m os)
  unfolding failures key_failures starts_of
  started zero here above T m os g i = absurd i
  started (suc d) here above T m os g i =
      let r = in_flat_map g (λ k. key_failures W (failures W d) (here ++ key k ∷ []) above T m (with_key k os)) (keys os) i in
      let xs : List Occurrence = with_key r.0 os in
      let more = with_key-known r.0 os r.1 in
      reply-started W (λ place to U n. failures W d place to U n (occurrences W.possible U (all_below xs)))
      (λ place to U n. started d place to U n (occurrences W.possible U (all_below xs))) (starts_of xs)
      (λ e. let z = ap starts_of more.2 in let w = sym z ∙ e in cc) (here ++ key r.0 ∷ []) above (type_of W T xs) (reply_of W T m xs) g r.2

  pub failures_have_pairs : FailuresHavePairs W
  unfolding failures_of
  failures_have_pairs here above T m s =
      no_pairs (failures W (depth s) here above T m (occurrences W.possible T s)) (started (depth s) here above T m (occurrences W.possible T s))
