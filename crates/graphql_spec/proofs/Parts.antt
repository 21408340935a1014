-- What is selected in two parts: failures and nulls of whole selections.
use Rattle.std.proofs.Common.{◌≡◌, ◌+◌, ℕ, Bool, List, ◌++◌, refl, ap, ◌∙◌, inl, inr, subst}
use Rattle.graphql_spec.specs.Shown.{Name}
use Rattle.graphql_spec.specs.Errors.{Place}
use Rattle.graphql_spec.specs.Selections.{Forest, end, field, under, chain, depth, Occurrence, occurrences}
use Rattle.graphql_spec.specs.Resolvers.{World}
use Rattle.graphql_spec.specs.Failures.{failures, failures_of}
use Rattle.graphql_spec.specs.Nulls.{nulls, nulls_of}
use Rattle.graphql_spec.specs.Laws.{In, Agree, Pair}
use Rattle.graphql_spec.proofs.Lists.{occurrences-chain}
use Rattle.graphql_spec.proofs.Grouping.{in_first, in_second}
use Rattle.graphql_spec.proofs.Depth.{Fits, fits-occurrences, failures-deep, nulls-deep}
use Rattle.graphql_spec.proofs.Failing.{tally, adds}
use Rattle.graphql_spec.proofs.Nulls.{In2, nulls_split}

pub chain-end : (s : Forest) → chain s end ≡ s
unfolding chain
chain-end end = refl
chain-end (field h below rest) = ap (field h below) (chain-end rest)
chain-end (under c below rest) = ap (under c below) (chain-end rest)

module _ {N : Type 0} (W : World N) where
  module _ (T : Name) (s u : Forest) where
    abbrev whole : ℕ
    whole = depth (chain s u)

    abbrev os : List Occurrence
    os = occurrences W.possible T s

    abbrev ps : List Occurrence
    ps = occurrences W.possible T u

    both : occurrences W.possible T (chain s u) ≡ os ++ ps
    both = occurrences-chain W.possible T s u

    fits : Fits whole (os ++ ps)
    fits = subst (λ z. Fits whole z) both (fits-occurrences W.possible T (chain s u))

    fits-one : Fits whole os
    fits-one o i = fits o (in_first o os ps i)

    fits-other : Fits whole ps
    fits-other o i = fits o (in_second o os ps i)

    module _ (c : (d : ℕ) → Agree W d T (occurrences W.possible T (chain s u))) where
      agree : Agree W whole T (os ++ ps)
      agree = subst (λ z. Agree W whole T z) both (c whole)

      -- what fails of both fails of the one and of the other
      pub failures-join : (P : Pair → Bool) (here above : Place) (m : N) → tally P (failures_of W here above T m (chain s u)) ≡ tally P
          (failures_of W here above T m s) + tally P (failures_of W here above T m u)
      unfolding failures_of
      failures-join P here above m = ap (λ z. tally P (failures W whole here above T m z)) both
          ∙ (adds W P whole here above T m os ps agree
          ∙ (ap (λ z. tally P z + tally P (failures W whole here above T m ps)) (failures-deep W whole (depth s) here above T m os fits-one
          (fits-occurrences W.possible T s))
          ∙ ap (λ z. tally P (failures W (depth s) here above T m os) + tally P z)
          (failures-deep W whole (depth u) here above T m ps fits-other (fits-occurrences W.possible T u))))

      -- a null that stands for a failure does so in the one or the other
      pub nulls-join : (here : Place) (m : N) (p : Place) → In p (nulls_of W here T m (chain s u)) → In2 p (nulls_of W here T m s) (nulls_of W here T m u)
      unfolding nulls_of
      nulls-join here m p i = elim (nulls_split W whole here T m os ps agree p (subst (λ z. In p (nulls W whole here T m z)) both i)) [
        | inl j ↦ inl (subst (λ z. In p z) (nulls-deep W whole (depth s) here T m os fits-one (fits-occurrences W.possible T s)) j)
        | inr j ↦ inr (subst (λ z. In p z) (nulls-deep W whole (depth u) here T m ps fits-other (fits-occurrences W.possible T u)) j)
      ]
