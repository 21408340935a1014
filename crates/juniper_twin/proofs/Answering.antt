-- What was walked of a request and then sorted is an answer to it.
use Rattle.std.proofs.Common.{◌≡◌, ◌≤◌, Bool, List, [], IsTrue, sym, subst}
use Rattle.graphql_spec.specs.Shown.{Name}
use Rattle.graphql_spec.specs.Values.{Value}
use Rattle.graphql_spec.specs.Errors.{Place, Listed, is_sorted}
use Rattle.graphql_spec.specs.ExactAnswers.{whole}
use Rattle.graphql_spec.specs.Selections.{Forest, Occurrence, depth, occurrences}
use Rattle.graphql_spec.specs.Resolvers.{World}
use Rattle.graphql_spec.specs.Walk.{IsAnswerFor, count_listed}
use Rattle.graphql_spec.proofs.FieldWalks.{walk-answers}
use Rattle.graphql_spec.specs.Walks.{IsWalked}
use Rattle.juniper_walk.specs.Walking.{AllAgree, SelectionsAgree}
use Rattle.juniper_twin.specs.Walking.{IsWalkedThrough, deepest}
use Rattle.juniper_twin.proofs.Depths.{deepest-of}

module _ {N : Type 0} (W : World N) (s : Forest) (n : N) (T : Name) where
  pub root-agrees : (os : List Occurrence) → os ≡ occurrences W.possible T s → SelectionsAgree W T s → AllAgree W T os
  root-agrees os is agree = subst (λ l. AllAgree W T l) (sym is) agree

  pub walk-is-answer : (at : Place) (os : List Occurrence) (v : Value) (es ds : List Listed) → at ≡ [] → os ≡ occurrences W.possible T s →
      IsWalkedThrough W at T n os v es →
      ((p : Listed → Bool) → count_listed p ds ≡ count_listed p es) → IsTrue (is_sorted ds) → IsAnswerFor whole W T n s v ds
  walk-is-answer at os v es ds top is walked counted sorted =
      let deep : deepest os ≤ depth s = subst (λ l. deepest l ≤ depth s) (sym is) (deepest-of W.possible T s) in
      let here = subst (λ p. IsWalked whole W (depth s) p [] T n os v es) top (walked.walked (depth s) deep []) in
      walk-answers whole W T n s v es ds (subst (λ l. IsWalked whole W (depth s) [] [] T n l v es) is here) counted sorted
