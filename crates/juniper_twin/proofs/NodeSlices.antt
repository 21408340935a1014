-- The nodes of an answer, one of them and all.
use Rattle.std.proofs.Common.{◌≡◌, ℕ, zero, suc, ◌+◌, ◌<◌, ◌≤◌, List, [], ◌∷◌, ◌++◌, length, get_or, take, drop, map, sym, ap, ◌∙◌, inl, inr, subst, arith}
use Rattle.std.proofs.lemmas.List.{take_more, take_all, take-append-drop, map-append}
use Rattle.graphql_spec.specs.Shown.{Name}
use Rattle.graphql_spec.specs.Errors.{Listed}
use Rattle.graphql_spec.specs.Values.{Value, Entries}
use Rattle.graphql_spec.specs.Selections.{Forest, depth, Occurrence, occurrences}
use Rattle.graphql_spec.specs.Resolvers.{World}
use Rattle.graphql_spec.specs.Laws.{In}
use Rattle.std.specs.Prelude.{Bool}
use Rattle.graphql_spec.specs.Skeletons.{Spot, Skeleton}
use Rattle.juniper_syntax.proofs.Lists.{seen-last, seen-left-is}
use Rattle.juniper_walk.specs.Walking.{AllAgree}
use Rattle.juniper_twin.specs.Walking.{AreAllWalked, AreReached, IsAdded, deepest}
use Rattle.juniper_twin.proofs.Depths.{deepest-of}

module _ {N : Type 0} (W : World N) where
  pub nodes-at : (s : Forest) (ns ms : List (Spot N)) (vs : List Value) (es : List Listed) → ns ≡ ms → AreAllWalked W s ns vs es → AreAllWalked W s ms vs es
  nodes-at s ns ms vs es f a = subst (λ x. AreAllWalked W s x vs es) f a

  pub reached-at : (s : Forest) (ns ms : List (Spot N)) → ms ≡ ns → AreReached W ns s → AreReached W ms s
  reached-at s ns ms e a = subst (λ x. AreReached W x s) (sym e) a

  -- the fields that selections hold for a node agree, and are nested less deep
  pub agree-at : (s : Forest) (ns : List (Spot N)) (x : Spot N) (T : Name) (os : List Occurrence) → AreReached W ns s → In x ns → T ≡ W.concrete x.what →
      os ≡ occurrences W.possible T s → AllAgree W T os
  agree-at s ns x T os agree i named is = subst (λ l. AllAgree W T l) (sym is) (subst (λ U. AllAgree W U (occurrences W.possible U s)) (sym named) (agree x i))

  pub shallow-at : (s : Forest) (T : Name) (os : List Occurrence) → os ≡ occurrences W.possible T s → deepest os ≤ depth s
  shallow-at s T os is = subst (λ l. deepest l ≤ depth s) (sym is) (deepest-of W.possible T s)

pub added-for : (k j : Name) (r : Bool) (s : Skeleton) (vs : List Value) (more : List Listed) (rises : Bool) (es made : Entries) (errors all : List Listed) →
    k ≡ j → IsAdded k r s vs more rises es made errors all → IsAdded j r s vs more rises es made errors all
added-for k j r s vs more rises es made errors all e a = subst (λ i. IsAdded i r s vs more rises es made errors all) e a
