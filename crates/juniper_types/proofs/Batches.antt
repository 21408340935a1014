-- Answers for many nodes, one behind the other.
use Rattle.std.proofs.Common.{◌≡◌, ◌≤◌, ◌<◌, ◌++◌, ◌+◌, ℕ, List, [], ◌∷◌, length, get_or, take, map, sym, ap, ◌∙◌, subst}
use Rattle.std.proofs.lemmas.List.{map-append, take_all, take_more}
use Rattle.std.specs.Prelude.{Result}
use Rattle.graphql_spec.specs.Resolvers.{Reply}
use Rattle.graphql_spec.specs.Shown.{Shown}
use Rattle.juniper_conversions.specs.declared.field_error.ResolveError.{ResolveError}
use Rattle.juniper_values.specs.ResolvedView.{AllAnswer, Answers}
use Rattle.juniper_values.specs.declared.resolved.Resolved.{Resolved}

module _ {M N S : Type 0} (shown : S → Shown) (reply : M → Reply N) where
  answers-behind : (ms : List M) (answers : List (Result (Resolved N S) (ResolveError S))) (m : M) (a : Result (Resolved N S) (ResolveError S)) →
      AllAnswer shown reply ms answers → Answers shown a (reply m) → AllAnswer shown reply (ms ++ m ∷ []) (answers ++ a ∷ [])
  answers-behind [] [] m a all one = (one, record {})
  answers-behind [] (b ∷ answers) m a all one = absurd all
  answers-behind (n ∷ ms) [] m a all one = absurd all
  answers-behind (n ∷ ms) (b ∷ answers) m a all one = (all.0, answers-behind ms answers m a all.1 one)

  -- one more of the nodes that are seen so
  pub answers-more : {X : Type 0} (seen : X → M) (xs : List X) (k : ℕ) (x : X) (old new : List (Result (Resolved N S) (ResolveError S)))
      (a : Result (Resolved N S) (ResolveError S)) → k < length xs → x ≡ get_or xs k x → new ≡ old ++ a ∷ [] → Answers shown a (reply (seen x)) →
      AllAnswer shown reply (map seen (take k xs)) old → AllAnswer shown reply (map seen (take (k + 1) xs)) new
  answers-more seen xs k x old new a low is e one all =
      subst (λ ms. AllAnswer shown reply ms new)
      (sym (ap (map seen) (take_more xs k x low) ∙ (map-append seen (take k xs) (get_or xs k x ∷ [])
      ∙ ap (λ y. map seen (take k xs) ++ seen y ∷ []) (sym is))))
      (subst (λ l. AllAnswer shown reply (map seen (take k xs) ++ seen x ∷ []) l) (sym e)
      (answers-behind (map seen (take k xs)) old (seen x) a all one))

  -- all of them
  pub answers-whole : {X : Type 0} (seen : X → M) (xs : List X) (k : ℕ) (answers : List (Result (Resolved N S) (ResolveError S))) → length xs ≤ k →
      AllAnswer shown reply (map seen (take k xs)) answers → AllAnswer shown reply (map seen xs) answers
  answers-whole seen xs k answers all is = subst (λ l. AllAnswer shown reply (map seen l) answers) (take_all k xs all) is

module _ {L M N S X : Type 0} (shown : S → Shown) (reply : L → Reply N) (found : M → L) (seen : X → M) where
  -- where something is found for each node, and replied
  pub answers-found : (xs : List X) (answers : List (Result (Resolved N S) (ResolveError S))) →
      AllAnswer shown reply (map (λ x. found (seen x)) xs) answers → AllAnswer shown (λ m. reply (found m)) (map seen xs) answers
  answers-found [] [] all = all
  answers-found [] (a ∷ answers) all = all
  answers-found (x ∷ xs) [] all = all
  answers-found (x ∷ xs) (a ∷ answers) all = (all.0, answers-found xs answers all.1)
