-- What is asked of the nodes of a list for the occurrences of a response key (6.4.2).
use Rattle.std.specs.Prelude.{◌≡◌, Bool, true, false, List, [], ◌∷◌, Option, Some, None, string_bytes}
use Rattle.graphql_spec.specs.Resolvers.{Reply}
use Rattle.graphql_spec.specs.Shown.{Shown}
use Rattle.graphql_spec.specs.Types.{TypeRef}
use Rattle.juniper_values.specs.ResolvedView.{Answers}
use Rattle.juniper_syntax.specs.TypeView.{view_type}
use Rattle.juniper_walk.specs.declared.asking.Asked.{Asked}

-- those that are picked, in order
unfoldable pub picked : {A : Type 0} → List Bool → List A → List A
picked [] xs = []
picked (b ∷ bs) [] = []
picked (true ∷ bs) (x ∷ xs) = x ∷ picked bs xs
picked (false ∷ bs) (x ∷ xs) = picked bs xs

-- the first of them, if there is one
unfoldable pub first_in : {A : Type 0} → List A → Option A
first_in [] = None
first_in (x ∷ xs) = Some x

module _ {N S : Type 0} (shown : S → Shown) (t : TypeRef) (reply : N → Reply N) where
  -- what was asked of a node
  pub record IsAskedAbout (m : N) (a : Asked N S) : Type 0 where
    pub declared : view_type (λ n. string_bytes n) a.declared.now ≡ t
    pub answer : Answers shown a.answer (reply m)
