-- Names that were looked for.
use Rattle.std.proofs.Common.{◌≡◌, ℕ, Bor, IfSome, List, Option, Some, subst}

-- a name that was found is the one that was looked for
pub named-so : (r : Option (Bor (List ℕ))) (found : Bor (List ℕ)) (name : List ℕ) → r ≡ Some found → IfSome r (λ n. n.now ≡ name) → found.now ≡ name
named-so r found name is p = subst (λ o. IfSome o (λ n. n.now ≡ name)) is p
