-- Numbers that are compared.
use Rattle.std.specs.Prelude.{ℕ, true, ◌≡◌, nat_eq}
use Rattle.std.proofs.Common.{rules}

pub itself : (n : ℕ) → nat_eq n n ≡ true
itself n = search rules

pub same-number : (m n : ℕ) → nat_eq m n ≡ true → m ≡ n
same-number m n e = search rules
