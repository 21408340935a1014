-- Which name is nearest, name by name.
use Rattle.std.proofs.Common.{◌≡◌, ℕ, arith, ◌+◌, true, false, cond, nat_lt, List, [], ◌∷◌, length, ◌/◌, Option, Some, None, refl, sym, ap, ◌∙◌}
use Rattle.std.specs.Option.{option_or}
use Rattle.std.proofs.lemmas.Bool.{le-ltb}
use Rattle.graphql_spec.specs.Shown.{Name}
use Rattle.juniper_explain.specs.Nearest.{bound_of, distance, nearest, suggested}

or-twice : {A : Type 0} (o : Option A) (k : A) (best : Option A) → option_or (option_or o (Some k)) best ≡ option_or o (Some k)
or-twice None k best = refl
or-twice (Some x) k best = refl

or-none : {A : Type 0} (o : Option A) → option_or o None ≡ o
or-none None = refl
or-none (Some x) = refl

pub first-near : (n : Name) (bound : ℕ) (ks : List Name) → option_or (nearest n bound ks) None ≡ nearest n bound ks
first-near n bound ks = or-none (nearest n bound ks)

pub closer : (n : Name) (bound d : ℕ) (k : Name) (ks : List Name) (best : Option Name) → d ≡ distance n k → nat_lt d bound ≡ true →
    option_or (nearest n d ks) (Some k) ≡ option_or (nearest n bound (k ∷ ks)) best
unfolding nearest
closer n bound d k ks best is below =
    let test : nat_lt (distance n k) bound ≡ true = ap (λ e. nat_lt e bound) (sym is) ∙ below in
    ap (λ e. option_or (nearest n e ks) (Some k)) is
    ∙ (sym (or-twice (nearest n (distance n k) ks) k best)
    ∙ ap (λ b. option_or (cond b (option_or (nearest n (distance n k) ks) (Some k)) (nearest n bound ks)) best) (sym test))

pub farther : (n : Name) (bound d : ℕ) (k : Name) (ks : List Name) (best : Option Name) → d ≡ distance n k → nat_lt d bound ≡ false →
    option_or (nearest n bound ks) best ≡ option_or (nearest n bound (k ∷ ks)) best
unfolding nearest
farther n bound d k ks best is above =
    let test : nat_lt (distance n k) bound ≡ false = ap (λ e. nat_lt e bound) (sym is) ∙ above in
    ap (λ b. option_or (cond b (option_or (nearest n (distance n k) ks) (Some k)) (nearest n bound ks)) best) (sym test)

below-nothing : (d : ℕ) → nat_lt d 0 ≡ false
below-nothing d = le-ltb d 0 (omega arith)

-- nothing is nearer than not at all
pub none-near : (n : Name) (ks : List Name) → nearest n 0 ks ≡ None
unfolding nearest
none-near n [] = refl
none-near n (k ∷ ks) = ap (λ b. cond b (option_or (nearest n (distance n k) ks) (Some k)) (nearest n 0 ks)) (below-nothing (distance n k)) ∙ none-near n ks

pub too-long : (n : Name) (ks : List Name) → nat_lt 64 (length n) ≡ true → None ≡ suggested n ks
unfolding suggested bound_of
too-long n ks long = sym (ap (λ b. nearest n (cond b 0 (length n / 3 + 2)) ks) long ∙ none-near n ks)

pub long-enough : (n : Name) (bound : ℕ) (ks : List Name) → nat_lt 64 (length n) ≡ false → bound ≡ length n / 3 + 2 → nearest n bound ks ≡ suggested n ks
unfolding suggested bound_of
long-enough n bound ks short is = ap (λ b. nearest n b ks) is ∙ sym (ap (λ b. nearest n (cond b 0 (length n / 3 + 2)) ks) short)
