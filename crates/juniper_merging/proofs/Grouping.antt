-- What a map of groups has at the number of a response key.
use Rattle.std.specs.Prelude.{ℕ, cond, List, [], ◌≡◌, Option, Vec, nat_eq}
use Rattle.std.specs.Map.{lookup}
use Rattle.std.specs.HashMap.{HashMap, get_by}
use Rattle.std.specs.HashMap as hash
use Rattle.std.specs.declared.alloc.Global.{Global}
use Rattle.std.proofs.lemmas.Bool.{cases_Bool}
use Rattle.std.proofs.Common.{refl, ap, ◌∙◌, inl, inr}
use Rattle.juniper_merging.proofs.Numbers.{same-number}
use Rattle.juniper_merging.specs.Groups.{group_in, numbers_of}

pub group-found : {H : Type 0} (m : HashMap ℕ (Vec ℕ Global) H) (k : ℕ) (o : Option (Vec ℕ Global)) → o ≡ get_by (nat_eq k) m → numbers_of o ≡ group_in m k
unfolding group_in
group-found m k o e = ap numbers_of e

pub group-put : {H : Type 0} (m n : HashMap ℕ (Vec ℕ Global) H) (key : ℕ) (w : Option (Vec ℕ Global)) → hash.UpdatesBy nat_eq (nat_eq key) m n w →
    (k : ℕ) → group_in n k ≡ cond (nat_eq key k) (numbers_of w) (group_in m k)
unfolding group_in
group-put m n key w u k = ap numbers_of (u.0 k) ∙ elim (cases_Bool (nat_eq key k)) [ inl q ↦ rw q refl | inr q ↦ rw q refl ]

-- an empty map has no groups
pub empty-groups : {H : Type 0} (m : HashMap ℕ (Vec ℕ Global) H) → m.entries ≡ [] → (k : ℕ) → group_in m k ≡ []
unfolding group_in numbers_of
empty-groups m none k = ap (λ es. numbers_of (lookup (nat_eq k) es)) none

-- what was taken out and put back, with another list
pub put-back : (old mid new : ℕ → List ℕ) (key : ℕ) (group : List ℕ) → ((k : ℕ) → mid k ≡ cond (nat_eq key k) [] (old k)) →
    ((k : ℕ) → new k ≡ cond (nat_eq key k) group (mid k)) → (k : ℕ) → new k ≡ cond (nat_eq key k) group (old k)
put-back old mid new key group taken put k = put k ∙ elim (cases_Bool (nat_eq key k)) [
  | inl q ↦ rw q refl
  | inr q ↦ rw q (taken k ∙ rw q refl)
]

-- with the same list nothing changes
pub put-same : (old mid new : ℕ → List ℕ) (key : ℕ) → ((k : ℕ) → mid k ≡ cond (nat_eq key k) [] (old k)) →
    ((k : ℕ) → new k ≡ cond (nat_eq key k) (old key) (mid k)) → (k : ℕ) → new k ≡ old k
put-same old mid new key taken put k = put-back old mid new key (old key) taken put k ∙ elim (cases_Bool (nat_eq key k)) [
  | inl q ↦ rw q (ap old (same-number key k q))
  | inr q ↦ rw q refl
]
