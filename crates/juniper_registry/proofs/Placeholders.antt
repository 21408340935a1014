-- Placeholders that are added, and declarations that take their place.
use Rattle.std.proofs.Common.{◌≡◌, ℕ, Bool, true, false, cond, is_some, Option, Some, None, Result, Ok, Err, OnOk, OnErr, bytes_eq, refl, sym, ap, subst, ◌∙◌}
use Rattle.std.proofs.Common.{inl, inr}
use Rattle.std.proofs.lemmas.Bool.{cases_Bool}
use Rattle.graphql_spec.specs.Shown.{Name}
use Rattle.graphql_spec.specs.Schema.{Entry, placeholder}
use Rattle.graphql_spec.specs.Fields.{or_else}
use Rattle.graphql_spec.specs.Types.{TypeRef, named, list_of, innermost, nullable}
use Rattle.graphql_spec.proofs.Lists.{same_true, same_refl}
use Rattle.juniper_meta.specs.MetaView.{Meta, entry_at, unnamed_meta, is_placeholder}
use Rattle.juniper_registry.specs.Referred.{referred}
use Rattle.juniper_registry.specs.Entries.{Table, awaited, is_declared, is_named, is_own, awaiting, awaiting_each, declaring, AddsAt, AddsPlaceholders}
use Rattle.juniper_registry.specs.Entries.{KeepsAdding, Awaits, IsRegistered}

-- ## One name

or_none : (o : Option Entry) → o ≡ or_else o None
unfolding or_else
or_none None = refl
or_none (Some e) = refl

kept_first : (o p : Option Entry) → is_some o ≡ true → o ≡ or_else o p
unfolding or_else
kept_first None p e = cc
kept_first (Some x) p e = refl

none_first : (o p : Option Entry) → is_some o ≡ false → p ≡ or_else o p
unfolding or_else
none_first None p e = refl
none_first (Some x) p e = cc

added : (o : Option Entry) (b : Bool) (n : Name) → AddsAt o (or_else o (cond b (Some (awaited n)) None)) n
unfolding or_else
added None true n = inr (refl, refl)
added None false n = inl refl
added (Some x) b n = inl refl

add_twice : (a b c : Option Entry) (n : Name) → AddsAt a b n → AddsAt b c n → AddsAt a c n
add_twice a b c n (inl p) (inl q) = inl (q ∙ p)
add_twice a b c n (inl p) (inr q) = inr (sym p ∙ q.0, q.1)
add_twice a b c n (inr p) (inl q) = inr (p.0, q ∙ p.1)
add_twice a b c n (inr p) (inr q) = cc

-- ## All names

-- a placeholder is not added where something stands
pub awaiting_there : (k : Name) (old : Table) → is_some (old k) ≡ true → (n : Name) → old n ≡ awaiting k old n
awaiting_there k old e n = elim (cases_Bool (bytes_eq n k)) [
  | inl y ↦ kept_first (old n) (cond (bytes_eq n k) (Some (awaited n)) None) (subst (λ m. is_some (old m) ≡ true) (sym (same_true n k y)) e)
  | inr f ↦ rw f (or_none (old n))
]

-- a placeholder that is put where nothing stands is added
pub awaiting_put : (k : Name) (old new : Table) → is_some (old k) ≡ false → ((n : Name) → new n ≡ declaring k (unnamed_meta placeholder) old n) → (n : Name) →
    new n ≡ awaiting k old n
awaiting_put k old new e h n = h n ∙ elim (cases_Bool (bytes_eq n k)) [
  | inl y ↦ rw y (none_first (old n) (Some (awaited n)) (subst (λ m. is_some (old m) ≡ false) (sym (same_true n k y)) e))
  | inr f ↦ rw f (or_none (old n))
]

pub adds_same : (old new : Table) → ((n : Name) → new n ≡ old n) → AddsPlaceholders old new
adds_same old new h = record { at = λ n. inl (h n) }

pub adds_awaiting : (k : Name) (old new : Table) → ((n : Name) → new n ≡ awaiting k old n) → AddsPlaceholders old new
adds_awaiting k old new h = record { at = λ n. subst (λ o. AddsAt (old n) o n) (sym (h n)) (added (old n) (bytes_eq n k) n) }

pub adds_then : (old mid new : Table) → AddsPlaceholders old mid → AddsPlaceholders mid new → AddsPlaceholders old new
adds_then old mid new g h = record { at = λ n. add_twice (old n) (mid n) (new n) n (g.at n) (h.at n) }

-- a declaration that is put once placeholders are added
pub registers : (k : Name) (m : Meta) (old mid new : Table) → is_declared (old k) ≡ false → ((n : Name) → mid n ≡ awaiting_each (referred m.shape) old n) →
    ((n : Name) → new n ≡ declaring k m mid n) → IsRegistered k m old new
registers k m old mid new d g h = record { free = d; held = λ n. h n ∙ ap (λ o. cond (bytes_eq n k) (Some (entry_at n m)) o) (g n) }

-- ## Each declaration stays at its own name

pub own_at : (n k : Name) (m : Meta) → bytes_eq n k ≡ true → m.name ≡ Some k → is_own (Some (entry_at n m)) ≡ true
own_at n k m y e = let s : is_named m.name n ≡ true = ap (λ o. is_named o n) e ∙ subst (λ z. bytes_eq k z ≡ true) (sym (same_true n k y)) (same_refl k) in
    elim (cases_Bool (is_placeholder m.shape)) [ inl p ↦ rw p refl | inr p ↦ rw (p, s) refl ]

pub own_placeholder : (n : Name) (m : Meta) → m ≡ unnamed_meta placeholder → is_own (Some (entry_at n m)) ≡ true
unfolding is_placeholder
own_placeholder n m e = rw e refl

-- ## Where memory may be refused

-- what is put where nothing stands is awaited
pub put_awaits : {A E : Type 0} (r : Result A E) (k : Name) (m : Meta) (old new : Table) → is_some (old k) ≡ false → m ≡ unnamed_meta placeholder →
    OnOk r ((n : Name) → new n ≡ declaring k m old n) → Awaits r k old new
put_awaits (Ok x) k m old new e p h = awaiting_put k old new e (λ n. subst (λ z. new n ≡ declaring k z old n) p (h n))
put_awaits (Err x) k m old new e p h = tt

-- what adds at most placeholders does so behind others too
pub keeps_adding : (old new : Table) → AddsPlaceholders old new → KeepsAdding old new
keeps_adding old new h = record { alone = h; behind = λ first a. adds_then first old new a h }

-- and nothing else is, also where memory is refused
pub put_keeps : {A E : Type 0} (r : Result A E) (k : Name) (old new : Table) → Awaits r k old new → OnErr r ((n : Name) → new n ≡ old n) → KeepsAdding old new
put_keeps (Ok x) k old new h g = keeps_adding old new (adds_awaiting k old new h)
put_keeps (Err x) k old new h g = keeps_adding old new (adds_same old new g)

-- what is put stands at its own name, as all else did
pub own_put : {A E : Type 0} (r : Result A E) (k : Name) (m : Meta) (old new : Table) → ((n : Name) → is_own (old n) ≡ true) →
    ((n : Name) → bytes_eq n k ≡ true → is_own (Some (entry_at n m)) ≡ true) → OnOk r ((n : Name) → new n ≡ declaring k m old n) →
    OnErr r ((n : Name) → new n ≡ old n) → (n : Name) → is_own (new n) ≡ true
own_put (Ok x) k m old new o s h g n = ap is_own (h n) ∙ elim (cases_Bool (bytes_eq n k)) [ inl y ↦ rw y (s n y) | inr f ↦ rw f (o n) ]
own_put (Err x) k m old new o s h g n = ap is_own (g n) ∙ o n

-- ## References

-- a nullable type has the same name inside
innermost_nullable : (t : TypeRef) → innermost t ≡ innermost (nullable t)
unfolding innermost nullable
innermost_nullable (named r n) = refl
innermost_nullable (list_of r size t) = refl

-- what awaits the name inside a type awaits that inside the nullable type
pub awaiting_nullable : (t : TypeRef) (old new : Table) → ((n : Name) → new n ≡ awaiting (innermost t) old n) → (n : Name) →
    new n ≡ awaiting (innermost (nullable t)) old n
awaiting_nullable t old new h n = h n ∙ ap (λ k. awaiting k old n) (innermost_nullable t)

-- what awaits the name inside a type awaits that inside a list of it
pub awaiting_list : (r : Bool) (size : Option ℕ) (t : TypeRef) (old new : Table) → ((n : Name) → new n ≡ awaiting (innermost t) old n) → (n : Name) →
    new n ≡ awaiting (innermost (list_of r size t)) old n
unfolding innermost
awaiting_list r size t old new h = h
