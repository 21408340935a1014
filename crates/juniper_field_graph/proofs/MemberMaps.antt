-- Members that stand in the order of their keys are the same where each key has the same (3.10).
use Rattle.std.proofs.Common.{◌≡◌, Bool, true, false, ◌&&◌, Option, Some, None, Ordering, Less, Equal, Greater, bytes_eq, refl, sym, ap, ◌∙◌, subst}
use Rattle.std.specs.Ordering.{match_ordering, ordering_reverse}
use Rattle.std.proofs.lemmas.Bool.{and_parts, and_from, both_ways}
use Rattle.std.proofs.lemmas.Cmp.{nat_list_cmp_total, tied_itself}
use Rattle.graphql_spec.specs.Shown.{Name}
use Rattle.graphql_spec.specs.Constants.{Constant, Members, no_members, member, insert, find, same_constant, same_members}
use Rattle.graphql_spec.proofs.Lists.{same_refl, same_true}
use Rattle.graphql_spec.proofs.Members.{order, one_text}

-- ## Sorted members

same_text : (xs : Name) → order xs xs ≡ Equal
same_text xs = tied_itself nat_list_cmp_total xs

flipped : (k l : Name) (o : Ordering) → order k l ≡ o → order l k ≡ ordering_reverse o
flipped k l o h = nat_list_cmp_total.antisymm l k ∙ ap ordering_reverse h

unfoldable pub Above : Name → Members → Type 0
Above k no_members = Unit {0}
Above k (member l v ms) = (order k l ≡ Less) × Above k ms

unfoldable pub Sorted : Members → Type 0
Sorted no_members = Unit {0}
Sorted (member k v ms) = Above k ms × Sorted ms

above-lower : (k l : Name) (ms : Members) → order k l ≡ Less → Above l ms → Above k ms
unfolding Above
above-lower k l no_members e a = tt
above-lower k l (member m v ms) e a = (nat_list_cmp_total.trans k l m e a.0, above-lower k l ms e a.1)

insert-above : (j k : Name) (v : Constant) (ms : Members) → order j k ≡ Less → Above j ms → Above j (insert k v ms)
unfolding Above insert
insert-above j k v no_members e a = (e, tt)
insert-above j k v (member l w ms) e a = go (order k l) (insert-above j k v ms e a.1)
  where
    go : (o : Ordering) → Above j (insert k v ms) → Above j (match_ordering o (member k v (member l w ms)) (member l v ms) (member l w (insert k v ms)))
    go Less again = (e, a)
    go Equal again = (a.0, a.1)
    go Greater again = (a.0, again)

pub insert-sorted : (k : Name) (v : Constant) (ms : Members) → Sorted ms → Sorted (insert k v ms)
unfolding Above Sorted insert
insert-sorted k v no_members s = (tt, tt)
insert-sorted k v (member l w ms) s = go (order k l) refl (insert-sorted k v ms s.1)
  where
    go : (o : Ordering) → order k l ≡ o → Sorted (insert k v ms) →
        Sorted (match_ordering o (member k v (member l w ms)) (member l v ms) (member l w (insert k v ms)))
    go Less e again = ((e, above-lower k l ms e s.0), s)
    go Equal e again = s
    go Greater e again = (insert-above l k v ms (flipped k l Greater e) s.0, again)

-- ## What is found

find-head : (k : Name) (v : Constant) (ms : Members) → find k (member k v ms) ≡ Some v
unfolding find
find-head k v ms = rw (same_text k) refl

find-past : (q k : Name) (v : Constant) (ms : Members) → (order q k ≡ Equal → ⊥) → find q (member k v ms) ≡ find q ms
unfolding find
find-past q k v ms apart = go (order q k) refl
  where
    go : (o : Ordering) → order q k ≡ o → match_ordering o (find q ms) (Some v) (find q ms) ≡ find q ms
    go Less e = refl
    go Equal e = absurd (apart e)
    go Greater e = refl

less-not-equal : (q k : Name) → order q k ≡ Less → order q k ≡ Equal → ⊥
less-not-equal q k e f = let g : Less ≡ Equal = sym e ∙ f in cc

find-above : (k : Name) (ms : Members) → Above k ms → find k ms ≡ None
unfolding Above find
find-above k no_members a = refl
find-above k (member l v ms) a = rw (a.0) (find-above k ms a.1)

pub find-insert-other : (q k : Name) (v : Constant) (ms : Members) → (order q k ≡ Equal → ⊥) → find q (insert k v ms) ≡ find q ms
unfolding insert find
find-insert-other q k v no_members apart = find-past q k v no_members apart
find-insert-other q k v (member l w ms) apart = go (order k l) refl (find-insert-other q k v ms apart)
  where
    go : (o : Ordering) → order k l ≡ o → find q (insert k v ms) ≡ find q ms →
        find q (match_ordering o (member k v (member l w ms)) (member l v ms) (member l w (insert k v ms))) ≡ find q (member l w ms)
    go Less e again = find-past q k v (member l w ms) apart
    go Equal e again =
        let other : order q l ≡ Equal → ⊥ = subst (λ z. order q z ≡ Equal → ⊥) (one_text k l e) apart in
        find-past q l v ms other ∙ sym (find-past q l w ms other)
    go Greater e again = ap (λ z. match_ordering (order q l) z (Some w) z) again

-- ## Members are the same where each name has the same

unfoldable pub same_maybe : Option Constant → Option Constant → Bool
same_maybe None None = true
same_maybe (Some u) (Some v) = same_constant u v
same_maybe _ _ = false

pub same-find : (us vs : Members) → same_members us vs ≡ true → (q : Name) → same_maybe (find q us) (find q vs) ≡ true
unfolding same_maybe find same_constant
same-find no_members no_members e q = refl
same-find no_members (member l v vs) e q = absurd (both_ways false refl e)
same-find (member k u us) no_members e q = absurd (both_ways false refl e)
same-find (member k u us) (member l v vs) e q =
    let a = and_parts (bytes_eq k l) (same_constant u v && same_members us vs) e in
    let b = and_parts (same_constant u v) (same_members us vs) a.1 in
    subst (λ z. same_maybe (find q (member k u us)) (find q (member z v vs)) ≡ true) (same_true k l a.0) (go (order q k) b.0 (same-find us vs b.1 q))
  where
    go : (o : Ordering) → same_constant u v ≡ true → same_maybe (find q us) (find q vs) ≡ true →
        same_maybe (match_ordering o (find q us) (Some u) (find q us)) (match_ordering o (find q vs) (Some v) (find q vs)) ≡ true
    go Less c d = d
    go Equal c d = c
    go Greater c d = d

abbrev pub AllSame : Members → Members → Type 0
AllSame us vs = (q : Name) → same_maybe (find q us) (find q vs) ≡ true

one-missing : (o p : Option Constant) (v : Constant) → same_maybe o p ≡ true → o ≡ None → p ≡ Some v → ⊥
unfolding same_maybe
one-missing o p v e f g = let h : false ≡ true = rw (f, g) at e in cc

other-missing : (o p : Option Constant) (u : Constant) → same_maybe o p ≡ true → o ≡ Some u → p ≡ None → ⊥
unfolding same_maybe
other-missing o p u e f g = let h : false ≡ true = rw (f, g) at e in cc

both-there : (o p : Option Constant) (u v : Constant) → same_maybe o p ≡ true → o ≡ Some u → p ≡ Some v → same_constant u v ≡ true
unfolding same_maybe
both-there o p u v e f g = rw (f, g) at e

rest-same : (k : Name) (u v : Constant) (us vs : Members) → Above k us → Above k vs → AllSame (member k u us) (member k v vs) → AllSame us vs
unfolding same_maybe
rest-same k u v us vs a b same q = go (order q k) refl
  where
    go : (o : Ordering) → order q k ≡ o → same_maybe (find q us) (find q vs) ≡ true
    go Less e = rw (find-past q k u us (less-not-equal q k e), find-past q k v vs (less-not-equal q k e)) at (same q)
    go Equal e =
        let g : q ≡ k = one_text q k e in
        rw (ap (λ z. find z us) g ∙ find-above k us a, ap (λ z. find z vs) g ∙ find-above k vs b) refl
    go Greater e = let other : order q k ≡ Equal → ⊥ = λ f. (let g : Greater ≡ Equal = sym e ∙ f in cc) in
        rw (find-past q k u us other, find-past q k v vs other) at (same q)

pub all-same : (us vs : Members) → Sorted us → Sorted vs → AllSame us vs → same_members us vs ≡ true
unfolding Sorted Above same_constant
all-same no_members no_members s t same = refl
all-same no_members (member l v vs) s t same =
    absurd (one-missing (find l no_members) (find l (member l v vs)) v (same l) (find-above l no_members tt) (find-head l v vs))
all-same (member k u us) no_members s t same =
    absurd (other-missing (find k (member k u us)) (find k no_members) u (same k) (find-head k u us) (find-above k no_members tt))
all-same (member k u us) (member l v vs) s t same = go (order k l) refl (all-same us vs s.1 t.1)
  where
    go : (o : Ordering) → order k l ≡ o → (AllSame us vs → same_members us vs ≡ true) → (bytes_eq k l && (same_constant u v && same_members us vs)) ≡ true
    go Less e again = absurd (other-missing (find k (member k u us)) (find k (member l v vs)) u (same k) (find-head k u us)
        (find-above k (member l v vs) (e, above-lower k l vs e t.0)))
    go Greater e again = let f = flipped k l Greater e in absurd (one-missing (find l (member k u us)) (find l (member l v vs)) v (same l)
        (find-above l (member k u us) (f, above-lower l k us f s.0)) (find-head l v vs))
    go Equal e again =
        let key : k ≡ l = one_text k l e in
        let same' : AllSame (member k u us) (member k v vs) = subst (λ z. AllSame (member k u us) (member z v vs)) (sym key) same in
        let above : Above k vs = subst (λ z. Above z vs) (sym key) t.0 in
        and_from (bytes_eq k l) (same_constant u v && same_members us vs) (subst (λ z. bytes_eq k z ≡ true) key (same_refl k))
        (and_from (same_constant u v) (same_members us vs) (both-there (find k (member k u us)) (find k (member k v vs)) u v (same' k) (find-head k u us)
        (find-head k v vs))
        (again (rest-same k u v us vs s.0 above same')))
