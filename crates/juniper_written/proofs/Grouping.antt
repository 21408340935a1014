-- Fragments in groups: each leads to its root, and the root to it; and numbers that never rise along spreads.
use Rattle.std.specs.Prelude.{ℕ, Bool, true, false, cond, List, [], ◌∷◌, Option, Some, None, ◌≡◌, ◌≤◌, ◌<◌, ◌⊎◌}
use Rattle.std.specs.List.{list_any}
use Rattle.std.specs.Option.{option_or}
use Rattle.std.specs.Str.{bytes_eq}
use Rattle.std.proofs.lemmas.Bool.{or_left, false_from_ne_true}
use Rattle.std.proofs.Common.{refl, sym, ap, ◌∙◌, inl, inr, subst, arith}
use Rattle.graphql_spec.specs.Shown.{Name}
use Rattle.graphql_spec.specs.Documents.{Fragment}
use Rattle.graphql_spec.specs.VariableUses.{is_reached}
use Rattle.juniper_written.specs.WrittenView.{named}
use Rattle.juniper_written.specs.declared.name_map.NameMap.{NameMap}
use Rattle.juniper_written.specs.SpreadsView.{AreGroups, LeadToRoot, has_root, rank_of}
use Rattle.juniper_written.specs.declared.groups.Root.{Root}
use Rattle.juniper_written.proofs.FragmentNames.{has, same, itself, true_false, only, name_where, next}
use Rattle.juniper_written.proofs.Searching.{carried, reached-next, reached-start}

-- ## What a map has

one-of : {A : Type 0} (o p : Option A) (x : A) → option_or o p ≡ Some x → (o ≡ Some x) ⊎ (p ≡ Some x)
one-of None p x e = inr e
one-of (Some y) p x e = inl e

only-if : {P A : Type 0} (b : Bool) (v x : A) → cond b (Some v) None ≡ Some x → (b ≡ true → v ≡ x → P) → P
only-if true v x e f = f refl (cc e)
only-if false v x e f = absurd (cc e)

-- of no entries anything holds
pub none-holds : {A : Type 0} (P : Name → A → Type 0) (m : Name → Option A) → ((k : Name) → m k ≡ None) → (k : Name) (x : A) → m k ≡ Some x → P k x
none-holds P m none k x e = absurd (let n = none k in cc (e, n))

-- what holds of each entry holds with one more
pub put-holds : {A : Type 0} (P : Name → A → Type 0) (old now : Name → Option A) (j : Name) (v : A) →
    ((k : Name) → now k ≡ option_or (old k) (cond (bytes_eq k j) (Some v) None)) → ((k : Name) (x : A) → old k ≡ Some x → P k x) → P j v →
    (k : Name) (x : A) → now k ≡ Some x → P k x
put-holds P old now j v is all one k x e = elim (one-of (old k) (cond (bytes_eq k j) (Some v) None) x (sym (is k) ∙ e)) [
  | inl q ↦ all k x q
  | inr q ↦ only-if (bytes_eq k j) v x q (λ s t. subst (λ y. P k y) t (subst (λ i. P i v) (sym (same k j s)) one))
]

-- the root that was found
rooted : (r : Name) (o : Option Root) → has_root r o ≡ true → (x : Root) × (o ≡ Some x) × (x.name.now ≡ r)
unfolding has_root
rooted r None e = true_false false e refl
rooted r (Some x) e = (x, refl, same x.name.now r e)

-- ## What leads to what

module _ (fs : List Fragment) where
  pub leads-itself : (k : Name) → is_reached fs (k ∷ []) k ≡ true
  leads-itself k = reached-start fs (k ∷ []) k (or_left (bytes_eq k k) false (itself k))

  pub leads-over : (ks : List Name) (i n : Name) → is_reached fs ks i ≡ true → is_reached fs (i ∷ []) n ≡ true → is_reached fs ks n ≡ true
  leads-over ks i n e f =
      carried fs (λ k. is_reached fs ks k ≡ true) (λ k s j h. reached-next fs ks k j s h) (i ∷ [])
      (λ k h. subst (λ j. is_reached fs ks j ≡ true) (sym (only k i h)) e) n f

  module _ (m : NameMap Root) where
    -- one that spreads one of a root's group leads to the root
    pub leads-back : LeadToRoot m fs → (k r : Name) → list_any (λ i. has_root r (named m i)) (next fs k) ≡ true → is_reached fs (k ∷ []) r ≡ true
    leads-back back k r e =
        let i = name_where (λ i. has_root r (named m i)) (next fs k) e in
        let x = rooted r (named m i.0) i.2 in
        leads-over (k ∷ []) i.0 r (reached-next fs (k ∷ []) k i.0 (leads-itself k) i.1) (subst (λ j. is_reached fs (i.0 ∷ []) j ≡ true) x.2 (back i.0 x.0 x.1))

    -- one of the same group leads there
    pub told-true : AreGroups m fs → (ks : List Name) (n : Name) (x : Root) → named m n ≡ Some x →
        list_any (λ k. has_root x.name.now (named m k)) ks ≡ true → true ≡ is_reached fs ks n
    told-true g ks n x is e =
        let i = name_where (λ k. has_root x.name.now (named m k)) ks e in
        let y = rooted x.name.now (named m i.0) i.2 in
        let back = subst (λ j. is_reached fs (i.0 ∷ []) j ≡ true) y.2 (g.back i.0 y.0 y.1) in
        sym (leads-over ks i.0 n (reached-start fs ks i.0 i.1) (leads-over (i.0 ∷ []) x.name.now n back (g.onward n x is)))

    -- none does whose number is smaller
    pub told-false : AreGroups m fs → (ks : List Name) (n : Name) (x : Root) → named m n ≡ Some x → (limit : ℕ) →
        ((k : Name) → has ks k ≡ true → rank_of (named m k) ≤ limit) → limit < x.number → false ≡ is_reached fs ks n
    unfolding rank_of
    told-false g ks n x is limit all below = sym (false_from_ne_true (is_reached fs ks n) (λ e.
        let most = carried fs (λ k. rank_of (named m k) ≤ limit) (λ k p i h. let f = g.falls k i h in omega (arith, p, f)) ks all n e in
        let own : rank_of (named m n) ≡ x.number = ap rank_of is in
        omega (arith, most, own, below)))

    -- no fragment is in a group
    pub no-groups : ((k : Name) → named m k ≡ None) → AreGroups m fs
    unfolding rank_of
    no-groups none = record {
      onward = none-holds (λ k x. is_reached fs (x.name.now ∷ []) k ≡ true) (named m) none;
      back = none-holds (λ k x. is_reached fs (k ∷ []) x.name.now ≡ true) (named m) none;
      falls = λ k i h. let a : rank_of (named m i) ≡ 0 = ap rank_of (none i) in omega (arith, a);
    }
