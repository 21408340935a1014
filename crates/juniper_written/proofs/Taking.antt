-- Fragments that are taken one after the other, each when those that it spreads are.
use Rattle.std.specs.Prelude.{ℕ, zero, suc, Bool, true, false, ◌||◌, not, cond, List, [], ◌∷◌, ◌++◌, length, Option, Some, None, is_some, ◌≡◌, ◌⊎◌}
use Rattle.std.specs.List.{list_any, list_all}
use Rattle.std.specs.Str.{bytes_eq}
use Rattle.std.proofs.lemmas.Bool.{cases_Bool, or_left, or_right, or_parts, true_from_ne_false}
use Rattle.std.proofs.lemmas.Cmp.{nat_list_eq_equiv}
use Rattle.std.proofs.lemmas.List.{append-nil, append_assoc}
use Rattle.std.proofs.Common.{refl, sym, ap, ◌∙◌, inl, inr, subst}
use Rattle.graphql_spec.specs.Shown.{Name}
use Rattle.graphql_spec.specs.Documents.{Fragment}
use Rattle.graphql_spec.specs.Fragments.{HasNoCycle, deep, deep_in, fragment_of, spreads, spreads_in}
use Rattle.graphql_spec.specs.Laws.{In}
use Rattle.juniper_written.specs.Order.{AreInOrder, Follow, Follows, IsInOrder, IsTaken, StandBehind, StandsBehind, found, put}
use Rattle.juniper_written.proofs.FragmentNames.{has, same, itself, true_false, either, any_from, next, all_at, or_unknown}

late : (a b c : Bool) → (a || cond b true c) ≡ cond b true (a || c)
late true true c = refl
late true false c = refl
late false b c = refl

alone : (b : Bool) → (b || false) ≡ cond b true false
alone true = refl
alone false = refl

-- one more name at the end
has-last : (ks : List Name) (x k : Name) → has (ks ++ x ∷ []) k ≡ cond (bytes_eq x k) true (has ks k)
has-last [] x k = alone (bytes_eq k x) ∙ ap (λ b. cond b true false) (nat_list_eq_equiv.symm k x)
has-last (j ∷ ks) x k = ap (λ b. bytes_eq k j || b) (has-last ks x k) ∙ late (bytes_eq k j) (bytes_eq x k) (has ks k)

in-has : (ks : List Name) (k : Name) → In k ks → has ks k ≡ true
in-has [] k i = elim i [ ]
in-has (j ∷ ks) k (inl e) = or_left (bytes_eq k j) (has ks k) (subst (λ i. bytes_eq k i ≡ true) e (itself k))
in-has (j ∷ ks) k (inr i) = or_right (bytes_eq k j) (has ks k) (in-has ks k i)

-- a name of the list that fails the test
name_not : (f : Name → Bool) (ks : List Name) → list_all f ks ≡ false → (k : Name) × (has ks k ≡ true) × (f k ≡ false)
name_not f [] e = true_false true refl e
name_not f (j ∷ ks) e = elim (cases_Bool (f j)) [
  | inl q ↦ let r = name_not f ks (rw q at e) in (r.0, or_right (bytes_eq r.0 j) (has ks r.0) r.1, r.2)
  | inr q ↦ (j, or_left (bytes_eq j j) (has ks j) (itself j), q)
]

not-false : (b : Bool) → not b ≡ false → b ≡ true
not-false true e = refl
not-false false e = true_false true refl e

-- the fragment of a name has that name
of-name : (fs : List Fragment) (k : Name) (f : Fragment) → fragment_of fs k ≡ Some f → k ≡ f.name.item
unfolding fragment_of
of-name [] k f e = cc (e)
of-name (g ∷ fs) k f e = elim (cases_Bool (bytes_eq k g.name.item)) [
  | inl q ↦ let is : Some g ≡ Some f = rw q at e in let h : g ≡ f = cc (is) in same k g.name.item q ∙ ap (λ (x : Fragment). x.name.item) h
  | inr q ↦ of-name fs k f (rw q at e)
]

module _ (fs : List Fragment) where
  follow-more : (before ks : List Name) (x : Name) → Follow fs before ks → Follows fs (before ++ ks) x → Follow fs before (ks ++ x ∷ [])
  follow-more before [] x f g = (subst (λ l. Follows fs l x) (append-nil before) g, tt)
  follow-more before (k ∷ ks) x f g = (f.0, follow-more (before ++ k ∷ []) ks x f.1 (subst (λ l. Follows fs l x) (sym (append_assoc before (k ∷ []) ks)) g))

  pub taken-first : (taken : Name → Bool) → ((n : Name) → taken n ≡ false) → IsTaken fs taken []
  taken-first taken none = record { behind = tt; same = none }

  known-taken : (b c : Bool) → (b || not c) ≡ true → c ≡ true → b ≡ true
  known-taken true c e k = refl
  known-taken false true e k = e
  known-taken false false e k = k

  pub taken-next : (taken now : Name → Bool) (x : Name) (order : List Name) → IsTaken fs taken order →
      ((n : Name) → now n ≡ cond (bytes_eq x n) true (taken n)) → taken x ≡ false →
      list_all (or_unknown fs taken) (next fs x) ≡ true → IsTaken fs now (order ++ x ∷ [])
  taken-next taken now x order t is new all = record {
    behind = follow-more [] order x t.behind (
      sym (t.same x) ∙ new,
      λ i s known. sym (t.same i) ∙ known-taken (taken i) (is_some (fragment_of fs i)) (all_at (or_unknown fs taken) (next fs x) all i s) known,
    );
    same = λ k. is k ∙ (ap (cond (bytes_eq x k) true) (t.same k) ∙ sym (has-last order x k));
  }

  -- ## Where none can be taken any more

  -- each fragment that is not taken spreads another
  abbrev pub IsStuck : (Name → Bool) → Type 0
  IsStuck taken = (k : Name) → is_some (fragment_of fs k) ≡ true → taken k ≡ false → list_all (or_unknown fs taken) (next fs k) ≡ false

  deep-is : (f : Name → Bool) (o : Option Fragment) → deep_in f o ≡ list_any f (spreads_in o)
  unfolding deep_in spreads_in
  deep-is f None = refl
  deep-is f (Some x) = refl

  stuck-deep : (taken : Name → Bool) → IsStuck taken → (n : ℕ) (k : Name) → is_some (fragment_of fs k) ≡ true → taken k ≡ false → deep fs n k ≡ true
  unfolding deep
  stuck-deep taken stuck zero k known left = known
  stuck-deep taken stuck (suc n) k known left =
      let r = name_not (or_unknown fs taken) (next fs k) (stuck k known left) in
      let p = or_parts (taken r.0) (not (is_some (fragment_of fs r.0))) r.2 in
      deep-is (deep fs n) (fragment_of fs k) ∙ any_from (deep fs n) (next fs k) r.0 r.1
      (stuck-deep taken stuck n r.0 (not-false (is_some (fragment_of fs r.0)) p.1) p.0)

  pub taken-ends : (taken : Name → Bool) (order : List Name) → IsTaken fs taken order → IsStuck taken → AreInOrder fs order
  taken-ends taken order t stuck = record {
    behind = t.behind;
    all = λ k known ends. sym (t.same k) ∙ true_from_ne_false (taken k)
        (λ left. true_false (deep fs (length fs) k) (stuck-deep taken stuck (length fs) k known left) ends);
  }

  -- ## The fragments of names

  in-put : (o : Option Fragment) (g : Fragment) (rest : List Fragment) → o ≡ Some g → In g (put fs o rest)
  unfolding put
  in-put None g rest e = cc (e)
  in-put (Some f) g rest e = inl (cc (e))

  in-put-rest : (o : Option Fragment) (g : Fragment) (rest : List Fragment) → In g rest → In g (put fs o rest)
  unfolding put
  in-put-rest None g rest i = i
  in-put-rest (Some f) g rest i = inr i

  found-in : (ks : List Name) (k : Name) (g : Fragment) → has ks k ≡ true → fragment_of fs k ≡ Some g → In g (found fs ks)
  unfolding found
  found-in [] k g h e = true_false false h refl
  found-in (j ∷ ks) k g h e = either k j ks h
      (λ q. in-put (fragment_of fs j) g (found fs ks) (subst (λ i. fragment_of fs i ≡ Some g) q e))
      (λ q. in-put-rest (fragment_of fs j) g (found fs ks) (found-in ks k g q e))

  put-in : (o : Option Fragment) (g : Fragment) (rest : List Fragment) → In g (put fs o rest) → (o ≡ Some g) ⊎ In g rest
  unfolding put
  put-in None g rest i = inr i
  put-in (Some f) g rest (inl e) = inl (ap Some (sym e))
  put-in (Some f) g rest (inr i) = inr i

  -- a fragment that was found is that of one of the names
  in-found : (ks : List Name) (g : Fragment) → In g (found fs ks) → (k : Name) × (has ks k ≡ true) × (fragment_of fs k ≡ Some g)
  unfolding found
  in-found [] g i = elim i [ ]
  in-found (j ∷ ks) g i = elim (put-in (fragment_of fs j) g (found fs ks) i) [
    | inl e ↦ (j, or_left (bytes_eq j j) (has ks j) (itself j), e)
    | inr t ↦ let r = in-found ks g t in (r.0, or_right (bytes_eq r.0 j) (has ks r.0) r.1, r.2)
  ]

  put-append : (o : Option Fragment) (xs ys : List Fragment) → put fs o (xs ++ ys) ≡ put fs o xs ++ ys
  unfolding put
  put-append None xs ys = refl
  put-append (Some f) xs ys = refl

  found-last : (ks : List Name) (k : Name) → found fs (ks ++ k ∷ []) ≡ found fs ks ++ put fs (fragment_of fs k) []
  unfolding found
  found-last [] k = refl
  found-last (j ∷ ks) k = ap (put fs (fragment_of fs j)) (found-last ks k) ∙ put-append (fragment_of fs j) (found fs ks) (put fs (fragment_of fs k) [])

  one-stands : (before : List Name) (k : Name) (f : Fragment) → Follows fs before k → fragment_of fs k ≡ Some f → StandsBehind fs (found fs before) f
  unfolding spreads_in
  one-stands before k f w e = record {
    first = subst (λ i. fragment_of fs i ≡ Some f) (of-name fs k f e) e;
    once = λ i. let r = in-found before f i in true_false (has before k)
        (subst (λ j. has before j ≡ true) (of-name fs r.0 f r.2 ∙ sym (of-name fs k f e)) r.1) w.0;
    spread = λ i g s h. found-in before i g (w.1 i (subst (λ o. has (spreads_in o) i ≡ true) (sym e) (in-has (spreads f.selections) i s)) (ap is_some h)) h;
  }

  stand-on : (before : List Name) (k : Name) (ks : List Name) → Follows fs before k → (o : Option Fragment) → fragment_of fs k ≡ o →
      StandBehind fs (found fs (before ++ k ∷ [])) (found fs ks) →
      StandBehind fs (found fs before) (put fs o (found fs ks))
  unfolding put
  stand-on before k ks w None e s =
      subst (λ l. StandBehind fs l (found fs ks)) (found-last before k ∙ (ap (λ o. found fs before ++ put fs o []) e ∙ append-nil (found fs before))) s
  stand-on before k ks w (Some f) e s =
      (one-stands before k f w e, subst (λ l. StandBehind fs l (found fs ks)) (found-last before k ∙ ap (λ o. found fs before ++ put fs o []) e) s)

  stand : (before ks : List Name) → Follow fs before ks → StandBehind fs (found fs before) (found fs ks)
  unfolding found
  stand before [] w = tt
  stand before (k ∷ ks) w = stand-on before k ks w.0 (fragment_of fs k) refl (stand (before ++ k ∷ []) ks w.1)

  -- the fragments of names in an order are in that order
  pub found-in-order : (order : List Name) → AreInOrder fs order → IsInOrder fs (found fs order)
  unfolding found
  found-in-order order a = record { behind = stand [] order a.behind; all = λ k f e ends. found-in order k f (a.all k (ap is_some e) ends) e }

  -- each fragment of an order stands behind those that it spreads, wherever it stands
  stands-from : (start before : List Fragment) (f : Fragment) (after : List Fragment) → StandBehind fs start (before ++ f ∷ after) →
      StandsBehind fs (start ++ before) f
  stands-from start [] f after s = subst (λ l. StandsBehind fs l f) (sym (append-nil start)) s.0
  stands-from start (g ∷ before) f after s =
      subst (λ l. StandsBehind fs l f) (append_assoc start (g ∷ []) before) (stands-from (start ++ g ∷ []) before f after s.1)

  pub stands-at : (before : List Fragment) (f : Fragment) (after : List Fragment) → IsInOrder fs (before ++ f ∷ after) → StandsBehind fs before f
  stands-at before f after o = stands-from [] before f after o.behind

  -- where no fragment reaches itself all stand there
  pub all-stand : (order : List Fragment) → IsInOrder fs order → HasNoCycle fs → (k : Name) (f : Fragment) → fragment_of fs k ≡ Some f → In f order
  all-stand order o none k f e = o.all k f e (none k)
