-- Nodes that are begun and made, one after the other.
use Rattle.std.specs.Prelude.{ℕ, zero, suc, true, false, cond, List, [], ◌∷◌, ◌++◌, ◌≡◌, ◌<◌, ◌≤◌, ◌+◌, ◌⊎◌, Option, Some, None, Vec, length, nat_eq}
use Rattle.std.specs.List.{slice_get}
use Rattle.std.specs.declared.alloc.Global.{Global}
use Rattle.std.proofs.lemmas.Bool.{cases_Bool}
use Rattle.std.proofs.lemmas.List.{append-nil, length-append}
use Rattle.std.proofs.lemmas.Option.{slice_get_within}
use Rattle.std.proofs.Common.{arith, refl, sym, ap, ◌∙◌, inl, inr, subst}
use Rattle.graphql_spec.specs.Laws.{In}
use Rattle.graphql_spec.proofs.Grouping.{in_append}
use Rattle.juniper_merging.specs.MergingGraph.{FieldAt}
use Rattle.juniper_merging.specs.Nodes.{Alike, AreEntries, Good, HasHead, IsNode, Selects, flat, list_of}
use Rattle.juniper_merging.specs.Standing.{Both}
use Rattle.juniper_merging.specs.Tables.{joined, set_at}
use Rattle.juniper_merging.specs.United.{Agrees, AreEntriesOf, IsBelow, IsChildOf, IsEntryOf, IsJudged, IsNumberPut, IsTaken, IsUniting, count_of}
use Rattle.juniper_merging.specs.Uniting.{AreHeads}
use Rattle.juniper_merging.specs.declared.heads.Head.{Head}
use Rattle.juniper_merging.specs.declared.nodes.Entry.{Entry}
use Rattle.juniper_merging.specs.declared.nodes.Node.{Node}
use Rattle.juniper_merging.specs.declared.uniting.United.{United}
use Rattle.juniper_merging.specs.declared.uniting.Uniting.{Uniting}
use Rattle.juniper_merging.proofs.Beside.{itself-alike}
use Rattle.juniper_merging.proofs.Held.{alike-equal, alike-swapped, alike-through, alike-turned, flat-append, joined-append, joined-flat, own-flat}
use Rattle.juniper_merging.proofs.Joint.{Test, one-head-down}
use Rattle.juniper_merging.proofs.Looked.{none-some}
use Rattle.juniper_merging.proofs.Numbers.{itself, same-number}
use Rattle.juniper_merging.proofs.Places.{both-first}
use Rattle.juniper_merging.proofs.Tables.{is-there, one-of}
use Rattle.juniper_merging.proofs.Told.{some-same}

never : {A : Type 0} → true ≡ false → A
never e = cc

pub in-place : {A : Type 0} (e : A) (es : List A) → In e es → (p : ℕ) × (slice_get es p ≡ Some e)
in-place e [] m = absurd m
in-place e (x ∷ es) (inl q) = (0, ap Some (sym q))
in-place e (x ∷ es) (inr m) = let r = in-place e es m in (suc r.0, r.1)

pub place-in : {A : Type 0} (p : ℕ) (e : A) (es : List A) → slice_get es p ≡ Some e → In e es
place-in p e [] q = none-some q
place-in zero e (x ∷ es) q = inl (sym (some-same q))
place-in (suc p) e (x ∷ es) q = inr (place-in p e es q)

pub there-at : {A : Type 0} (es : List A) (p : ℕ) → p < length es → (e : A) × (slice_get es p ≡ Some e)
there-at es p l = elim (is-there (slice_get es p)) [
  | inl none ↦ absurd (past es p none l)
  | inr r ↦ r
]
  where
    past : {A : Type 0} (l : List A) (p : ℕ) → slice_get l p ≡ None → p < length l → ⊥
    past [] p e l = omega (arith, l)
    past (x ∷ xs) zero e l = none-some (sym e)
    past (x ∷ xs) (suc p) e l = past xs p e (omega (arith, l))

pub both-places : {A : Type 0} (e f : A) (es : List A) → Both e f es → (p : ℕ) × (q : ℕ) × (slice_get es p ≡ Some e) × (slice_get es q ≡ Some f) × (p ≡ q → ⊥)
both-places e f [] b = absurd b
both-places e f (x ∷ es) (inl (s, m)) = let r = in-place f es m in (0, suc r.0, ap Some (sym s), r.1, λ q. omega (arith, q))
both-places e f (x ∷ es) (inr (inl (s, m))) = let r = in-place e es m in (suc r.0, 0, r.1, ap Some (sym s), λ q. omega (arith, q))
both-places e f (x ∷ es) (inr (inr b)) = let r = both-places e f es b in
    (suc r.0, suc r.1, r.2, r.3, λ q. r.4 (omega (arith, q)))

pub still-at : {A : Type 0} (xs : List A) (x y : A) (p : ℕ) → slice_get xs p ≡ Some y → slice_get (xs ++ x ∷ []) p ≡ Some y
still-at [] x y p e = none-some e
still-at (z ∷ xs) x y zero e = e
still-at (z ∷ xs) x y (suc p) e = still-at xs x y p e

pub last-at : {A : Type 0} (xs : List A) (x : A) → slice_get (xs ++ x ∷ []) (length xs) ≡ Some x
last-at [] x = refl
last-at (z ∷ xs) x = last-at xs x

-- ## One node more

pub empty-items : {A : Type 0} (v : Vec A Global) → v.len ≡ length v.items → v.len ≡ 0 → v.items ≡ []
empty-items v ok e = none v.items (sym ok ∙ e)
  where
    none : {A : Type 0} (xs : List A) → length xs ≡ 0 → xs ≡ []
    none [] q = refl
    none (x ∷ xs) q = absurd (omega (arith, q))

pub joined-one : (t : List (List ℕ)) (set : ℕ) → joined t (set ∷ []) ≡ set_at t set
unfolding joined
joined-one t set = append-nil (set_at t set)

pub one-longer : {A : Type 0} (xs : List A) (x : A) (ys : List A) → ys ≡ xs ++ x ∷ [] → length ys ≡ length xs + 1
one-longer xs x ys e = ap length e ∙ length-append xs (x ∷ [])

-- what the nodes hold, and the next one
pub holds-more : (ℕ → List ℕ) → ℕ → List ℕ → ℕ → List ℕ
holds-more H n l a = cond (nat_eq a n) l (H a)

pub holds-last : (H : ℕ → List ℕ) (n : ℕ) (l : List ℕ) → holds-more H n l n ≡ l
unfolding holds-more
holds-last H n l = ap (λ b. cond b l (H n)) (itself n)

pub holds-before : (H : ℕ → List ℕ) (n : ℕ) (l : List ℕ) → Agrees H (holds-more H n l) n
unfolding holds-more
holds-before H n l a below = ap (λ b. cond b l (H a)) (apart (cases_Bool (nat_eq a n)))
  where
    apart : ((nat_eq a n ≡ true) ⊎ (nat_eq a n ≡ false)) → nat_eq a n ≡ false
    apart (inl q) = absurd (let e = same-number a n q in omega (arith, e, below))
    apart (inr q) = q

pub agrees-through : (H K L : ℕ → List ℕ) (n m : ℕ) → n ≤ m → Agrees H K n → Agrees K L m → Agrees H L n
agrees-through H K L n m le p q a below = q a (omega (arith, le, below)) ∙ p a below

pub agrees-itself : (H : ℕ → List ℕ) (n : ℕ) → Agrees H H n
agrees-itself H n a below = refl

module _ (H K : ℕ → List ℕ) (n : ℕ) (same : Agrees H K n) where
  pub list-agrees : (o : Option ℕ) → ((c : ℕ) → o ≡ Some c → c < n) → list_of K o ≡ list_of H o
  unfolding list_of
  list-agrees None f = refl
  list-agrees (Some c) f = same c (f c refl)

  pub flat-agrees : (ps : List ℕ) → ((p : ℕ) → In p ps → p < n) → flat K ps ≡ flat H ps
  unfolding flat
  flat-agrees [] f = refl
  flat-agrees (p ∷ ps) f = λ k. same p (f p (inl refl)) k ++ flat-agrees ps (λ q m. f q (inr m)) k

  module _ (vs : List FieldAt) where
    pub entries-agree : (F : List ℕ) (es : List Entry) → ((e : Entry) (c : ℕ) → In e es → e.child ≡ Some c → c < n) → AreEntries vs H F es →
        AreEntries vs K F es
    entries-agree F es below are = record {
      each = λ e m. let is = are.each e m in record {
        head = is.head;
        there = is.there;
        inside = is.inside;
        lone = is.lone;
        many = is.many;
        child = subst (Selects vs F is.head) (sym (list-agrees e.child (λ c q. below e c m q))) is.child;
      };
      covers = are.covers;
      apart = are.apart;
    }

    pub node-agrees : (w : Node) (l : List ℕ) → IsBelow n w.entries.items w.parts.items → IsNode vs H w l → IsNode vs K w l
    node-agrees w l below (inl r) = inl (r.0, r.1, r.2, entries-agree r.0 w.entries.items below.children r.3)
    node-agrees w l below (inr r) = inr (r.0, subst (Alike l) (sym (flat-agrees w.parts.items below.parts)) r.1)

pub below-more : (n m : ℕ) (es : List Entry) (ps : List ℕ) → n ≤ m → IsBelow n es ps → IsBelow m es ps
below-more n m es ps le is = record {
  children = λ e c i q. let l = is.children e c i q in omega (arith, l, le);
  parts = λ p i. let l = is.parts p i in omega (arith, l, le);
}

module _ (vs : List FieldAt) (t : List (List ℕ)) where
  pub same-uniting : (H : ℕ → List ℕ) (u w : Uniting) → w.members ≡ u.members → w.judges ≡ u.judges → w.single ≡ u.single → w.judge_of ≡ u.judge_of →
      w.united ≡ u.united → IsUniting vs t H u → IsUniting vs t H w
  same-uniting H u w members judges single judge_of united is = record {
    count = (λ k. length (judges k).items) ∙ (is.count ∙ sym (λ k. length (members k).items));
    waits = λ a ms e. is.waits a ms (subst (λ (v : Vec (Option (Vec ℕ Global)) Global). slice_get v.items a ≡ Some (Some ms)) members e);
    judged = λ a j e. let r = is.judged a j (subst (λ (v : Vec ℕ Global). slice_get v.items a ≡ Some j) judges e) in (back j r.0, r.1);
    alone = λ s a e. let r = is.alone s a (subst (λ (v : Vec (Option ℕ) Global). slice_get v.items s ≡ Some (Some a)) single e) in (back a r.0, r.1);
    judges = λ s j e. let r = is.judges s j (subst (λ (v : Vec (Option ℕ) Global). slice_get v.items s ≡ Some (Some j)) judge_of e) in (back j r.0, r.1);
    made = λ k x e. let r = is.made k x (subst (λ (v : Vec United Global). slice_get v.items k ≡ Some x) united e) in
        (back x.number r.0, subst (λ n. IsBelow n x.node.entries.items x.node.parts.items) (sym (λ k. length (members k).items)) r.1, r.2);
  }
    where
      back : (a : ℕ) → a < count_of u → a < count_of w
      back a l = subst (λ (v : Vec (Option (Vec ℕ Global)) Global). a < length v.items) (sym members) l

  pub none-uniting : (H : ℕ → List ℕ) (u : Uniting) → u.members.items ≡ [] → u.judges.items ≡ [] → u.united.items ≡ [] →
      ((i : ℕ) (o : Option ℕ) → slice_get u.single.items i ≡ Some o → o ≡ None) → ((i : ℕ) (o : Option ℕ) → slice_get u.judge_of.items i ≡ Some o → o ≡ None) →
      IsUniting vs t H u
  none-uniting H u members judges united single judge_of = record {
    count = ap length judges ∙ sym (ap length members);
    waits = λ a ms e. none-some (subst (λ l. slice_get l a ≡ Some (Some ms)) members e);
    judged = λ a j e. none-some (subst (λ l. slice_get l a ≡ Some j) judges e);
    alone = λ s a e. none-some (sym (single s (Some a) e));
    judges = λ s j e. none-some (sym (judge_of s (Some j) e));
    made = λ k w e. none-some (subst (λ l. slice_get l k ≡ Some w) united e);
  }

  -- a node more that holds l
  pub more-uniting : (H : ℕ → List ℕ) (l : List ℕ) (old new : Uniting) (o : Option (Vec ℕ Global)) (judge : ℕ) →
      new.members.items ≡ old.members.items ++ o ∷ [] → new.judges.items ≡ old.judges.items ++ judge ∷ [] → new.single ≡ old.single →
      new.judge_of ≡ old.judge_of → new.united ≡ old.united → ((ms : Vec ℕ Global) → o ≡ Some ms → l ≡ joined t ms.items) →
      ((judge ≡ count_of old) ⊎ ((judge < count_of old) × IsJudged vs t H judge l)) → IsUniting vs t H old →
      IsUniting vs t (holds-more H (count_of old) l) new
  more-uniting H l old new o judge members judges single judge_of united holds judged is = record {
    count = ap length judges ∙ (length-append old.judges.items (judge ∷ []) ∙ (ap (λ n. n + 1) is.count ∙ sym more));
    waits = λ a ms e. elim (one-of old.members.items o (Some ms) a (subst (λ l. slice_get l a ≡ Some (Some ms)) members e)) [
      | inl f ↦ before a (slice_get_within old.members.items a (Some ms) f) ∙ is.waits a ms f
      | inr f ↦ ap K f.0 ∙ (last ∙ holds ms f.1)
    ];
    judged = λ a j e. elim (one-of old.judges.items judge j a (subst (λ l. slice_get l a ≡ Some j) judges e)) [
      | inl f ↦ (let r = is.judged a j f in let b = slice_get_within old.judges.items a j f in
          (up j r.0, λ g. good-still a (subst (λ n. a < n) is.count b) (r.1 (good-back j r.0 g))))
      | inr f ↦ own a j f.0 f.1 judged
    ];
    alone = λ s a e. let r = is.alone s a (subst (λ (v : Vec (Option ℕ) Global). slice_get v.items s ≡ Some (Some a)) single e) in
        (up a r.0, before a r.0 ∙ r.1);
    judges = λ s j e. let r = is.judges s j (subst (λ (v : Vec (Option ℕ) Global). slice_get v.items s ≡ Some (Some j)) judge_of e) in
        (up j r.0, λ g. r.1 (good-back j r.0 g));
    made = λ k w e. let r = is.made k w (subst (λ (v : Vec United Global). slice_get v.items k ≡ Some w) united e) in (
      up w.number r.0,
      below-more (count_of old) (count_of new) w.node.entries.items w.node.parts.items (let m = more in omega (arith, m)) r.1,
      subst (IsNode vs K w.node) (sym (before w.number r.0)) (node-agrees H K (count_of old) before vs w.node (H w.number) r.1 r.2),
    );
  }
    where
      K : ℕ → List ℕ
      K = holds-more H (count_of old) l

      before : Agrees H K (count_of old)
      before = holds-before H (count_of old) l

      last : K (count_of old) ≡ l
      last = holds-last H (count_of old) l

      more : count_of new ≡ count_of old + 1
      more = ap length members ∙ length-append old.members.items (o ∷ [])

      up : (a : ℕ) → a < count_of old → a < count_of new
      up a b = let m = more in omega (arith, m, b)

      good-back : (a : ℕ) → a < count_of old → Good vs true (K a) → Good vs true (H a)
      good-back a b g = subst (Good vs true) (before a b) g

      good-still : (a : ℕ) → a < count_of old → Good vs true (H a) → Good vs true (K a)
      good-still a b g = subst (Good vs true) (sym (before a b)) g

      own : (a j : ℕ) → a ≡ length old.judges.items → judge ≡ j → ((judge ≡ count_of old) ⊎ ((judge < count_of old) × IsJudged vs t H judge l)) →
          (j < count_of new) × (Good vs true (K j) → Good vs true (K a))
      own a j p q (inl s) =
          let here : a ≡ count_of old = p ∙ is.count in
          let at : j ≡ count_of old = sym q ∙ s in
          ((let m = more in omega (arith, m, at)), λ g. subst (λ n. Good vs true (K n)) (at ∙ sym here) g)
      own a j p q (inr s) =
          let here : a ≡ count_of old = p ∙ is.count in (
            subst (λ n. n < count_of new) q (up judge s.0),
            λ g. subst (λ n. Good vs true (K n)) (sym here) (subst (Good vs true) (sym last) (s.1 (good-back judge s.0 (subst (λ n. Good vs true (K n)) (sym
                q) g)))),
          )

  -- a set has a node of its own now
  pub alone-uniting : (H : ℕ → List ℕ) (u w : Uniting) (set a : ℕ) → w.members ≡ u.members → w.judges ≡ u.judges →
      IsNumberPut u.single.items w.single.items set a → IsNumberPut u.judge_of.items w.judge_of.items set a → w.united ≡ u.united →
      a < count_of u → H a ≡ set_at t set → IsUniting vs t H u → IsUniting vs t H w
  alone-uniting H u w set a members judges single judge_of united below holds is = record {
    count = (λ k. length (judges k).items) ∙ (is.count ∙ sym (λ k. length (members k).items));
    waits = λ a ms e. is.waits a ms (subst (λ (v : Vec (Option (Vec ℕ Global)) Global). slice_get v.items a ≡ Some (Some ms)) members e);
    judged = λ a j e. let r = is.judged a j (subst (λ (v : Vec ℕ Global). slice_get v.items a ≡ Some j) judges e) in (back j r.0, r.1);
    alone = λ s b e. elim (single s b e) [
      | inl f ↦ (let r = is.alone s b f in (back b r.0, r.1))
      | inr f ↦ (back b (subst (λ n. n < count_of u) (sym f.1) below), ap H f.1 ∙ (holds ∙ ap (set_at t) (sym f.0)))
    ];
    judges = λ s j e. elim (judge_of s j e) [
      | inl f ↦ (let r = is.judges s j f in (back j r.0, r.1))
      | inr f ↦ (back j (subst (λ n. n < count_of u) (sym f.1) below), λ g. subst (Good vs true) (ap H f.1 ∙ (holds ∙ ap (set_at t) (sym f.0))) g)
    ];
    made = λ k x e. let r = is.made k x (subst (λ (v : Vec United Global). slice_get v.items k ≡ Some x) united e) in
        (back x.number r.0, subst (λ n. IsBelow n x.node.entries.items x.node.parts.items) (sym (λ k. length (members k).items)) r.1, r.2);
  }
    where
      back : (a : ℕ) → a < count_of u → a < count_of w
      back a l = subst (λ (v : Vec (Option (Vec ℕ Global)) Global). a < length v.items) (sym members) l

  -- sets have a judge now
  pub judges-uniting : (H : ℕ → List ℕ) (u w : Uniting) (places : List ℕ) (judge : ℕ) → w.members ≡ u.members → w.judges ≡ u.judges →
      w.single ≡ u.single → w.united ≡ u.united → ((i n : ℕ) → slice_get w.judge_of.items i ≡ Some (Some n) →
      (slice_get u.judge_of.items i ≡ Some (Some n)) ⊎ (In i places × (n ≡ judge))) → judge < count_of u → IsJudged vs t H judge (joined t places) →
      IsUniting vs t H u → IsUniting vs t H w
  judges-uniting H u w places judge members judges single united judge_of below judged is = record {
    count = (λ k. length (judges k).items) ∙ (is.count ∙ sym (λ k. length (members k).items));
    waits = λ a ms e. is.waits a ms (subst (λ (v : Vec (Option (Vec ℕ Global)) Global). slice_get v.items a ≡ Some (Some ms)) members e);
    judged = λ a j e. let r = is.judged a j (subst (λ (v : Vec ℕ Global). slice_get v.items a ≡ Some j) judges e) in (back j r.0, r.1);
    alone = λ s a e. let r = is.alone s a (subst (λ (v : Vec (Option ℕ) Global). slice_get v.items s ≡ Some (Some a)) single e) in (back a r.0, r.1);
    judges = λ s j e. elim (judge_of s j e) [
      | inl f ↦ (let r = is.judges s j f in (back j r.0, r.1))
      | inr f ↦ (
        back j (subst (λ n. n < count_of u) (sym f.1) below),
        λ g.
            let whole = judged (subst (λ n. Good vs true (H n)) f.1 g) in λ n x y b. whole n x y (inside s places f.0 x y b),
      )
    ];
    made = λ k x e. let r = is.made k x (subst (λ (v : Vec United Global). slice_get v.items k ≡ Some x) united e) in
        (back x.number r.0, subst (λ n. IsBelow n x.node.entries.items x.node.parts.items) (sym (λ k. length (members k).items)) r.1, r.2);
  }
    where
      back : (a : ℕ) → a < count_of u → a < count_of w
      back a l = subst (λ (v : Vec (Option (Vec ℕ Global)) Global). a < length v.items) (sym members) l

      inside : (s : ℕ) (ps : List ℕ) → In s ps → (x y : ℕ) → Both x y (set_at t s) → Both x y (joined t ps)
      inside s ps i x y b = subst (Both x y) (sym (joined-flat t ps)) (own-flat (set_at t) x y s ps i b)

  -- the sets of a node were taken out
  pub taken-uniting : (H : ℕ → List ℕ) (u w : Uniting) (node : ℕ) (o : Option (Vec ℕ Global)) → IsTaken u.members.items w.members.items node o →
      w.judges ≡ u.judges → w.single ≡ u.single → w.judge_of ≡ u.judge_of → w.united ≡ u.united → IsUniting vs t H u → IsUniting vs t H w
  taken-uniting H u w node o taken judges single judge_of united is = record {
    count = (λ k. length (judges k).items) ∙ (is.count ∙ sym taken.count);
    waits = λ a ms e. is.waits a ms (taken.kept a ms e);
    judged = λ a j e. let r = is.judged a j (subst (λ (v : Vec ℕ Global). slice_get v.items a ≡ Some j) judges e) in (back j r.0, r.1);
    alone = λ s a e. let r = is.alone s a (subst (λ (v : Vec (Option ℕ) Global). slice_get v.items s ≡ Some (Some a)) single e) in (back a r.0, r.1);
    judges = λ s j e. let r = is.judges s j (subst (λ (v : Vec (Option ℕ) Global). slice_get v.items s ≡ Some (Some j)) judge_of e) in (back j r.0, r.1);
    made = λ k x e. let r = is.made k x (subst (λ (v : Vec United Global). slice_get v.items k ≡ Some x) united e) in
        (back x.number r.0, subst (λ n. IsBelow n x.node.entries.items x.node.parts.items) (sym taken.count) r.1, r.2);
  }
    where
      back : (a : ℕ) → a < count_of u → a < count_of w
      back a l = subst (λ n. a < n) (sym taken.count) l

  -- a node is made
  pub made-uniting : (H : ℕ → List ℕ) (u w : Uniting) (x : United) → w.members ≡ u.members → w.judges ≡ u.judges → w.single ≡ u.single →
      w.judge_of ≡ u.judge_of → w.united.items ≡ u.united.items ++ x ∷ [] → x.number < count_of u →
      IsBelow (count_of u) x.node.entries.items x.node.parts.items → IsNode vs H x.node (H x.number) → IsUniting vs t H u → IsUniting vs t H w
  made-uniting H u w x members judges single judge_of united inside below node is = record {
    count = (λ k. length (judges k).items) ∙ (is.count ∙ sym (λ k. length (members k).items));
    waits = λ a ms e. is.waits a ms (subst (λ (v : Vec (Option (Vec ℕ Global)) Global). slice_get v.items a ≡ Some (Some ms)) members e);
    judged = λ a j e. let r = is.judged a j (subst (λ (v : Vec ℕ Global). slice_get v.items a ≡ Some j) judges e) in (back j r.0, r.1);
    alone = λ s a e. let r = is.alone s a (subst (λ (v : Vec (Option ℕ) Global). slice_get v.items s ≡ Some (Some a)) single e) in (back a r.0, r.1);
    judges = λ s j e. let r = is.judges s j (subst (λ (v : Vec (Option ℕ) Global). slice_get v.items s ≡ Some (Some j)) judge_of e) in (back j r.0, r.1);
    made = λ k y e. elim (one-of u.united.items x y k (subst (λ l. slice_get l k ≡ Some y) united e)) [
      | inl f ↦ (let r = is.made k y f in
          (back y.number r.0, subst (λ n. IsBelow n y.node.entries.items y.node.parts.items) (sym (λ k. length (members k).items)) r.1, r.2))
      | inr f ↦ subst (λ (z : United). (z.number < count_of w) × IsBelow (count_of w) z.node.entries.items z.node.parts.items × IsNode vs H z.node (H z.number))
          f.1 (back x.number inside, subst (λ n. IsBelow n x.node.entries.items x.node.parts.items) (sym (λ k. length (members k).items)) below, node)
    ];
  }
    where
      back : (a : ℕ) → a < count_of u → a < count_of w
      back a l = subst (λ (v : Vec (Option (Vec ℕ Global)) Global). a < length v.items) (sym members) l

  -- ## The entries of heads

  pub entry-agrees : (H K : ℕ → List ℕ) (n m : ℕ) (hd : Head) (e : Entry) → n ≤ m → Agrees H K n → IsEntryOf vs t H n hd e → IsEntryOf vs t K m hd e
  entry-agrees H K n m hd e le same is = record {
    field = is.field;
    many = is.many;
    child = record {
      begun = λ c q. let l = is.child.begun c q in omega (arith, l, le);
      alike = subst (λ l. Alike l (joined t hd.below.items)) (sym (list-agrees H K n same e.child is.child.begun)) is.child.alike;
    };
  }

  -- the entries of the heads of some fields are those of these fields
  pub heads-entries : (F : List ℕ) (heads : List Head) (groups : ℕ → List ℕ) (K : ℕ → List ℕ) (n : ℕ) (es : List Entry) → AreHeads vs t F heads groups →
      AreEntriesOf vs t K n heads es → AreEntries vs K F es
  heads-entries F heads groups K n es are of = record {
    each = λ e m.
        let p = in-place e es m in
        let r = of.each p.0 e p.1 in
        let is = are.each p.0 r.0 r.1 in
        record {
          head = is.head;
          there = ap (slice_get vs) r.2.field ∙ is.there;
          inside = subst (λ i. In i F) (sym r.2.field) is.inside;
          lone = λ q. is.lone (sym r.2.many ∙ q);
          many = λ q. is.many (sym r.2.many ∙ q);
          child = selects-alike F is.head (joined t r.0.below.items) (list_of K e.child) (alike-turned (list_of K e.child) (joined t r.0.below.items)
              r.2.child.alike)
              is.selects;
        };
    covers = λ i v m e.
        let r = are.covers i v m e in
        let s = there r.0 (slice_get_within heads r.0 r.1 r.2) in
        let q = of.each r.0 s.0 s.1 in
        let same : q.0 ≡ r.1 = some-same (sym q.1 ∙ r.2) in
        (s.0, place-in r.0 s.0 es s.1, (r.3.0, ap (slice_get vs) (q.2.field ∙ ap (λ (x : Head). x.field) same) ∙ r.3.1, r.3.2));
    apart = λ e f b h k eh fk s.
        let r = both-places e f es b in
        let p = of.each r.0 e r.2 in
        let q = of.each r.1 f r.3 in
        are.apart r.0 r.1 p.0 q.0 p.1 q.1 r.4 h k (ap (slice_get vs) (sym p.2.field) ∙ eh) (ap (slice_get vs) (sym q.2.field) ∙ fk) s;
  }
    where
      there : (p : ℕ) → p < length heads → (e : Entry) × (slice_get es p ≡ Some e)
      there p l = there-at es p (subst (λ n. p < n) (sym of.count) l)

      selects-alike : (F : List ℕ) (h : FieldAt) (l k : List ℕ) → Alike l k → Selects vs F h l → Selects vs F h k
      selects-alike F h l k a s = record {
        one = λ x m. let q = a.one_back x m in let r = s.one q.0 q.2 in
            (r.0, r.1, (r.2.0, subst (λ y. In y r.2.0.field.below) q.1 r.2.1));
        one_back = λ i m b x n. let q = a.one x (s.one_back i m b x n) in subst (λ y. In y k) (sym q.1) q.2;
        two = λ x y b. let q = a.two_back x y b in moved x y q.0 q.1 q.2 q.3 (s.two q.0 q.1 q.4);
        two_own = λ i m b x y c. let q = a.two x y (s.two_own i m b x y c) in back x y q.0 q.1 q.2 q.3 q.4;
        two_apart = λ i j c b d x y m n. let q = a.two x y (s.two_apart i j c b d x y m n) in back x y q.0 q.1 q.2 q.3 q.4;
      }
        where
          back : (x y x' y' : ℕ) → x ≡ x' → y ≡ y' → Both x' y' k → Both x y k
          back x y x' y' p q b = subst (λ u. Both x u k) (sym q) (subst (λ u. Both u y' k) (sym p) b)

          moved : (x y x' y' : ℕ) → x' ≡ x → y' ≡ y → ((i : ℕ) × In i F × ((b : HasHead vs h i) × Both x' y' b.field.below))
              ⊎ ((i : ℕ) × (j : ℕ) × Both i j F × ((b : HasHead vs h i) × (c : HasHead vs h j) × In x' b.field.below × In y' c.field.below)) →
              ((i : ℕ) × In i F × ((b : HasHead vs h i) × Both x y b.field.below))
              ⊎ ((i : ℕ) × (j : ℕ) × Both i j F × ((b : HasHead vs h i) × (c : HasHead vs h j) × In x b.field.below × In y c.field.below))
          moved x y x' y' p q (inl r) = inl (r.0, r.1, (r.2.0, subst (λ z. Both x z r.2.0.field.below) q (subst (λ z. Both z y' r.2.0.field.below) p r.2.1)))
          moved x y x' y' p q (inr r) = inr (
            r.0,
            r.1,
            r.2,
            (
              r.3.0,
              r.3.1,
              subst (λ z. In z r.3.0.field.below) p r.3.2,
              subst (λ z. In z r.3.1.field.below) q
                  r.3.3,
            ),
          )

  -- what a node holds that is made of these sets
  pub whole-judged : (F : List ℕ) (heads : List Head) (groups : ℕ → List ℕ) (l rest : List ℕ) → AreHeads vs t F heads groups → Alike l (F ++ rest) →
      Good vs true l → (p : ℕ) (hd : Head) → slice_get heads p ≡ Some hd → hd.is_many ≡ true → Good vs true (joined t hd.below.items)
  whole-judged F heads groups l rest are alike good p hd at many =
      let is = are.each p hd at in
      let r = is.many many in
      one-head-down vs F is.head (joined t hd.below.items) is.selects true r.0 r.1 r.2 r.3 r.4 (own F l rest alike good)
    where
      own : (F l rest : List ℕ) → Alike l (F ++ rest) → Good vs true l → Good vs true F
      own F l rest alike good n i j b =
          let q = alike.two_back i j (both-first i j F rest b) in
          sym (λ k. Test vs true n (q.2 k) (q.3 k)) ∙ good n q.0 q.1 q.4

  -- the child of a head that selects nothing
  pub no-child : (K : ℕ → List ℕ) (n : ℕ) (hd : Head) → hd.below.items ≡ [] → IsChildOf vs t K n hd None
  unfolding list_of joined
  no-child K n hd none = record {
    begun = λ c q. none-some q;
    alike = subst (λ l. Alike [] (joined t l)) (sym none) (itself-alike []);
  }

  -- the child of a head, where a node holds what it selects
  pub one-child : (K : ℕ → List ℕ) (n : ℕ) (hd : Head) (a : ℕ) (l : List ℕ) → a < n → K a ≡ l → Alike l (joined t hd.below.items) →
      IsChildOf vs t K n hd (Some a)
  unfolding list_of
  one-child K n hd a l below holds alike = record {
    begun = λ c q. subst (λ m. m < n) (some-same q) below;
    alike = subst (λ m. Alike m (joined t hd.below.items)) (sym holds) alike;
  }

  -- ## Nodes of entries and parts

  pub good-of : (l F rest : List ℕ) → Alike l (F ++ rest) → Good vs true l → Good vs true F
  good-of l F rest alike good n i j b =
      let q = alike.two_back i j (both-first i j F rest b) in
      sym (λ k. Test vs true n (q.2 k) (q.3 k)) ∙ good n q.0 q.1 q.4

  -- one that has entries, or parts
  pub node-of : (H : ℕ → List ℕ) (w : Node) (l fields : List ℕ) → (w.entries.items ≡ []) ⊎ (w.parts.items ≡ []) → AreEntries vs H fields w.entries.items →
      (w.entries.items ≡ [] → fields ≡ []) → Alike l (fields ++ flat H w.parts.items) → IsNode vs H w l
  unfolding flat
  node-of H w l fields (inl none) are empty alike = inr (none, subst (λ f. Alike l (f ++ flat H w.parts.items)) (empty none) alike)
  node-of H w l fields (inr none) are empty alike =
      inl (fields, none, subst (λ f. Alike l f) (append-nil fields) (subst (λ ps. Alike l (fields ++ flat H ps)) none alike), are)

  -- one that has both: its entries are a node of their own
  pub split-uniting : (H K : ℕ → List ℕ) (fields ps : List ℕ) (n own : ℕ) (u mid w : Uniting) (x y : United) → Agrees H K n → n ≤ count_of u →
      IsUniting vs t K u → own < count_of u → K own ≡ fields → x.number < n → IsBelow n y.node.entries.items ps → x.node.entries.items ≡ [] →
      x.node.parts.items ≡ ps ++ own ∷ [] → y.number ≡ own → y.node.parts.items ≡ [] → AreEntries vs H fields y.node.entries.items →
      Alike (H x.number) (fields ++ flat H ps) → mid.members ≡ u.members → mid.judges ≡ u.judges → mid.single ≡ u.single → mid.judge_of ≡ u.judge_of →
      mid.united.items ≡ u.united.items ++ x ∷ [] → w.members ≡ mid.members → w.judges ≡ mid.judges → w.single ≡ mid.single → w.judge_of ≡ mid.judge_of →
      w.united.items ≡ mid.united.items ++ y ∷ [] → IsUniting vs t K w
  unfolding flat
  split-uniting H K fields ps n own u mid w x y same le is inside holds number below none parts at alone are alike m1 m2 m3 m4 m5 w1 w2 w3 w4 w5 =
      made-uniting K mid w y w1 w2 w3 w4 w5 (subst (λ a. a < count_of mid) (sym at) (back own inside))
      (subst (IsBelow (count_of mid) y.node.entries.items) (sym alone)
      (record { children = λ e c i q. back c (let l = below.children e c i q in omega (arith, l, le)); parts = λ p i. absurd i }))
      (inl (fields, alone, alike-equal (K y.number) fields (ap K at ∙ holds), entries-agree H K n same vs fields y.node.entries.items below.children are))
      (made-uniting K u mid x m1 m2 m3 m4 m5 (omega (arith, number, le))
      (record { children = λ e c i q. absurd (subst (In e) none i); parts = λ p i. some-below p (in_append p ps (own ∷ []) (subst (In p) parts i)) })
      (inr (
        none,
        subst (λ l. Alike l (flat K x.node.parts.items)) (sym (same x.number number)) (subst (λ qs. Alike (H x.number) (flat K qs)) (sym parts)
            whole),
      ))
      is)
    where
      back : (a : ℕ) → a < count_of u → a < count_of mid
      back a l = subst (λ (v : Vec (Option (Vec ℕ Global)) Global). a < length v.items) (sym m1) l

      some-below : (p : ℕ) → (In p ps ⊎ In p (own ∷ [])) → p < count_of u
      some-below p (inl i) = let l = below.parts p i in omega (arith, l, le)
      some-below p (inr (inl q)) = subst (λ a. a < count_of u) (sym q) inside
      some-below p (inr (inr i)) = absurd i

      flats : flat K (ps ++ own ∷ []) ≡ flat H ps ++ fields
      flats = flat-append K ps (own ∷ []) ∙ (λ k. flat-agrees H K n same ps below.parts k ++ (append-nil (K own) ∙ holds) k)

      whole : Alike (H x.number) (flat K (ps ++ own ∷ []))
      whole = subst (Alike (H x.number)) (sym flats)
          (alike-through (H x.number) (fields ++ flat H ps) (flat H ps ++ fields) alike (alike-swapped fields (flat H ps)))

  -- ## Nodes of sets, each alone

  pub no-wholes : (H : ℕ → List ℕ) (u : Uniting) (ws : List ℕ) → ws ≡ [] → IsUniting vs t H u →
      (K : ℕ → List ℕ) × Agrees H K (count_of u) × (count_of u ≤ count_of u) × IsUniting vs t K u × (((p : ℕ) → In p ws →
      p < count_of u) × (flat K ws ≡ joined t []))
  unfolding flat joined
  no-wholes H u ws none is = (H, agrees-itself H (count_of u), omega (arith), is, ((λ p i. absurd (subst (In p) none i)), ap (flat H) none))

  pub one-whole : (H K L : ℕ → List ℕ) (old mid now : Uniting) (parts ws vs' : List ℕ) (set a : ℕ) → Agrees H K (count_of old) → count_of old ≤ count_of mid →
      ((p : ℕ) → In p ws → p < count_of mid) → flat K ws ≡ joined t parts → Agrees K L (count_of mid) → count_of mid ≤ count_of now → IsUniting vs t L now →
      a < count_of now → L a ≡ set_at t set → vs' ≡ ws ++ a ∷ [] →
      (M : ℕ → List ℕ) × Agrees H M (count_of old) × (count_of old ≤ count_of now) × IsUniting vs t M now
      × (((p : ℕ) → In p vs' → p < count_of now) × (flat M vs' ≡ joined t (parts ++ set ∷ [])))
  unfolding flat joined
  one-whole H K L old mid now parts ws vs' set a same le below holds same' le' is inside at longer = (
    L,
    agrees-through H K L (count_of old) (count_of mid) le same same',
    omega (arith, le, le'),
    is,
    (
      (λ p i. some p (in_append p ws (a ∷ []) (subst (In p) longer i))),
      ap (flat L) longer ∙ (flat-append L ws (a ∷ []) ∙ ((λ k. (flat-agrees K L (count_of mid) same' ws below ∙ holds) k ++ (append-nil (L a) ∙ at) k)
          ∙ (ap (λ l. joined t parts ++ l) (sym (joined-one t set)) ∙ sym (joined-append t parts (set ∷ []))))),
    ),
  )
    where
      some : (p : ℕ) → (In p ws ⊎ In p (a ∷ [])) → p < count_of now
      some p (inl i) = let l = below p i in omega (arith, l, le')
      some p (inr (inl q)) = subst (λ b. b < count_of now) (sym q) inside
      some p (inr (inr i)) = absurd i

  -- ## What is known of entries stays so

  pub entries-moved : (H K : ℕ → List ℕ) (n m : ℕ) (heads : List Head) (es : List Entry) → n ≤ m → Agrees H K n → AreEntriesOf vs t H n heads es →
      AreEntriesOf vs t K m heads es
  entries-moved H K n m heads es le same are = record {
    count = are.count;
    each = λ p e at. let r = are.each p e at in (r.0, r.1, entry-agrees H K n m r.0 e le same r.2);
  }

  pub entries-below : (K : ℕ → List ℕ) (n : ℕ) (heads : List Head) (es : List Entry) → AreEntriesOf vs t K n heads es → (e : Entry) (c : ℕ) → In e es →
      e.child ≡ Some c → c < n
  entries-below K n heads es are e c i q = let p = in-place e es i in let r = are.each p.0 e p.1 in r.2.child.begun c q

  pub more-entries : (K : ℕ → List ℕ) (n : ℕ) (heads : List Head) (es fs : List Entry) (hd : Head) (e : Entry) → AreEntriesOf vs t K n heads es →
      IsEntryOf vs t K n hd e → fs ≡ es ++ e ∷ [] → AreEntriesOf vs t K n (heads ++ hd ∷ []) fs
  more-entries K n heads es fs hd e are is longer = record {
    count = ap length longer ∙ (length-append es (e ∷ []) ∙ (ap (λ m. m + 1) are.count ∙ sym (length-append heads (hd ∷ []))));
    each = λ p f at. elim (one-of es e f p (subst (λ l. slice_get l p ≡ Some f) longer at)) [
      | inl q ↦ (let r = are.each p f q in (r.0, still-at heads hd r.0 p r.1, r.2))
      | inr q ↦ (hd, ap (slice_get (heads ++ hd ∷ [])) (q.0 ∙ are.count) ∙ last-at heads hd, subst (IsEntryOf vs t K n hd) q.1 is)
    ];
  }

  pub no-entries : (F : List ℕ) (heads : List Head) (groups : ℕ → List ℕ) (K : ℕ → List ℕ) (n : ℕ) (es : List Entry) → AreHeads vs t F heads groups →
      AreEntriesOf vs t K n heads es → es ≡ [] → F ≡ []
  no-entries [] heads groups K n es are of none = refl
  no-entries (i ∷ F) heads groups K n es are of none =
      let v = are.known i (inl refl) in
      let r = are.covers i v.0 (inl refl) v.1 in
      absurd (let l = slice_get_within heads r.0 r.1 r.2 in let q : length heads ≡ 0 = sym of.count ∙ ap length none in omega (arith, l, q))
