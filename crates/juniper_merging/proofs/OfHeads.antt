-- Fields by what they differ in, one after the other.
use Rattle.std.specs.Prelude.{ℕ, Bool, true, false, cond, not, ◌&&◌, List, [], ◌∷◌, ◌++◌, ◌≡◌, ◌<◌, Option, Some, None, length, nat_eq, slice_set}
use Rattle.std.specs.List.{slice_get}
use Rattle.std.specs.Str.{bytes_eq}
use Rattle.std.proofs.lemmas.Bool.{and_parts, cases_Bool}
use Rattle.std.proofs.lemmas.List.{append-nil}
use Rattle.std.proofs.lemmas.Option.{slice_get_within}
use Rattle.std.proofs.Common.{refl, sym, ap, ◌∙◌, inl, inr, subst}
use Rattle.graphql_spec.specs.Laws.{In}
use Rattle.graphql_spec.proofs.Lists.{same_refl, same_true}
use Rattle.graphql_spec.proofs.Grouping.{in_append, in_first, in_second}
use Rattle.juniper_merging.specs.MergingGraph.{FieldAt, view_vertex}
use Rattle.juniper_merging.specs.Nodes.{HasHead, SameHead, Selects}
use Rattle.juniper_merging.specs.Standing.{Both}
use Rattle.juniper_merging.specs.Tables.{below_in, joined}
use Rattle.juniper_merging.specs.Uniting.{AreHeads, IsHead, group_number, list_or_none, same_heads}
use Rattle.juniper_merging.specs.declared.graph.Vertex.{Vertex}
use Rattle.juniper_merging.specs.declared.heads.Head.{Head}
use Rattle.juniper_merging.proofs.Gathered.{joined-more}
use Rattle.juniper_merging.proofs.Joint.{both-in}
use Rattle.juniper_merging.proofs.Listing.{set-at}
use Rattle.juniper_merging.proofs.Looked.{none-some}
use Rattle.juniper_merging.proofs.Numbers.{itself, same-number}
use Rattle.juniper_merging.proofs.Places.{both-across, both-first, both-parts, both-second, both-turned}
use Rattle.juniper_merging.proofs.Tables.{in-first, one-of}
use Rattle.juniper_merging.proofs.Told.{some-same}

-- the group of a field
abbrev at_group : FieldAt → ℕ
at_group v = group_number v.key v.call

never : {A : Type 0} → true ≡ false → A
never e = cc

abbrev same-itself : (v : FieldAt) → SameHead v v
same-itself v = record { key = refl; parent = refl; on_object = refl; shape = refl; call = refl }

same-turned : (v w : FieldAt) → SameHead v w → SameHead w v
same-turned v w s = record { key = sym s.key; parent = sym s.parent; on_object = sym s.on_object; shape = sym s.shape; call = sym s.call }

same-through : (u v w : FieldAt) → SameHead u v → SameHead v w → SameHead u w
same-through u v w s t = record {
  key = s.key ∙ t.key;
  parent = s.parent ∙ t.parent;
  on_object = s.on_object ∙ t.on_object;
  shape = s.shape ∙ t.shape;
  call = s.call ∙ t.call;
}

alone : {A : Type 0} {x y z : A} → Both x y (z ∷ []) → ⊥
alone (inl (q, i)) = i
alone (inr (inl (q, i))) = i
alone (inr (inr b)) = b

-- ## What they select

module _ (vs : List FieldAt) (F : List ℕ) (h : FieldAt) where
  pub selects-none : ((i : ℕ) → In i F → HasHead vs h i → ⊥) → Selects vs F h []
  selects-none none = record {
    one = λ x m. absurd m;
    one_back = λ i m a. absurd (none i m a);
    two = λ x y b. absurd b;
    two_own = λ i m a. absurd (none i m a);
    two_apart = λ i j b a. absurd (none i (both-in i j F b).0 a);
  }

  module _ (l : List ℕ) (s : Selects vs F h l) (k : ℕ) where
    pub selects-other : (HasHead vs h k → ⊥) → Selects vs (F ++ k ∷ []) h l
    selects-other other = record {
      one = λ x m. let r = s.one x m in (r.0, in_first r.0 F (k ∷ []) r.1, r.2);
      one_back = λ i m a. s.one_back i (inside i m a) a;
      two = λ x y b. elim (s.two x y b) [
        | inl r ↦ inl (r.0, in_first r.0 F (k ∷ []) r.1, r.2)
        | inr r ↦ inr (r.0, r.1, both-first r.0 r.1 F (k ∷ []) r.2, r.3)
      ];
      two_own = λ i m a. s.two_own i (inside i m a) a;
      two_apart = λ i j b a c. s.two_apart i j (places i j b a c) a c;
    }
      where
        inside : (i : ℕ) → In i (F ++ k ∷ []) → HasHead vs h i → In i F
        inside i m a = elim (in_append i F (k ∷ []) m) [
          | inl n ↦ n
          | inr (inl q) ↦ absurd (other (subst (HasHead vs h) q a))
          | inr (inr n) ↦ absurd n
        ]

        places : (i j : ℕ) → Both i j (F ++ k ∷ []) → HasHead vs h i → HasHead vs h j → Both i j F
        places i j b a c = elim (both-parts i j F (k ∷ []) b) [
          | inl d ↦ d
          | inr (inl d) ↦ absurd (alone d)
          | inr (inr (inl (p, inl q))) ↦ absurd (other (subst (HasHead vs h) q c))
          | inr (inr (inl (p, inr q))) ↦ absurd q
          | inr (inr (inr (p, inl q))) ↦ absurd (other (subst (HasHead vs h) q a))
          | inr (inr (inr (p, inr q))) ↦ absurd q
        ]

    module _ (a : HasHead vs h k) where
      own : (j : ℕ) → j ≡ k → (b : HasHead vs h j) → b.field ≡ a.field
      own j q b = some-same (sym b.there ∙ (ap (slice_get vs) q ∙ a.there))

      abbrev more : List ℕ
      more = a.field.below

      pub selects-more : Selects vs (F ++ k ∷ []) h (l ++ a.field.below)
      selects-more = record {
        one = λ x m. elim (in_append x l more m) [
          | inl n ↦ (let r = s.one x n in (r.0, in_first r.0 F (k ∷ []) r.1, r.2))
          | inr n ↦ (k, in_second k F (k ∷ []) (inl refl), (a, n))
        ];
        one_back = λ j m b x n. elim (in_append j F (k ∷ []) m) [
          | inl p ↦ in_first x l more (s.one_back j p b x n)
          | inr (inl q) ↦ in_second x l more (subst (λ (v : FieldAt). In x v.below) (own j q b) n)
          | inr (inr q) ↦ absurd q
        ];
        two = λ x y c. elim (both-parts x y l more c) [
          | inl d ↦ elim (s.two x y d) [
            | inl r ↦ inl (r.0, in_first r.0 F (k ∷ []) r.1, r.2)
            | inr r ↦ inr (r.0, r.1, both-first r.0 r.1 F (k ∷ []) r.2, r.3)
          ]
          | inr (inl d) ↦ inl (k, in_second k F (k ∷ []) (inl refl), (a, d))
          | inr (inr (inl (p, q))) ↦ (let r = s.one x p in inr (r.0, k, both-across r.0 k F (k ∷ []) r.1 (inl refl), (r.2.0, a, r.2.1, q)))
          | inr (inr (inr (p, q))) ↦ (let r = s.one y p in
              inr (k, r.0, both-turned r.0 k (F ++ k ∷ []) (both-across r.0 k F (k ∷ []) r.1 (inl refl)), (a, r.2.0, q, r.2.1)))
        ];
        two_own = λ j m b x y c. elim (in_append j F (k ∷ []) m) [
          | inl p ↦ both-first x y l more (s.two_own j p b x y c)
          | inr (inl q) ↦ both-second x y l more (subst (λ (v : FieldAt). Both x y v.below) (own j q b) c)
          | inr (inr q) ↦ absurd q
        ];
        two_apart = λ i j c b d x y m n. elim (both-parts i j F (k ∷ []) c) [
          | inl e ↦ both-first x y l more (s.two_apart i j e b d x y m n)
          | inr (inl e) ↦ absurd (alone e)
          | inr (inr (inl (p, inl q))) ↦ both-across x y l more (s.one_back i p b x m) (subst (λ (v : FieldAt). In y v.below) (own j q d) n)
          | inr (inr (inl (p, inr q))) ↦ absurd q
          | inr (inr (inr (p, inl q))) ↦ both-turned y x (l ++ more) (both-across y x l more (s.one_back j p d y n)
              (subst (λ (v : FieldAt). In x v.below) (own i q b) m))
          | inr (inr (inr (p, inr q))) ↦ absurd q
        ];
      }

-- ## Heads

module _ (vs : List FieldAt) (t : List (List ℕ)) where
  pub heads-none : (heads : List Head) (groups : ℕ → List ℕ) → heads ≡ [] → AreHeads vs t [] heads groups
  heads-none heads groups empty = record {
    each = λ p hd e. none-some (subst (λ l. slice_get l p ≡ Some hd) empty e);
    known = λ i m. absurd m;
    covers = λ i v m. absurd m;
    apart = λ p q hd he e. none-some (subst (λ l. slice_get l p ≡ Some hd) empty e);
    grouped = λ p hd h e. none-some (subst (λ l. slice_get l p ≡ Some hd) empty e);
  }

  -- a field that is not of a head
  head-other : (F : List ℕ) (k : ℕ) (hd : Head) (is : IsHead vs t F hd) → (HasHead vs is.head k → ⊥) → IsHead vs t (F ++ k ∷ []) hd
  head-other F k hd is other = record {
    head = is.head;
    there = is.there;
    inside = in_first hd.field F (k ∷ []) is.inside;
    lone = λ e i j b a c. elim (both-parts i j F (k ∷ []) b) [
      | inl d ↦ is.lone e i j d a c
      | inr (inl d) ↦ alone d
      | inr (inr (inl (p, inl q))) ↦ other (subst (HasHead vs is.head) q c)
      | inr (inr (inl (p, inr q))) ↦ q
      | inr (inr (inr (p, inl q))) ↦ other (subst (HasHead vs is.head) q a)
      | inr (inr (inr (p, inr q))) ↦ q
    ];
    many = λ e. let r = is.many e in (r.0, r.1, both-first r.0 r.1 F (k ∷ []) r.2, r.3, r.4);
    selects = selects-other vs F is.head (joined t hd.below.items) is.selects k other;
  }

  module _ (F : List ℕ) (heads : List Head) (groups : ℕ → List ℕ) (are : AreHeads vs t F heads groups) (k : ℕ) where
    module _ (v : FieldAt) (there : slice_get vs k ≡ Some v) (below : Option ℕ) (selected : v.below ≡ below_in t below) where
      below-more : (below' : List ℕ) → joined t (below' ++ list_or_none below) ≡ joined t below' ++ v.below
      unfolding below_in list_or_none
      below-more ds = at below selected
        where
          at : (o : Option ℕ) → v.below ≡ below_in t o → joined t (ds ++ list_or_none o) ≡ joined t ds ++ v.below
          at None e = ap (joined t) (append-nil ds) ∙ (sym (append-nil (joined t ds)) ∙ ap (λ l. joined t ds ++ l) (sym e))
          at (Some d) e = joined-more t ds d ∙ ap (λ l. joined t ds ++ l) (sym e)

      abbrev is-own : (h : FieldAt) → SameHead h v → HasHead vs h k
      is-own h s = record { field = v; there = there; same = s }

      covered : (i : ℕ) (w : FieldAt) → i ≡ k → slice_get vs i ≡ Some w → v ≡ w
      covered i w q e = some-same (sym there ∙ (sym (ap (slice_get vs) q) ∙ e))

      known-now : (i : ℕ) → In i (F ++ k ∷ []) → (w : FieldAt) × (slice_get vs i ≡ Some w)
      known-now i m = elim (in_append i F (k ∷ []) m) [
        | inl n ↦ are.known i n
        | inr (inl q) ↦ (v, ap (slice_get vs) q ∙ there)
        | inr (inr n) ↦ absurd n
      ]

      -- the head of a field that has none yet
      pub heads-new : (hd : Head) (more : List Head) (now : ℕ → List ℕ) → hd.field ≡ k → hd.is_many ≡ false → hd.below.items ≡ list_or_none below →
          more ≡ heads ++ hd ∷ [] →
          ((p : ℕ) (he : Head) → slice_get heads p ≡ Some he → (h : FieldAt) → slice_get vs he.field ≡ Some h → SameHead h v → ⊥) →
          ((n : ℕ) → now n ≡ cond (nat_eq (at_group v) n) (groups (at_group v) ++ length heads ∷ []) (groups n)) → AreHeads vs t (F ++ k ∷ []) more now
      unfolding joined
      heads-new hd more now field one selects push new regrouped = subst (λ l. AreHeads vs t (F ++ k ∷ []) l now) (sym push) (record {
        each = λ p he e. elim (one-of heads hd he p e) [
          | inl f ↦ (let is = are.each p he f in head-other F k he is (λ a. new p he f is.head is.there
              (subst (SameHead is.head) (some-same (sym a.there ∙ there)) a.same)))
          | inr f ↦ subst (IsHead vs t (F ++ k ∷ [])) f.1 own
        ];
        known = λ i m. known-now i m;
        covers = λ i w m e. elim (in_append i F (k ∷ []) m) [
          | inl n ↦ (let r = are.covers i w n e in (r.0, r.1, in-first heads (hd ∷ []) r.0 r.1 r.2, r.3))
          | inr (inl q) ↦ (length heads, hd, last, (v, at-own, subst (SameHead v) (covered i w q e) (same-itself v)))
          | inr (inr n) ↦ absurd n
        ];
        apart = λ p q he hf e f d h w eh ef s. elim (one-of heads hd he p e) [
          | inl g ↦ elim (one-of heads hd hf q f) [
            | inl g' ↦ are.apart p q he hf g g' d h w eh ef s
            | inr g' ↦ new p he g h eh (subst (SameHead h) (own-field hf w g'.1 ef) s)
          ]
          | inr g ↦ elim (one-of heads hd hf q f) [
            | inl g' ↦ new q hf g' w ef (same-turned v w (subst (λ u. SameHead u w) (own-field he h g.1 eh) s))
            | inr g' ↦ d (g.0 ∙ sym g'.0)
          ]
        ];
        grouped = λ p he h e eh. elim (one-of heads hd he p e) [
          | inl g ↦ subst (In p) (sym (regrouped (at_group h))) (kept p (at_group h) (are.grouped p he h g eh))
          | inr g ↦ subst (λ n. In n (now (at_group h))) (sym g.0)
              (subst (In (length heads)) (sym (regrouped (at_group h))) (own-group h (own-field he h g.1 eh)))
        ];
      })
        where
          at-own : slice_get vs hd.field ≡ Some v
          at-own = ap (slice_get vs) field ∙ there

          last : slice_get (heads ++ hd ∷ []) (length heads) ≡ Some hd
          last = at heads
            where
              at : (l : List Head) → slice_get (l ++ hd ∷ []) (length l) ≡ Some hd
              at [] = refl
              at (x ∷ l) = at l

          own-field : (he : Head) (h : FieldAt) → hd ≡ he → slice_get vs he.field ≡ Some h → h ≡ v
          own-field he h q e = some-same (sym e ∙ (sym (ap (λ (x : Head). slice_get vs x.field) q) ∙ at-own))

          none : (i : ℕ) → In i F → HasHead vs v i → ⊥
          none i m a = let r = are.covers i a.field m a.there in
              new r.0 r.1 r.2 r.3.0 r.3.1 (same-through r.3.0 a.field v r.3.2 (same-turned v a.field a.same))

          own : IsHead vs t (F ++ k ∷ []) hd
          own = record {
            head = v;
            there = at-own;
            inside = subst (λ n. In n (F ++ k ∷ [])) (sym field) (in_second k F (k ∷ []) (inl refl));
            lone = λ e i j b a c. elim (both-parts i j F (k ∷ []) b) [
              | inl d ↦ none i (both-in i j F d).0 a
              | inr (inl d) ↦ alone d
              | inr (inr (inl (p, q))) ↦ none i p a
              | inr (inr (inr (p, q))) ↦ none j p c
            ];
            many = λ e. never (sym e ∙ one);
            selects = subst (Selects vs (F ++ k ∷ []) v) (sym (ap (joined t) selects ∙ below-more []))
                (selects-more vs F v [] (selects-none vs F v none) k (is-own v (same-itself v)));
          }

          kept : (p n : ℕ) → In p (groups n) → In p (cond (nat_eq (at_group v) n) (groups (at_group v) ++ length heads ∷ []) (groups n))
          kept p n m = elim (cases_Bool (nat_eq (at_group v) n)) [
            | inl q ↦ rw q (in_first p (groups (at_group v)) (length heads ∷ []) (subst (λ i. In p (groups i)) (sym (same-number (at_group v) n q)) m))
            | inr q ↦ rw q m
          ]

          own-group : (h : FieldAt) → h ≡ v → In (length heads)
              (cond (nat_eq (at_group v) (at_group h)) (groups (at_group v) ++ length heads ∷ []) (groups (at_group h)))
          own-group h q =
              let e : nat_eq (at_group v) (at_group h) ≡ true = subst (λ (u : FieldAt). nat_eq (at_group v) (at_group u) ≡ true) (sym q)
              (itself (at_group v)) in
              rw e (in_second (length heads) (groups (at_group v)) (length heads ∷ []) (inl refl))

      -- a place more of a head
      pub heads-added : (p : ℕ) (hd new : Head) (h : FieldAt) (more : List Head) (now : ℕ → List ℕ) → slice_get heads p ≡ Some hd →
          slice_get vs hd.field ≡ Some h → SameHead h v → more ≡ slice_set heads p new → new.field ≡ hd.field → new.is_many ≡ true →
          new.below.items ≡ hd.below.items ++ list_or_none below →
          ((n : ℕ) → now n ≡ groups n) → AreHeads vs t (F ++ k ∷ []) more now
      unfolding joined
      heads-added p hd new h more now at first same put field several selects kept = subst (λ l. AreHeads vs t (F ++ k ∷ []) l now) (sym put) (record {
        each = λ q he e. elim (cases_Bool (nat_eq p q)) [
          | inl s ↦ subst (IsHead vs t (F ++ k ∷ [])) (some-same (sym (here q s) ∙ e)) own
          | inr s ↦ (let f = sym (there-still q s) ∙ e in let is = are.each q he f in head-other F k he is (λ a.
              apart q s he f is.head is.there (subst (SameHead is.head) (some-same (sym a.there ∙ there)) a.same)))
        ];
        known = λ i m. known-now i m;
        covers = λ i w m e. elim (in_append i F (k ∷ []) m) [
          | inl n ↦ moved i w (are.covers i w n e)
          | inr (inl q) ↦ (p, new, here p (itself p), (h, ap (slice_get vs) field ∙ first, subst (SameHead h) (covered i w q e) same))
          | inr (inr n) ↦ absurd n
        ];
        apart = λ q r he hf e f d a b ea eb. are.apart q r (old q he e).0 (old r hf f).0 (old q he e).1 (old r hf f).1 d a b
            (ap (slice_get vs) (sym (old q he e).2) ∙ ea) (ap (slice_get vs) (sym (old r hf f).2) ∙ eb);
        grouped = λ q he w e ew. subst (In q) (sym (kept (at_group w))) (are.grouped q (old q he e).0 w (old q he e).1
            (ap (slice_get vs) (sym (old q he e).2) ∙ ew));
      })
        where
          below-p : p < length heads
          below-p = slice_get_within heads p hd at

          here : (q : ℕ) → nat_eq p q ≡ true → slice_get (slice_set heads p new) q ≡ Some new
          here q s = set-at new heads p q below-p ∙ ap (λ b. cond b (Some new) (slice_get heads q)) s

          there-still : (q : ℕ) → nat_eq p q ≡ false → slice_get (slice_set heads p new) q ≡ slice_get heads q
          there-still q s = set-at new heads p q below-p ∙ ap (λ b. cond b (Some new) (slice_get heads q)) s

          -- the head that stood at a place has the same field
          old : (q : ℕ) (he : Head) → slice_get (slice_set heads p new) q ≡ Some he → (hf : Head) × (slice_get heads q ≡ Some hf) × (he.field ≡ hf.field)
          old q he e = elim (cases_Bool (nat_eq p q)) [
            | inl s ↦ (
              hd,
              ap (slice_get heads) (sym (same-number p q s)) ∙ at,
              sym (ap (λ (x : Head). x.field) (some-same (sym (here q s) ∙ e))) ∙ field,
            )
            | inr s ↦ (he, sym (there-still q s) ∙ e, refl)
          ]

          apart : (q : ℕ) → nat_eq p q ≡ false → (he : Head) → slice_get heads q ≡ Some he → (w : FieldAt) → slice_get vs he.field ≡ Some w → SameHead w v → ⊥
          apart q s he f w ew sw = are.apart q p he hd f at (λ e. never (sym (subst (λ n. nat_eq p n ≡ true) (sym e) (itself p)) ∙ s)) w h ew first
              (same-through w v h sw (same-turned h v same))

          moved : (i : ℕ) (w : FieldAt) → (q : ℕ) × (he : Head) × (slice_get heads q ≡ Some he) × ((a : FieldAt) × (slice_get vs he.field ≡ Some a) ×
              SameHead a w) →
              (q : ℕ) × (he : Head) × (slice_get (slice_set heads p new) q ≡ Some he) × ((a : FieldAt) × (slice_get vs he.field ≡ Some a) × SameHead a w)
          moved i w r = elim (cases_Bool (nat_eq p r.0)) [
            | inl s ↦ (let e : hd ≡ r.1 = some-same (sym at ∙ (ap (slice_get heads) (same-number p r.0 s) ∙ r.2)) in
                (r.0, new, here r.0 s, (r.3.0, ap (slice_get vs) (field ∙ ap (λ (x : Head). x.field) e) ∙ r.3.1, r.3.2)))
            | inr s ↦ (r.0, r.1, there-still r.0 s ∙ r.2, r.3)
          ]

          is : IsHead vs t F hd
          is = are.each p hd at

          same-head : is.head ≡ h
          same-head = some-same (sym is.there ∙ first)

          mine : HasHead vs is.head k
          mine = is-own is.head (subst (λ u. SameHead u v) (sym same-head) same)

          first-place : HasHead vs is.head hd.field
          first-place = record { field = is.head; there = is.there; same = same-itself is.head }

          own : IsHead vs t (F ++ k ∷ []) new
          own = record {
            head = is.head;
            there = ap (slice_get vs) field ∙ is.there;
            inside = subst (λ n. In n (F ++ k ∷ [])) (sym field) (in_first hd.field F (k ∷ []) is.inside);
            lone = λ e. never (sym several ∙ e);
            many = λ e. (hd.field, k, both-across hd.field k F (k ∷ []) is.inside (inl refl), first-place, mine);
            selects = subst (Selects vs (F ++ k ∷ []) is.head) (sym (ap (joined t) selects ∙ below-more hd.below.items))
                (selects-more vs F is.head (joined t hd.below.items) is.selects k mine);
          }

-- ## Whether fields have one head

pub heads-same : (v w : FieldAt) → same_heads v w ≡ true → SameHead v w
unfolding same_heads
heads-same v w e =
    let a = and_parts (nat_eq v.shape w.shape) _ e in
    let b = and_parts (nat_eq v.call w.call) _ a.1 in
    let c = and_parts (cond v.on_object w.on_object (not w.on_object)) _ b.1 in
    let d = and_parts (bytes_eq v.parent w.parent) (nat_eq v.key w.key) c.1 in
    record {
      key = same-number v.key w.key d.1;
      parent = same_true v.parent w.parent d.0;
      on_object = truth v.on_object w.on_object c.0;
      shape = same-number v.shape w.shape a.0;
      call = same-number v.call w.call b.0;
    }
  where
    truth : (a b : Bool) → cond a b (not b) ≡ true → a ≡ b
    truth true true e = refl
    truth true false e = cc
    truth false true e = cc
    truth false false e = refl

pub heads-told : (v w : FieldAt) → SameHead v w → same_heads v w ≡ true
unfolding same_heads
heads-told v w s = (λ t. nat_eq (s.shape t) w.shape && (nat_eq (s.call t) w.call && (cond (s.on_object t) w.on_object (not w.on_object)
    && (bytes_eq (s.parent t) w.parent && nat_eq (s.key t) w.key)))) ∙ itself-told w
  where
    truth : (b : Bool) → cond b b (not b) ≡ true
    truth true = refl
    truth false = refl

    both : (a b : Bool) → a ≡ true → b ≡ true → (a && b) ≡ true
    both a b e f = rw (e, f) refl

    itself-told : (w : FieldAt) → (nat_eq w.shape w.shape && (nat_eq w.call w.call && (cond w.on_object w.on_object (not w.on_object)
        && (bytes_eq w.parent w.parent && nat_eq w.key w.key)))) ≡ true
    itself-told w = both _ _ (itself w.shape) (both _ _ (itself w.call) (both _ _ (truth w.on_object) (both _ _ (same_refl w.parent) (itself w.key))))

pub not-same : (v w : FieldAt) → same_heads v w ≡ false → SameHead v w → ⊥
not-same v w e s = never (sym (heads-told v w s) ∙ e)

pub false-true : {A : Type 0} → false ≡ true → A
false-true e = cc

-- the same of vertices, whatever the sets hold
module _ (t : List (List ℕ)) (x y : Vertex) where
  pub heads-of : same_heads (view_vertex [] x) (view_vertex [] y) ≡ true → SameHead (view_vertex t x) (view_vertex t y)
  unfolding view_vertex
  heads-of e = let s = heads-same (view_vertex [] x) (view_vertex [] y) e in
      record { key = s.key; parent = s.parent; on_object = s.on_object; shape = s.shape; call = s.call }

  pub not-of : same_heads (view_vertex [] x) (view_vertex [] y) ≡ false → SameHead (view_vertex t x) (view_vertex t y) → ⊥
  unfolding view_vertex
  not-of e s = not-same (view_vertex [] x) (view_vertex [] y) e
      (record { key = s.key; parent = s.parent; on_object = s.on_object; shape = s.shape; call = s.call })
