-- How entries, nodes and their parts clash, one behind the other.
use Rattle.std.specs.Prelude.{ℕ, Bool, true, false, not, ◌&&◌, ◌||◌, List, [], ◌∷◌, ◌++◌, ◌≡◌, ◌⊎◌, ◌<◌, ◌+◌, Some, length, get_or, nat_eq, take}
use Rattle.std.specs.List.{slice_get}
use Rattle.std.proofs.lemmas.Bool.{cases_Bool}
use Rattle.std.proofs.lemmas.List.{append_assoc, append-nil}
use Rattle.std.proofs.Common.{refl, sym, ap, ◌∙◌, inl, inr, subst}
use Rattle.graphql_spec.specs.Laws.{In}
use Rattle.graphql_spec.proofs.Grouping.{in_append, in_first, in_second}
use Rattle.juniper_merging.specs.Conflicts.{AreAllPaired, over}
use Rattle.juniper_merging.specs.MergingGraph.{FieldAt, agree, can_meet, merge_at}
use Rattle.juniper_merging.specs.Nodes.{Alike, AreEntries, ArePaired, Bad, BadPair, Good, HasHead, IsEntry, IsNode, SameHead, Says, SaysBoth, flat, list_of}
use Rattle.juniper_merging.specs.Questions.{passes, tested_at, worse}
use Rattle.juniper_merging.specs.Standing.{Both}
use Rattle.juniper_merging.specs.declared.clash.Clash.{Clash}
use Rattle.juniper_merging.specs.declared.clash.Clash.TheVariants as clash
use Rattle.juniper_merging.specs.declared.nodes.Entry.{Entry}
use Rattle.juniper_merging.specs.declared.nodes.Node.{Node}
use Rattle.juniper_merging.proofs.Joint.{Test, agree-of, bad-first, bad-second, both-differ, both-in, fields-pass, heads-key}
use Rattle.juniper_merging.proofs.Joint.{in-two, nothing-passes, nothing-says, one-head-bad}
use Rattle.juniper_merging.proofs.Joint.{one-head-good, says-join, says-more, test-turn, two-heads-bad, two-heads-differ, two-heads-good, worse-bad, worse-good}
use Rattle.juniper_merging.proofs.Passed.{one-more}
use Rattle.juniper_merging.proofs.Places.{both-across, both-first, both-parts, both-second}
use Rattle.juniper_merging.proofs.Rows.{over-passes}
use Rattle.juniper_merging.proofs.Tables.{is-there}
use Rattle.juniper_merging.proofs.Told.{first-missing, second-missing, some-same}

never : {A : Type 0} → true ≡ false → A
never e = cc

-- ## Nodes

pub itself-alike : (xs : List ℕ) → Alike xs xs
itself-alike xs = record {
  one = λ x i. (x, refl, i);
  one_back = λ n i. (n, refl, i);
  two = λ x y b. (x, y, refl, refl, b);
  two_back = λ m n b. (m, n, refl, refl, b);
}

module _ (vs : List FieldAt) (H : ℕ → List ℕ) where
  no-entries : (es : List Entry) → es ≡ [] → AreEntries vs H [] es
  no-entries es none = record {
    each = λ e i. absurd (subst (In e) none i);
    covers = λ i v m. absurd m;
    apart = λ e f b. absurd (subst (Both e f) none b);
  }

  -- a node without parts has entries for what it holds
  pub node-entries : (n : Node) (l : List ℕ) → n.parts.items ≡ [] → IsNode vs H n l → (F : List ℕ) × Alike l F × AreEntries vs H F n.entries.items
  unfolding flat
  node-entries n l none (inl r) = (r.0, r.2, r.3)
  node-entries n l none (inr r) = ([], subst (λ ps. Alike l (flat H ps)) none r.1, no-entries n.entries.items r.0)

  -- a node with parts holds what they do
  pub node-parts : (n : Node) (l : List ℕ) → (n.parts.items ≡ [] → ⊥) → IsNode vs H n l → (n.entries.items ≡ []) × Alike l (flat H n.parts.items)
  node-parts n l some (inl r) = absurd (some r.1)
  node-parts n l some (inr r) = (r.0, r.1)

  flat-more : (ps : List ℕ) (p : ℕ) → flat H (ps ++ p ∷ []) ≡ flat H ps ++ H p
  unfolding flat
  flat-more [] p = append-nil (H p)
  flat-more (q ∷ ps) p = ap (λ l. H q ++ l) (flat-more ps p) ∙ sym (append_assoc (H q) (flat H ps) (H p))

  flat-at : (ps : List ℕ) (i p : ℕ) → i < length ps → p ≡ get_or ps i p → flat H (take (i + 1) ps) ≡ flat H (take i ps) ++ H p
  flat-at ps i p below at = ap (flat H) (one-more ps i p below at) ∙ flat-more (take i ps) p

  -- ## Parts, one behind the other

  pub no-parts : (ys : List ℕ) → SaysBoth vs (flat H []) ys clash.Nothing
  unfolding flat
  no-parts ys = record { good = λ m e n i j k. absurd k; bad = λ m e. nothing-passes m e }

  pub parts-more : (ps : List ℕ) (i p other : ℕ) (a b c : Clash) → i < length ps → p ≡ get_or ps i p → c ≡ worse a b →
      SaysBoth vs (flat H (take i ps)) (H other) a → SaysBoth vs (H p) (H other) b → SaysBoth vs (flat H (take (i + 1) ps)) (H other) c
  parts-more ps i p other a b c below at is x y = subst (λ l. SaysBoth vs l (H other) c) (sym (flat-at ps i p below at))
      (subst (SaysBoth vs (flat H (take i ps) ++ H p) (H other)) (sym is) (says-more vs (flat H (take i ps)) (H p) (H other) a b x y))

  pub no-parts-within : Says vs (flat H []) clash.Nothing
  unfolding flat
  no-parts-within = nothing-says vs [] (λ m n i j b. absurd b)

  pub parts-within-more : (ps : List ℕ) (i p : ℕ) (a b d e c : Clash) → i < length ps → p ≡ get_or ps i p → e ≡ worse b d → c ≡ worse a e →
      Says vs (flat H (take i ps)) a → Says vs (H p) b → SaysBoth vs (flat H (take i ps)) (H p) d → Says vs (flat H (take (i + 1) ps)) c
  parts-within-more ps i p a b d e c below at both is x y z = subst (λ l. Says vs l c) (sym (flat-at ps i p below at))
      (subst (Says vs (flat H (take i ps) ++ H p)) (sym (is ∙ ap (worse a) both)) (says-join vs (flat H (take i ps)) (H p) a b d x y z))

  -- ## Two entries

  module _ (F G : List ℕ) (e f : Entry) (p : IsEntry vs H F e) (q : IsEntry vs H G f) where
    own : HasHead vs p.head e.field
    own = record { field = p.head; there = p.there; same = record { key = refl; parent = refl; on_object = refl; shape = refl; call = refl } }

    other : HasHead vs q.head f.field
    other = record { field = q.head; there = q.there; same = record { key = refl; parent = refl; on_object = refl; shape = refl; call = refl } }

    pub keys-differ : nat_eq p.head.key q.head.key ≡ false → ArePaired vs F G p.head q.head clash.Nothing
    keys-differ d = record {
      good = λ m g n i j s a t b. fields-pass vs m i j a.field b.field a.there b.there n
          (λ k. never (sym k ∙ (sym (heads-key p.head a.field q.head b.field a.same b.same) ∙ d)));
      bad = λ m g. nothing-passes m g;
    }

    pub shapes-differ : nat_eq p.head.key q.head.key ≡ true → nat_eq p.head.shape q.head.shape ≡ false → ArePaired vs F G p.head q.head clash.Shape
    unfolding agree passes
    shapes-differ same d = record {
      good = λ m g. never (sym g);
      bad = λ m g. two-heads-differ vs F G p.head q.head (list_of H e.child) (list_of H f.child) p.child q.child m same e.field f.field p.inside own
          q.inside other (ap (λ b. b && (not (m && can_meet p.head q.head) || nat_eq p.head.call q.head.call)) d);
    }

    pub by-over : (c o : Clash) → nat_eq p.head.key q.head.key ≡ true → nat_eq p.head.shape q.head.shape ≡ true →
        o ≡ over (can_meet p.head q.head) (nat_eq p.head.call q.head.call) c → Says vs (list_of H e.child ++ list_of H f.child) c →
        ArePaired vs F G p.head q.head o
    by-over c o same shape is says = record {
      good = λ m g.
          let r = and-both (calls m) (passes (m && can_meet p.head q.head) c) (sym (at m) ∙ g) in
          let k = m && can_meet p.head q.head in
          let whole = says.good k r.1 in
          two-heads-good vs F G p.head q.head (list_of H e.child) (list_of H f.child) p.child q.child m (agree-of m true p.head q.head shape r.0)
          (λ n x y b. whole n x y (both-first x y (list_of H e.child) (list_of H f.child) b))
          (λ n x y b. whole n x y (both-second x y (list_of H e.child) (list_of H f.child) b))
          (λ n x y i j. whole n x y (both-across x y (list_of H e.child) (list_of H f.child) i j));
      bad = λ m g. elim (either (calls m) (passes (m && can_meet p.head q.head) c) (sym (at m) ∙ g)) [
        | inl d ↦ two-heads-differ vs F G p.head q.head (list_of H e.child) (list_of H f.child) p.child q.child m same e.field f.field p.inside own
            q.inside other (agree-of m false p.head q.head shape d)
        | inr d ↦ two-heads-bad vs F G p.head q.head (list_of H e.child) (list_of H f.child) p.child q.child m same e.field f.field p.inside own
            q.inside other (says.bad (m && can_meet p.head q.head) d)
      ];
    }
      where
        calls : Bool → Bool
        calls m = not (m && can_meet p.head q.head) || nat_eq p.head.call q.head.call

        at : (m : Bool) → passes m o ≡ (calls m && passes (m && can_meet p.head q.head) c)
        at m = ap (passes m) is ∙ over-passes m (can_meet p.head q.head) (nat_eq p.head.call q.head.call) c

        and-both : (a b : Bool) → (a && b) ≡ true → (a ≡ true) × (b ≡ true)
        and-both true b e = (refl, e)
        and-both false b e = never (sym e)

        either : (a b : Bool) → (a && b) ≡ false → (a ≡ false) ⊎ (b ≡ false)
        either true b e = inr e
        either false b e = inl refl

  -- ## An entry beside others

  pub all-none : (F G : List ℕ) (k : FieldAt) → AreAllPaired vs F G [] k clash.Nothing
  all-none F G k = record { good = λ m e x i. absurd i; bad = λ m e. nothing-passes m e }

  pub all-more : (F G : List ℕ) (es : List Entry) (e : Entry) (h k : FieldAt) (a b : Clash) → slice_get vs e.field ≡ Some h →
      AreAllPaired vs F G es k a → ArePaired vs F G h k b → AreAllPaired vs F G (es ++ e ∷ []) k (worse a b)
  all-more F G es e h k a b there all pair = record {
    good = λ m g x i. let u = worse-good m a b g in elim (in_append x es (e ∷ []) i) [
      | inl j ↦ all.good m u.0 x j
      | inr (inl q) ↦ (λ v f. subst (λ w. (n i j : ℕ) → In i F → HasHead vs w i → In j G → HasHead vs k j → tested_at vs (merge_at vs n m) i j ≡ true)
          (some-same (sym there ∙ (sym (ap (λ (y : Entry). slice_get vs y.field) q) ∙ f))) (pair.good m u.1))
      | inr (inr j) ↦ absurd j
    ];
    bad = λ m g. elim (worse-bad m a b g) [
      | inl f ↦ (let r = all.bad m f in (r.0, in_first r.0 es (e ∷ []) r.1, r.2))
      | inr f ↦ (e, in_second e es (e ∷ []) (inl refl), (h, there, pair.bad m f))
    ];
  }

  -- ## The entries of a node

  module _ (F : List ℕ) where
    -- how the fields of the first of them clash
    pub record IsWithin (es : List Entry) (c : Clash) : Type 0 where
      pub own : (m : Bool) → passes m c ≡ true → (e : Entry) → In e es → e.is_many ≡ true → Good vs m (list_of H e.child)
      pub two : (m : Bool) → passes m c ≡ true → (e f : Entry) → Both e f es → (h k : FieldAt) → slice_get vs e.field ≡ Some h →
          slice_get vs f.field ≡ Some k → (n i j : ℕ) → In i F → HasHead vs h i → In j F → HasHead vs k j → tested_at vs (merge_at vs n m) i j ≡ true
      pub bad : (m : Bool) → passes m c ≡ false → Bad vs m F

    pub within-none : IsWithin [] clash.Nothing
    within-none = record { own = λ m e x i. absurd i; two = λ m e x y b. absurd b; bad = λ m e. nothing-passes m e }

    pub within-more : (es : List Entry) (e : Entry) (c o x : Clash) → IsWithin es c → (p : IsEntry vs H F e) →
        (e.is_many ≡ true → Says vs (list_of H e.child) o) → (e.is_many ≡ false → o ≡ clash.Nothing) → AreAllPaired vs F F es p.head x →
        ((f : Entry) → In f es → (h k : FieldAt) → slice_get vs f.field ≡ Some h → slice_get vs e.field ≡ Some k → SameHead h k → ⊥) →
        IsWithin (es ++ e ∷ []) (worse c (worse o x))
    within-more es e c o x is p many lone all apart = record {
      own = λ m g y i several. let u = worse-good m c (worse o x) g in let w = worse-good m o x u.1 in elim (in_append y es (e ∷ []) i) [
        | inl j ↦ is.own m u.0 y j several
        | inr (inl q) ↦ subst (λ (z : Entry). Good vs m (list_of H z.child)) (sym q)
            ((many (subst (λ (z : Entry). z.is_many ≡ true) q several)).good m w.0)
        | inr (inr j) ↦ absurd j
      ];
      two = λ m g y z b h k s t. let u = worse-good m c (worse o x) g in let w = worse-good m o x u.1 in elim (both-parts y z es (e ∷ []) b) [
        | inl d ↦ is.two m u.0 y z d h k s t
        | inr (inl d) ↦ absurd (alone d)
        | inr (inr (inl (i, inl q))) ↦ (λ n a d ia ha id hd. all.good m w.1 y i h s n a d ia ha id
            (subst (λ v. HasHead vs v d) (some-same (sym t ∙ (ap (λ (y : Entry). slice_get vs y.field) q ∙ p.there))) hd))
        | inr (inr (inl (i, inr j))) ↦ absurd j
        | inr (inr (inr (i, inl q))) ↦ (λ n a d ia ha id hd. test-turn vs m n a d ∙ all.good m w.1 z i k t n d a id hd ia
            (subst (λ v. HasHead vs v a) (some-same (sym s ∙ (ap (λ (y : Entry). slice_get vs y.field) q ∙ p.there))) ha))
        | inr (inr (inr (i, inr j))) ↦ absurd j
      ];
      bad = λ m g. elim (worse-bad m c (worse o x) g) [
        | inl f ↦ is.bad m f
        | inr f ↦ elim (worse-bad m o x f) [
          | inl d ↦ elim (cases_Bool e.is_many) [
            | inl several ↦ (let r = p.many several in one-head-bad vs F p.head (list_of H e.child) p.child m r.0 r.1 r.2 r.3 r.4 ((many several).bad m d))
            | inr one ↦ nothing-passes m (subst (λ z. passes m z ≡ false) (lone one) d)
          ]
          | inr d ↦ clashing m (all.bad m d)
        ]
      ];
    }
      where
        alone : {y z : Entry} → Both y z (e ∷ []) → ⊥
        alone (inl (q, i)) = i
        alone (inr (inl (q, i))) = i
        alone (inr (inr b)) = b

        clashing : (m : Bool) → (f : Entry) × In f es × ((h : FieldAt) × (slice_get vs f.field ≡ Some h) × BadPair vs F F h p.head m) → Bad vs m F
        clashing m r = elim r.2.2 [
          | inl b ↦
              let same : b.1 ≡ b.2 → ⊥ = λ q. apart r.0 r.1 r.2.0 p.head r.2.1 p.there (one-head r.2.0 p.head b.1 b.2 b.4 b.6 q) in
              (b.0, b.1, b.2, both-differ b.1 b.2 F same b.3 b.5, b.7)
          | inr (inl b) ↦ b
          | inr (inr b) ↦ b
        ]
          where
            one-head : (h k : FieldAt) (i j : ℕ) (a : HasHead vs h i) (b : HasHead vs k j) → i ≡ j → SameHead h k
            one-head h k i j a b q =
                let v : b.field ≡ a.field = some-same (sym b.there ∙ (sym (ap (slice_get vs) q) ∙ a.there)) in
                record {
                  key = a.same.key ∙ (sym (ap (λ (u : FieldAt). u.key) v) ∙ sym b.same.key);
                  parent = a.same.parent ∙ (sym (ap (λ (u : FieldAt). u.parent) v) ∙ sym b.same.parent);
                  on_object = a.same.on_object ∙ (sym (ap (λ (u : FieldAt). u.on_object) v) ∙ sym b.same.on_object);
                  shape = a.same.shape ∙ (sym (ap (λ (u : FieldAt). u.shape) v) ∙ sym b.same.shape);
                  call = a.same.call ∙ (sym (ap (λ (u : FieldAt). u.call) v) ∙ sym b.same.call);
                }

    -- numbers that have no field pass
    with-fields : (m : Bool) (n i j : ℕ) → ((v w : FieldAt) → slice_get vs i ≡ Some v → slice_get vs j ≡ Some w → Test vs m n i j ≡ true) →
        Test vs m n i j ≡ true
    with-fields m n i j f = elim (is-there (slice_get vs i)) [
      | inl none ↦ (first-missing vs m i j none).yes refl n
      | inr r ↦ elim (is-there (slice_get vs j)) [
        | inl none ↦ (second-missing vs m i j r.0 r.1 none).yes refl n
        | inr s ↦ f r.0 s.0 r.1 s.1
      ]
    ]

    -- so it is told how each two of all fields clash
    pub within-all : (es : List Entry) (c : Clash) → AreEntries vs H F es → IsWithin es c → Says vs F c
    within-all es c are is = record {
      good = λ m g n i j b. with-fields m n i j (λ v w s t.
          let u = both-in-list i j b in
          let p = are.covers i v u.0 s in
          let q = are.covers j w u.1 t in
          let a : HasHead vs p.2.0 i = record { field = v; there = s; same = p.2.2 } in
          let d : HasHead vs q.2.0 j = record { field = w; there = t; same = q.2.2 } in
          elim (in-two p.0 q.0 es p.1 q.1) [
            | inl e ↦ same-entry m g n i j b p.0 p.1 p.2.0 p.2.1 a
                (subst (λ h. HasHead vs h j) (some-same (sym q.2.1 ∙ (sym (ap (λ (y : Entry). slice_get vs y.field) e) ∙ p.2.1))) d)
            | inr e ↦ is.two m g p.0 q.0 e p.2.0 q.2.0 p.2.1 q.2.1 n i j u.0 a u.1 d
          ]);
      bad = is.bad;
    }
      where
        both-in-list : (i j : ℕ) → Both i j F → In i F × In j F
        both-in-list i j b = both-in i j F b

        same-entry : (m : Bool) → passes m c ≡ true → (n i j : ℕ) → Both i j F → (e : Entry) → In e es → (h : FieldAt) → slice_get vs e.field ≡ Some h →
            HasHead vs h i → HasHead vs h j → Test vs m n i j ≡ true
        same-entry m g n i j b e k h there a d =
            let p = are.each e k in
            let same : h ≡ p.head = some-same (sym there ∙ p.there) in
            elim (cases_Bool e.is_many) [
              | inl several ↦ one-head-good vs F p.head (list_of H e.child) p.child m (is.own m g e k several) n i j b
                  (subst (λ v. HasHead vs v i) same a) (subst (λ v. HasHead vs v j) same d)
              | inr one ↦ absurd (p.lone one i j b (subst (λ v. HasHead vs v i) same a) (subst (λ v. HasHead vs v j) same d))
            ]

  -- ## The entries of two nodes

  module _ (F G : List ℕ) (es : List Entry) where
    -- how the fields of the first of the others clash with those of the one
    pub record IsBetween (fs : List Entry) (c : Clash) : Type 0 where
      pub good : (m : Bool) → passes m c ≡ true → (f : Entry) → In f fs → (k : FieldAt) → slice_get vs f.field ≡ Some k → (e : Entry) → In e es →
          (h : FieldAt) → slice_get vs e.field ≡ Some h → (n i j : ℕ) → In i F → HasHead vs h i → In j G → HasHead vs k j →
          tested_at vs (merge_at vs n m) i j ≡ true
      pub bad : (m : Bool) → passes m c ≡ false → Bad vs m (F ++ G)

    pub between-none : IsBetween [] clash.Nothing
    between-none = record { good = λ m e f i. absurd i; bad = λ m e. nothing-passes m e }

    pub between-more : (fs : List Entry) (f : Entry) (c x : Clash) (k : FieldAt) → IsBetween fs c → slice_get vs f.field ≡ Some k → AreAllPaired vs F G es k x →
        IsBetween (fs ++ f ∷ []) (worse c x)
    between-more fs f c x k is there all = record {
      good = λ m g y i w t e u h s n a b ia ha ib hb. let r = worse-good m c x g in elim (in_append y fs (f ∷ []) i) [
        | inl j ↦ is.good m r.0 y j w t e u h s n a b ia ha ib hb
        | inr (inl q) ↦ all.good m r.1 e u h s n a b ia ha ib
            (subst (λ v. HasHead vs v b) (some-same (sym t ∙ (ap (λ (z : Entry). slice_get vs z.field) q ∙ there))) hb)
        | inr (inr j) ↦ absurd j
      ];
      bad = λ m g. elim (worse-bad m c x g) [
        | inl d ↦ is.bad m d
        | inr d ↦ (let r = all.bad m d in elim r.2.2 [
          | inl b ↦ (b.0, b.1, b.2, both-across b.1 b.2 F G b.3 b.5, b.7)
          | inr (inl b) ↦ bad-first vs m F G b
          | inr (inr b) ↦ bad-second vs m F G b
        ])
      ];
    }

    pub between-all : (fs : List Entry) (c : Clash) → AreEntries vs H F es → AreEntries vs H G fs → IsBetween fs c → SaysBoth vs F G c
    between-all fs c one other is = record {
      good = λ m g n i j k l. with-fields F m n i j (λ v w s t.
          let p = one.covers i v k s in
          let q = other.covers j w l t in
          is.good m g q.0 q.1 q.2.0 q.2.1 p.0 p.1 p.2.0 p.2.1 n i j k (record { field = v; there = s; same = p.2.2 }) l
          (record { field = w; there = t; same = q.2.2 }));
      bad = is.bad;
    }
