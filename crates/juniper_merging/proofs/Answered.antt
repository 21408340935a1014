-- What is known of nodes and of pairs, and one thing more.
use Rattle.std.specs.Prelude.{ℕ, Bool, List, [], ◌∷◌, ◌++◌, ◌-◌, ◌≡◌, ◌⊎◌, ◌<◌, Option, Some, None, Vec, cond, length, nat_eq, slice_set}
use Rattle.std.specs.List.{slice_get}
use Rattle.std.specs.declared.alloc.Global.{Global}
use Rattle.std.proofs.lemmas.Bool.{cases_Bool}
use Rattle.std.proofs.Common.{refl, sym, ap, ◌∙◌, inl, inr, subst}
use Rattle.juniper_merging.specs.Conflicts.{AreKnown, AreQuiet, IsPutAt, asked_at, clash_at, flat_option, found_in, row_or_none}
use Rattle.juniper_merging.specs.MergingGraph.{FieldAt}
use Rattle.juniper_merging.specs.Nodes.{Says, SaysBoth}
use Rattle.juniper_merging.specs.declared.asks.Asks.{Asks}
use Rattle.juniper_merging.specs.declared.clash.Clash.{Clash}
use Rattle.juniper_merging.specs.declared.conflicts.Conflicts.{Conflicts}
use Rattle.juniper_merging.proofs.Listing.{set-at}
use Rattle.juniper_merging.proofs.Looked.{none-some}
use Rattle.juniper_merging.proofs.Numbers.{same-number}
use Rattle.juniper_merging.proofs.Tables.{one-of}
use Rattle.juniper_merging.proofs.Told.{some-same}

module _ (vs : List FieldAt) (H : ℕ → List ℕ) where
  -- how each two fields of one node more clash
  pub within-more : (old new : Conflicts) (x : Clash) → new.loud ≡ old.loud → new.asks ≡ old.asks → new.known ≡ old.known →
      new.within.items ≡ old.within.items ++ x ∷ [] → Says vs (H (length old.within.items)) x → AreKnown vs H old → AreKnown vs H new
  within-more old new x loud asks known within tells is = record {
    quiet = subst (λ (v : Vec Bool Global). AreQuiet vs H v.items) (sym loud) is.quiet;
    within = λ a y e. elim (one-of old.within.items x y a (subst (λ l. slice_get l a ≡ Some y) within e)) [
      | inl f ↦ is.within a y f
      | inr r ↦ subst (λ n. Says vs (H n) y) (sym r.0) (subst (Says vs (H (length old.within.items))) r.1 tells)
    ];
    between = λ a p far y e f. is.between a p far y (subst (λ (v : Vec Asks Global). asked_at v.items a p ≡ Some far) asks e)
        (subst (λ (v : Vec (Vec (Option Clash) Global) Global). clash_at v.items a p ≡ Some y) known f);
  }

  -- what is known of pairs was known, or tells how they clash
  pub pairs-changed : (old new : Conflicts) → new.loud ≡ old.loud → new.asks ≡ old.asks → new.within ≡ old.within →
      ((a p far : ℕ) (y : Clash) → asked_at old.asks.items a p ≡ Some far → clash_at new.known.items a p ≡ Some y →
      (clash_at old.known.items a p ≡ Some y) ⊎ SaysBoth vs (H a) (H (a - far)) y) → AreKnown vs H old → AreKnown vs H new
  pairs-changed old new loud asks within changed is = record {
    quiet = subst (λ (v : Vec Bool Global). AreQuiet vs H v.items) (sym loud) is.quiet;
    within = λ a y e. is.within a y (subst (λ (v : Vec Clash Global). slice_get v.items a ≡ Some y) within e);
    between = λ a p far y e f.
        let g = subst (λ (v : Vec Asks Global). asked_at v.items a p ≡ Some far) asks e in
        elim (changed a p far y g f) [ inl h ↦ is.between a p far y g h | inr h ↦ h ];
  }

  -- the distances of each set are as they were
  pub asks-same : (old new : Conflicts) → new.loud ≡ old.loud → new.known ≡ old.known → new.within ≡ old.within →
      ((a p : ℕ) → asked_at new.asks.items a p ≡ asked_at old.asks.items a p) → AreKnown vs H old → AreKnown vs H new
  asks-same old new loud known within same is = record {
    quiet = subst (λ (v : Vec Bool Global). AreQuiet vs H v.items) (sym loud) is.quiet;
    within = λ a y e. is.within a y (subst (λ (v : Vec Clash Global). slice_get v.items a ≡ Some y) within e);
    between = λ a p far y e f. is.between a p far y (sym (same a p) ∙ e)
        (subst (λ (v : Vec (Vec (Option Clash) Global) Global). clash_at v.items a p ≡ Some y) known f);
  }

  -- one pair more
  pub pair-put : (old new : Conflicts) (set place far : ℕ) (x : Clash) → new.loud ≡ old.loud → new.asks ≡ old.asks → new.within ≡ old.within →
      IsPutAt old.known.items new.known.items set place x → asked_at old.asks.items set place ≡ Some far →
      SaysBoth vs (H set) (H (set - far)) x → AreKnown vs H old → AreKnown vs H new
  pair-put old new set place far x loud asks within put asked tells = pairs-changed old new loud asks within (λ a p f y e g. elim (put a p y g) [
    | inl h ↦ inl h
    | inr r ↦ inr (moved a p f y r.0 r.2
        (some-same (sym asked ∙ ((λ u. asked_at old.asks.items (sym r.0 u) (sym r.1 u)) ∙ e))))
  ])
    where
      moved : (a p f : ℕ) (y : Clash) → a ≡ set → y ≡ x → far ≡ f → SaysBoth vs (H a) (H (a - f)) y
      moved a p f y q r same = subst (λ n. SaysBoth vs (H n) (H (n - f)) y) (sym q)
          (subst (λ n. SaysBoth vs (H set) (H (set - n)) y) same
          (subst (SaysBoth vs (H set) (H (set - far))) (sym r) tells))

  -- nothing at all is known of what a set more is asked
  pub nothing-known : (old new : Conflicts) (row : Vec (Option Clash) Global) → new.loud ≡ old.loud → new.asks ≡ old.asks → new.within ≡ old.within →
      new.known.items ≡ old.known.items ++ row ∷ [] → ((p : ℕ) (o : Option Clash) → slice_get row.items p ≡ Some o → o ≡ None) →
      AreKnown vs H old → AreKnown vs H new
  unfolding row_or_none flat_option
  nothing-known old new row loud asks within push none = pairs-changed old new loud asks within (λ a p far y e f.
      inl (at a p y (subst (λ l. clash_at l a p ≡ Some y) push f)))
    where
      never : (p : ℕ) (y : Clash) (o : Option (Option Clash)) → slice_get row.items p ≡ o → flat_option o ≡ Some y → ⊥
      never p y None e f = none-some f
      never p y (Some x) e f = none-some (sym (none p x e) ∙ f)

      found : (a p : ℕ) (y : Clash) (o : Option (Vec (Option Clash) Global)) → slice_get (old.known.items ++ row ∷ []) a ≡ o →
          found_in (row_or_none o) p ≡ Some y → clash_at old.known.items a p ≡ Some y
      found a p y None e f = none-some f
      found a p y (Some r) e f = elim (one-of old.known.items row r a e) [
        | inl g ↦ ap (λ o. found_in (row_or_none o) p) g ∙ f
        | inr g ↦ absurd (never p y (slice_get row.items p) refl (subst (λ (v : Vec (Option Clash) Global). found_in v.items p ≡ Some y) (sym g.1) f))
      ]

      at : (a p : ℕ) (y : Clash) → clash_at (old.known.items ++ row ∷ []) a p ≡ Some y → clash_at old.known.items a p ≡ Some y
      at a p y f = found a p y (slice_get (old.known.items ++ row ∷ []) a) refl f

  -- at the beginning nothing is
  pub nothing-answered : (c : Conflicts) → AreQuiet vs H c.loud.items → c.known.items ≡ [] → c.within.items ≡ [] → AreKnown vs H c
  unfolding row_or_none flat_option
  nothing-answered c quiet known within = record {
    quiet = quiet;
    within = λ a y e. none-some (subst (λ l. slice_get l a ≡ Some y) within e);
    between = λ a p far y e f. none-some (subst (λ l. clash_at l a p ≡ Some y) known f);
  }

-- ## Clashes in rows

-- rows of nothing
pub none-pushed : (row more : List (Option Clash)) → more ≡ row ++ None ∷ [] → ((p : ℕ) (o : Option Clash) → slice_get row p ≡ Some o → o ≡ None) →
    (p : ℕ) (o : Option Clash) → slice_get more p ≡ Some o → o ≡ None
none-pushed row more push none p o e = elim (one-of row None o p (subst (λ l. slice_get l p ≡ Some o) push e)) [ inl f ↦ none p o f | inr f ↦ sym f.1 ]

pub clash-put : (row : List (Option Clash)) (place : ℕ) (x : Clash) → place < length row → (p : ℕ) (c : Clash) →
    found_in (slice_set row place (Some x)) p ≡ Some c → (found_in row p ≡ Some c) ⊎ ((p ≡ place) × (c ≡ x))
unfolding flat_option
clash-put row place x below p c e = elim (cases_Bool (nat_eq place p)) [
  | inl q ↦ inr (sym (same-number place p q), sym (some-same (sym (ap flat_option (at ∙ ap (λ b. cond b (Some (Some x)) (slice_get row p)) q)) ∙ e)))
  | inr q ↦ inl (sym (ap flat_option (at ∙ ap (λ b. cond b (Some (Some x)) (slice_get row p)) q)) ∙ e)
]
  where
    at : slice_get (slice_set row place (Some x)) p ≡ cond (nat_eq place p) (Some (Some x)) (slice_get row p)
    at = set-at (Some x) row place p below

pub rows-put : {A : Type 0} (rows : List A) (set : ℕ) (now : A) → set < length rows → (a : ℕ) (r : A) → slice_get (slice_set rows set now) a ≡ Some r →
    (slice_get rows a ≡ Some r) ⊎ ((a ≡ set) × (r ≡ now))
rows-put rows set now below a r e = elim (cases_Bool (nat_eq set a)) [
  | inl q ↦ inr (sym (same-number set a q), sym (some-same (sym (at ∙ ap (λ b. cond b (Some now) (slice_get rows a)) q) ∙ e)))
  | inr q ↦ inl (sym (at ∙ ap (λ b. cond b (Some now) (slice_get rows a)) q) ∙ e)
]
  where
    at : slice_get (slice_set rows set now) a ≡ cond (nat_eq set a) (Some now) (slice_get rows a)
    at = set-at now rows set a below

module _ (set place : ℕ) (x : Clash) where
  -- what is put into the row of a set
  pub row-put : (old new : List (Vec (Option Clash) Global)) (was now : Vec (Option Clash) Global) → ((a : ℕ) (r : Vec (Option Clash) Global) →
      slice_get new a ≡ Some r → (slice_get old a ≡ Some r) ⊎ ((a ≡ set) × (r ≡ now))) → slice_get old set ≡ Some was →
      ((p : ℕ) (c : Clash) → found_in now.items p ≡ Some c → (found_in was.items p ≡ Some c) ⊎ ((p ≡ place) × (c ≡ x))) → IsPutAt old new set place x
  unfolding row_or_none flat_option
  row-put old new was now rows there put a p c e = found (slice_get new a) refl e
    where
      found : (o : Option (Vec (Option Clash) Global)) → slice_get new a ≡ o → found_in (row_or_none o) p ≡ Some c →
          (clash_at old a p ≡ Some c) ⊎ ((a ≡ set) × (p ≡ place) × (c ≡ x))
      found None g f = none-some f
      found (Some r) g f = elim (rows a r g) [
        | inl h ↦ inl (ap (λ o. found_in (row_or_none o) p) h ∙ f)
        | inr h ↦ elim (put p c (subst (λ (v : Vec (Option Clash) Global). found_in v.items p ≡ Some c) h.1 f)) [
          | inl q ↦ inl (ap (λ o. found_in (row_or_none o) p) (ap (slice_get old) h.0 ∙ there) ∙ q)
          | inr q ↦ inr (h.0, q.0, q.1)
        ]
      ]
