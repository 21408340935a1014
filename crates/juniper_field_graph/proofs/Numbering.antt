-- A vertex that gets the number of the first kind that is alike, else one of its own, keeps equal numbers telling.
use Rattle.std.specs.Prelude.{ℕ, zero, suc, Bool, true, false, List, [], ◌∷◌, ◌++◌, ◌≡◌, ◌⊎◌, ◌<◌, Option, Some, None, length, nat_eq}
use Rattle.std.specs.List.{slice_get, find}
use Rattle.std.proofs.Common.{refl, sym, ap, ◌∙◌, inl, inr, subst, rules}
use Rattle.graphql_spec.specs.Laws.{In}
use Rattle.juniper_merging.specs.MergingGraph.{FieldAt}
use Rattle.juniper_field_graph.specs.KindsView.{HasKind, number_or, first_alike, number_among}
use Rattle.juniper_field_graph.proofs.Choosing.{find-some, find-none}

-- ## One more at the end of a list

pub stays : {A : Type 0} (xs : List A) (x : A) (i : ℕ) (y : A) → slice_get xs i ≡ Some y → slice_get (xs ++ x ∷ []) i ≡ Some y
stays [] x i y e = cc
stays (z ∷ xs) x zero y e = e
stays (z ∷ xs) x (suc i) y e = stays xs x i y e

pub last-is : {A : Type 0} (xs : List A) (x : A) (n : ℕ) → length xs ≡ n → slice_get (xs ++ x ∷ []) n ≡ Some x
last-is xs x n e = subst (λ m. slice_get (xs ++ x ∷ []) m ≡ Some x) e (at-end xs)
  where
    at-end : (xs : List _) → slice_get (xs ++ x ∷ []) (length xs) ≡ Some x
    at-end [] = refl
    at-end (y ∷ ys) = at-end ys

inside : {A : Type 0} (x y : A) → Some x ≡ Some y → y ≡ x
inside x y e = cc

pub old-or-last : {A : Type 0} (xs : List A) (x : A) (i : ℕ) (y : A) → slice_get (xs ++ x ∷ []) i ≡ Some y →
    (slice_get xs i ≡ Some y) ⊎ ((i ≡ length xs) × (y ≡ x))
old-or-last [] x zero y e = inr (refl, inside x y e)
old-or-last [] x (suc i) y e = cc
old-or-last (z ∷ xs) x zero y e = inl e
old-or-last (z ∷ xs) x (suc i) y e = elim (old-or-last xs x i y e) [ inl f ↦ inl f | inr f ↦ inr (ap suc f.0, f.1) ]

-- ## Numbers

number-turned : (m n : ℕ) → nat_eq m n ≡ nat_eq n m
number-turned m n = search rules

pub number-itself : (n : ℕ) → nat_eq n n ≡ true
number-itself n = search rules

pub same-number : (m n : ℕ) → nat_eq m n ≡ true → m ≡ n
same-number m n e = search rules

number-below : (m n : ℕ) → m < n → nat_eq m n ≡ false
number-below m n l = search rules

-- what a number is chosen from: the kinds of the key, and which of them are alike
module _ (number : FieldAt → ℕ) (vs : List FieldAt) (alike : ℕ → Bool) (ks : List ℕ) (key : ℕ)
    (keyed : (r : ℕ) → In r ks → (w : FieldAt) × (slice_get vs r ≡ Some w) × (w.key ≡ key)) where
  -- the number of a kind that is alike, or that of a new vertex
  abbrev pub IsChosen : ℕ → Type 0
  IsChosen n = ((r : ℕ) × (w : FieldAt) × In r ks × (slice_get vs r ≡ Some w) × (w.key ≡ key) × (alike r ≡ true) × (n ≡ number w))
      ⊎ ((n ≡ length vs) × ((r : ℕ) → In r ks → alike r ≡ false))

  pub chosen : (n : ℕ) → n ≡ number_among number vs alike ks → IsChosen n
  unfolding number_among number_or first_alike
  chosen n e = go (find alike ks) refl
    where
      go : (o : Option ℕ) → find alike ks ≡ o → IsChosen n
      go None f = inr (rw f at e, find-none alike ks f)
      go (Some r) f =
          let p = find-some alike ks r f in
          let q = keyed r p.0 in
          let d : n ≡ number_or number (length vs) (slice_get vs r) = rw f at e in
          inl (r, q.0, p.0, q.1, q.2, p.1, rw q.1 at d)

module _ {T : Type 0} (E : T → T → Bool) (itself : (t : T) → E t t ≡ true) (turned : (t u : T) → E t u ≡ E u t)
    (across : (t u w : T) → E t u ≡ true → E u w ≡ E t w) (number : FieldAt → ℕ) where
  -- of vertices with one response key equal numbers say that what they stand for is the same
  abbrev pub Tells : List FieldAt → (ℕ → FieldAt → T) → Type 0
  Tells vs things = (i j : ℕ) (v w : FieldAt) → slice_get vs i ≡ Some v → slice_get vs j ≡ Some w → nat_eq v.key w.key ≡ true →
      nat_eq (number v) (number w) ≡ E (things i v) (things j w)

  pub tells-chosen : (vs : List FieldAt) (things : ℕ → FieldAt → T) (alike : ℕ → Bool) (ks : List ℕ) (key : ℕ) (t : T) → Tells vs things →
      ((r : ℕ) → In r ks → (w : FieldAt) × (slice_get vs r ≡ Some w) × (w.key ≡ key)) →
      ((r : ℕ) (w : FieldAt) → slice_get vs r ≡ Some w → alike r ≡ E (things r w) t) →
      (n : ℕ) → n ≡ number_among number vs alike ks →
      (i : ℕ) (v : FieldAt) → slice_get vs i ≡ Some v → v.key ≡ key → number v < length vs → HasKind number vs ks v → nat_eq (number v) n ≡ E (things i v) t
  tells-chosen vs things alike ks key t tells keyed told n is i v at same below (s, u, inside, there, equal) = elim (chosen number vs alike ks key keyed n is) [
    | inl (r, w, in', there', key', yes', n-is) ↦
        (let one : nat_eq v.key w.key ≡ true = subst (λ z. nat_eq v.key z ≡ true) (same ∙ sym key') (number-itself v.key) in
        let yes'' : E (things r w) t ≡ true = sym (told r w there') ∙ yes' in
        let e : E (things i v) (things r w) ≡ E (things i v) t = turned (things i v) (things r w)
        ∙ (sym (across (things r w) t (things i v) yes'') ∙ turned t (things i v)) in
        ap (nat_eq (number v)) n-is ∙ (tells i r v w at there' one ∙ e))
    | inr (n-is, none') ↦
        (let u-key : u.key ≡ key = (let q = keyed s inside in let g : Some q.0 ≡ Some u = sym q.1 ∙ there in let h : q.0 ≡ u = cc in
        ap (λ (z : FieldAt). z.key) (sym h) ∙ q.2) in
        let one : nat_eq v.key u.key ≡ true = subst (λ z. nat_eq v.key z ≡ true) (same ∙ sym u-key) (number-itself v.key) in
        let e : E (things i v) (things s u) ≡ true = sym (tells i s v u at there one)
        ∙ subst (λ z. nat_eq (number v) z ≡ true) (sym equal) (number-itself (number v)) in
        let f : E (things s u) t ≡ false = sym (told s u there) ∙ none' s inside in
        ap (nat_eq (number v)) n-is ∙ (number-below (number v) (length vs) below ∙ sym (sym (across (things i v) (things s u) t e) ∙ f)))
  ]

  -- a vertex more
  pub tells-more : (vs : List FieldAt) (x : FieldAt) (things more : ℕ → FieldAt → T) →
      ((i : ℕ) (v : FieldAt) → slice_get vs i ≡ Some v → things i v ≡ more i v) → Tells vs things →
      ((i : ℕ) (v : FieldAt) → slice_get vs i ≡ Some v → v.key ≡ x.key → nat_eq (number v) (number x) ≡ E (things i v) (more (length vs) x)) →
      Tells (vs ++ x ∷ []) more
  tells-more vs x things more kept tells new i j v w f g e = go (old-or-last vs x i v f) (old-or-last vs x j w g)
    where
      with-last : (i : ℕ) (v : FieldAt) → slice_get vs i ≡ Some v → nat_eq v.key x.key ≡ true →
          nat_eq (number v) (number x) ≡ E (more i v) (more (length vs) x)
      with-last i v f e = new i v f (same-number v.key x.key e) ∙ ap (λ z. E z (more (length vs) x)) (kept i v f)

      go : (slice_get vs i ≡ Some v) ⊎ ((i ≡ length vs) × (v ≡ x)) → (slice_get vs j ≡ Some w) ⊎ ((j ≡ length vs) × (w ≡ x)) →
          nat_eq (number v) (number w) ≡ E (more i v) (more j w)
      go (inl a) (inl b) = tells i j v w a b e ∙ (ap (λ z. E z (things j w)) (kept i v a) ∙ ap (E (more i v)) (kept j w b))
      go (inl a) (inr (p, q)) = rw (p, q) (with-last i v a (rw q at e))
      go (inr (p, q)) (inl b) =
          rw (p, q) (number-turned (number x) (number w) ∙ (with-last j w b (number-turned w.key x.key ∙ (rw q at e)) ∙ turned (more j w) (more (length vs) x)))
      go (inr (p, q)) (inr (r, t)) = rw (p, q, r, t) (number-itself (number x) ∙ sym (itself (more (length vs) x)))
