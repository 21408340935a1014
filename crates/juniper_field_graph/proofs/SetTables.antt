-- Tables of sets that grow, and what was said of the sets before.
use Rattle.std.specs.Prelude.{Bool, true, false, not, ℕ, zero, suc, List, [], ◌∷◌, ◌++◌, ◌≡◌, ◌⊎◌, Option, Some, None, map}
use Rattle.std.specs.List.{slice_get}
use Rattle.std.proofs.Common.{refl, sym, ap, subst, inl, inr, ◌∙◌}
use Rattle.graphql_spec.specs.Laws.{In}
use Rattle.juniper_merging.specs.MergingGraph.{view_vertex}
use Rattle.juniper_merging.specs.Sets.{Extends, IsInside, IsSetOf, IsTable}
use Rattle.juniper_merging.specs.Standing.{AreAlike}
use Rattle.juniper_merging.specs.Tables.{below_in, joined, set_at, table_from, table_of}
use Rattle.juniper_merging.specs.declared.graph.Vertex.{Vertex}
use Rattle.juniper_merging.specs.declared.sets.FieldSet.{FieldSet}
use Rattle.juniper_merging.specs.declared.sets.Gathering.{Gathering}
use Rattle.juniper_merging.proofs.Tables.{set-some}
use Rattle.juniper_field_graph.specs.Gathering.{AreSets, Pairwise}

pub empty-table : (xs : List FieldSet) → xs ≡ [] → IsTable xs
unfolding table_of table_from
empty-table xs e = subst IsTable (sym e) (record { count = refl; held = λ i x g. cc; before = λ i x p g m. cc })

-- ## Tables

pub extends-itself : (t : List (List ℕ)) → Extends t t
extends-itself t i l e = e

pub extends-further : (t u v : List (List ℕ)) → Extends t u → Extends u v → Extends t v
extends-further t u v f g i l e = g i l (f i l e)

pub extends-same : (t u : List (List ℕ)) → u ≡ t → Extends t u
extends-same t u e = subst (Extends t) (sym e) (extends-itself t)

module _ (t u : List (List ℕ)) (more : Extends t u) where
  pub inside-more : (b : ℕ) → IsInside t b → IsInside u b
  inside-more b r = (r.0, more b r.0 r.1)

  set-still : (b : ℕ) → IsInside t b → set_at u b ≡ set_at t b
  set-still b r = set-some u b r.0 (more b r.0 r.1) ∙ sym (set-some t b r.0 r.1)

  joined-still : (bs : List ℕ) → ((b : ℕ) → In b bs → IsInside t b) → joined u bs ≡ joined t bs
  unfolding joined
  joined-still [] f = refl
  joined-still (b ∷ bs) f = λ k. set-still b (f b (inl refl)) k ++ joined-still bs (λ c i. f c (inr i)) k

  pub set-of-more : (g : Gathering) (all : List ℕ) → IsSetOf t g all → IsSetOf u g all
  set-of-more g all is = record {
    inside = λ b i. inside-more b (is.inside b i);
    alike = subst (λ l. AreAlike (λ x i. x ≡ i) all (g.fields.items ++ l)) (sym (joined-still g.parts.items is.inside)) is.alike;
  }

  below-still : (o : Option ℕ) → ((b : ℕ) → o ≡ Some b → IsInside t b) → below_in u o ≡ below_in t o
  unfolding below_in
  below-still None f = refl
  below-still (Some b) f = set-still b (f b refl)

  vertex-still : (v : Vertex) → ((b : ℕ) → v.below ≡ Some b → IsInside t b) → view_vertex u v ≡ view_vertex t v
  unfolding view_vertex
  vertex-still v f = λ k. record {
    key = v.key;
    parent = v.parent.now;
    on_object = v.on_object;
    shape = v.shape;
    call = v.call;
    below = below-still
        v.below f k;
  }

  pub vertices-still : (vs : List Vertex) → ((i : ℕ) (v : Vertex) (b : ℕ) → slice_get vs i ≡ Some v → v.below ≡ Some b → IsInside t b) →
      map (view_vertex u) vs ≡ map (view_vertex t) vs
  vertices-still [] f = refl
  vertices-still (v ∷ vs) f = λ k. vertex-still v (λ b. f zero v b refl) k ∷ vertices-still vs (λ i w b. f (suc i) w b) k

  pub sets-more : (bs : List ℕ) (ms : List (List ℕ)) → AreSets t bs ms → AreSets u bs ms
  sets-more [] [] a = a
  sets-more [] (m ∷ ms) a = a
  sets-more (b ∷ bs) [] a = a
  sets-more (b ∷ bs) (m ∷ ms) a = (more b m a.0, sets-more bs ms a.1)

-- ## Lists that stand to each other

module _ {A B : Type 0} (R : A → B → Type 0) where
  pub pairwise-both : (xs us : List A) (ys ws : List B) → Pairwise R xs ys → Pairwise R us ws → Pairwise R (xs ++ us) (ys ++ ws)
  pairwise-both [] us [] ws p q = q
  pairwise-both [] us (y ∷ ys) ws p q = absurd p
  pairwise-both (x ∷ xs) us [] ws p q = absurd p
  pairwise-both (x ∷ xs) us (y ∷ ys) ws p q = (p.0, pairwise-both xs us ys ws p.1 q)

  pub pairwise-one : (a : A) (b : B) → R a b → Pairwise R (a ∷ []) (b ∷ [])
  pairwise-one a b r = (r, refl)

  pub pairwise-none : Pairwise R [] []
  pairwise-none = refl

  pub pairwise-more : (Q : A → B → Type 0) → ((a : A) (b : B) → R a b → Q a b) → (xs : List A) (ys : List B) → Pairwise R xs ys → Pairwise Q xs ys
  pairwise-more Q f [] [] p = p
  pairwise-more Q f [] (y ∷ ys) p = p
  pairwise-more Q f (x ∷ xs) [] p = p
  pairwise-more Q f (x ∷ xs) (y ∷ ys) p = (f x y p.0, pairwise-more Q f xs ys p.1)

module _ (t : List (List ℕ)) where
  -- each list is what a number's set holds, and each number has its list
  pub number-of : (bs : List ℕ) (ms : List (List ℕ)) → AreSets t bs ms → (m : List ℕ) → In m ms → (b : ℕ) × In b bs × (set_at t b ≡ m)
  number-of [] [] a m i = absurd i
  number-of [] (n ∷ ms) a m i = absurd a
  number-of (b ∷ bs) [] a m i = absurd i
  number-of (b ∷ bs) (n ∷ ms) a m (inl e) = (b, inl refl, set-some t b n a.0 ∙ sym e)
  number-of (b ∷ bs) (n ∷ ms) a m (inr i) = let r = number-of bs ms a.1 m i in (r.0, inr r.1, r.2)

  pub list-of : (bs : List ℕ) (ms : List (List ℕ)) → AreSets t bs ms → (b : ℕ) → In b bs → (m : List ℕ) × In m ms × (set_at t b ≡ m)
  list-of [] [] a b i = absurd i
  list-of [] (n ∷ ms) a b i = absurd i
  list-of (c ∷ bs) [] a b i = absurd a
  list-of (c ∷ bs) (n ∷ ms) a b (inl e) = (n, inl refl, ap (set_at t) e ∙ set-some t c n a.0)
  list-of (c ∷ bs) (n ∷ ms) a b (inr i) = let r = list-of bs ms a.1 b i in (r.0, inr r.1, r.2)

-- what stands in a list with one more stands there before, or is the last
pub one-of : {A : Type 0} (xs : List A) (x y : A) (i : ℕ) → slice_get (xs ++ x ∷ []) i ≡ Some y → (slice_get xs i ≡ Some y) ⊎ (x ≡ y)
one-of [] x y zero e = inr cc
one-of [] x y (suc i) e = cc
one-of (z ∷ xs) x y zero e = inl e
one-of (z ∷ xs) x y (suc i) e = one-of xs x y i e

pub was-true : (b : Bool) → not b ≡ false → b ≡ true
was-true true e = refl
was-true false e = cc

pub was-false : (b : Bool) → not b ≡ true → b ≡ false
was-false true e = cc
was-false false e = refl
