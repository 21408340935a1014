-- What vertices stand for, they stand for in every graph that has them; and each at most twice is enough.
use Rattle.std.specs.Prelude.{ℕ, zero, suc, List, ◌≡◌}
use Rattle.std.proofs.Common.{sym, subst, ◌∙◌}
use Rattle.graphql_spec.specs.Documents.{Head}
use Rattle.graphql_spec.specs.Schema.{Schema}
use Rattle.graphql_spec.specs.Overlap.{Field}
use Rattle.juniper_merging.specs.MergingGraph.{FieldAt}
use Rattle.juniper_merging.specs.Standing.{AreAlike, Grows, IsAt, StandsFor}

-- lists that are alike by one relation are so by each that it gives
pub alike-more : {A B : Type 0} (S T : A → B → Type 0) → ((x : A) (i : B) → S x i → T x i) → (xs : List A) (is : List B) → AreAlike S xs is → AreAlike T xs is
alike-more S T f xs is a = record {
  one = λ x i. let r = a.one x i in (r.0, f x r.0 r.1, r.2);
  one_back = λ n i. let r = a.one_back n i in (r.0, f r.0 n r.1, r.2);
  two = λ x y b. let r = a.two x y b in (r.0, r.1, f x r.0 r.2, f y r.1 r.3, r.4);
  two_back = λ m n b. let r = a.two_back m n b in (r.0, r.1, f r.0 m r.2, f r.1 n r.3, r.4);
}

-- and so is what is kept of the one
pub alike-kept : {A : Type 0} (S : A → ℕ → Type 0) (xs : List A) (all kept : List ℕ) → AreAlike S xs all → AreAlike (λ x i. x ≡ i) all kept → AreAlike S xs kept
alike-kept S xs all kept a k = record {
  one = λ x i. let r = a.one x i in let t = k.one r.0 r.2 in (t.0, subst (S x) t.1 r.1, t.2);
  one_back = λ n i. let t = k.one_back n i in let r = a.one_back t.0 t.2 in (r.0, subst (S r.0) t.1 r.1, r.2);
  two = λ x y b. let r = a.two x y b in let t = k.two r.0 r.1 r.4 in (t.0, t.1, subst (S x) t.2 r.2, subst (S y) t.3 r.3, t.4);
  two_back = λ m n b. let t = k.two_back m n b in let r = a.two_back t.0 t.1 t.4 in (r.0, r.1, subst (S r.0) t.2 r.2, subst (S r.1) t.3 r.3, r.4);
}

module _ (s : Schema) (vs ws : List FieldAt) (heads more : ℕ → Head) (g : Grows vs ws heads more) where
  pub at-more : (x : Field) (i : ℕ) (v : FieldAt) → IsAt s vs heads x i v → IsAt s ws more x i v
  at-more x i v a = record {
    there = g.kept i v a.there;
    like = a.like;
    like_there = g.kept a.like v a.like_there;
    head = sym (g.words a.like v a.like_there) ∙ a.head;
    parent = a.parent;
    on_object = a.on_object;
  }

  pub stands-more : (n : ℕ) (x : Field) (i : ℕ) → StandsFor s vs heads n x i → StandsFor s ws more n x i
  stands-more zero x i r = (r.0, at-more x i r.0 r.1)
  stands-more (suc n) x i r = (r.0, at-more x i r.0 r.1, alike-more (StandsFor s vs heads n) (StandsFor s ws more n) (λ y j. stands-more n y j) _ _ r.2)
