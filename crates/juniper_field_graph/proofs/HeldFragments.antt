-- Fragments that are held one behind the other.
use Rattle.std.proofs.Common.{◌≡◌, ℕ, cond, bytes_eq, List, [], ◌∷◌, ◌++◌, Option, Some, None, inl, inr, refl, sym, ap, subst, ◌∙◌}
use Rattle.std.proofs.lemmas.Bool.{cases_Bool}
use Rattle.graphql_spec.specs.Shown.{Name}
use Rattle.graphql_spec.specs.Documents.{Fragment, Head}
use Rattle.graphql_spec.specs.Fragments.{HasNoCycle, fragment_of}
use Rattle.graphql_spec.specs.Schema.{Schema}
use Rattle.graphql_spec.specs.Laws.{In}
use Rattle.graphql_spec.proofs.Grouping.{in_append}
use Rattle.graphql_spec.proofs.Lists.{same_refl, same_true}
use Rattle.juniper_merging.specs.MergingGraph.{FieldAt}
use Rattle.juniper_merging.specs.Standing.{Grows}
use Rattle.juniper_merging.specs.Sets.{Extends}
use Rattle.juniper_written.specs.Order.{IsInOrder, StandsBehind}
use Rattle.juniper_field_graph.specs.Gathering.{AreHeld, AreWritten, HoldsFragment, IsKnown, IsReady}
use Rattle.juniper_field_graph.proofs.Readiness.{holds-more}

pub none-some : {A : Type 0} {x : A} → None ≡ Some x → ⊥
none-some e = cc

some-same : {A : Type 0} {x y : A} → Some x ≡ Some y → x ≡ y
some-same e = cc

-- the name that finds a fragment is its own
pub own-name : (fs : List Fragment) (k : Name) (f : Fragment) → fragment_of fs k ≡ Some f → k ≡ f.name.item
unfolding fragment_of
own-name [] k f e = cc
own-name (g ∷ fs) k f e = elim (cases_Bool (bytes_eq k g.name.item)) [
  | inl y ↦ (let z : Some g ≡ Some f = rw y at e in same_true k g.name.item y ∙ ap (λ (x : Fragment). x.name.item) (some-same z))
  | inr y ↦ own-name fs k f (rw y at e)
]

module _ (s : Schema) (fs : List Fragment) where
  -- a name whose fragment, if there is one, has numbers is known
  known-by : (vs : List FieldAt) (words : ℕ → Head) (t : List (List ℕ)) (held : Name → Option ℕ) (before : List Fragment) →
      AreHeld s fs vs words t held before → (k : Name) →
      ((g : Fragment) → fragment_of fs k ≡ Some g → In g before) → IsKnown s fs vs words t held k
  known-by vs words t held before are k there = go (held k) (fragment_of fs k) refl refl
    where
      go : (o : Option ℕ) (p : Option Fragment) → held k ≡ o → fragment_of fs k ≡ p → IsKnown s fs vs words t held k
      go (Some b) p h e = let r = are.right k b h in inr (r.0, b, h, r.1, r.2)
      go None None h e = inl (h, e)
      go None (Some g) h e = let r = are.there g (there g e) in absurd (none-some (sym h ∙ (ap held (own-name fs k g e) ∙ r.1)))

  pub held-ready : (vs : List FieldAt) (words : ℕ → Head) (t : List (List ℕ)) (held : Name → Option ℕ) (before : List Fragment) (f : Fragment) →
      AreHeld s fs vs words t held before → AreWritten fs → StandsBehind fs before f →
      IsReady s fs vs words t held f.selections
  held-ready vs words t held before f are once behind = record {
    once = once f.name.item f behind.first;
    known = λ k i. known-by vs words t held before are k (λ g e. behind.spread k g i e);
  }

  pub held-none : (vs : List FieldAt) (words : ℕ → Head) (t : List (List ℕ)) (held : Name → Option ℕ) → ((k : Name) → held k ≡ None) →
      AreHeld s fs vs words t held []
  held-none vs words t held none = record { right = λ k b e. absurd (none-some (sym (none k) ∙ e)); there = λ f i. absurd i }

  pub held-next : (vs ws : List FieldAt) (words further : ℕ → Head) (t u : List (List ℕ)) → Grows vs ws words further → Extends t u →
      (held more : Name → Option ℕ) (before : List Fragment) (f : Fragment) (n : ℕ) → fragment_of fs f.name.item ≡ Some f →
      ((k : Name) → more k ≡ cond (bytes_eq f.name.item k) (Some n) (held k)) → HoldsFragment s fs ws further u f n →
      AreHeld s fs vs words t held before → AreHeld s fs ws further u more (before ++ f ∷ [])
  held-next vs ws words further t u g x held more before f n first added c are = record {
    right = λ k b e. right k b e;
    there = λ y i. elim (in_append y before (f ∷ []) i) [
      | inl j ↦ there y (are.there y j)
      | inr (inl e) ↦ (
        n,
        ap (λ (z : Fragment). more z.name.item) e
            ∙ (added f.name.item ∙ ap (λ b. cond b (Some n) (held f.name.item)) (same_refl f.name.item)),
      )
      | inr (inr j) ↦ absurd j
    ];
  }
    where
      right : (k : Name) (b : ℕ) → more k ≡ Some b → (y : Fragment) × (fragment_of fs k ≡ Some y) × HoldsFragment s fs ws further u y b
      right k b e = elim (cases_Bool (bytes_eq f.name.item k)) [
        | inl y ↦ (let z : Some n ≡ Some b = sym (added k ∙ ap (λ c. cond c (Some n) (held k)) y) ∙ e in (
          f,
          subst (λ i. fragment_of fs i ≡ Some f) (same_true f.name.item k y) first,
          subst (HoldsFragment s fs ws further u f) (some-same z) c,
        ))
        | inr y ↦ (let z : held k ≡ Some b = sym (added k ∙ ap (λ c. cond c (Some n) (held k)) y) ∙ e in let r = are.right k b z in
            (r.0, r.1, holds-more s fs vs ws words further t u g x r.0 b r.2))
      ]

      there : (y : Fragment) → ((b : ℕ) × (held y.name.item ≡ Some b)) → (b : ℕ) × (more y.name.item ≡ Some b)
      there y r = elim (cases_Bool (bytes_eq f.name.item y.name.item)) [
        | inl q ↦ (n, added y.name.item ∙ ap (λ b. cond b (Some n) (held y.name.item)) q)
        | inr q ↦ (r.0, added y.name.item ∙ (ap (λ b. cond b (Some n) (held y.name.item)) q ∙ r.1))
      ]

  pub held-all : (vs : List FieldAt) (words : ℕ → Head) (t : List (List ℕ)) (held : Name → Option ℕ) (order : List Fragment) → HasNoCycle fs →
      IsInOrder fs order →
      AreHeld s fs vs words t held order → (k : Name) → IsKnown s fs vs words t held k
  held-all vs words t held order ends in_order are k = known-by vs words t held order are k (λ g e. in_order.all k g e (ends k))
