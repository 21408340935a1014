-- Selections whose fragments are known, part by part.
use Rattle.std.specs.Prelude.{ℕ, false, List, ◌≡◌, Option, Some, None}
use Rattle.std.proofs.Common.{refl, sym, subst, inl, inr, ◌∙◌}
use Rattle.graphql_spec.specs.Shown.{Name}
use Rattle.graphql_spec.specs.Documents.{Fragment, Head, Inline, Selections, Spread, field, spread, inline, written}
use Rattle.graphql_spec.specs.Fragments.{fragment_of, spreads}
use Rattle.graphql_spec.specs.Schema.{Schema}
use Rattle.graphql_spec.specs.Written.{arguments_repeat, heads}
use Rattle.graphql_spec.proofs.Grouping.{in_first, in_second}
use Rattle.juniper_merging.specs.MergingGraph.{FieldAt}
use Rattle.juniper_merging.specs.Sets.{Extends}
use Rattle.juniper_merging.specs.Standing.{Grows}
use Rattle.juniper_merging.proofs.Covering.{covers-more}
use Rattle.juniper_field_graph.specs.Gathering.{HoldsFragment, IsKnown, IsReady}

module _ (s : Schema) (fs : List Fragment) where
  pub holds-more : (vs ws : List FieldAt) (words more : ℕ → Head) (t u : List (List ℕ)) → Grows vs ws words more → Extends t u → (f : Fragment) (b : ℕ) →
      HoldsFragment s fs vs words t f b → HoldsFragment s fs ws more u f b
  holds-more vs ws words more t u g e f b (js, at, c) = (js, e b js at, covers-more s vs ws words more fs g f.condition.item f.selections js c)

  pub known-more : (vs ws : List FieldAt) (words more : ℕ → Head) (t u : List (List ℕ)) → Grows vs ws words more → Extends t u → (held : Name → Option ℕ)
      (k : Name) → IsKnown s fs vs words t held k → IsKnown s fs ws more u held k
  known-more vs ws words more t u g e held k (inl none) = inl none
  known-more vs ws words more t u g e held k (inr (f, b, at, found, c)) = inr (f, b, at, found, holds-more vs ws words more t u g e f b c)

  pub known-held : (vs : List FieldAt) (words : ℕ → Head) (t : List (List ℕ)) (held : Name → Option ℕ) (k : Name) (b : ℕ) → IsKnown s fs vs words t held k →
      held k ≡ Some b → (f : Fragment) × (fragment_of fs k ≡ Some f) × HoldsFragment s fs vs words t f b
  known-held vs words t held k b (inl none) at = let e : None ≡ Some b = sym none.0 ∙ at in cc
  known-held vs words t held k b (inr (f, d, there, found, c)) at = (f, found, subst (HoldsFragment s fs vs words t f) (same (sym there ∙ at)) c)
    where
      same : {A : Type 0} {a b : A} → Some a ≡ Some b → a ≡ b
      same e = cc

  pub known-none : (vs : List FieldAt) (words : ℕ → Head) (t : List (List ℕ)) (held : Name → Option ℕ) (k : Name) → IsKnown s fs vs words t held k →
      held k ≡ None → fragment_of fs k ≡ None
  known-none vs words t held k (inl none) at = none.1
  known-none vs words t held k (inr (f, d, there, found, c)) at = let e : None ≡ Some d = sym at ∙ there in cc

  pub ready-more : (vs ws : List FieldAt) (words more : ℕ → Head) (t u : List (List ℕ)) → Grows vs ws words more → Extends t u → (held : Name → Option ℕ)
      (set : Selections) → IsReady s fs vs words t held set → IsReady s fs ws more u held set
  ready-more vs ws words more t u g e held set r = record { once = r.once; known = λ k i. known-more vs ws words more t u g e held k (r.known k i) }

  module _ (vs : List FieldAt) (words : ℕ → Head) (t : List (List ℕ)) (held : Name → Option ℕ) where
    abbrev Ready : Selections → Type 0
    Ready = IsReady s fs vs words t held

    pub ready-field : (h : Head) (below rest : Selections) → Ready (field h below rest) →
        (arguments_repeat (written h.arguments) ≡ false) × Ready below × Ready rest
    unfolding heads spreads
    ready-field h below rest r = (
      r.once h (inl refl),
      record { once = λ x i. r.once x (inr (in_first x (heads below) (heads rest) i)); known = λ k i. r.known k (in_first k (spreads below) (spreads rest) i) },
      record {
        once = λ x i. r.once x (inr (in_second x (heads below) (heads rest) i));
        known = λ k i. r.known k (in_second k (spreads below) (spreads rest) i);
      },
    )

    pub ready-spread : (x : Spread) (rest : Selections) → Ready (spread x rest) → IsKnown s fs vs words t held x.name.item × Ready rest
    unfolding heads spreads
    ready-spread x rest r = (r.known x.name.item (inl refl), record { once = r.once; known = λ k i. r.known k (inr i) })

    pub ready-inline : (x : Inline) (below rest : Selections) → Ready (inline x below rest) → Ready below × Ready rest
    unfolding heads spreads
    ready-inline x below rest r = (
      record { once = λ h i. r.once h (in_first h (heads below) (heads rest) i); known = λ k i. r.known k (in_first k (spreads below) (spreads rest) i) },
      record { once = λ h i. r.once h (in_second h (heads below) (heads rest) i); known = λ k i. r.known k (in_second k (spreads below) (spreads rest) i) },
    )
