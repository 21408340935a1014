-- What a look-up by number finds.
use Rattle.std.specs.Prelude.{ℕ, List, ◌≡◌, ◌≤◌, ◌<◌, Some, None, Option, length, map, option_map}
use Rattle.std.specs.Borrow.{Bor}
use Rattle.std.specs.List.{slice_get, HoldsAt}
use Rattle.std.specs.Option.{MatchOption}
use Rattle.std.proofs.lemmas.Option.{slice_get-map, slice_get_read, slice_get_past, MatchOption-at_some, MatchOption-at_none}
use Rattle.std.proofs.Common.{refl, ap, ◌∙◌}
use Rattle.juniper_merging.specs.MergingGraph.{can_meet, view_vertex}
use Rattle.juniper_merging.specs.declared.graph.Vertex.{Vertex}

-- what reading a list at a number tells
pub found-at : {A : Type 0} (vs : List A) (i : ℕ) (o : Option (Bor A)) (x : Bor A) →
    MatchOption o (length vs ≤ i) (λ x. (i < length vs) × HoldsAt (λ y. x.now ≡ y) vs i) → o ≡ Some x → slice_get vs i ≡ Some x.now
found-at vs i o x m e = let h = MatchOption-at_some (length vs ≤ i) (λ x. (i < length vs) × HoldsAt (λ y. x.now ≡ y) vs i) x e m in
    slice_get_read vs (length vs) i x.now refl h.0 (h.1 x.now)

pub missing-at : {A : Type 0} (vs : List A) (i : ℕ) (o : Option (Bor A)) →
    MatchOption o (length vs ≤ i) (λ x. (i < length vs) × HoldsAt (λ y. x.now ≡ y) vs i) → o ≡ None → slice_get vs i ≡ None
missing-at vs i o m e = slice_get_past vs i (MatchOption-at_none (length vs ≤ i) (λ x. (i < length vs) × HoldsAt (λ y. x.now ≡ y) vs i) e m)

module _ (t : List (List ℕ)) where
  pub vertex-some : (vs : List Vertex) (i : ℕ) (x : Vertex) → slice_get vs i ≡ Some x → slice_get (map (view_vertex t) vs) i ≡ Some (view_vertex t x)
  vertex-some vs i x e = slice_get-map (view_vertex t) vs i ∙ ap (option_map (view_vertex t)) e

  pub vertex-none : (vs : List Vertex) (i : ℕ) → slice_get vs i ≡ None → slice_get (map (view_vertex t) vs) i ≡ None
  vertex-none vs i e = slice_get-map (view_vertex t) vs i ∙ ap (option_map (view_vertex t)) e

pub same-meet : (t u : List (List ℕ)) (x y : Vertex) → can_meet (view_vertex t x) (view_vertex t y) ≡ can_meet (view_vertex u x) (view_vertex u y)
unfolding can_meet view_vertex
same-meet t u x y = refl
