-- A list of answers, item by item, among the root's nodes.
use Rattle.std.proofs.Common.{◌≡◌, ◌≤◌, ◌<◌, ◌++◌, ℕ, List, [], ◌∷◌, length, map, refl, sym, ap, ◌∙◌, arith}
use Rattle.graphql_spec.specs.Resolvers.{Tree, items, tree}
use Rattle.graphql_spec.specs.SeenNodes.{map_tree, map_trees}
use Rattle.juniper_intro.specs.Rooting.{layers_of, layers_of_all}
use Rattle.juniper_values.specs.ResolvedView.{trees_of}

-- a list without length has no items
pub none_left : {A : Type 0} (xs : List A) (n : ℕ) → n ≡ length xs → n ≡ 0 → xs ≡ []
none_left [] n e z = refl
none_left (a ∷ xs) n e z = absurd (omega arith)

module _ {M N : Type 0} (h : M → N) where
  -- what is made, and then what is left, are all
  pub record AreSeen (made : List (Tree N)) (left all : List (Tree M)) : Type 0 where
    pub seen : made ++ map (map_tree h) left ≡ map (map_tree h) all
    pub within : layers_of_all (trees_of left) ≤ layers_of_all (trees_of all)

  pub seen-start : (all : List (Tree M)) → AreSeen [] all all
  seen-start all = record { seen = refl; within = omega arith }

  pub seen-turn : (made new : List (Tree N)) (left rest all : List (Tree M)) (a : Tree M) (b : Tree N) → AreSeen made left all → left ≡ a ∷ rest →
      new ≡ made ++ b ∷ [] → b ≡ map_tree h a → AreSeen new rest all
  unfolding layers_of
  seen-turn made new left rest all a b are e push is = let deep = ap (λ l. layers_of_all (trees_of l)) e in let within = are.within in record {
    seen = ap (λ l. l ++ map (map_tree h) rest) push ∙ (behind made b (map (map_tree h) rest)
        ∙ (ap (λ x. made ++ x ∷ map (map_tree h) rest) is ∙ (ap (λ l. made ++ map (map_tree h) l) (sym e) ∙ are.seen)));
    within = omega (arith, deep, within);
  }
    where
      behind : {A : Type 0} (xs : List A) (y : A) (zs : List A) → (xs ++ y ∷ []) ++ zs ≡ xs ++ y ∷ zs
      behind [] y zs = refl
      behind (x ∷ xs) y zs = ap (λ l. x ∷ l) (behind xs y zs)

  pub seen-falls : (made : List (Tree N)) (left rest all : List (Tree M)) (a b : Tree M) → AreSeen made left all → left ≡ a ∷ rest → b ≡ items (trees_of all) →
      layers_of a < layers_of b
  unfolding layers_of
  seen-falls made left rest all a b are e is =
      let deep = ap (λ l. layers_of_all (trees_of l)) e in let top = ap layers_of is in let within = are.within in omega (arith, deep, top, within)

  map-listed : (ts : List (Tree M)) → map_trees h (trees_of ts) ≡ trees_of (map (map_tree h) ts)
  unfolding map_tree
  map-listed [] = refl
  map-listed (t ∷ ts) = ap (tree (map_tree h t)) (map-listed ts)

  pub seen-all : (made : List (Tree N)) (left all : List (Tree M)) → AreSeen made left all → left ≡ [] →
      items (trees_of made) ≡ map_tree h (items (trees_of all))
  unfolding map_tree
  seen-all made left all are e =
      ap items (ap trees_of (sym (append-none made) ∙ (ap (λ l. made ++ map (map_tree h) l) (sym e) ∙ are.seen)) ∙ sym (map-listed all))
    where
      append-none : {A : Type 0} (xs : List A) → xs ++ [] ≡ xs
      append-none [] = refl
      append-none (x ∷ xs) = ap (λ l. x ∷ l) (append-none xs)
