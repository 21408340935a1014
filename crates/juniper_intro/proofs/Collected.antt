-- Lists of nodes, as loops collect them.
use Rattle.std.proofs.Common.{◌≡◌, ◌+◌, ◌++◌, ◌<◌, ap₂, zero-add, ℕ, Bool, true, false, List, [], ◌∷◌, Vec, Global, length, get_or, take, drop, map, refl, sym}
use Rattle.std.proofs.Common.{ap, ◌∙◌, arith}
use Rattle.std.specs.List.{enumerate_from, filter, range_with_len}
use Rattle.std.proofs.lemmas.List.{append-nil, append_assoc, drop_all, drop_more, map-append, take_more}
use Rattle.std.proofs.lemmas.List.FromFn.{map-range_with_len_more}
use Rattle.graphql_spec.specs.Introspection.{each, all_of, says}
use Rattle.graphql_spec.specs.Resolvers.{Tree, items, leaf, node, tree}
use Rattle.graphql_spec.specs.SeenNodes.{map_tree, map_trees}
use Rattle.graphql_spec.specs.Shown.{Name, Shown, Text, text}
use Rattle.juniper_intro.specs.Collected.{a_node_each}
use Rattle.juniper_intro.specs.HandleView.{of_handle}
use Rattle.juniper_intro.specs.Handles as spec
use Rattle.juniper_intro.specs.declared.node.RootedNode.{RootedNode}
use Rattle.juniper_values.proofs.Resolutions.{view-List}
use Rattle.juniper_values.specs.ResolvedView.{trees_of, view_resolved}
use Rattle.juniper_values.specs.declared.resolved.Resolved.{Resolved, List as ListOf}

-- one more behind those that are seen so
pub seen-more : {X Y : Type 0} (view : X → Y) (old new : List X) (x : X) (before : List Y) (y : Y) → new ≡ old ++ x ∷ [] → map view old ≡ before → view x ≡ y →
    map view new ≡ before ++ y ∷ []
seen-more view old new x before y e i v = ap (map view) e ∙ (map-append view old (x ∷ []) ∙ ap₂ (λ us w. us ++ w ∷ []) i v)

-- ## A node for each number

pub turn-more : {Y : Type 0} (f : ℕ → Y) (k : ℕ) → map f (range_with_len 0 k) ++ f k ∷ [] ≡ map f (range_with_len 0 (k + 1))
turn-more f k = sym (map-range_with_len_more f 0 k k (zero-add k))

turn-numbers : {A Y : Type 0} (f : ℕ → Y) (n : ℕ) (xs : List A) → map (λ (p : ℕ × A). f p.0) (enumerate_from n xs) ≡ map f (range_with_len n (length xs))
turn-numbers f n [] = refl
turn-numbers f n (x ∷ xs) = ap (λ ys. f n ∷ ys) (turn-numbers f (n + 1) xs)

-- ## A node for each that passes

-- those of what is left
abbrev pub left : {X A Y : Type 0} → (X → A) → (A → Bool) → (ℕ → Y) → List X → ℕ → List Y
left view passes f xs i = map (λ p. f p.0) (filter (λ p. passes p.1) (enumerate_from i (map view (drop i xs))))

pub left-kept : {X A Y : Type 0} (view : X → A) (passes : A → Bool) (f : ℕ → Y) (xs : List X) (i : ℕ) (x : X) → i < length xs →
    passes (view (get_or xs i x)) ≡ true → left view passes f xs i ≡ f i ∷ left view passes f xs (i + 1)
left-kept view passes f xs i x low e =
    ap (λ ys. map (λ p. f p.0) (filter (λ p. passes p.1) (enumerate_from i (map view ys)))) (drop_more xs i x low) ∙ rw e refl

pub left-passed : {X A Y : Type 0} (view : X → A) (passes : A → Bool) (f : ℕ → Y) (xs : List X) (i : ℕ) (x : X) → i < length xs →
    passes (view (get_or xs i x)) ≡ false → left view passes f xs i ≡ left view passes f xs (i + 1)
left-passed view passes f xs i x low e =
    ap (λ ys. map (λ p. f p.0) (filter (λ p. passes p.1) (enumerate_from i (map view ys)))) (drop_more xs i x low) ∙ rw e refl

left-end : {X A Y : Type 0} (view : X → A) (passes : A → Bool) (f : ℕ → Y) (xs : List X) (k : ℕ) → length xs ≡ k → left view passes f xs k ≡ []
left-end view passes f xs k e = ap (λ ys. map (λ p. f p.0) (filter (λ p. passes p.1) (enumerate_from k (map view ys)))) (drop_all k xs (omega (arith, e)))

-- ## As trees

module _ {N S : Type 0} (shown : S → Shown) where
  each-trees : {A : Type 0} (f : A → spec.Handle) (xs : List A) → map_trees of_handle (each (λ x. node (f x)) xs) ≡ trees_of (a_node_each {N = N} f xs)
  unfolding each map_trees
  each-trees f [] = refl
  each-trees f (x ∷ xs) = ap (tree (node (of_handle (f x)))) (each-trees f xs)

  -- a list of them is the list of these trees
  pub listed-tree : {A : Type 0} (f : A → spec.Handle) (xs : List A) (nodes : Vec (Resolved (RootedNode N) S) Global) →
      map (view_resolved shown) nodes.items ≡ a_node_each f xs →
      map_tree of_handle (all_of (λ x. node (f x)) xs) ≡ view_resolved shown (ListOf nodes)
  unfolding all_of map_tree
  listed-tree f xs nodes e = ap items (each-trees f xs ∙ ap trees_of (sym e)) ∙ sym (view-List shown nodes)

  -- one more node
  pub nodes-more : (nodes new : List (Resolved (RootedNode N) S)) (x : Resolved (RootedNode N) S) (before : List (Tree (RootedNode N)))
      (y : Tree (RootedNode N)) →
      new ≡ nodes ++ x ∷ [] → map (view_resolved shown) nodes ≡ before → view_resolved shown x ≡ y → map (view_resolved shown) new ≡ before ++ y ∷ []
  nodes-more nodes new x before y e i v = seen-more (view_resolved shown) nodes new x before y e i v

  -- a node for each number is one for each item
  pub turn-all : {A : Type 0} (f : ℕ → spec.Handle) (xs : List A) (nodes : Vec (Resolved (RootedNode N) S) Global) (k : ℕ) → length xs ≡ k →
      map (view_resolved shown) nodes.items ≡ map (λ j. node (of_handle (f j))) (range_with_len 0 k) →
      map_tree of_handle (all_of (λ p. node (f p.0)) (enumerate_from 0 xs)) ≡ view_resolved shown (ListOf nodes)
  turn-all f xs nodes k e i =
      listed-tree (λ p. f p.0) (enumerate_from 0 xs) nodes (i ∙ (ap (λ n. map (λ j. node (of_handle (f j))) (range_with_len 0 n)) (sym e)
      ∙ sym (turn-numbers (λ j. node (of_handle (f j))) 0 xs)))

  -- a node for each item that passes
  pub passed-all : {X A : Type 0} (view : X → A) (passes : A → Bool) (f : ℕ → spec.Handle) (xs : List X) (nodes : Vec (Resolved (RootedNode N) S) Global)
      (k : ℕ) → length xs ≡ k →
      map (view_resolved shown) nodes.items ++ left view passes (λ j. node (of_handle (f j))) xs k ≡ left view passes (λ j. node (of_handle (f j))) xs 0 →
      map_tree of_handle (all_of (λ p. node (f p.0)) (spec.numbered passes (map view xs))) ≡ view_resolved shown (ListOf nodes)
  unfolding spec.numbered
  passed-all view passes f xs nodes k e i =
      listed-tree (λ p. f p.0) (filter (λ p. passes p.1) (enumerate_from 0 (map view xs))) nodes
      (sym (ap (λ l. map (view_resolved shown) nodes.items ++ l) (left-end view passes (λ j. node (of_handle (f j))) xs k e)
      ∙ append-nil (map (view_resolved shown) nodes.items)) ∙ i)

  -- one more item that passes, and one that does not
  pub kept-more : {X A : Type 0} (view : X → A) (passes : A → Bool) (f : ℕ → spec.Handle) (xs : List X) (k : ℕ) (x : X)
      (nodes new : List (Resolved (RootedNode N) S)) (y : Resolved (RootedNode N) S) →
      k < length xs → x ≡ get_or xs k x → passes (view x) ≡ true → new ≡ nodes ++ y ∷ [] → view_resolved shown y ≡ node (of_handle (f k)) →
      map (view_resolved shown) nodes ++ left view passes (λ j. node (of_handle (f j))) xs k ≡ left view passes (λ j. node (of_handle (f j))) xs 0 →
      map (view_resolved shown) new ++ left view passes (λ j. node (of_handle (f j))) xs (k + 1) ≡ left view passes (λ j. node (of_handle (f j))) xs 0
  kept-more view passes f xs k x nodes new y low is p e v i =
      ap (λ l. l ++ left view passes (λ j. node (of_handle (f j))) xs (k + 1))
      (seen-more (view_resolved shown) nodes new y (map (view_resolved shown) nodes) (node (of_handle (f k))) e refl v)
      ∙ (append_assoc (map (view_resolved shown) nodes) (node (of_handle (f k)) ∷ []) (left view passes (λ j. node (of_handle (f j))) xs (k + 1))
      ∙ (ap (λ l. map (view_resolved shown) nodes ++ l) (sym (left-kept view passes (λ j. node (of_handle (f j))) xs k x low
      (ap (λ z. passes (view z)) (sym is) ∙ p))) ∙ i))

  pub passed-more : {X A : Type 0} (view : X → A) (passes : A → Bool) (f : ℕ → spec.Handle) (xs : List X) (k : ℕ) (x : X)
      (nodes new : List (Resolved (RootedNode N) S)) →
      k < length xs → x ≡ get_or xs k x → passes (view x) ≡ false → new ≡ nodes →
      map (view_resolved shown) nodes ++ left view passes (λ j. node (of_handle (f j))) xs k ≡ left view passes (λ j. node (of_handle (f j))) xs 0 →
      map (view_resolved shown) new ++ left view passes (λ j. node (of_handle (f j))) xs (k + 1) ≡ left view passes (λ j. node (of_handle (f j))) xs 0
  passed-more view passes f xs k x nodes new low is p e i =
      ap (λ l. map (view_resolved shown) l ++ left view passes (λ j. node (of_handle (f j))) xs (k + 1)) e
      ∙ (ap (λ l. map (view_resolved shown) nodes ++ l) (sym (left-passed view passes (λ j. node (of_handle (f j))) xs k x low
      (ap (λ z. passes (view z)) (sym is) ∙ p))) ∙ i)

-- ## Names, one by one

-- one more of the items that are seen so
pub taken-more : {X A Y Z : Type 0} (view : X → Y) (seen : A → Z) (f : Z → Y) (xs : List A) (k : ℕ) (d : A) (old new : List X) (x : X) → k < length xs →
    new ≡ old ++ x ∷ [] →
    view x ≡ f (seen (get_or xs k d)) → map view old ≡ map f (map seen (take k xs)) → map view new ≡ map f (map seen (take (k + 1) xs))
taken-more view seen f xs k d old new x low e v i =
    seen-more view old new x (map f (map seen (take k xs))) (f (seen (get_or xs k d))) e i v
    ∙ (sym (map-append f (map seen (take k xs)) (seen (get_or xs k d) ∷ []))
    ∙ (ap (map f) (sym (map-append seen (take k xs) (get_or xs k d ∷ []))) ∙ ap (λ l. map f (map seen l)) (sym (take_more xs k d low))))

module _ {N S : Type 0} (shown : S → Shown) where
  says-trees : (xs : List Text) → map_trees of_handle (each says xs) ≡ trees_of (map (λ n. says {N = RootedNode N} n) xs)
  unfolding each says map_tree
  says-trees [] = refl
  says-trees (x ∷ xs) = ap (tree (leaf (text x))) (says-trees xs)

  -- a list of texts
  pub says-listed : (xs : List Text) (names : Vec (Resolved (RootedNode N) S) Global) → map (view_resolved shown) names.items ≡ map (λ n. says n) xs →
      map_tree of_handle (all_of says xs) ≡ view_resolved shown (ListOf names)
  unfolding all_of map_tree
  says-listed xs names e = ap items (says-trees xs ∙ ap trees_of (sym e)) ∙ sym (view-List shown names)

  -- a list of types by their names
  pub called-listed : (number : Name → ℕ) (xs : List Name) (nodes : Vec (Resolved (RootedNode N) S) Global) →
      map (view_resolved shown) nodes.items ≡ map (λ n. node (of_handle (spec.type_handle (spec.by_name (number n)) 0))) xs →
      map_tree of_handle (all_of (spec.called number) xs) ≡ view_resolved shown (ListOf nodes)
  unfolding spec.called
  called-listed number xs nodes e = listed-tree shown (λ n. spec.type_handle (spec.by_name (number n)) 0) xs nodes e
