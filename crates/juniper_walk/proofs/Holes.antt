-- How many holes an answer has, and what fills them (6.4.3, 6.4.4).
use Rattle.std.proofs.Common.{◌≡◌, ℕ, zero, suc, ◌+◌, Bool, List, [], ◌∷◌, ◌++◌, length, take, drop, map, refl, sym, ap, ◌∙◌, inl, inr, arith, append_assoc}
use Rattle.std.proofs.Common.{subst}
use Rattle.std.proofs.lemmas.Bool.{cases_Bool}
use Rattle.std.proofs.lemmas.List.{append-nil, drop-drop, drop-map, drop-take, length-append, map-append}
use Rattle.std.proofs.Math.Seq.{take-add}
use Rattle.graphql_spec.specs.Shown.{Shown, Name}
use Rattle.graphql_spec.specs.Values.{Value, item}
use Rattle.graphql_spec.specs.Execution.{reply_of, type_of, whole_list}
use Rattle.graphql_spec.specs.Types.{TypeRef, named, list_of}
use Rattle.graphql_spec.specs.Errors.{Listed, Place, index, key}
use Rattle.graphql_spec.specs.Selections.{Occurrence}
use Rattle.graphql_spec.specs.Resolvers.{Error, World, Tree, nothing, leaf, items, node, Trees, no_trees, tree, Reply, answered, failed}
use Rattle.graphql_spec.specs.Skeletons.{Skeleton, Skeletons, absent, filled, several, hole, no_skeletons, skeleton, first_of, fill, fill_all}
use Rattle.graphql_spec.specs.Skeletons.{Spot, all_node_spots, node_spots, reply_node_spots, skeleton_of, skeletons_of, reply_skeleton}
use Rattle.juniper_assemble.specs.SkeletonView.{IsFilledFrom}
use Rattle.juniper_conversions.specs.ErrorView.{view_listed}
use Rattle.juniper_conversions.specs.declared.execution_error.ExecutionError.{ExecutionError}
use Rattle.graphql_spec.specs.CompletionLaws.{all_listed}
use Rattle.juniper_walk.specs.Completing.{IsParted}
use Rattle.juniper_walk.specs.declared.walked.Walked.{Walked}
use Rattle.juniper_walk.specs.Holes.{AreTaken, all_holes, holes_of}
use Rattle.juniper_walk.specs.PlanWalks.{IsPrepared}

-- ## The values that are left

mutual
  unfolding fill holes_of first_of

  pub fill-left : (s : Skeleton) (vs : List Value) → (fill s vs).left ≡ drop (holes_of s) vs
  fill-left absent vs = refl
  fill-left (filled x) vs = refl
  fill-left (several r ss) vs = all-left ss vs
  fill-left hole [] = refl
  fill-left hole (v ∷ vs) = refl

  all-left : (ss : Skeletons) (vs : List Value) → (fill_all ss vs).left ≡ drop (all_holes ss) vs
  all-left no_skeletons vs = refl
  all-left (skeleton s ss) vs = all-left ss (fill s vs).left ∙ (ap (drop (all_holes ss)) (fill-left s vs) ∙ drop-drop (all_holes ss) (holes_of s) vs)

-- ## Only the first of them count

mutual
  unfolding fill holes_of first_of

  first-fill : (s : Skeleton) (k n : ℕ) (vs : List Value) → n ≡ holes_of s + k → (fill s (take n vs)).value ≡ (fill s vs).value
  first-fill absent k n vs e = refl
  first-fill (filled x) k n vs e = refl
  first-fill (several r ss) k n vs e = ap (whole_list r) (all-fill ss k n vs e)
  first-fill hole k zero vs e = absurd (omega (arith, e))
  first-fill hole k (suc n) [] e = refl
  first-fill hole k (suc n) (v ∷ vs) e = refl

  all-fill : (ss : Skeletons) (k n : ℕ) (vs : List Value) → n ≡ all_holes ss + k → (fill_all ss (take n vs)).values ≡ (fill_all ss vs).values
  all-fill no_skeletons k n vs e = refl
  all-fill (skeleton s ss) k n vs e =
      let same : n ≡ holes_of s + (all_holes ss + k) = omega (arith, e) in
      let left : (fill s (take n vs)).left ≡ take (all_holes ss + k) (fill s vs).left = fill-left s (take n vs)
      ∙ (ap (λ i. drop (holes_of s) (take i vs)) same ∙ (drop-take (holes_of s) (all_holes ss + k) vs ∙ ap (take (all_holes ss + k)) (sym (fill-left s vs)))) in
      ap (λ v. item v (fill_all ss (fill s (take n vs)).left).values) (first-fill s (all_holes ss + k) n vs same)
      ∙ ap (item (fill s vs).value) (ap (λ l. (fill_all ss l).values) left ∙ all-fill ss k (all_holes ss + k) (fill s vs).left refl)

pub fill-first : (s : Skeleton) (vs : List Value) → (fill s (take (holes_of s) vs)).value ≡ (fill s vs).value
fill-first s vs = first-fill s 0 (holes_of s) vs (omega arith)

pub filled-first : (s : Skeleton) (vs left : List Value) (v : Value) → IsFilledFrom (fill s vs) v left →
    IsFilledFrom (fill s (take (holes_of s) vs)) v (fill s (take (holes_of s) vs)).left
filled-first s vs left v f = record { value = f.value ∙ sym (fill-first s vs); left_over = refl }

-- ## As many holes as nodes

module _ {N : Type 0} (W : World N) where
  mutual
    unfolding skeleton_of node_spots holes_of

    tree-holes : (here : Place) (t : TypeRef) (a : Tree N) → holes_of (skeleton_of W t a) ≡ length (node_spots W here t a)
    tree-holes here (named r n) nothing = refl
    tree-holes here (named r n) (leaf x) = elim (cases_Bool (W.accepts n x)) [ inl e ↦ rw e refl | inr e ↦ rw e refl ]
    tree-holes here (named r n) (node m) = elim (cases_Bool (W.possible (W.concrete m) n)) [ inl e ↦ rw e refl | inr e ↦ rw e refl ]
    tree-holes here (named r n) (items ts) = refl
    tree-holes here (list_of r size t) nothing = refl
    tree-holes here (list_of r size t) (leaf x) = refl
    tree-holes here (list_of r size t) (node m) = refl
    tree-holes here (list_of r size t) (items ts) = trees-holes here 0 t ts

    trees-holes : (here : Place) (i : ℕ) (t : TypeRef) (ts : Trees N) → all_holes (skeletons_of W t ts) ≡ length (all_node_spots W here i t ts)
    trees-holes here i t no_trees = refl
    trees-holes here i t (tree a rest) =
        let one = tree-holes (here ++ index i ∷ []) t a in
        let more = trees-holes here (suc i) t rest in
        rw (one, more) (sym (length-append (node_spots W (here ++ index i ∷ []) t a) (all_node_spots W here (suc i) t rest)))

  pub reply-holes : (here : Place) (t : TypeRef) (r : Reply N) → holes_of (reply_skeleton W t r) ≡ length (reply_node_spots W here t r)
  unfolding reply_skeleton reply_node_spots holes_of
  reply-holes here t (answered a) = tree-holes here t a
  reply-holes here t (failed e) = refl

  -- an answer that was taken apart
  pub prepared-holes : (at : Place) (T : Name) (m : N) (k : Name) (os : List Occurrence) (key_is : Name) (r : Bool) (s : Skeleton) (ns : List (Spot N))
      (es : List Listed) → IsPrepared W at T m k os key_is r s ns es → holes_of s ≡ length ns
  prepared-holes at T m k os key_is r s ns es p =
      ap holes_of p.skeleton ∙ (reply-holes (at ++ key k ∷ []) (type_of W T os) (reply_of W T m os) ∙ ap length (sym p.nodes))

  pub parted-holes : (at : Place) (t : TypeRef) (r : Reply N) (s : Skeleton) (ns : List (Spot N)) (errors : List (Spot Error)) →
      IsParted W at t r s ns errors → holes_of s ≡ length ns
  parted-holes at t r s ns errors p = ap holes_of p.skeleton ∙ (reply-holes at t r ∙ ap length (sym p.nodes))

-- ## Objects that are taken

pub listed-append : (ess fss : List (List Listed)) → all_listed (ess ++ fss) ≡ all_listed ess ++ all_listed fss
unfolding all_listed
listed-append [] fss = refl
listed-append (es ∷ ess) fss = ap (λ l. es ++ l) (listed-append ess fss) ∙ sym (append_assoc es (all_listed ess) (all_listed fss))

module _ {S : Type 0} (shown : S → Shown) where
  abbrev seen : Walked S → List Listed
  seen w = map (view_listed shown) w.errors.items

  pub taken-none : (n : ℕ) (ws left : List (Walked S)) (errors more : List (ExecutionError S)) → n ≡ 0 → left ≡ ws → more ≡ errors →
      AreTaken shown n ws left errors more
  unfolding all_listed
  taken-none zero ws left errors more e a b = record {
    left_over = a;
    listed = ap (map (view_listed shown)) b ∙ sym (append-nil (map
        (view_listed shown) errors));
  }
  taken-none (suc n) ws left errors more e a b = absurd (omega (arith, e))

  pub taken-one : (n : ℕ) (w : Walked S) (ws left : List (Walked S)) (errors more : List (ExecutionError S)) → n ≡ 1 → ws ≡ w ∷ left →
      more ≡ errors ++ w.errors.items → AreTaken shown n ws left errors more
  unfolding all_listed
  taken-one n w ws left errors more e a b = record {
    left_over = sym (ap (λ i. drop i ws) e ∙ ap (drop 1) a);
    listed = ap (map (view_listed shown)) b ∙ (map-append (view_listed shown) errors w.errors.items
        ∙ ap (λ l. map (view_listed shown) errors ++ l) (sym (append-nil (seen w)) ∙ sym (ap (λ i. all_listed (take i (map seen ws))) e
        ∙ ap (λ l. all_listed (take 1 (map seen l))) a)));
  }

  pub taken-past : (n : ℕ) (ws left : List (Walked S)) (errors more : List (ExecutionError S)) → n ≡ 1 → ws ≡ [] → left ≡ [] → more ≡ errors →
      AreTaken shown n ws left errors more
  unfolding all_listed
  taken-past n ws left errors more e a b same = record {
    left_over = b ∙ sym (ap (λ i. drop i ws) e ∙ ap (drop 1) a);
    listed = ap (map (view_listed shown)) same ∙ (sym (append-nil (map (view_listed shown) errors))
        ∙ ap (λ l. map (view_listed shown) errors ++ l) (sym (ap (λ i. all_listed (take i (map seen ws))) e ∙ ap (λ l. all_listed (take 1 (map seen l))) a)));
  }

  -- some, and then others
  pub taken-both : (n m k : ℕ) (ws between left : List (Walked S)) (errors some more : List (ExecutionError S)) → k ≡ n + m →
      AreTaken shown n ws between errors some → AreTaken shown m between left some more → AreTaken shown k ws left errors more
  taken-both n m k ws between left errors some more e a b = record {
    left_over = b.left_over ∙ (ap (drop m) a.left_over ∙ (drop-drop m n ws ∙ ap (λ i. drop i ws) (sym e)));
    listed = b.listed ∙ (ap (λ l. l ++ all_listed (take m (map seen between))) a.listed
        ∙ (append_assoc (map (view_listed shown) errors) (all_listed (take n (map seen ws))) (all_listed (take m (map seen between)))
        ∙ ap (λ l. map (view_listed shown) errors ++ l) (ap (λ l. all_listed (take n (map seen ws)) ++ all_listed (take m l))
        (ap (map seen) a.left_over ∙ sym (drop-map seen n ws)) ∙ (sym (listed-append (take n (map seen ws)) (take m (drop n (map seen ws))))
        ∙ ap all_listed (sym (take-add n m (map seen ws)) ∙ ap (λ i. take i (map seen ws)) (sym e))))));
  }

  -- the items of a list so far have taken theirs
  pub record AreTakenSoFar (all rest : Skeletons) (ws left : List (Walked S)) (errors more : List (ExecutionError S)) : Type 0 where
    pub n : ℕ
    pub counted : all_holes all ≡ n + all_holes rest
    pub taken : AreTaken shown n ws left errors more

  pub start-taking : (all : Skeletons) (ws : List (Walked S)) (errors : List (ExecutionError S)) → AreTakenSoFar all all ws ws errors errors
  start-taking all ws errors = record { n = 0; counted = omega arith; taken = taken-none 0 ws ws errors errors refl refl refl }

  pub item-taken : (all rest more_rest : Skeletons) (s : Skeleton) (ws between left : List (Walked S)) (errors some more : List (ExecutionError S)) →
      rest ≡ skeleton s more_rest → AreTakenSoFar all rest ws between errors some → AreTaken shown (holes_of s) between left some more →
      AreTakenSoFar all more_rest ws left errors more
  unfolding holes_of
  item-taken all rest more_rest s ws between left errors some more is so_far one =
      let now : all_holes all ≡ so_far.n + (holes_of s + all_holes more_rest) = so_far.counted ∙ ap (λ x. so_far.n + all_holes x) is in
      record {
        n = so_far.n + holes_of s;
        counted = omega (arith, now);
        taken = taken-both so_far.n (holes_of s) (so_far.n + holes_of s) ws between left errors some more refl so_far.taken one;
      }

  pub list-taken : (s : Skeleton) (r : Bool) (all rest : Skeletons) (ws left : List (Walked S)) (errors more : List (ExecutionError S)) → s ≡ several r all →
      rest ≡ no_skeletons → AreTakenSoFar all rest ws left errors more → AreTaken shown (holes_of s) ws left errors more
  unfolding holes_of
  list-taken s r all rest ws left errors more is out so_far =
      let none : all_holes rest ≡ 0 = ap all_holes out in
      let counted = so_far.counted in
      let same : so_far.n ≡ holes_of s = omega (arith, counted, none) ∙ sym (ap holes_of is) in
      subst (λ n. AreTaken shown n ws left errors more) same so_far.taken

  pub absent-taken : (s : Skeleton) (ws : List (Walked S)) (errors : List (ExecutionError S)) → s ≡ absent → AreTaken shown (holes_of s) ws ws errors errors
  unfolding holes_of
  absent-taken s ws errors is = taken-none (holes_of s) ws ws errors errors (ap holes_of is) refl refl

  pub scalar-taken : (s : Skeleton) (x : Shown) (ws : List (Walked S)) (errors : List (ExecutionError S)) → s ≡ filled x →
      AreTaken shown (holes_of s) ws ws errors errors
  unfolding holes_of
  scalar-taken s x ws errors is = taken-none (holes_of s) ws ws errors errors (ap holes_of is) refl refl

  pub hole-taken : (s : Skeleton) (w : Walked S) (ws left : List (Walked S)) (errors more : List (ExecutionError S)) → s ≡ hole → ws ≡ w ∷ left →
      more ≡ errors ++ w.errors.items → AreTaken shown (holes_of s) ws left errors more
  unfolding holes_of
  hole-taken s w ws left errors more is a b = taken-one (holes_of s) w ws left errors more (ap holes_of is) a b

  pub hole-past : (s : Skeleton) (ws left : List (Walked S)) (errors : List (ExecutionError S)) → s ≡ hole → ws ≡ [] → left ≡ [] →
      AreTaken shown (holes_of s) ws left errors errors
  unfolding holes_of
  hole-past s ws left errors is a b = taken-past (holes_of s) ws left errors errors (ap holes_of is) a b refl

  -- errors behind those of the answer itself
  pub listed-behind : (errors between apart : List (ExecutionError S)) (all below : List Listed) → between ≡ errors ++ apart →
      all ≡ map (view_listed shown) between ++ below →
      all ≡ map (view_listed shown) errors ++ (map (view_listed shown) apart ++ below)
  listed-behind errors between apart all below a b =
      b ∙ (ap (λ l. map (view_listed shown) l ++ below) a ∙ (ap (λ l. l ++ below) (map-append (view_listed shown) errors apart)
      ∙ append_assoc (map (view_listed shown) errors) (map (view_listed shown) apart) below))
