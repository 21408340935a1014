-- What is listed of an answer apart from its nodes, and then of the nodes' objects, meets what fails (6.4.4).
use Rattle.std.proofs.Common.{◌≡◌, ℕ, suc, Bool, true, false, ◌&&◌, ◌||◌, cond, List, [], ◌∷◌, ◌++◌, map, refl, sym, ap, ◌∙◌, inl, inr, subst, append_assoc}
use Rattle.std.proofs.lemmas.Bool.{cases_Bool}
use Rattle.std.proofs.lemmas.List.{append-nil, map-append}
use Rattle.graphql_spec.specs.Shown.{Name}
use Rattle.graphql_spec.specs.Positions.{Position}
use Rattle.graphql_spec.specs.Values.{Value, Values, null, list, is_null, any_null, item}
use Rattle.graphql_spec.specs.Types.{TypeRef, named, list_of, required}
use Rattle.graphql_spec.specs.Errors.{Place, index, Listed, null_at_non_null, wrong_shape}
use Rattle.graphql_spec.specs.Resolvers.{Error, World, Tree, nothing, leaf, items, node, Trees, no_trees, tree, Reply, answered, failed}
use Rattle.graphql_spec.specs.Execution.{complete, complete_all, finish, whole_list}
use Rattle.graphql_spec.specs.Failures.{Failure, landing, faults, all_faults, reply_faults}
use Rattle.graphql_spec.specs.Nulls.{null_or, standing, all_standing, reply_standing}
use Rattle.graphql_spec.specs.Walk.{Met}
use Rattle.graphql_spec.proofs.Failing.{tally, tally-append}
use Rattle.graphql_spec.proofs.Grouping.{in_append}
use Rattle.graphql_spec.proofs.Walk.{met-join, met-place}
use Rattle.graphql_spec.specs.Skeletons.{Stop, stops, all_stops, reply_stops, listed_apart}
use Rattle.graphql_spec.specs.CompletionLaws.{AreObjectsOf, all_listed}
use Rattle.graphql_spec.proofs.Listing.{IsListedAs, listed-same, listed-both, met-listed, met-nothing, met-failure}
use Rattle.graphql_spec.proofs.Filling.{none-are, parts}

and-or : (a b q : Bool) → ((a && q) || (b && q)) ≡ ((a || b) && q)
and-or true b true = refl
and-or true true false = refl
and-or true false false = refl
and-or false b q = refl

whole-null : (q : Bool) (us : Values) → is_null (whole_list q us) ≡ (any_null us && q)
unfolding whole_list is_null
whole-null q us = go q (any_null us)
  where
    go : (a b : Bool) → is_null (cond (a && b) null (list us)) ≡ (b && a)
    go true true = refl
    go true false = refl
    go false true = refl
    go false false = refl

-- the errors of two parts, one after the other
all-listed-append : (xs ys : List (List Listed)) → all_listed (xs ++ ys) ≡ all_listed xs ++ all_listed ys
unfolding all_listed
all-listed-append [] ys = refl
all-listed-append (es ∷ xs) ys = ap (λ z. es ++ z) (all-listed-append xs ys) ∙ sym (append_assoc es (all_listed xs) (all_listed ys))

module _ (tell : Place → Place) {N : Type 0} (W : World N) (objects : Name → N → Value) (at : Place → Place → Name → N → List Failure)
    (nulls : Place → Name → N → List Place) (start : Position) where
  abbrev Are : List (Stop N) → List Value → List (List Listed) → Type 0
  Are = AreObjectsOf tell W objects at nulls

  -- a failure as it is listed
  abbrev listed : Failure → Listed
  listed f = record { path = tell f.path; start = start; error = f.error }

  -- what no node is asked for
  abbrev without_nodes : Place → Place → Name → N → List Failure
  without_nodes place to T m = []

  -- errors in some order meet these failures, and are those of the rest and then of the nodes
  record IsMet (rises : Bool) (apart : List Listed) (ess : List (List Listed)) (fs : List Failure) (above : Place) (stands : List Place) : Type 0 where
    errors : List Listed
    met : Met tell rises errors fs above stands
    same : IsListedAs (apart ++ all_listed ess) errors

  -- where there is no node
  alone : (rises : Bool) (es : List Listed) (fs : List Failure) (above : Place) (stands : List Place) (vs : List Value) (ess : List (List Listed)) →
      Are [] vs ess → Met tell rises es fs above stands → IsMet rises es ess fs above stands
  unfolding all_listed
  alone rises es fs above stands vs ess o m =
      let none = none-are tell W objects at nulls vs ess o in
      record { errors = es; met = m; same = listed-same (es ++ all_listed ess) es (ap (λ z. es ++ all_listed z) none.1 ∙ append-nil es) }

  -- one node
  node-met : (here above : Place) (t : TypeRef) (m : N) (vs : List Value) (ess : List (List Listed)) →
      Are (record { place = here; lands = landing t here above; node = m } ∷ []) vs ess →
      IsMet (is_null (objects (W.concrete m) m) && required t) [] ess (at here (landing t here above) (W.concrete m) m) above
      (null_or here t (objects (W.concrete m) m) (nulls here (W.concrete m) m))
  unfolding all_listed
  node-met here above t m [] [] o = absurd o
  node-met here above t m [] (es ∷ ess) o = absurd o
  node-met here above t m (v ∷ vs) [] o = absurd o
  node-met here above t m (v ∷ vs) (es ∷ ess) (x, o) =
      let none = none-are tell W objects at nulls vs ess o in
      record {
        errors = es;
        met = subst (λ z. Met tell (is_null z && required t) es (at here (landing t here above) (W.concrete m) m) above
            (null_or here t z (nulls here (W.concrete m) m))) x.value
            (met-place tell here above t v es (at here (landing t here above) (W.concrete m) m) (nulls here (W.concrete m) m) x.errors);
        same = listed-same (es ++ all_listed ess) es (ap (λ z. es ++ all_listed z) none.1 ∙ append-nil es);
      }

  -- a null that the resolver answered
  nothing-met : (here above elsewhere : Place) (t : TypeRef) (vs : List Value) (ess : List (List Listed)) → Are [] vs ess →
      IsMet (required t) (map listed (cond (required t) (record { path = here; starts = start ∷ []; error = null_at_non_null; rises_to = elsewhere } ∷ []) []))
      ess
      (cond (required t) (record { path = here; starts = start ∷ []; error = null_at_non_null; rises_to = above } ∷ []) []) above []
  unfolding landing
  nothing-met here above elsewhere t vs ess o = go (required t) refl
    where
      go : (q : Bool) → required t ≡ q → IsMet q (map listed (cond q
          (record { path = here; starts = start ∷ []; error = null_at_non_null; rises_to = elsewhere } ∷ []) [])) ess
          (cond q (record { path = here; starts = start ∷ []; error = null_at_non_null; rises_to = above } ∷ []) []) above []
      go true e = alone true _ _ above [] vs ess o (let m = met-failure tell here above start t null_at_non_null in rw e at m)
      go false e = alone false [] [] above [] vs ess o (met-nothing tell above)

  -- an answer that the type does not take
  wrong-met : (here above elsewhere : Place) (t : TypeRef) (x : Error) (vs : List Value) (ess : List (List Listed)) → Are [] vs ess →
      IsMet (required t) (map listed (record { path = here; starts = start ∷ []; error = x; rises_to = elsewhere } ∷ [])) ess
      (record { path = here; starts = start ∷ []; error = x; rises_to = landing t here above } ∷ []) above (null_or here t null [])
  unfolding null_or is_null
  wrong-met here above elsewhere t x vs ess o = alone (required t) _ _ above _ vs ess o (met-failure tell here above start t x)

  -- a list, with its items
  list-met : (here above : Place) (t item_type : TypeRef) (us : Values) (apart : List Listed) (ess : List (List Listed)) (fs : List Failure) (st : List Place) →
      IsMet (any_null us && required item_type) apart ess fs (landing t here above) st →
      IsMet (is_null (whole_list (required item_type) us) && required t) apart ess fs above (null_or here t (whole_list (required item_type) us) st)
  list-met here above t item_type us apart ess fs st m = record {
    errors = m.errors;
    met = met-place tell here above t (whole_list (required item_type) us) m.errors fs st (rw (whole-null (required item_type) us) m.met);
    same = m.same;
  }

  -- an item, and those behind it
  both-met : (q : Bool) (u : Value) (us : Values) (ap1 ap2 : List Listed) (ess1 ess2 : List (List Listed)) (gs hs : List Failure) (above : Place)
      (xs ys : List Place) →
      IsMet (is_null u && q) ap1 ess1 gs above xs → IsMet (any_null us && q) ap2 ess2 hs above ys →
      IsMet (any_null (item u us) && q) (ap1 ++ ap2) (ess1 ++ ess2) (gs ++ hs) above (xs ++ ys)
  unfolding any_null tally
  both-met q u us ap1 ap2 ess1 ess2 gs hs above xs ys m n = record {
    errors = m.errors ++ n.errors;
    met = subst (λ z. Met tell z (m.errors ++ n.errors) (gs ++ hs) above (xs ++ ys)) (and-or (is_null u) (any_null us) q)
        (met-join tell (is_null u && q) (any_null us && q) m.errors n.errors (gs ++ hs) gs hs above (xs ++ ys) xs ys m.met n.met (λ p. tally-append p gs hs)
        (λ p i. in_append p xs ys i));
    same = rw (all-listed-append ess1 ess2) (listed-both ap1 (all_listed ess1) ap2 (all_listed ess2) m.errors n.errors m.same n.same);
  }

  mutual
    unfolding stops faults standing complete is_null any_null null_or

    tree-met : (here above elsewhere : Place) (t : TypeRef) (a : Tree N) (vs : List Value) (ess : List (List Listed)) → Are (stops W here above t a) vs ess →
        IsMet (is_null (complete W objects t a) && required t) (map listed (faults W without_nodes here (start ∷ []) elsewhere t a)) ess
        (faults W at here (start ∷ []) above t a) above (standing W objects nulls here t a)
    tree-met here above elsewhere (named r n) nothing vs ess o = nothing-met here above elsewhere (named r n) vs ess o
    tree-met here above elsewhere (list_of r size t) nothing vs ess o = nothing-met here above elsewhere (list_of r size t) vs ess o
    tree-met here above elsewhere (named r n) (leaf x) vs ess o = elim (cases_Bool (W.accepts n x)) [
      | inl e ↦ rw e (alone false [] [] above [] vs ess o (met-nothing tell above))
      | inr e ↦ rw e (wrong-met here above (landing (named r n) here elsewhere) (named r n) wrong_shape vs ess o)
    ]
    tree-met here above elsewhere (named r n) (node m) vs ess o = elim (cases_Bool (W.possible (W.concrete m) n)) [
      | inl e ↦ rw e (node-met here above (named r n) m vs ess (rw e at o))
      | inr e ↦ rw e (wrong-met here above (landing (named r n) here elsewhere) (named r n) wrong_shape vs ess (rw e at o))
    ]
    tree-met here above elsewhere (named r n) (items ts) vs ess o = wrong-met here above (landing (named r n) here elsewhere) (named r n) wrong_shape vs ess o
    tree-met here above elsewhere (list_of r size t) (leaf x) vs ess o =
        wrong-met here above (landing (list_of r size t) here elsewhere) (list_of r size t) wrong_shape vs ess o
    tree-met here above elsewhere (list_of r size t) (node m) vs ess o =
        wrong-met here above (landing (list_of r size t) here elsewhere) (list_of r size t) wrong_shape vs ess o
    tree-met here above elsewhere (list_of r size t) (items ts) vs ess o =
        list-met here above (list_of r size t) t (complete_all W objects t ts) _ ess _ _
        (trees-met here 0 (landing (list_of r size t) here above) (landing (list_of r size t) here elsewhere) t ts vs ess o)

    trees-met : (here : Place) (i : ℕ) (above elsewhere : Place) (t : TypeRef) (ts : Trees N) (vs : List Value) (ess : List (List Listed)) →
        Are (all_stops W here i above t ts) vs ess →
        IsMet (any_null (complete_all W objects t ts) && required t) (map listed (all_faults W without_nodes here i (start ∷ []) elsewhere t ts)) ess
        (all_faults W at here i (start ∷ []) above t ts) above (all_standing W objects nulls here i t ts)
    trees-met here i above elsewhere t no_trees vs ess o = alone false [] [] above [] vs ess o (met-nothing tell above)
    trees-met here i above elsewhere t (tree a ts) vs ess o =
        let p = parts tell W objects at nulls (stops W (here ++ index i ∷ []) above t a) (all_stops W here (suc i) above t ts) vs ess o in
        let front = tree-met (here ++ index i ∷ []) above elsewhere t a p.first_values p.first_errors p.first in
        let back = trees-met here (suc i) above elsewhere t ts p.second_values p.second_errors p.second in
        rw (
          p.errors,
          map-append listed (faults W without_nodes (here ++ index i ∷ []) (start ∷ []) elsewhere t a)
              (all_faults W without_nodes here (suc i) (start ∷ []) elsewhere t ts),
        )
        (both-met (required t) (complete W objects t a) (complete_all W objects t ts) _ _ p.first_errors p.second_errors _ _ above _ _ front back)

  pub reply-met : (here above : Place) (t : TypeRef) (r : Reply N) (vs : List Value) (ess : List (List Listed)) → Are (reply_stops W here above t r) vs ess →
      Met tell (is_null (finish W objects t r) && required t) (listed_apart W tell here start t r ++ all_listed ess)
      (reply_faults W at here (start ∷ []) above t r) above (reply_standing W objects nulls here t r)
  unfolding reply_stops reply_faults reply_standing finish listed_apart is_null
  reply-met here above t (answered a) vs ess o = let m = tree-met here above [] t a vs ess o in met-listed tell _ _ m.errors _ above _ m.same m.met
  reply-met here above t (failed e) vs ess o =
      let m = wrong-met here above (landing t here []) t e vs ess o in met-listed tell _ _ m.errors _ above _ m.same m.met
