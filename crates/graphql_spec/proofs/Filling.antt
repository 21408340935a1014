-- The objects of an answer's nodes fill its holes.
use Rattle.std.proofs.Common.{◌≡◌, ℕ, suc, List, [], ◌∷◌, ◌++◌, refl, sym, ap, ◌∙◌, inl, inr, append_assoc}
use Rattle.std.proofs.lemmas.List.{append-nil}
use Rattle.std.proofs.lemmas.Bool.{cases_Bool}
use Rattle.graphql_spec.specs.Shown.{Name}
use Rattle.graphql_spec.specs.Values.{Value, Values, null}
use Rattle.graphql_spec.specs.Types.{TypeRef, named, list_of, required}
use Rattle.graphql_spec.specs.Errors.{Place, index, Listed}
use Rattle.graphql_spec.specs.Resolvers.{World, Tree, nothing, leaf, items, node, Trees, no_trees, tree, Reply, answered, failed}
use Rattle.graphql_spec.specs.Execution.{complete, complete_all, finish, whole_list}
use Rattle.graphql_spec.specs.Failures.{Failure, landing}
use Rattle.graphql_spec.specs.Skeletons.{Stop, stops, all_stops, reply_stops, skeleton_of, skeletons_of, reply_skeleton, Filled, AllFilled, first_of}
use Rattle.graphql_spec.specs.Skeletons.{fill, fill_all}
use Rattle.graphql_spec.specs.CompletionLaws.{AreObjectsOf}

module _ (tell : Place → Place) {N : Type 0} (W : World N) (objects : Name → N → Value) (at : Place → Place → Name → N → List Failure)
    (nulls : Place → Name → N → List Place) where
  abbrev Are : List (Stop N) → List Value → List (List Listed) → Type 0
  Are = AreObjectsOf tell W objects at nulls

  -- where there is no node
  pub none-are : (vs : List Value) (ess : List (List Listed)) → Are [] vs ess → (vs ≡ []) × (ess ≡ [])
  none-are [] [] a = (refl, refl)
  none-are [] (es ∷ ess) a = absurd a
  none-are (v ∷ vs) [] a = absurd a
  none-are (v ∷ vs) (es ∷ ess) a = absurd a

  -- the objects of the nodes of two parts
  pub record Parts (xs ys : List (Stop N)) (vs : List Value) (ess : List (List Listed)) : Type 0 where
    pub first_values : List Value
    pub second_values : List Value
    pub first_errors : List (List Listed)
    pub second_errors : List (List Listed)
    pub values : vs ≡ first_values ++ second_values
    pub errors : ess ≡ first_errors ++ second_errors
    pub first : Are xs first_values first_errors
    pub second : Are ys second_values second_errors

  pub parts : (xs ys : List (Stop N)) (vs : List Value) (ess : List (List Listed)) → Are (xs ++ ys) vs ess → Parts xs ys vs ess
  parts [] ys vs ess a =
      record { first_values = []; second_values = vs; first_errors = []; second_errors = ess; values = refl; errors = refl; first = tt; second = a }
  parts (x ∷ xs) ys [] [] a = absurd a
  parts (x ∷ xs) ys [] (es ∷ ess) a = absurd a
  parts (x ∷ xs) ys (v ∷ vs) [] a = absurd a
  parts (x ∷ xs) ys (v ∷ vs) (es ∷ ess) a =
      let p = parts xs ys vs ess a.1 in record {
        first_values = v ∷ p.first_values;
        second_values = p.second_values;
        first_errors = es ∷ p.first_errors;
        second_errors = p.second_errors;
        values = ap (λ z. v ∷ z) p.values;
        errors = ap (λ z. es ∷ z) p.errors;
        first = (a.0, p.first);
        second = p.second;
      }

  abbrev done : Value → List Value → Filled
  done v vs = record { value = v; left = vs }

  abbrev all_done : Values → List Value → AllFilled
  all_done us vs = record { values = us; left = vs }

  none-left : (vs rest : List Value) (ess : List (List Listed)) → Are [] vs ess → vs ++ rest ≡ rest
  none-left vs rest ess a = ap (λ z. z ++ rest) (none-are vs ess a).0

  one-fills : (x : Stop N) (vs rest : List Value) (ess : List (List Listed)) → Are (x ∷ []) vs ess →
      first_of (vs ++ rest) ≡ done (objects (W.concrete x.node) x.node) rest
  unfolding first_of
  one-fills x [] rest [] a = absurd a
  one-fills x [] rest (es ∷ ess) a = absurd a
  one-fills x (v ∷ vs) rest [] a = absurd a
  one-fills x (v ∷ vs) rest (es ∷ ess) (o, a) = ap (λ z. done v z) (none-left vs rest ess a) ∙ ap (λ z. done z rest) o.value

  mutual
    unfolding skeleton_of stops fill complete

    -- an answer's holes are filled in order, and the other values are left
    pub fills : (here above : Place) (t : TypeRef) (a : Tree N) (vs rest : List Value) (ess : List (List Listed)) → Are (stops W here above t a) vs ess →
        fill (skeleton_of W t a) (vs ++ rest) ≡ done (complete W objects t a) rest
    fills here above (named r n) nothing vs rest ess o = ap (done null) (none-left vs rest ess o)
    fills here above (list_of r size t) nothing vs rest ess o = ap (done null) (none-left vs rest ess o)
    fills here above (named r n) (leaf x) vs rest ess o =
        elim (cases_Bool (W.accepts n x)) [ inl e ↦ rw e (ap (done _) (none-left vs rest ess o)) | inr e ↦ rw e (ap (done null) (none-left vs rest ess o)) ]
    fills here above (named r n) (node m) vs rest ess o = elim (cases_Bool (W.possible (W.concrete m) n)) [
      | inl e ↦ rw e (one-fills (record { place = here; lands = landing (named r n) here above; node = m }) vs rest ess (rw e at o))
      | inr e ↦ rw e (ap (done null) (none-left vs rest ess (rw e at o)))
    ]
    fills here above (named r n) (items ts) vs rest ess o = ap (done null) (none-left vs rest ess o)
    fills here above (list_of r size t) (leaf x) vs rest ess o = ap (done null) (none-left vs rest ess o)
    fills here above (list_of r size t) (node m) vs rest ess o = ap (done null) (none-left vs rest ess o)
    fills here above (list_of r size t) (items ts) vs rest ess o =
        ap (λ (f : AllFilled). done (whole_list (required t) f.values) f.left) (fills-all here 0 (landing (list_of r size t) here above) t ts vs rest ess o)

    fills-all : (here : Place) (i : ℕ) (above : Place) (t : TypeRef) (ts : Trees N) (vs rest : List Value) (ess : List (List Listed)) →
        Are (all_stops W here i above t ts) vs ess →
        fill_all (skeletons_of W t ts) (vs ++ rest) ≡ all_done (complete_all W objects t ts) rest
    fills-all here i above t no_trees vs rest ess o = ap (λ z. all_done _ z) (none-left vs rest ess o)
    fills-all here i above t (tree a ts) vs rest ess o =
        let p = parts (stops W (here ++ index i ∷ []) above t a) (all_stops W here (suc i) above t ts) vs ess o in
        let whole : vs ++ rest ≡ p.first_values ++ (p.second_values ++ rest) = ap (λ z. z ++ rest) p.values
        ∙ append_assoc p.first_values p.second_values rest in
        let front = fills (here ++ index i ∷ []) above t a p.first_values (p.second_values ++ rest) p.first_errors p.first in
        let back = fills-all here (suc i) above t ts p.second_values rest p.second_errors p.second in
        rw (whole, front, back) refl

  pub reply-fills : (here above : Place) (t : TypeRef) (r : Reply N) (vs : List Value) (ess : List (List Listed)) → Are (reply_stops W here above t r) vs ess →
      (fill (reply_skeleton W t r) vs).value ≡ finish W objects t r
  unfolding reply_stops reply_skeleton finish fill
  reply-fills here above t (answered a) vs ess o =
      ap (λ z. (fill (skeleton_of W t a) z).value) (sym (append-nil vs)) ∙ ap (λ (f : Filled). f.value) (fills here above t a vs [] ess o)
  reply-fills here above t (failed e) vs ess o = refl
