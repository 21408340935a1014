-- The reply of a list, item by item.
use Rattle.std.proofs.Common.{◌≡◌, ℕ, List, length, arith, [], ◌∷◌, ◌++◌, map, Some, None, refl, ap, ◌∙◌}
use Rattle.graphql_spec.specs.Shown.{Shown}
use Rattle.graphql_spec.specs.Resolvers.{Error, Tree, tree, Reply, answered, failed, items}
use Rattle.juniper_conversions.specs.declared.field_error.ResolveError.{ResolveError}
use Rattle.juniper_conversions.specs.declared.field_error.ResolveError.TheVariants.{Field, Memory}
use Rattle.juniper_values.specs.Replies.{first_error, all_answered, list_reply}
use Rattle.juniper_values.specs.ResolvedView.{trees_of, FailsWith}

-- a list without length has no items
pub none_left : {A : Type 0} (xs : List A) (n : ℕ) → n ≡ length xs → n ≡ 0 → xs ≡ []
none_left [] n e z = refl
none_left (a ∷ xs) n e z = absurd (omega arith)

module _ {R N : Type 0} (view : R → Tree N) where
  all_met : (rs : List R) → first_error (map (λ r. answered (view r)) rs) ≡ None
  all_met [] = refl
  all_met (r ∷ rs) = all_met rs

  all_there : (rs : List R) → all_answered (map (λ r. answered (view r)) rs) ≡ trees_of (map view rs)
  all_there [] = refl
  all_there (r ∷ rs) = ap (tree (view r)) (all_there rs)

  -- no item fails
  pub answers_all : (rs : List R) → list_reply (map (λ r. answered (view r)) rs) ≡ answered (items (trees_of (map view rs)))
  answers_all rs = rw (all_met rs, all_there rs) refl

  first_failed : (rs : List R) (e : Error) (rest : List (Reply N)) → first_error (map (λ r. answered (view r)) rs ++ (failed e ∷ rest)) ≡ Some e
  first_failed [] e rest = refl
  first_failed (r ∷ rs) e rest = first_failed rs e rest

  -- the item behind these fails
  pub fails_first : (rs : List R) (e : Error) (rest : List (Reply N)) → list_reply (map (λ r. answered (view r)) rs ++ (failed e ∷ rest)) ≡ failed e
  fails_first rs e rest = rw (first_failed rs e rest) refl

-- the item behind those that are answered fails
pub fails_at : {T R S N : Type 0} (shown : S → Shown) (view : R → Tree N) (resolves : T → Reply N) (all : List (Reply N)) (rs : List R) (left rest : List T)
    (x : T) (e : ResolveError S) →
    all ≡ map (λ r. answered (view r)) rs ++ map resolves left → left ≡ x ∷ rest → FailsWith shown e (resolves x) → FailsWith shown e (list_reply all)
fails_at shown view resolves all rs left rest x (Field e) i h f =
    ap list_reply (i ∙ ap (λ ys. map (λ r. answered (view r)) rs ++ map resolves ys) h ∙ ap (λ y. map (λ r. answered (view r)) rs ++ (y ∷ map resolves rest)) f)
    ∙ fails_first view rs _ (map resolves rest)
fails_at shown view resolves all rs left rest x Memory i h f = tt
