-- Values whose keys differ fill a skeleton to one whose keys differ.
use Rattle.std.proofs.Common.{◌≡◌, Bool, true, ◌&&◌, List, [], ◌∷◌, refl, inl, inr}
use Rattle.std.proofs.lemmas.Bool.{cases_Bool, and_parts, and_from}
use Rattle.graphql_spec.specs.Values.{Value, Values, any_null}
use Rattle.graphql_spec.specs.Execution.{whole_list}
use Rattle.graphql_spec.specs.Skeletons.{Skeleton, Skeletons, absent, filled, several, hole, no_skeletons, skeleton, fill, fill_all, first_of}
use Rattle.juniper_assemble.specs.Keyed.{is_keyed, items_keyed}
use Rattle.juniper_twin.specs.Walking.{all_keyed}

whole-keyed : (r : Bool) (vs : Values) → items_keyed vs ≡ true → is_keyed (whole_list r vs) ≡ true
unfolding whole_list is_keyed
whole-keyed r vs k = elim (cases_Bool (r && any_null vs)) [ inl e ↦ rw e refl | inr e ↦ rw e k ]

first-keyed : (vs : List Value) → all_keyed vs ≡ true → (is_keyed (first_of vs).value ≡ true) × (all_keyed (first_of vs).left ≡ true)
unfolding first_of all_keyed is_keyed
first-keyed [] k = (refl, refl)
first-keyed (v ∷ vs) k = and_parts (is_keyed v) (all_keyed vs) k

mutual
  unfolding fill is_keyed

  pub fill-keyed : (s : Skeleton) (vs : List Value) → all_keyed vs ≡ true → (is_keyed (fill s vs).value ≡ true) × (all_keyed (fill s vs).left ≡ true)
  fill-keyed absent vs k = (refl, k)
  fill-keyed (filled x) vs k = (refl, k)
  fill-keyed (several r ss) vs k = let p = all-filled-keyed ss vs k in (whole-keyed r (fill_all ss vs).values p.0, p.1)
  fill-keyed hole vs k = first-keyed vs k

  all-filled-keyed : (ss : Skeletons) (vs : List Value) → all_keyed vs ≡ true →
      (items_keyed (fill_all ss vs).values ≡ true) × (all_keyed (fill_all ss vs).left ≡ true)
  all-filled-keyed no_skeletons vs k = (refl, k)
  all-filled-keyed (skeleton s ss) vs k =
      let p = fill-keyed s vs k in
      let q = all-filled-keyed ss (fill s vs).left p.1 in
      (and_from (is_keyed (fill s vs).value) (items_keyed (fill_all ss (fill s vs).left).values) p.0 q.0, q.1)
