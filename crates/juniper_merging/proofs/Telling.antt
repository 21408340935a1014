-- Numbers that stand for the fields of a set tell whether these can be merged.
use Rattle.std.specs.Prelude.{ℕ, zero, suc, Bool, true, false, not, ◌&&◌, ◌||◌, List, ◌++◌, ◌≡◌, Option, Some, None, nat_eq}
use Rattle.std.specs.List.{slice_get}
use Rattle.std.specs.Str.{bytes_eq}
use Rattle.std.proofs.lemmas.Bool.{and_parts, or_cases, or_left, or_right}
use Rattle.std.proofs.Common.{refl, sym, ap, ◌∙◌, inl, inr, subst}
use Rattle.graphql_spec.specs.Shown.{same_bool}
use Rattle.graphql_spec.specs.Types.{TypeRef, named, list_of}
use Rattle.graphql_spec.specs.Documents.{Head, written, response_key}
use Rattle.graphql_spec.specs.Constants.{Members, same_members}
use Rattle.graphql_spec.specs.Arguments.{written_meaning}
use Rattle.graphql_spec.specs.Schema.{Schema}
use Rattle.graphql_spec.specs.Fields.{type_named, is_leaf, is_object, field_of, declared_type}
use Rattle.graphql_spec.specs.Overlap.{Field}
use Rattle.graphql_spec.specs.Merging.{each_pair, same_key, same_name, same_arguments, type_at, fields_at, types_agree, shapes_agree, may_meet, merge}
use Rattle.graphql_spec.proofs.Lists.{same_sym}
use Rattle.graphql_spec.proofs.SameMeanings.{same_members-true}
use Rattle.juniper_merging.specs.MergingGraph.{FieldAt, can_meet, agree, same_key_at, agree_at, meet_at, below_both, each_pair_at, merge_at, set_merges_at}
use Rattle.juniper_merging.specs.Standing.{AreAlike, AreNumbered, IsAt, StandsFor, NumbersTell}
use Rattle.juniper_merging.proofs.Numbers.{itself, same-number}
use Rattle.juniper_merging.proofs.Places.{same-truth, two-swapped, two-true, two-from, alike-two, alike-both}

-- ## Both ways round

pub or-turn : (a b : Bool) → (a || b) ≡ (b || a)
or-turn true true = refl
or-turn true false = refl
or-turn false true = refl
or-turn false false = refl

bool-turn : (a b : Bool) → same_bool a b ≡ same_bool b a
unfolding same_bool
bool-turn true true = refl
bool-turn true false = refl
bool-turn false true = refl
bool-turn false false = refl

pub number-turn : (m n : ℕ) → nat_eq m n ≡ nat_eq n m
number-turn m n = same-truth (nat_eq m n) (nat_eq n m) (λ e. subst (λ k. nat_eq k m ≡ true) (same-number m n e) (itself m))
    (λ e. subst (λ k. nat_eq k n ≡ true) (same-number n m e) (itself n))

members-turn : (us vs : Members) → same_members us vs ≡ same_members vs us
members-turn us vs = same-truth (same_members us vs) (same_members vs us) (turn us vs) (turn vs us)
  where
    turn : (us vs : Members) → same_members us vs ≡ true → same_members vs us ≡ true
    turn us vs e =
        let same = same_members-true us vs e in
        let own : same_members us us ≡ true = subst (λ k. same_members us k ≡ true) (sym same) e in
        subst (λ k. same_members k us ≡ true) same own

module _ (s : Schema) where
  types-turn : (t u : TypeRef) → types_agree s t u ≡ types_agree s u t
  unfolding types_agree
  types-turn (named r a) (named q b) = λ t. bool-turn r q t && (not (or-turn (is_leaf (type_named s a)) (is_leaf (type_named s b)) t) || same_sym a b t)
  types-turn (list_of r size t) (list_of q size' u) = λ i. bool-turn r q i && types-turn t u i
  types-turn (named r a) (list_of q size u) = refl
  types-turn (list_of r size t) (named q b) = refl

  meet-turn : (x y : Field) → may_meet s x y ≡ may_meet s y x
  unfolding may_meet
  meet-turn x y = λ t. same_sym x.parent y.parent t || or-turn (not (is_object (type_named s x.parent))) (not (is_object (type_named s y.parent))) t

  call-turn : (x y : Field) → (same_name x y && same_arguments x y) ≡ (same_name y x && same_arguments y x)
  unfolding same_name same_arguments
  call-turn x y = λ t. same_sym x.occurrence.head.name.item y.occurrence.head.name.item t
      && members-turn (written_meaning (written x.occurrence.head.arguments)) (written_meaning (written y.occurrence.head.arguments)) t

  abbrev keyed : (Field → Field → Bool) → Field → Field → Bool
  keyed R x y = not (same_key x y) || R x y

  keyed-turn : (R : Field → Field → Bool) → ((x y : Field) → R x y ≡ R y x) → (x y : Field) → keyed R x y ≡ keyed R y x
  unfolding same_key
  keyed-turn R turn x y = λ t. not (same_sym (response_key x.occurrence.head) (response_key y.occurrence.head) t) || turn x y t

  pairs-swapped : (R : Field → Field → Bool) → ((x y : Field) → R x y ≡ R y x) → (xs ys : List Field) → each_pair R (xs ++ ys) ≡ each_pair R (ys ++ xs)
  unfolding each_pair
  pairs-swapped R turn xs ys = two-swapped (keyed R) (keyed-turn R turn) xs ys

  pub shapes-turn : (n : ℕ) (x y : Field) → shapes_agree s n x y ≡ shapes_agree s n y x
  unfolding shapes_agree
  shapes-turn zero x y = types-turn (type_at s x) (type_at s y)
  shapes-turn (suc n) x y = λ t. types-turn (type_at s x) (type_at s y) t && pairs-swapped (shapes_agree s n) (shapes-turn n) (fields_at s x) (fields_at s y) t

  pub merge-turn : (n : ℕ) (x y : Field) → merge s n x y ≡ merge s n y x
  unfolding merge
  merge-turn zero x y = λ t. shapes-turn zero x y t && (not (meet-turn x y t) || call-turn x y t)
  merge-turn (suc n) x y = λ t. shapes-turn (suc n) x y t && (not (meet-turn x y t)
      || (call-turn x y t && pairs-swapped (merge s n) (merge-turn n) (fields_at s x) (fields_at s y) t))

  merge-shapes : (n : ℕ) (x y : Field) → merge s n x y ≡ true → shapes_agree s n x y ≡ true
  unfolding merge
  merge-shapes zero x y e = (and_parts (shapes_agree s zero x y) _ e).0
  merge-shapes (suc n) x y e = (and_parts (shapes_agree s (suc n) x y) _ e).0

  -- what can be merged agrees in shape
  pairs-shapes : (n : ℕ) (xs : List Field) → each_pair (merge s n) xs ≡ true → each_pair (shapes_agree s n) xs ≡ true
  unfolding each_pair
  pairs-shapes n xs e =
      two-from (keyed (shapes_agree s n)) xs (λ x y b. weaker n x y (two-true (keyed (merge s n)) (keyed-turn (merge s n) (merge-turn n)) xs e x y b))
    where
      weaker : (n : ℕ) (x y : Field) → keyed (merge s n) x y ≡ true → keyed (shapes_agree s n) x y ≡ true
      weaker n x y e = elim (or_cases (not (same_key x y)) (merge s n x y) e) [
        | inl q ↦ or_left (not (same_key x y)) (shapes_agree s n x y) q
        | inr q ↦ or_right (not (same_key x y)) (shapes_agree s n x y) (merge-shapes n x y q)
      ]

-- ## Numbers

pub agree-turn : (m : Bool) (v w : FieldAt) → agree m v w ≡ agree m w v
unfolding agree can_meet
agree-turn m v w = λ t. number-turn v.shape w.shape t && (not (m && (same_sym v.parent w.parent t || or-turn (not v.on_object) (not w.on_object) t))
    || number-turn v.call w.call t)

agree-at-turn : (m : Bool) (o p : Option FieldAt) → agree_at m o p ≡ agree_at m p o
unfolding agree_at
agree-at-turn m None None = refl
agree-at-turn m None (Some w) = refl
agree-at-turn m (Some v) None = refl
agree-at-turn m (Some v) (Some w) = agree-turn m v w

meet-at-turn : (o p : Option FieldAt) → meet_at o p ≡ meet_at p o
unfolding meet_at can_meet
meet-at-turn None None = refl
meet-at-turn None (Some w) = refl
meet-at-turn (Some v) None = refl
meet-at-turn (Some v) (Some w) = λ t. same_sym v.parent w.parent t || or-turn (not v.on_object) (not w.on_object) t

key-at-turn : (o p : Option FieldAt) → same_key_at o p ≡ same_key_at p o
unfolding same_key_at
key-at-turn None None = refl
key-at-turn None (Some w) = refl
key-at-turn (Some v) None = refl
key-at-turn (Some v) (Some w) = number-turn v.key w.key

module _ (vs : List FieldAt) where
  abbrev keyed-at : (ℕ → ℕ → Bool) → ℕ → ℕ → Bool
  keyed-at R i j = not (same_key_at (slice_get vs i) (slice_get vs j)) || R i j

  pub keyed-at-turn : (R : ℕ → ℕ → Bool) → ((i j : ℕ) → R i j ≡ R j i) → (i j : ℕ) → keyed-at R i j ≡ keyed-at R j i
  keyed-at-turn R turn i j = λ t. not (key-at-turn (slice_get vs i) (slice_get vs j) t) || turn i j t

  below-turn : (R : ℕ → ℕ → Bool) → ((i j : ℕ) → R i j ≡ R j i) → (o p : Option FieldAt) →
      each_pair_at vs R (below_both o p) ≡ each_pair_at vs R (below_both p o)
  unfolding below_both each_pair_at
  below-turn R turn None None = refl
  below-turn R turn None (Some w) = refl
  below-turn R turn (Some v) None = refl
  below-turn R turn (Some v) (Some w) = two-swapped (keyed-at R) (keyed-at-turn R turn) v.below w.below

  pub merge-at-turn : (n : ℕ) (m : Bool) (i j : ℕ) → merge_at vs n m i j ≡ merge_at vs n m j i
  unfolding merge_at
  merge-at-turn zero m i j = agree-at-turn m (slice_get vs i) (slice_get vs j)
  merge-at-turn (suc n) m i j =
      (λ t. agree-at-turn m (slice_get vs i) (slice_get vs j) t && each_pair_at vs (merge_at vs n (m && meet-at-turn (slice_get vs i) (slice_get vs j) t))
      (below_both (slice_get vs i) (slice_get vs j)))
      ∙ ap (λ b. agree_at m (slice_get vs j) (slice_get vs i) && b)
      (below-turn (merge_at vs n (m && meet_at (slice_get vs j) (slice_get vs i))) (merge-at-turn n (m && meet_at (slice_get vs j) (slice_get vs i)))
      (slice_get vs i) (slice_get vs j))

  pub found-pair : (n : ℕ) (m : Bool) (i j : ℕ) (v w : FieldAt) → slice_get vs i ≡ Some v → slice_get vs j ≡ Some w →
      merge_at vs (suc n) m i j ≡ (agree m v w && each_pair_at vs (merge_at vs n (m && can_meet v w)) (v.below ++ w.below))
  unfolding merge_at agree_at meet_at below_both
  found-pair n m i j v w e f = λ t. agree_at m (e t) (f t) && each_pair_at vs (merge_at vs n (m && meet_at (e t) (f t))) (below_both (e t) (f t))

  pub found-alone : (m : Bool) (i j : ℕ) (v w : FieldAt) → slice_get vs i ≡ Some v → slice_get vs j ≡ Some w → merge_at vs zero m i j ≡ agree m v w
  unfolding merge_at agree_at
  found-alone m i j v w e f = λ t. agree_at m (e t) (f t)

-- ## What numbers stand for

and-true : (b : Bool) → (b && true) ≡ b
and-true true = refl
and-true false = refl

and-left : (a b c d : Bool) → (d ≡ true → b ≡ true) → ((a && b) && (c && d)) ≡ ((a && c) && d)
and-left false b c d f = refl
and-left true true c d f = refl
and-left true false true true f = f refl
and-left true false true false f = refl
and-left true false false d f = refl

and-right : (a b : Bool) → ((a && b) && true) ≡ ((a && true) && b)
and-right false b = refl
and-right true true = refl
and-right true false = refl

when-keyed : (k l a b : Bool) → k ≡ l → (k ≡ true → a ≡ b) → (not k || a) ≡ (not l || b)
when-keyed true l a b e h = h refl ∙ ap (λ c. not c || b) e
when-keyed false l a b e h = ap (λ c. not c || b) e

module _ (s : Schema) (vs : List FieldAt) (heads : ℕ → Head) (numbered : AreNumbered s vs heads) where
  abbrev Stands : ℕ → Field → ℕ → Type 0
  Stands n x i = StandsFor s vs heads n x i

  stands-at : (n : ℕ) (x : Field) (i : ℕ) → Stands n x i → (v : FieldAt) × IsAt s vs heads x i v
  stands-at zero x i r = r
  stands-at (suc n) x i r = (r.0, r.1)

  module _ (x y : Field) (i j : ℕ) (v w : FieldAt) (a : IsAt s vs heads x i v) (b : IsAt s vs heads y j w) where
    key-numbers : nat_eq v.key w.key ≡ same_key x y
    unfolding same_key
    key-numbers = numbered.keys a.like b.like v w a.like_there b.like_there ∙ (λ t. bytes_eq (response_key (a.head t)) (response_key (b.head t)))

    one-key : same_key x y ≡ true → nat_eq v.key w.key ≡ true
    one-key k = key-numbers ∙ k

    types-same : same_key x y ≡ true → types_agree s (type_at s x) (type_at s y) ≡ nat_eq v.shape w.shape
    unfolding type_at
    types-same k = sym (numbered.shapes a.like b.like v w a.like_there b.like_there (one-key k)
        ∙ (λ t. types_agree s (declared_type (field_of s (a.parent t) (a.head t).name.item)) (declared_type (field_of s (b.parent t) (b.head t).name.item))))

    calls-same : same_key x y ≡ true → (same_name x y && same_arguments x y) ≡ nat_eq v.call w.call
    unfolding same_name same_arguments
    calls-same k = sym (numbered.calls a.like b.like v w a.like_there b.like_there (one-key k)
        ∙ (λ t. bytes_eq (a.head t).name.item (b.head t).name.item && same_members (written_meaning (written (a.head t).arguments))
        (written_meaning (written (b.head t).arguments))))

    meets-same : may_meet s x y ≡ can_meet v w
    unfolding may_meet can_meet
    meets-same = sym (λ t. bytes_eq (a.parent t) (b.parent t) || (not (a.on_object t) || not (b.on_object t)))

    keys-same : same_key x y ≡ same_key_at (slice_get vs i) (slice_get vs j)
    unfolding same_key_at
    keys-same = sym ((λ t. same_key_at (a.there t) (b.there t)) ∙ key-numbers)

  pairs-same : (n : ℕ) (m : Bool) (R : Field → Field → Bool) → ((x y : Field) → R x y ≡ R y x) →
      ((x y : Field) (i j : ℕ) → same_key x y ≡ true → Stands n x i → Stands n y j → R x y ≡ merge_at vs n m i j) →
      (xs : List Field) (is : List ℕ) → AreAlike (Stands n) xs is → each_pair R xs ≡ each_pair_at vs (merge_at vs n m) is
  unfolding each_pair each_pair_at
  pairs-same n m R turn same xs is alike =
      alike-two (Stands n) (λ x y. not (same_key x y) || R x y) (λ i j. not (same_key_at (slice_get vs i) (slice_get vs j)) || merge_at vs n m i j)
      (keyed-turn s R turn) (keyed-at-turn vs (merge_at vs n m) (merge-at-turn vs n m))
      (λ x y i j p q. let a = stands-at n x i p in let b = stands-at n y j q in
      when-keyed (same_key x y) (same_key_at (slice_get vs i) (slice_get vs j)) (R x y) (merge_at vs n m i j) (keys-same x y i j a.0 b.0 a.1 b.1)
      (λ k. same x y i j k p q))
      xs is alike

  pub shapes-tell : (n : ℕ) (x y : Field) (i j : ℕ) → same_key x y ≡ true → Stands n x i → Stands n y j → shapes_agree s n x y ≡ merge_at vs n false i j
  unfolding shapes_agree agree
  shapes-tell zero x y i j k a b =
      types-same x y i j a.0 b.0 a.1 b.1 k ∙ (sym (and-true (nat_eq a.0.shape b.0.shape)) ∙ sym (found-alone vs false i j a.0 b.0 a.1.there b.1.there))
  shapes-tell (suc n) x y i j k a b =
      let below = pairs-same n false (shapes_agree s n) (shapes-turn s n) (shapes-tell n) (fields_at s x ++ fields_at s y) (a.0.below ++ b.0.below)
      (alike-both (Stands n) (fields_at s x) (fields_at s y) a.0.below b.0.below a.2 b.2) in
      (λ t. types-same x y i j a.0 b.0 a.1 b.1 k t && below t)
      ∙ (ap (λ c. c && each_pair_at vs (merge_at vs n false) (a.0.below ++ b.0.below)) (sym (and-true (nat_eq a.0.shape b.0.shape)))
      ∙ sym (found-pair vs n false i j a.0 b.0 a.1.there b.1.there))

  pub merge-tells : (n : ℕ) (x y : Field) (i j : ℕ) → same_key x y ≡ true → Stands n x i → Stands n y j → merge s n x y ≡ merge_at vs n true i j
  unfolding merge shapes_agree agree
  merge-tells zero x y i j k a b =
      (λ t. types-same x y i j a.0 b.0 a.1 b.1 k t && (not (meets-same x y i j a.0 b.0 a.1 b.1 t) || calls-same x y i j a.0 b.0 a.1 b.1 k t))
      ∙ sym (found-alone vs true i j a.0 b.0 a.1.there b.1.there)
  merge-tells (suc n) x y i j k a b =
      let alike = alike-both (Stands n) (fields_at s x) (fields_at s y) a.0.below b.0.below a.2 b.2 in
      let shapes = pairs-same n false (shapes_agree s n) (shapes-turn s n) (shapes-tell n) (fields_at s x ++ fields_at s y) (a.0.below ++ b.0.below) alike in
      let merges = pairs-same n true (merge s n) (merge-turn s n) (merge-tells n) (fields_at s x ++ fields_at s y) (a.0.below ++ b.0.below) alike in
      let F = fields_at s x ++ fields_at s y in
      let K = nat_eq a.0.shape b.0.shape in
      let C = nat_eq a.0.call b.0.call in
      (λ t. (types-same x y i j a.0 b.0 a.1 b.1 k t && each_pair (shapes_agree s n) F)
      && (not (meets-same x y i j a.0 b.0 a.1 b.1 t) || (calls-same x y i j a.0 b.0 a.1 b.1 k t && each_pair (merge s n) F)))
      ∙ (choose (can_meet a.0 b.0) K C (each_pair (shapes_agree s n) F) (each_pair (merge s n) F)
      (λ m. each_pair_at vs (merge_at vs n m) (a.0.below ++ b.0.below)) (pairs-shapes s n F) shapes merges
      ∙ sym (found-pair vs n true i j a.0 b.0 a.1.there b.1.there))
    where
      choose : (m k c p q : Bool) (f : Bool → Bool) → (q ≡ true → p ≡ true) → p ≡ f false → q ≡ f true →
          ((k && p) && (not m || (c && q))) ≡ ((k && (not (true && m) || c)) && f (true && m))
      choose true k c p q f g e h = and-left k p c q g ∙ ap (λ b. (k && c) && b) h
      choose false k c p q f g e h = and-right k p ∙ ap (λ b. (k && true) && b) e

pub tells : NumbersTell
unfolding set_merges_at
tells s vs heads numbered n xs is alike = pairs-same s vs heads numbered n true (merge s n) (merge-turn s n) (merge-tells s vs heads numbered n) xs is alike
