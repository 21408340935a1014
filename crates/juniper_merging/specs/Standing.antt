-- When the vertices of a graph stand for the fields of selections, each for one field however often fragments are spread.
use Rattle.std.specs.Prelude.{ℕ, zero, suc, Bool, true, false, ◌&&◌, List, [], ◌∷◌, Some, nat_eq, ◌≡◌, ◌⊎◌}
use Rattle.std.specs.List.{slice_get}
use Rattle.std.specs.Str.{bytes_eq}
use Rattle.graphql_spec.specs.Shown.{Name}
use Rattle.graphql_spec.specs.Documents.{Fragment, Head, Selections, written, response_key}
use Rattle.graphql_spec.specs.Fragments.{expand}
use Rattle.graphql_spec.specs.Constants.{same_members}
use Rattle.graphql_spec.specs.Arguments.{written_meaning}
use Rattle.graphql_spec.specs.Schema.{Schema}
use Rattle.graphql_spec.specs.Fields.{type_named, is_object, field_of, declared_type}
use Rattle.graphql_spec.specs.Overlap.{Field, fields}
use Rattle.graphql_spec.specs.Merging.{fields_at, types_agree, each_pair, merge, set_merges}
use Rattle.graphql_spec.specs.Laws.{In}
use Rattle.juniper_merging.specs.MergingGraph.{FieldAt, set_merges_at}

-- x and y stand at two places of the list, in either order
abbrev pub Both : {A : Type 0} → A → A → List A → Type 0
Both x y [] = ⊥
Both x y (z ∷ zs) = ((x ≡ z) × In y zs) ⊎ (((y ≡ z) × In x zs) ⊎ Both x y zs)

-- what stands in the one list, or at two places of it, does so in the other
pub record AreAlike {A B : Type 0} (S : A → B → Type 0) (xs : List A) (is : List B) : Type 0 where
  pub one : (x : A) → In x xs → (i : B) × S x i × In i is
  pub one_back : (i : B) → In i is → (x : A) × S x i × In x xs
  pub two : (x y : A) → Both x y xs → (i : B) × (j : B) × S x i × S y j × Both i j is
  pub two_back : (i j : B) → Both i j is → (x : A) × (y : A) × S x i × S y j × Both x y xs

module _ (s : Schema) (vs : List FieldAt) (heads : ℕ → Head) where
  -- equal keys say that response keys are the same, and of such fields equal shapes that types agree, and equal calls that names and
  -- arguments are the same
  pub record AreNumbered : Type 0 where
    pub keys : (i j : ℕ) (v w : FieldAt) → slice_get vs i ≡ Some v → slice_get vs j ≡ Some w →
        nat_eq v.key w.key ≡ bytes_eq (response_key (heads i)) (response_key (heads j))
    pub shapes : (i j : ℕ) (v w : FieldAt) → slice_get vs i ≡ Some v → slice_get vs j ≡ Some w → nat_eq v.key w.key ≡ true →
        nat_eq v.shape w.shape ≡ types_agree s (declared_type (field_of s v.parent (heads i).name.item))
        (declared_type (field_of s w.parent (heads j).name.item))
    pub calls : (i j : ℕ) (v w : FieldAt) → slice_get vs i ≡ Some v → slice_get vs j ≡ Some w → nat_eq v.key w.key ≡ true →
        nat_eq v.call w.call ≡ (bytes_eq (heads i).name.item (heads j).name.item
        && same_members (written_meaning (written (heads i).arguments)) (written_meaning (written (heads j).arguments)))

  -- the vertex at i has the field's parent type, and is like one that has its words
  pub record IsAt (x : Field) (i : ℕ) (v : FieldAt) : Type 0 where
    pub there : slice_get vs i ≡ Some v
    pub like : ℕ
    pub like_there : slice_get vs like ≡ Some v
    pub head : heads like ≡ x.occurrence.head
    pub parent : v.parent ≡ x.parent
    pub on_object : v.on_object ≡ is_object (type_named s x.parent)

  -- to the depth n, so does what it selects
  abbrev pub StandsFor : ℕ → Field → ℕ → Type 0
  StandsFor zero x i = (v : FieldAt) × IsAt x i v
  StandsFor (suc n) x i = (v : FieldAt) × IsAt x i v × AreAlike (StandsFor n) (fields_at s x) v.below

  -- to each depth the numbers stand for the fields that the selections hold on the type p, fragments put in
  abbrev pub Covers : List Fragment → Name → Selections → List ℕ → Type 0
  Covers fs p set is = (n : ℕ) → AreAlike (StandsFor n) (fields p (expand (λ d. true) fs set)) is

-- the one graph has the vertices of the other, with the same words
pub record Grows (vs ws : List FieldAt) (heads more : ℕ → Head) : Type 0 where
  pub kept : (i : ℕ) (v : FieldAt) → slice_get vs i ≡ Some v → slice_get ws i ≡ Some v
  pub words : (i : ℕ) (v : FieldAt) → slice_get vs i ≡ Some v → heads i ≡ more i

-- numbers that stand for the fields of a set tell whether these can be merged, to each depth
abbrev pub NumbersTell : Type 0
NumbersTell = (s : Schema) (vs : List FieldAt) (heads : ℕ → Head) → AreNumbered s vs heads → (n : ℕ) (xs : List Field) (is : List ℕ) →
    AreAlike (StandsFor s vs heads n) xs is →
    each_pair (merge s n) xs ≡ set_merges_at vs n is

-- so an answer that holds for every depth, or fails for some, is whether a set merges, its fragments put in
abbrev pub SetsTell : Type 0
SetsTell = (s : Schema) (vs : List FieldAt) (heads : ℕ → Head) → AreNumbered s vs heads → (fs : List Fragment) (p : Name) (set : Selections) (is : List ℕ) →
    Covers s vs heads fs p set is → (b : Bool) → (b ≡ true → (n : ℕ) → set_merges_at vs n is ≡ true) → (b ≡ false → (n : ℕ) × (set_merges_at vs n is ≡ false)) →
    b ≡ set_merges s fs p set
