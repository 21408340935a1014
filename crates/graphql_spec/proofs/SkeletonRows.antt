-- Skeletons and what fills them, at values worked out by hand.
use Rattle.std.proofs.Common.{◌≡◌, Bool, true, false, [], ◌∷◌, codes, None, refl}
use Rattle.std.specs.Str.{bytes_eq}
use Rattle.graphql_spec.specs.Shown.{Name, Shown, text}
use Rattle.graphql_spec.specs.Values.{Value, null, scalar, list, no_items, item, any_null, is_null}
use Rattle.graphql_spec.specs.Constants.{no_members}
use Rattle.graphql_spec.specs.Types.{TypeRef, named, list_of, required}
use Rattle.graphql_spec.specs.Errors.{Place, key, index, null_at_non_null, wrong_shape}
use Rattle.graphql_spec.specs.Resolvers.{World, Tree, nothing, items, node, no_trees, tree, answered}
use Rattle.graphql_spec.specs.Execution.{whole_list}
use Rattle.graphql_spec.specs.Failures.{landing, faults, reply_faults}
use Rattle.graphql_spec.specs.Skeletons.{absent, filled, several, hole, no_skeletons, skeleton, skeleton_of, stops, node_spots, error_spots, listed_apart}
use Rattle.graphql_spec.specs.Skeletons.{first_of, fill}

-- nodes are named by what they stand for: `Hero` is possible at itself alone, and `Int` takes 7 alone
world : World Name
world = record {
  field_type = λ T f. named false (codes "Hero");
  possible = λ T n. bytes_eq T n;
  accepts = λ n x. is_seven x;
  arguments = λ T h. no_members;
  concrete = λ m. m;
  answer = λ m f args. answered nothing;
}
  where
    is_seven : Shown → Bool
    is_seven (text s) = bytes_eq s (codes "7")
    is_seven x = false

heroes : TypeRef
heroes = list_of false None (named true (codes "Hero"))

-- a hero, null, and what is no hero
three : Tree Name
three = items (tree (node (codes "Hero")) (tree nothing (tree (node (codes "Droid")) no_trees)))

here : Place
here = key (codes "heroes") ∷ []

-- the hero alone leaves a hole; the items are non-null, so its null lands at the list
split : (skeleton_of world heroes three ≡ several true (skeleton hole (skeleton absent (skeleton absent no_skeletons))))
    × (node_spots world here heroes three ≡ record { place = key (codes "heroes") ∷ index 0 ∷ []; what = codes "Hero" } ∷ [])
    × (stops world here [] heroes three ≡ record { place = key (codes "heroes") ∷ index 0 ∷ []; lands = here; node = codes "Hero" } ∷ [])
unfolding world heroes three here skeleton_of node_spots stops landing required
split = (refl, refl, refl)

-- the two others fail, each at its position
failing : error_spots world here heroes three
    ≡ record { place = key (codes "heroes") ∷ index 1 ∷ []; what = null_at_non_null }
    ∷ record { place = key (codes "heroes") ∷ index 2 ∷ []; what = wrong_shape } ∷ []
unfolding world heroes three here error_spots
failing = refl

-- and are listed as the place is told
listed : (tell : Place → Place) (start : _) → listed_apart world tell here start heroes (answered three)
    ≡ record { path = tell (key (codes "heroes") ∷ index 1 ∷ []); start = start; error = null_at_non_null }
    ∷ record { path = tell (key (codes "heroes") ∷ index 2 ∷ []); start = start; error = wrong_shape } ∷ []
unfolding world heroes three here listed_apart faults reply_faults landing required
listed tell start = refl

-- values fill the holes in order, and the last is left
fills : (u v w : Value) → fill (several false (skeleton hole (skeleton absent (skeleton (filled (text (codes "1"))) (skeleton hole no_skeletons)))))
    (u ∷ v ∷ w ∷ [])
    ≡ record { value = list (item u (item null (item (scalar (text (codes "1"))) (item v no_items)))); left = w ∷ [] }
unfolding fill first_of whole_list
fills u v w = refl

-- a list of non-null items is null where one of them is
falls : fill (several true (skeleton (filled (text (codes "1"))) (skeleton hole no_skeletons))) (null ∷ []) ≡ record { value = null; left = [] }
unfolding fill first_of whole_list any_null is_null
falls = refl
