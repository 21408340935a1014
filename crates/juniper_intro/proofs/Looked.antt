-- What is looked up in a schema.
use Rattle.std.proofs.Common.{◌≡◌, ◌+◌, ◌-◌, ◌≤◌, ℕ, zero, suc, true, false, List, [], ◌∷◌, Option, Some, None, get_or, map, unwrap_or, option_map, refl, sym}
use Rattle.std.proofs.Common.{ap, ◌∙◌, arith, subst}
use Rattle.std.proofs.Math.ListN as lists
use Rattle.std.specs.Option.{is_some, option_and_then}
use Rattle.graphql_spec.specs.Executable.{input_fields_of, values_of}
use Rattle.graphql_spec.specs.Fields.{fields_of, shape_of}
use Rattle.graphql_spec.specs.Introspected.{declared_as, declared_kind, description_of, kind_of, listed_inputs, of_type, own_fields, own_name, own_values}
use Rattle.graphql_spec.specs.Introspection.{all_of, each}
use Rattle.graphql_spec.specs.Resolvers.{Tree, items, tree}
use Rattle.graphql_spec.specs.Schema.{Entry, Schema, Shape, scalar_type, enum_type, object_type, interface_type, union_type, input_object_type, list_type}
use Rattle.graphql_spec.specs.Schema.{nullable_type, placeholder}
use Rattle.graphql_spec.specs.Types.{TypeRef, named, list_of}
use Rattle.juniper_intro.specs.Handles.{taken_off}
use Rattle.juniper_intro.specs.Kinds.{kind_in}
use Rattle.juniper_intro.specs.References.{wrapper_kind}
use Rattle.juniper_meta.specs.MetaView.{Meta}
use Rattle.juniper_schema.specs.SchemaView.{meta_of}

-- the item of a number is seen as that of the list that is seen
pub looked : {X A : Type 0} (view : X → A) (xs : List X) (d r : X) (j : ℕ) (none : A) (ys : List A) → r ≡ get_or xs j d → map view xs ≡ ys → view d ≡ none →
    view r ≡ get_or ys j none
looked view xs d r j none ys e m n = ap view e ∙ (sym (lists.get_or-map view xs j d) ∙ (ap (λ l. get_or l j (view d)) m ∙ ap (λ z. get_or ys j z) n))

pub fields-own : (x : Shape) → fields_of (Some x) ≡ unwrap_or (own_fields (Some x)) []
unfolding fields_of own_fields
fields-own (scalar_type k u) = refl
fields-own (enum_type vs) = refl
fields-own (object_type fs is) = refl
fields-own (interface_type fs is) = refl
fields-own (union_type ms) = refl
fields-own (input_object_type ds) = refl
fields-own (list_type k t) = refl
fields-own (nullable_type t) = refl
fields-own placeholder = refl

pub values-own : (x : Shape) → values_of x ≡ unwrap_or (own_values (Some x)) []
unfolding values_of own_values
values-own (scalar_type k u) = refl
values-own (enum_type vs) = refl
values-own (object_type fs is) = refl
values-own (interface_type fs is) = refl
values-own (union_type ms) = refl
values-own (input_object_type ds) = refl
values-own (list_type k t) = refl
values-own (nullable_type t) = refl
values-own placeholder = refl

pub inputs-own : (x : Shape) → input_fields_of x ≡ unwrap_or (listed_inputs (Some x)) []
unfolding input_fields_of listed_inputs
inputs-own (scalar_type k u) = refl
inputs-own (enum_type vs) = refl
inputs-own (object_type fs is) = refl
inputs-own (interface_type fs is) = refl
inputs-own (union_type ms) = refl
inputs-own (input_object_type ds) = refl
inputs-own (list_type k t) = refl
inputs-own (nullable_type t) = refl
inputs-own placeholder = refl

-- what a declaration that is looked up is, and its description
module _ {M : Type 0} (view : M → Meta) where
  pub shape-looked : (o : Option M) (d : Option Entry) → option_map view o ≡ option_map meta_of d → option_map (λ m. (view m).shape) o ≡ shape_of d
  unfolding shape_of
  shape-looked o d e = ours o ∙ (ap (λ z. option_map (λ (m : Meta). m.shape) z) e ∙ theirs d)
    where
      ours : (o : Option M) → option_map (λ m. (view m).shape) o ≡ option_map (λ (m : Meta). m.shape) (option_map view o)
      ours None = refl
      ours (Some m) = refl

      theirs : (d : Option Entry) → option_map (λ (m : Meta). m.shape) (option_map meta_of d) ≡ shape_of d
      theirs None = refl
      theirs (Some x) = refl

  pub description-looked : (o : Option M) (d : Option Entry) → option_map view o ≡ option_map meta_of d →
      option_and_then (λ m. (view m).description) o ≡ description_of d
  unfolding description_of
  description-looked o d e = ours o ∙ (ap (λ z. option_and_then (λ (m : Meta). m.description) z) e ∙ theirs d)
    where
      ours : (o : Option M) → option_and_then (λ m. (view m).description) o ≡ option_and_then (λ (m : Meta). m.description) (option_map view o)
      ours None = refl
      ours (Some m) = refl

      theirs : (d : Option Entry) → option_and_then (λ (m : Meta). m.description) (option_map meta_of d) ≡ description_of d
      theirs None = refl
      theirs (Some x) = refl

-- ## Wrappers are taken off

pub off-next : (t v w : TypeRef) (k : ℕ) → Some w ≡ of_type v → v ≡ taken_off k t → w ≡ taken_off (k + 1) t
unfolding taken_off
off-next t v w k e i =
    let next : w ≡ taken_off (suc k) t = ap (λ o. unwrap_or o v) e ∙ ap (λ z. unwrap_or (of_type z) z) i in
    let s : suc k ≡ k + 1 = omega arith in
    subst (λ m. w ≡ taken_off m t) s next

off-stays : (t : TypeRef) (k m : ℕ) → None ≡ of_type (taken_off k t) → taken_off (k + m) t ≡ taken_off k t
unfolding taken_off
off-stays t k zero e = let z : k + 0 ≡ k = omega arith in ap (λ m. taken_off m t) z
off-stays t k (suc m) e =
    let i = off-stays t k m e in
    let s : k + suc m ≡ suc (k + m) = omega arith in
    ap (λ n. taken_off n t) s ∙ (ap (λ z. unwrap_or (of_type z) z) i ∙ ap (λ o. unwrap_or o (taken_off k t)) (sym e))

pub off-end : (t v : TypeRef) (k d : ℕ) → k ≤ d → None ≡ of_type v → v ≡ taken_off k t → v ≡ taken_off d t
off-end t v k d low e i =
    let n : None ≡ of_type (taken_off k t) = e ∙ ap of_type i in
    let s : k + (d - k) ≡ d = omega (arith, low) in
    i ∙ (sym (off-stays t k (d - k) n) ∙ ap (λ m. taken_off m t) s)

-- ## Kinds and numbers

pub kind-looked : (s : Schema) (t : TypeRef) (o : Option Shape) → o ≡ shape_of (declared_as s t) → kind_in t o ≡ kind_of s t
unfolding declared_as own_name wrapper_kind kind_of
kind-looked s (named true n) o e = refl
kind-looked s (named false n) o e = ap declared_kind e
kind-looked s (list_of true size t) o e = refl
kind-looked s (list_of false size t) o e = refl

pub known-looked : {M : Type 0} (view : M → Meta) (o : Option M) (d : Option Entry) → option_map view o ≡ option_map meta_of d → is_some o ≡ is_some d
known-looked view None None e = refl
known-looked view None (Some x) e = cc
known-looked view (Some m) None e = cc
known-looked view (Some m) (Some x) e = refl

module _ {N : Type 0} where
  each-keys : {A B : Type 0} (f : B → Tree N) (g : A → B) (xs : List A) → each f (map g xs) ≡ each (λ x. f (g x)) xs
  unfolding each
  each-keys f g [] = refl
  each-keys f g (x ∷ xs) = ap (tree (f (g x))) (each-keys f g xs)

  pub all-keys : {A B : Type 0} (f : B → Tree N) (g : A → B) (xs : List A) → all_of f (map g xs) ≡ all_of (λ x. f (g x)) xs
  unfolding all_of
  all-keys f g xs = ap items (each-keys f g xs)
