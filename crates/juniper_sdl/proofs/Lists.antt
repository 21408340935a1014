-- Texts of lists, by what they are made of.
use Rattle.std.proofs.Common.{◌≡◌, ◌≤◌, ℕ, List, [], ◌∷◌, ◌++◌, length, map, take, refl, sym, ap, ◌∙◌}
use Rattle.std.proofs.lemmas.List.{take_all}
use Rattle.std.specs.List.{flat_map, join_by}
use Rattle.graphql_spec.specs.Schema.{Entry}
use Rattle.juniper_schema.specs.MadeTypes.{Made, concrete}
use Rattle.juniper_schema.specs.SchemaView.{meta_of}
use Rattle.juniper_sdl.specs.Definitions.{made_text, meta_text}

pub mapped : {A B : Type 0} (f : B → List ℕ) (g : A → B) (xs : List A) → flat_map f (map g xs) ≡ flat_map (λ x. f (g x)) xs
mapped f g [] = refl
mapped f g (x ∷ xs) = ap (λ t. f (g x) ++ t) (mapped f g xs)

-- what is joined is joined of its texts
pub as_texts : {A : Type 0} (f : A → List ℕ) (between : List ℕ) (xs : List A) → join_by f between xs ≡ join_by (λ t. t) between (map f xs)
as_texts f between [] = refl
as_texts f between (x ∷ xs) = ap (λ t. f x ++ t) (sym (mapped (λ t. between ++ t) f xs))

map-twice : {A B : Type 0} (g : B → List ℕ) (view : A → B) (xs : List A) → map g (map view xs) ≡ map (λ x. g (view x)) xs
map-twice g view [] = refl
map-twice g view (x ∷ xs) = ap (λ ts. g (view x) ∷ ts) (map-twice g view xs)

-- and of what it is seen as
pub joined : {A B C : Type 0} (f : A → List ℕ) (g : C → List ℕ) (view : B → C) (between : List ℕ) (xs : List A) (ys : List B) →
    map f xs ≡ map (λ y. g (view y)) ys → join_by f between xs ≡ join_by g between (map view ys)
joined f g view between xs ys e = as_texts f between xs
    ∙ (ap (join_by (λ t. t) between) (e ∙ sym (map-twice g view ys)) ∙ sym (as_texts g between (map view ys)))

-- the texts of types are those of the entries that they were listed of
pub all_texts : {A : Type 0} (view : A → Made) (ts : List A) (es : List Entry) → map view ts ≡ map (λ e. concrete (meta_of e)) es →
    flat_map (λ t. made_text (view t)) ts ≡ flat_map (λ e. meta_text (meta_of e)) es
all_texts view ts es e = sym (mapped made_text view ts) ∙ (ap (flat_map made_text) e ∙ mapped made_text (λ x. concrete (meta_of x)) es)

-- what a loop said of all that it went over
pub all_said : {A B : Type 0} (f : B → List ℕ) (view : A → B) (xs : List A) (i : ℕ) (text : List ℕ) → length xs ≤ i →
    text ≡ flat_map (λ x. f (view x)) (take i xs) → text ≡ flat_map f (map view xs)
all_said f view xs i text past before = before ∙ (ap (flat_map (λ x. f (view x))) (take_all i xs past) ∙ sym (mapped f view xs))
