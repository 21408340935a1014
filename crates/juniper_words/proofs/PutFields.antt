-- What loops put behind a list: what is put in, and what is still to come.
use Rattle.std.proofs.Common.{◌≡◌, ℕ, ◌+◌, ◌<◌, ◌≤◌, List, [], ◌∷◌, ◌++◌, map, length, get_or, drop, take, refl, sym, ap, ap₂, ◌∙◌}
use Rattle.std.proofs.lemmas.List.{append_assoc, drop_all, drop_more, map-append, take_all, take_more}
use Rattle.juniper_syntax.proofs.Lists.{seen-push}
use Rattle.juniper_words.specs.declared.data.DeclaredType.{DeclaredType}
use Rattle.graphql_spec.specs.Shown.{Name}
use Rattle.juniper_words.specs.Forgotten.{fields_in, object_fields}

append_nil : {X : Type 0} (xs : List X) → xs ≡ xs ++ []
append_nil [] = refl
append_nil (x ∷ xs) = ap (λ r. x ∷ r) (append_nil xs)

module _ {X Y Z : Type 0} (view : X → Z) (made_of : Y → Z) where
  pub put_next : (fs made : List X) (x : X) (ys : List Y) (i : ℕ) (d : Y) (whole : List Z) → i < length ys → made ≡ fs ++ x ∷ [] →
      view x ≡ made_of (get_or ys i d) → map view fs ++ map made_of (drop i ys) ≡ whole → map view made ++ map made_of (drop (i + 1) ys) ≡ whole
  put_next fs made x ys i d whole below is alike so_far =
      ap (λ l. l ++ map made_of (drop (i + 1) ys)) (seen-push view fs made x is)
      ∙ (append_assoc (map view fs) (view x ∷ []) (map made_of (drop (i + 1) ys))
      ∙ (ap (λ z. map view fs ++ z ∷ map made_of (drop (i + 1) ys)) alike
      ∙ (sym (ap (λ l. map view fs ++ map made_of l) (drop_more ys i d below)) ∙ so_far)))

  pub put_all : (fs : List X) (ys : List Y) (i : ℕ) (whole : List Z) → length ys ≤ i → map view fs ++ map made_of (drop i ys) ≡ whole → map view fs ≡ whole
  put_all fs ys i whole past so_far = append_nil (map view fs) ∙ (sym (ap (λ l. map view fs ++ map made_of l) (drop_all i ys past)) ∙ so_far)

-- the fields of a type are put in, and are no longer to come
pub type_put : (ds : List DeclaredType) (i : ℕ) (d : DeclaredType) (made new whole : List (Name × Name)) → i < length ds →
    new ≡ made ++ fields_in (get_or ds i d) → made ++ object_fields (drop i ds) ≡ whole → new ++ object_fields (drop (i + 1) ds) ≡ whole
type_put ds i d made new whole below is so_far =
    ap (λ l. l ++ object_fields (drop (i + 1) ds)) is
    ∙ (append_assoc made (fields_in (get_or ds i d)) (object_fields (drop (i + 1) ds))
    ∙ (sym (ap (λ l. made ++ object_fields l) (drop_more ds i d below)) ∙ so_far))

pub types_put : (ds : List DeclaredType) (i : ℕ) (made whole : List (Name × Name)) → length ds ≤ i → made ++ object_fields (drop i ds) ≡ whole → made ≡ whole
types_put ds i made whole past so_far = append_nil made ∙ (sym (ap (λ l. made ++ object_fields l) (drop_all i ds past)) ∙ so_far)

-- the nodes of the places so far, and one more
pub node_put : {N : Type 0} (at : ℕ → N) (places : List ℕ) (i : ℕ) (d : ℕ) (nodes new : List N) (n : N) → i < length places → new ≡ nodes ++ n ∷ [] →
    n ≡ at (get_or places i d) → nodes ≡ map at (take i places) → new ≡ map at (take (i + 1) places)
node_put at places i d nodes new n below is makes so_far =
    is ∙ (ap₂ (λ ns m. ns ++ m ∷ []) so_far makes
    ∙ (sym (map-append at (take i places) (get_or places i d ∷ [])) ∙ sym (ap (map at) (take_more places i d below))))

pub nodes_put : {N : Type 0} (at : ℕ → N) (places : List ℕ) (i : ℕ) (nodes : List N) → length places ≤ i → nodes ≡ map at (take i places) →
    nodes ≡ map at places
nodes_put at places i nodes past so_far = so_far ∙ ap (map at) (take_all i places past)
