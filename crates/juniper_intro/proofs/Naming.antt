-- Names and their numbers.
use Rattle.std.proofs.Common.{◌≡◌, ◌++◌, ◌||◌, ℕ, ◌+◌, ◌<◌, Bool, true, false, cond, codes, map, List, [], ◌∷◌, length, take, Option, Some, None, get_or}
use Rattle.std.proofs.Common.{unwrap_or, String, Global, refl, sym, ap, ◌∙◌, inl, inr, subst, ◌⊎◌}
use Rattle.std.proofs.lemmas.Bool.{cases_Bool}
use Rattle.std.proofs.lemmas.List.{map-append, take_more}
use Rattle.std.proofs.lemmas.List.Folds.{list_any-append}
use Rattle.std.specs.HashMap.{HashMap, get_by_text}
use Rattle.std.specs.List.{filter, list_any}
use Rattle.std.specs.Option.{is_some}
use Rattle.std.specs.Str.{bytes_eq}
use Rattle.graphql_spec.proofs.Lists.{same_true, same_sym}
use Rattle.graphql_spec.specs.BuiltIns.{introspection_types}
use Rattle.graphql_spec.specs.Fields.{entry_in, or_else}
use Rattle.graphql_spec.specs.Introspected.{declaration_of}
use Rattle.graphql_spec.specs.Schema.{Entry, Schema}
use Rattle.graphql_spec.specs.Shown.{Name}
use Rattle.graphql_spec.specs.TypeList.{comes_before, has_listed_name, in_order, is_listed, put_in_order, type_list}
use Rattle.juniper_intro.specs.Handles.{AllAreNamed}
use Rattle.juniper_intro.specs.Numbers.{StandAt, all_names, number_in}

-- ## Each known name is listed

-- whether a name is the key of one of these
abbrev keyed : Name → List Entry → Bool
keyed n es = list_any (bytes_eq n) (map (λ e. e.key) es)

or-true : (a b : Bool) → b ≡ true → (a || b) ≡ true
or-true true b e = refl
or-true false b e = e

keyed-put : (n : Name) (x : Entry) (es : List Entry) → keyed n (put_in_order comes_before x es) ≡ (bytes_eq n x.key || keyed n es)
unfolding put_in_order
keyed-put n x [] = refl
keyed-put n x (y ∷ ys) = elim (cases_Bool (comes_before y x)) [
  | inl q ↦ rw q (ap (λ b. bytes_eq n y.key || b) (keyed-put n x ys) ∙ or-turn (bytes_eq n y.key) (bytes_eq n x.key) (keyed n ys))
  | inr q ↦ rw q refl
]
  where
    or-turn : (a b d : Bool) → (a || (b || d)) ≡ (b || (a || d))
    or-turn true true d = refl
    or-turn true false d = refl
    or-turn false b d = refl

keyed-order : (n : Name) (es : List Entry) → keyed n (in_order comes_before es) ≡ keyed n es
unfolding in_order
keyed-order n [] = refl
keyed-order n (x ∷ xs) = keyed-put n x (in_order comes_before xs) ∙ ap (λ b. bytes_eq n x.key || b) (keyed-order n xs)

-- a listed name is the key of one that is listed
keyed-listed : (n : Name) (es : List Entry) → is_listed n ≡ true → keyed n es ≡ true → keyed n (filter has_listed_name es) ≡ true
keyed-listed n [] l e = e
keyed-listed n (x ∷ xs) l e = elim (cases_Bool (bytes_eq n x.key)) [
  | inl q ↦ let k : is_listed x.key ≡ true = subst (λ z. is_listed z ≡ true) (same_true n x.key q) l in rw (k, q) refl
  | inr q ↦ let m : keyed n xs ≡ true = rw q at e in elim (cases_Bool (is_listed x.key))
      [ inl k ↦ rw (k, q) (keyed-listed n xs l m) | inr k ↦ rw k (keyed-listed n xs l m) ]
]

-- what is found at a name has its key
keyed-found : (n : Name) (es : List Entry) → is_some (entry_in es n) ≡ true → keyed n es ≡ true
unfolding entry_in
keyed-found n [] e = e
keyed-found n (x ∷ xs) e = elim (cases_Bool (bytes_eq n x.key)) [ inl q ↦ rw q refl | inr q ↦ rw q (keyed-found n xs (rw q at e)) ]

some-of : (a b : Option Entry) → is_some (or_else a b) ≡ true → (is_some a ≡ true) ⊎ (is_some b ≡ true)
unfolding or_else
some-of None b e = inr e
some-of (Some x) b e = inl e

-- a name that is declared is the key of an entry, or of a type of introspection
keyed-declared : (s : Schema) (n : Name) → is_some (declaration_of s n) ≡ true → keyed n (s.entries ++ introspection_types) ≡ true
unfolding declaration_of
keyed-declared s n e =
    let both : keyed n (s.entries ++ introspection_types) ≡ (keyed n s.entries || keyed n introspection_types) =
    ap (list_any (bytes_eq n)) (map-append (λ (x : Entry). x.key) s.entries introspection_types)
    ∙ list_any-append (bytes_eq n) (map (λ (x : Entry). x.key) s.entries) (map (λ (x : Entry). x.key) introspection_types) in
    elim (some-of (entry_in s.entries n) (entry_in introspection_types n) e) [
      | inl q ↦ both ∙ rw (keyed-found n s.entries q) refl
      | inr q ↦ both ∙ or-true (keyed n s.entries) (keyed n introspection_types) (keyed-found n introspection_types q)
    ]

-- one that is not listed is one of the two
hidden-name : (n : Name) → is_listed n ≡ false → list_any (bytes_eq n) (codes "_EmptyMutation" ∷ codes "_EmptySubscription" ∷ []) ≡ true
hidden-name n e = elim (cases_Bool (bytes_eq n (codes "_EmptyMutation"))) [
  | inl q ↦ rw q refl
  | inr q ↦ elim (cases_Bool (bytes_eq n (codes "_EmptySubscription")))
      [ inl r ↦ rw (q, r) refl | inr r ↦ let z : true ≡ false = rw (q, r) at e in absurd (cc) ]
]

known-named : (s : Schema) (n : Name) → is_some (declaration_of s n) ≡ true → list_any (bytes_eq n) (all_names s) ≡ true
unfolding all_names type_list
known-named s n e =
    let hidden : List Name = codes "_EmptyMutation" ∷ codes "_EmptySubscription" ∷ [] in
    let listed : List Entry = filter has_listed_name (s.entries ++ introspection_types) in
    let parts = list_any-append (bytes_eq n) (map (λ (x : Entry). x.key) (in_order comes_before listed)) hidden in
    elim (cases_Bool (is_listed n)) [
      | inl q ↦ parts ∙ rw (keyed-order n listed ∙ keyed-listed n (s.entries ++ introspection_types) q (keyed-declared s n e)) refl
      | inr q ↦ parts ∙ or-true (keyed n (in_order comes_before listed)) (list_any (bytes_eq n) hidden) (hidden-name n q)
    ]

-- where the names are all of a schema's, each known name stands at its number
pub all-named : {H : Type 0} (s : Schema) (names : List Name) (numbers : HashMap (String Global) ℕ H) → names ≡ all_names s → StandAt names names numbers →
    AllAreNamed s names (number_in numbers)
all-named s names numbers e stand n k = stand n (subst (λ z. list_any (bytes_eq n) z ≡ true) (sym e) (known-named s n k))

-- ## Numbers are put in

module _ {H : Type 0} (names : List Name) where
  -- one more name stands at its number
  pub stand-more : (old new : HashMap (String Global) ℕ H) (k : ℕ) (name : Name) → k < length names → name ≡ get_or names k [] →
      ((n : Name) → get_by_text new n ≡ cond (bytes_eq name n) (Some k) (get_by_text old n)) → StandAt (take k names) names old →
      StandAt (take (k + 1) names) names new
  stand-more old new k name low is put stand n e =
      elim (cases_Bool (bytes_eq name n)) [
        | inl q ↦ let p : get_by_text new n ≡ Some k = rw q at (put n) in ap (λ o. get_or names (unwrap_or o 0) []) p ∙ (sym is ∙ same_true name n q)
        | inr q ↦ let p : get_by_text new n ≡ get_by_text old n = rw q at (put n) in ap (λ o. get_or names (unwrap_or o 0) []) p ∙ stand n (before q)
      ]
    where
      before : bytes_eq name n ≡ false → list_any (bytes_eq n) (take k names) ≡ true
      before q =
          let last : (take k names ++ name ∷ []) ≡ take (k + 1) names = ap (λ (x : Name). take k names ++ x ∷ []) is ∙ sym (take_more names k [] low) in
          let parts : (list_any (bytes_eq n) (take k names) || (bytes_eq n name || false)) ≡ true =
          sym (list_any-append (bytes_eq n) (take k names) (name ∷ [])) ∙ (ap (λ (l : List Name). list_any (bytes_eq n) l) last ∙ e) in
          let turned : bytes_eq n name ≡ false = same_sym n name ∙ q in
          elim (cases_Bool (list_any (bytes_eq n) (take k names))) [ inl r ↦ r | inr r ↦ let z : false ≡ true = rw (r, turned) at parts in absurd (cc) ]
