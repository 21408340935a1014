-- A schema of a registry's types and of the built-in ones.
use Rattle.std.proofs.Common.{◌≡◌, Bool, true, false, ◌||◌, not, cond, codes, List, [], ◌∷◌, map, Some, bytes_eq, refl, sym, ap, ◌∙◌, inl, inr}
use Rattle.std.specs.List.{list_any}
use Rattle.std.proofs.lemmas.Bool.{cases_Bool, and_parts}
use Rattle.graphql_spec.specs.Shown.{Name}
use Rattle.graphql_spec.specs.Schema.{Entry, Schema}
use Rattle.graphql_spec.specs.Fields.{entry_in}
use Rattle.graphql_spec.specs.Executable.{names_differ}
use Rattle.graphql_spec.proofs.Lists.{same_or}
use Rattle.juniper_schema.specs.SchemaView.{AreCompleted, awaits, lacks, with_built_ins}
use Rattle.juniper_schema.proofs.BuiltIns.{Puts, all_put, String', Boolean', Int', ID'}
use Rattle.juniper_intro.specs.Roots.{IsSchemaOf, mutation_type}

-- ## Entries of which no two have one key

-- the keys, in order
abbrev keys : List Entry → List Name
keys es = map (λ e. e.key) es

-- the entries of other keys
unfoldable apart_from : Name → List Entry → List Entry
apart_from k [] = []
apart_from k (e ∷ es) = cond (bytes_eq k e.key) (apart_from k es) (e ∷ apart_from k es)

none_left : (k : Name) (es : List Entry) → list_any (bytes_eq k) (keys (apart_from k es)) ≡ false
unfolding apart_from
none_left k [] = refl
none_left k (e ∷ es) = elim (cases_Bool (bytes_eq k e.key)) [
  | inl y ↦ rw y (none_left k es)
  | inr f ↦ rw f (rw f (none_left k es))
]

others_stay : (k n : Name) (es : List Entry) → bytes_eq n k ≡ false → entry_in (apart_from k es) n ≡ entry_in es n
unfolding apart_from entry_in
others_stay k n [] other = refl
others_stay k n (e ∷ es) other = elim (same_or k e.key) [
  | inl y ↦ let f : bytes_eq n e.key ≡ false = ap (bytes_eq n) (sym y.1) ∙ other in rw (y.0, f) (others_stay k n es other)
  | inr f ↦ rw f (ap (cond (bytes_eq n e.key) (Some e)) (others_stay k n es other))
]

still_none : (k n : Name) (es : List Entry) → list_any (bytes_eq n) (keys es) ≡ false → list_any (bytes_eq n) (keys (apart_from k es)) ≡ false
unfolding apart_from
still_none k n [] gone = refl
still_none k n (e ∷ es) gone = elim (cases_Bool (bytes_eq n e.key)) [
  | inl y ↦ let t : true ≡ false = sym (ap (λ b. b || list_any (bytes_eq n) (keys es)) y) ∙ gone in absurd (cc)
  | inr f ↦
      let rest = still_none k n es (sym (ap (λ b. b || list_any (bytes_eq n) (keys es)) f) ∙ gone) in
      elim (cases_Bool (bytes_eq k e.key)) [ inl y ↦ rw y rest | inr g ↦ rw g (rw f rest) ]
]

still_differ : (k : Name) (es : List Entry) → names_differ (keys es) ≡ true → names_differ (keys (apart_from k es)) ≡ true
unfolding apart_from names_differ
still_differ k [] differ = refl
still_differ k (e ∷ es) differ =
    let p = and_parts (not (list_any (bytes_eq e.key) (keys es))) (names_differ (keys es)) differ in
    let rest = still_differ k es p.1 in
    elim (cases_Bool (bytes_eq k e.key)) [
      | inl y ↦ rw y rest
      | inr f ↦ rw f (rw (still_none k e.key es (not_true _ p.0)) rest)
    ]
  where
    not_true : (b : Bool) → not b ≡ true → b ≡ false
    not_true true e = cc
    not_true false e = refl

-- e first, and those of other keys behind it
abbrev placed : Entry → List Entry → List Entry
placed e es = e ∷ apart_from e.key es

placed_in : (e : Entry) (es : List Entry) (n : Name) → entry_in (placed e es) n ≡ cond (bytes_eq n e.key) (Some e) (entry_in es n)
unfolding entry_in
placed_in e es n = elim (cases_Bool (bytes_eq n e.key)) [
  | inl y ↦ rw y refl
  | inr f ↦ rw f (others_stay e.key n es f)
]

placed_differ : (e : Entry) (es : List Entry) → names_differ (keys es) ≡ true → names_differ (keys (placed e es)) ≡ true
unfolding names_differ
placed_differ e es differ = rw (none_left e.key es) (still_differ e.key es differ)

-- the first entry of each key
firsts : List Entry → List Entry
firsts [] = []
firsts (e ∷ es) = placed e (firsts es)

firsts_in : (es : List Entry) (n : Name) → entry_in (firsts es) n ≡ entry_in es n
unfolding firsts entry_in
firsts_in [] n = refl
firsts_in (e ∷ es) n = placed_in e (firsts es) n ∙ ap (cond (bytes_eq n e.key) (Some e)) (firsts_in es n)

firsts_differ : (es : List Entry) → names_differ (keys (firsts es)) ≡ true
unfolding firsts names_differ
firsts_differ [] = refl
firsts_differ (e ∷ es) = placed_differ e (firsts es) (firsts_differ es)

-- ## The built-in scalars

-- e in its place, where it is wanted
abbrev placed_if : Bool → Entry → List Entry → List Entry
placed_if wanted e es = cond wanted (placed e es) es

puts_if : (wanted : Bool) (e : Entry) (es : List Entry) → Puts (entry_in es) (entry_in (placed_if wanted e es)) e.key wanted e
puts_if true e es n = placed_in e es n ∙ elim (cases_Bool (bytes_eq n e.key)) [ inl y ↦ rw y refl | inr f ↦ rw f refl ]
puts_if false e es n = elim (cases_Bool (bytes_eq n e.key)) [ inl y ↦ rw y refl | inr f ↦ rw f refl ]

if_differ : (wanted : Bool) (e : Entry) (es : List Entry) → names_differ (keys es) ≡ true → names_differ (keys (placed_if wanted e es)) ≡ true
if_differ true e es differ = placed_differ e es differ
if_differ false e es differ = differ

-- for any entries there are such with the built-in scalars beside the first of each key
completed : (es : List Entry) → (ds : List Entry) × AreCompleted es ds
completed es =
    let a : List Entry = firsts es in
    let b : List Entry = placed_if (lacks (entry_in a (codes "String"))) String' a in
    let c : List Entry = placed_if (lacks (entry_in b (codes "Boolean"))) Boolean' b in
    let d : List Entry = placed_if (awaits (entry_in c (codes "Int"))) Int' c in
    let z : List Entry = placed_if (awaits (entry_in d (codes "ID"))) ID' d in (
      z,
      record {
        held = λ n. all_put (entry_in a) (entry_in b) (entry_in c) (entry_in d) (entry_in z) (puts_if _ String' a) (puts_if _ Boolean' b) (puts_if _ Int' c)
            (puts_if _ ID' d) n ∙ ap (with_built_ins n) (firsts_in es n);
        distinct = if_differ _ ID' d (if_differ _ Int' c (if_differ _ Boolean' b (if_differ _ String' a (firsts_differ es))));
      },
    )

-- some schema has the types and the names
pub allowed : (es : List Entry) (query mutation : Name) → (s : Schema) × IsSchemaOf (entry_in es) (Some query) (Some mutation) s
allowed es query mutation =
    let made = completed es in (
      record { entries = made.0; query = query; mutation = mutation_type mutation },
      record {
        held = made.1.held;
        distinct = made.1.distinct;
        query_is = refl;
        mutation_is = refl;
      },
    )
