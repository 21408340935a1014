-- Putting declarations into a map, and the built-in scalars that are put.
use Rattle.std.proofs.Common.{◌≡◌, Bool, true, false, ◌&&◌, cond, codes, List, [], ◌∷◌, map, Option, Some, option_map, bytes_eq, refl, sym, ap, subst, ◌∙◌, inl}
use Rattle.std.proofs.Common.{inr}
use Rattle.std.specs.List.{list_any, IsDistinct, AllByRecursion}
use Rattle.std.specs.Map.{lookup, update}
use Rattle.std.proofs.lemmas.Bool.{cases_Bool}
use Rattle.graphql_spec.specs.Shown.{Name}
use Rattle.graphql_spec.specs.Schema.{Entry}
use Rattle.graphql_spec.specs.Fields.{entry_in}
use Rattle.graphql_spec.specs.Executable.{names_differ}
use Rattle.graphql_spec.proofs.Lists.{same_true, same_sym}
use Rattle.juniper_meta.specs.MetaView.{Meta, entry_at}
use Rattle.juniper_schema.specs.SchemaView.{awaits, built_in, lacks, with_built_ins}

-- ## A map's entries

cond_map : {X Y : Type 0} (f : X → Y) (b : Bool) (x : X) (o : Option X) → option_map f (cond b (Some x) o) ≡ cond b (Some (f x)) (option_map f o)
cond_map f true x o = refl
cond_map f false x o = refl

module _ {K X : Type 0} (text : K → Name) (view : X → Meta) where
  entries : List (K × X) → List Entry
  entries es = map (λ e. entry_at (text e.0) (view e.1)) es

  at : Name → List (K × X) → Option X
  at n es = lookup (λ k. bytes_eq n (text k)) es

  step : (n : Name) (k : K) (x : X) (o : Option Entry) (p : Option Entry) → o ≡ p →
      cond (bytes_eq n (text k)) (Some (entry_at (text k) (view x))) o ≡ cond (bytes_eq n (text k)) (Some (entry_at n (view x))) p
  step n k x o p e = elim (cases_Bool (bytes_eq n (text k))) [
    | inl y ↦ rw y (ap (λ z. Some (entry_at z (view x))) (sym (same_true n (text k) y)))
    | inr f ↦ rw f e
  ]

  -- the entry of a name is what is found there, at that name
  entry_at_name : (es : List (K × X)) (n : Name) → entry_in (entries es) n ≡ option_map (λ x. entry_at n (view x)) (at n es)
  unfolding entry_in entries at
  entry_at_name [] n = refl
  entry_at_name (e ∷ es) n = step n e.0 e.1 (entry_in (entries es) n) (option_map (λ x. entry_at n (view x)) (at n es)) (entry_at_name es n)
      ∙ sym (cond_map (λ x. entry_at n (view x)) (bytes_eq n (text e.0)) e.1 (at n es))

  put_at : (old new : List (K × X)) (bs n : Name) (v : X) → at n new ≡ cond (bytes_eq bs n) (Some v) (at n old) →
      entry_in (entries new) n ≡ cond (bytes_eq n bs) (Some (entry_at n (view v))) (entry_in (entries old) n)
  put_at old new bs n v e =
      entry_at_name new n ∙ (ap (option_map (λ x. entry_at n (view x))) e ∙ (cond_map (λ x. entry_at n (view x)) (bytes_eq bs n) v (at n old)
      ∙ (ap (λ b. cond b (Some (entry_at n (view v))) (option_map (λ x. entry_at n (view x)) (at n old))) (same_sym bs n)
      ∙ ap (cond (bytes_eq n bs) (Some (entry_at n (view v)))) (sym (entry_at_name old n)))))

  -- a declaration that is put at a name stands there, and what stood at others stays
  pub put_entry : (old new : List (K × X)) (bs : Name) (v : X) → ((n : Name) →
      lookup (λ k. bytes_eq n (text k)) new ≡ update bytes_eq (λ m. lookup (λ k. bytes_eq m (text k)) old) bs (Some v) n) → (n : Name) →
      entry_in (map (λ e. entry_at (text e.0) (view e.1)) new) n ≡ cond (bytes_eq n bs) (Some (entry_at bs (view v)))
      (entry_in (map (λ e. entry_at (text e.0) (view e.1)) old) n)
  unfolding entries at
  put_entry old new bs v h n = put_at old new bs n v (h n) ∙ elim (cases_Bool (bytes_eq n bs)) [
    | inl y ↦ rw y (ap (λ z. Some (entry_at z (view v))) (same_true n bs y))
    | inr f ↦ rw f refl
  ]

  apart : (k : Name) (es : List (K × X)) → AllByRecursion (λ y. bytes_eq k (text y) ≡ false) (map (λ e. e.0) es) →
      list_any (bytes_eq k) (map (λ e. e.key) (map (λ e. entry_at (text e.0) (view e.1)) es)) ≡ false
  apart k [] a = refl
  apart k (e ∷ es) a = rw (a.0) (apart k es a.1)

  -- keys that differ are names that differ
  pub keys_differ : (es : List (K × X)) → IsDistinct (λ x y. bytes_eq (text x) (text y)) (map (λ e. e.0) es) →
      names_differ (map (λ e. e.key) (map (λ e. entry_at (text e.0) (view e.1)) es)) ≡ true
  unfolding IsDistinct names_differ
  keys_differ [] d = refl
  keys_differ (e ∷ es) d = rw (apart (text e.0) es d.0, keys_differ es d.1) refl

-- ## The four scalars

abbrev pub String' : Entry
String' = built_in (codes "String") false true false

abbrev pub Boolean' : Entry
Boolean' = built_in (codes "Boolean") false false true

abbrev pub Int' : Entry
Int' = built_in (codes "Int") true false false

abbrev pub ID' : Entry
ID' = built_in (codes "ID") true true false

-- a map of entries with one more, where it is wanted
abbrev pub Puts : (Name → Option Entry) → (Name → Option Entry) → Name → Bool → Entry → Type 0
Puts old new k wanted e = (n : Name) → new n ≡ cond (bytes_eq n k && wanted) (Some e) (old n)

pub all_put : (a b c d z : Name → Option Entry) → Puts a b (codes "String") (lacks (a (codes "String"))) String' →
    Puts b c (codes "Boolean") (lacks (b (codes "Boolean"))) Boolean' →
    Puts c d (codes "Int") (awaits (c (codes "Int"))) Int' → Puts d z (codes "ID") (awaits (d (codes "ID"))) ID' → (n : Name) → z n ≡ with_built_ins n (a n)
all_put a b c d z p q r s n =
    elim (cases_Bool (bytes_eq n (codes "String"))) [
      | inl e ↦ subst (λ m. z m ≡ with_built_ins m (a m)) (sym (same_true n (codes "String") e))
          (s (codes "String") ∙ (r (codes "String") ∙ (q (codes "String") ∙ p (codes "String"))))
      | inr e ↦ elim (cases_Bool (bytes_eq n (codes "Boolean"))) [
        | inl f ↦ subst (λ m. z m ≡ with_built_ins m (a m)) (sym (same_true n (codes "Boolean") f))
            (s (codes "Boolean") ∙ (r (codes "Boolean") ∙ (q (codes "Boolean")
            ∙ ap (λ o. cond (lacks o) (Some Boolean') o) (p (codes "Boolean")))))
        | inr f ↦ elim (cases_Bool (bytes_eq n (codes "Int"))) [
          | inl g ↦ subst (λ m. z m ≡ with_built_ins m (a m)) (sym (same_true n (codes "Int") g)) (s (codes "Int") ∙ (r (codes "Int")
              ∙ ap (λ o. cond (awaits o) (Some Int') o) (q (codes "Int") ∙ p (codes "Int"))))
          | inr g ↦ elim (cases_Bool (bytes_eq n (codes "ID"))) [
            | inl h ↦ subst (λ m. z m ≡ with_built_ins m (a m)) (sym (same_true n (codes "ID") h))
                (s (codes "ID") ∙ ap (λ o. cond (awaits o) (Some ID') o) (r (codes "ID") ∙ (q (codes "ID") ∙ p (codes "ID"))))
            | inr h ↦ rw (s n, h, r n, g, q n, f, p n, e) refl
          ]
        ]
      ]
    ]

-- what was put, by the word that it was wanted by and what it is
pub put_as : (old new : Name → Option Entry) (k : Name) (wanted test : Bool) (e is : Entry) → wanted ≡ test → e ≡ is →
    ((n : Name) → new n ≡ cond (bytes_eq n k && wanted) (Some e) (old n)) → Puts old new k test is
put_as old new k wanted test e is w s h n =
    subst (λ b. new n ≡ cond (bytes_eq n k && b) (Some is) (old n)) w (subst (λ x. new n ≡ cond (bytes_eq n k && wanted) (Some x) (old n)) s (h n))
