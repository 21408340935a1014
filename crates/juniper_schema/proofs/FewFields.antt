-- Fields with different names that are all declared are no more than those that are declared.
use Rattle.std.proofs.Common.{◌≡◌, ℕ, zero, suc, ◌<◌, ◌≤◌, arith, Bool, true, false, not, ◌&&◌, ◌||◌, cond, List, [], ◌∷◌, length, bytes_eq, Option, Some, None}
use Rattle.std.proofs.Common.{option_map, map, subst, inl, inr, refl, sym, ap, ◌∙◌}
use Rattle.std.proofs.lemmas.Bool.{and_parts, cases_Bool}
use Rattle.std.proofs.lemmas.List.{length-map}
use Rattle.graphql_spec.proofs.Lists.{same_refl, same_true}
use Rattle.graphql_spec.specs.Shown.{Name, Shown}
use Rattle.graphql_spec.specs.Fields.{declaration_in}
use Rattle.graphql_spec.specs.Fits.{all_written, fits, has_field}
use Rattle.graphql_spec.specs.Inputs.{InputFields, no_fields, input_field}
use Rattle.graphql_spec.specs.Schema.{InputDeclaration, Schema}
use Rattle.graphql_spec.specs.Types.{TypeRef}
use Rattle.juniper_syntax.proofs.InputLists.{Field}
use Rattle.juniper_syntax.specs.InputView.{view_fields}
use Rattle.juniper_schema.specs.Fitting.{each_fits, fits_some, keys_differ, object_by}

-- how many fields there are
unfoldable count_fields : InputFields → ℕ
count_fields no_fields = zero
count_fields (input_field k k_at v v_at rest) = suc (count_fields rest)

-- the declarations but for the first of a name
unfoldable without : Name → List InputDeclaration → List InputDeclaration
without n [] = []
without n (d ∷ ds) = cond (bytes_eq n d.name) ds (d ∷ without n ds)

shorter : (n : Name) (ds : List InputDeclaration) (d : InputDeclaration) → declaration_in ds n ≡ Some d → length ds ≡ suc (length (without n ds))
unfolding declaration_in without
shorter n [] d e = absurd (no_none e)
  where
    no_none : {A : Type 0} {x : A} → None ≡ Some x → ⊥
    no_none q = cc
shorter n (x ∷ ds) d e = elim (cases_Bool (bytes_eq n x.name)) [
  | inl y ↦ rw y refl
  | inr y ↦ rw y (ap suc (shorter n ds d (sym (ap (λ b. cond b (Some x) (declaration_in ds n)) y) ∙ e)))
]

kept : (n m : Name) (ds : List InputDeclaration) (d : InputDeclaration) → bytes_eq m n ≡ false → declaration_in ds m ≡ Some d →
    declaration_in (without n ds) m ≡ Some d
unfolding declaration_in without
kept n m [] d differ e = e
kept n m (x ∷ ds) d differ e = elim (cases_Bool (bytes_eq n x.name)) [
  | inl y ↦ (let same : n ≡ x.name = same_true n x.name y in
      rw y (sym (ap (λ b. cond b (Some x) (declaration_in ds m)) (sym (ap (bytes_eq m) same) ∙ differ)) ∙ e))
  | inr y ↦ rw y (elim (cases_Bool (bytes_eq m x.name)) [
    | inl z ↦ rw z (sym (ap (λ b. cond b (Some x) (declaration_in ds m)) z) ∙ e)
    | inr z ↦ rw z (kept n m ds d differ (sym (ap (λ b. cond b (Some x) (declaration_in ds m)) z) ∙ e))
  ])
]

-- each field is declared
abbrev AreDeclared : InputFields → List InputDeclaration → Type 0
AreDeclared fs ds = (n : Name) → has_field n fs ≡ true → (d : InputDeclaration) × (declaration_in ds n ≡ Some d)

or-right : (a b : Bool) → b ≡ true → (a || b) ≡ true
or-right true b e = refl
or-right false b e = e

or-left : (a b : Bool) → a ≡ true → (a || b) ≡ true
or-left true b e = refl
or-left false b e = cc

never-both : (b : Bool) → not b ≡ true → b ≡ true → ⊥
never-both true n y = cc
never-both false n y = cc

few-fields : (fs : InputFields) (ds : List InputDeclaration) → keys_differ fs ≡ true → AreDeclared fs ds → count_fields fs ≤ length ds
unfolding count_fields keys_differ has_field
few-fields no_fields ds differ are = omega arith
few-fields (input_field k k_at v v_at rest) ds differ are =
    let parts = and_parts (not (has_field k rest)) (keys_differ rest) differ in
    let own = are k (or-left (bytes_eq k k) (has_field k rest) (same_refl k)) in
    let below : count_fields rest ≤ length (without k ds) = few-fields rest (without k ds) parts.1
    (λ n is. (let d = are n (or-right (bytes_eq n k) (has_field n rest) is) in (d.0, kept k n ds d.0 (other n is parts.0) d.1))) in
    let one : length ds ≡ suc (length (without k ds)) = shorter k ds own.0 own.1 in
    omega (arith, below, one)
  where
    other : (n : Name) → has_field n rest ≡ true → not (has_field k rest) ≡ true → bytes_eq n k ≡ false
    other n is fails = elim (cases_Bool (bytes_eq n k)) [
      | inl e ↦ absurd (never-both (has_field k rest) fails (ap (λ x. has_field x rest) (sym (same_true n k e)) ∙ is))
      | inr e ↦ e
    ]

-- fields that fit are declared
some-declared : (f : TypeRef → Bool) (o : Option InputDeclaration) → fits_some f (option_map (λ d. d.of_type) o) ≡ true →
    (d : InputDeclaration) × (o ≡ Some d)
some-declared f None e = absurd (both e)
  where
    both : false ≡ true → ⊥
    both q = cc
some-declared f (Some d) e = (d, refl)

are-declared : (s : Schema) (given : Bool) (fs : InputFields) (ds : List InputDeclaration) → each_fits s given fs ds ≡ true → AreDeclared fs ds
unfolding each_fits has_field
are-declared s given no_fields ds e n is = absurd (both is)
  where
    both : false ≡ true → ⊥
    both q = cc
are-declared s given (input_field k k_at v v_at rest) ds e n is =
    let parts = and_parts (fits_some (fits s given v) (option_map (λ d. d.of_type) (declaration_in ds k))) (each_fits s given rest ds) e in
    elim (cases_Bool (bytes_eq n k)) [
      | inl y ↦ subst (λ m. (d : InputDeclaration) × (declaration_in ds m ≡ Some d)) (sym (same_true n k y))
          (some-declared (fits s given v) (declaration_in ds k) parts.0)
      | inr y ↦ are-declared s given rest ds parts.1 n (sym (ap (λ b. b || has_field n rest) y) ∙ is)
    ]

-- as many as a loop sees
counted : {S : Type 0} (shown : S → Shown) (xs : List (Field S)) → count_fields (view_fields shown xs) ≡ length xs
unfolding count_fields
counted shown [] = refl
counted shown (x ∷ xs) = ap suc (counted shown xs)

-- more fields than declared ones fit nothing
pub object_by_few : {S A : Type 0} (shown : S → Shown) (s : Schema) (given : Bool) (xs : List (Field S)) (view : A → InputDeclaration) (ps : List A) →
    length ps < length xs → object_by s given (view_fields shown xs) (Some (map view ps)) ≡ false
unfolding object_by
object_by_few shown s given xs view ps more =
    let ds = map view ps in
    let count : length ds ≡ length ps = length-map ps view in
    let fs = view_fields shown xs in
    elim (cases_Bool (all_written fs ds && (keys_differ fs && each_fits s given fs ds))) [
      | inl e ↦ (let parts = and_parts (all_written fs ds) (keys_differ fs && each_fits s given fs ds) e in
          let both = and_parts (keys_differ fs) (each_fits s given fs ds) parts.1 in
          let few : count_fields fs ≤ length ds = few-fields fs ds both.0 (are-declared s given fs ds both.1) in
          let same : count_fields fs ≡ length xs = counted shown xs in
          absurd (omega (arith, few, same, more, count)))
      | inr e ↦ e
    ]
