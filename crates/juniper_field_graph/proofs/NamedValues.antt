-- Values with names, one after the other: what is left decides.
use Rattle.std.proofs.Common.{◌≡◌, ℕ, ◌+◌, ◌<◌, ◌≤◌, Bool, true, false, List, [], ◌∷◌, length, get_or, drop, map, Option, Some, None, is_some, not, option_map}
use Rattle.std.proofs.Common.{Global, String, string_bytes, refl, sym, ap, ◌∙◌, inl, inr}
use Rattle.std.specs.Str.{bytes_eq}
use Rattle.std.specs.Borrow.{Bor}
use Rattle.std.proofs.lemmas.Bool.{cases_Bool}
use Rattle.std.proofs.lemmas.List.{drop_all}
use Rattle.graphql_spec.specs.Shown.{Name, Shown}
use Rattle.graphql_spec.specs.Inputs.{InputFields, no_fields, input_field}
use Rattle.graphql_spec.specs.Fits.{has_field}
use Rattle.juniper_syntax.specs.declared.position.Span.{Span}
use Rattle.juniper_syntax.specs.declared.position.Spanning.{Spanning}
use Rattle.juniper_syntax.specs.DocumentView.{view_argument}
use Rattle.juniper_syntax.specs.InputView.{view_input, view_fields}
use Rattle.juniper_syntax.specs.declared.input.InputValue.{InputValue}
use Rattle.juniper_syntax.proofs.Lists.{left-is}
use Rattle.juniper_field_graph.specs.NamedValues.{view_named, as_fields}
use Rattle.juniper_field_graph.specs.SameValues.{field_at, all_keyed}

-- a key is there where it has a value
has-some : (k : Name) (fs : InputFields) → has_field k fs ≡ is_some (field_at fs k)
unfolding has_field field_at
has-some k no_fields = refl
has-some k (input_field j j_at v v_at rest) = elim (cases_Bool (bytes_eq k j)) [ inl e ↦ rw e refl | inr e ↦ rw e (has-some k rest) ]

-- whether one is found, by the test of the code
pub found-by : {A B : Type 0} (f : A → B) (o : Option A) (p : Option B) (r b : Bool) → option_map f o ≡ p → is_some o ≡ not r → r ≡ b → is_some p ≡ not b
found-by f o p r b e t g = ap is_some (sym e) ∙ (kept o ∙ (t ∙ ap not g))
  where
    kept : (o : Option _) → is_some (option_map f o) ≡ is_some o
    kept None = refl
    kept (Some x) = refl

-- ## The one view and the others

module _ {S : Type 0} (shown : S → Shown) where
  -- an object's fields
  pub named-fields : (fs : List (Spanning (String Global) Span × Spanning (InputValue S) Span)) →
      view_named (λ n. string_bytes n) shown fs ≡ view_fields shown fs
  unfolding view_named
  named-fields [] = refl
  named-fields (f ∷ fs) = rw (named-fields fs) refl

  -- arguments
  pub named-arguments : (as' : List (Spanning (Bor (List ℕ)) Span × Spanning (InputValue S) Span)) →
      view_named (λ n. n.now) shown as' ≡ as_fields (map (view_argument shown) as')
  unfolding view_named as_fields
  named-arguments [] = refl
  named-arguments (a ∷ as') = rw (named-arguments as') refl

-- ## Loops

module _ {N S : Type 0} (text : N → Name) (shown : S → Shown) where
  abbrev Named : Type 0
  Named = Spanning N Span × Spanning (InputValue S) Span

  -- a value of another name
  pub value-passed : (xs : List Named) (i : ℕ) (x : Named) (k : Name) → i < length xs → x ≡ get_or xs i x → bytes_eq k (text x.0.item) ≡ false
      → field_at (view_named text shown (drop (i + 1) xs)) k ≡ field_at (view_named text shown (drop i xs)) k
  unfolding view_named field_at
  value-passed xs i x k below at_i other = rw (left-is xs i x below at_i, other) refl

  -- the one of the name
  pub value-met : (xs : List Named) (i : ℕ) (x : Named) (k : Name) → i < length xs → x ≡ get_or xs i x → bytes_eq k (text x.0.item) ≡ true
      → Some (view_input shown x.1.item) ≡ field_at (view_named text shown (drop i xs)) k
  unfolding view_named field_at
  value-met xs i x k below at_i same = rw (left-is xs i x below at_i, same) refl

  -- none
  pub value-missed : (xs : List Named) (i : ℕ) (k : Name) → length xs ≤ i → None ≡ field_at (view_named text shown (drop i xs)) k
  unfolding view_named field_at
  value-missed xs i k past = let empty : drop i xs ≡ [] = drop_all i xs past in rw empty refl

  -- a name that the others have
  pub name-passed : (xs : List Named) (i : ℕ) (x : Named) (gs : InputFields) → i < length xs → x ≡ get_or xs i x → is_some (field_at gs (text x.0.item)) ≡ true
      → all_keyed (view_named text shown (drop (i + 1) xs)) gs ≡ all_keyed (view_named text shown (drop i xs)) gs
  unfolding view_named all_keyed
  name-passed xs i x gs below at_i there = rw (left-is xs i x below at_i, has-some (text x.0.item) gs ∙ there) refl

  -- one that they lack
  pub name-stops : (xs : List Named) (i : ℕ) (x : Named) (gs : InputFields) → i < length xs → x ≡ get_or xs i x → is_some (field_at gs (text x.0.item)) ≡ false
      → false ≡ all_keyed (view_named text shown (drop i xs)) gs
  unfolding view_named all_keyed
  name-stops xs i x gs below at_i lacks = rw (left-is xs i x below at_i, has-some (text x.0.item) gs ∙ lacks) refl

  pub names-done : (xs : List Named) (i : ℕ) (gs : InputFields) → length xs ≤ i → true ≡ all_keyed (view_named text shown (drop i xs)) gs
  unfolding view_named all_keyed
  names-done xs i gs past = let empty : drop i xs ≡ [] = drop_all i xs past in rw empty refl
