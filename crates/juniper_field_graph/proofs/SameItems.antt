-- Items and values with names, one after the other: what is left decides.
use Rattle.std.proofs.Common.{◌≡◌, ℕ, ◌+◌, ◌<◌, ◌≤◌, Bool, true, false, ◌&&◌, List, [], ◌∷◌, length, get_or, drop, Option, option_map, Global, String, Vec}
use Rattle.std.proofs.Common.{string_bytes, refl, sym, ap, ap₂, ◌∙◌, arith}
use Rattle.std.specs.Borrow.{Bor}
use Rattle.std.proofs.lemmas.List.{drop_all}
use Rattle.graphql_spec.specs.Shown.{Name, Shown}
use Rattle.graphql_spec.specs.Constants.{is_null, meaning}
use Rattle.graphql_spec.specs.Inputs as inputs
use Rattle.graphql_spec.specs.Inputs.{Input, InputFields}
use Rattle.juniper_syntax.specs.declared.position.Span.{Span}
use Rattle.juniper_syntax.specs.declared.position.Spanning.{Spanning}
use Rattle.juniper_syntax.specs.InputView.{view_input, view_items, view_fields}
use Rattle.juniper_syntax.specs.declared.input.InputValue.{InputValue, Object}
use Rattle.juniper_syntax.proofs.Inputs.{view-Object}
use Rattle.juniper_syntax.proofs.Lists.{left-is}
use Rattle.juniper_field_graph.specs.NamedValues.{view_named}
use Rattle.juniper_field_graph.proofs.NamedValues.{named-fields}
use Rattle.juniper_field_graph.specs.SameValues.{all_keyed, field_at, same_value, same_items, same_fields, passes}

-- null means the same as null alone
pub null_is_same : (v : Input) → is_null (meaning v) ≡ same_value inputs.null v
unfolding meaning same_value
null_is_same inputs.null = refl
null_is_same (inputs.scalar s) = refl
null_is_same (inputs.enumerated e) = refl
null_is_same (inputs.variable x) = refl
null_is_same (inputs.list is) = refl
null_is_same (inputs.object fs) = refl

-- ## Items

module _ {S : Type 0} (shown : S → Shown) where
  abbrev Item : Type 0
  Item = Spanning (InputValue S) Span

  -- lists of different lengths
  pub items-differ : (xs ys : List Item) → (length xs ≡ length ys → ⊥) → false ≡ same_items (view_items shown xs) (view_items shown ys)
  unfolding same_value
  items-differ [] [] e = absurd (e refl)
  items-differ [] (y ∷ ys) e = refl
  items-differ (x ∷ xs) [] e = refl
  items-differ (x ∷ xs) (y ∷ ys) e = go (same_value (view_input shown x.item) (view_input shown y.item)) (items-differ xs ys (λ f. e (omega (arith, f))))
    where
      go : (b : Bool) → false ≡ same_items (view_items shown xs) (view_items shown ys) → false ≡ (b && same_items (view_items shown xs) (view_items shown ys))
      go true again = again
      go false again = refl

  pub items-pass : (xs ys : List Item) (i : ℕ) (x y : Item) → i < length xs → i < length ys → x ≡ get_or xs i x → y ≡ get_or ys i y →
      same_value (view_input shown x.item) (view_input shown y.item) ≡ true
      → same_items (view_items shown (drop (i + 1) xs)) (view_items shown (drop (i + 1) ys))
      ≡ same_items (view_items shown (drop i xs)) (view_items shown (drop i ys))
  unfolding same_value
  items-pass xs ys i x y below below' at_i at_i' same = rw (left-is xs i x below at_i, left-is ys i y below' at_i', same) refl

  pub items-stop : (xs ys : List Item) (i : ℕ) (x y : Item) → i < length xs → i < length ys → x ≡ get_or xs i x → y ≡ get_or ys i y →
      same_value (view_input shown x.item) (view_input shown y.item) ≡ false
      → false ≡ same_items (view_items shown (drop i xs)) (view_items shown (drop i ys))
  unfolding same_value
  items-stop xs ys i x y below below' at_i at_i' differ = rw (left-is xs i x below at_i, left-is ys i y below' at_i', differ) refl

  pub items-done : (xs ys : List Item) (i : ℕ) → length xs ≤ i → length ys ≤ i → true ≡ same_items (view_items shown (drop i xs)) (view_items shown (drop i ys))
  unfolding same_value
  items-done xs ys i past past' = rw (drop_all i xs past, drop_all i ys past') refl

-- ## Values with names

module _ {N S : Type 0} (text : N → Name) (shown : S → Shown) where
  abbrev Named : Type 0
  Named = Spanning N Span × Spanning (InputValue S) Span

  pub values-pass : (xs : List Named) (gs : InputFields) (i : ℕ) (x : Named) → i < length xs → x ≡ get_or xs i x →
      passes (λ w. same_value (view_input shown x.1.item) w) (field_at gs (text x.0.item)) ≡ true
      → same_fields (view_named text shown (drop (i + 1) xs)) gs ≡ same_fields (view_named text shown (drop i xs)) gs
  unfolding same_value view_named
  values-pass xs gs i x below at_i same = rw (left-is xs i x below at_i, same) refl

  pub values-stop : (xs : List Named) (gs : InputFields) (i : ℕ) (x : Named) → i < length xs → x ≡ get_or xs i x →
      passes (λ w. same_value (view_input shown x.1.item) w) (field_at gs (text x.0.item)) ≡ false
      → false ≡ same_fields (view_named text shown (drop i xs)) gs
  unfolding same_value view_named
  values-stop xs gs i x below at_i differ = rw (left-is xs i x below at_i, differ) refl

  pub values-done : (xs : List Named) (gs : InputFields) (i : ℕ) → length xs ≤ i → true ≡ same_fields (view_named text shown (drop i xs)) gs
  unfolding same_value view_named
  values-done xs gs i past = rw (drop_all i xs past) refl

  -- the value, and what the others have at its name
  pub value-found : (gs : InputFields) (x : Named) (name : Name) (found : Option (Bor (InputValue S))) → name ≡ text x.0.item →
      option_map (λ v. view_input shown v.now) found ≡ field_at gs name
      → (r : Bool) → r ≡ passes (λ w. same_value (view_input shown x.1.item) w) (option_map (λ v. view_input shown v.now) found)
      → passes (λ w. same_value (view_input shown x.1.item) w) (field_at gs (text x.0.item)) ≡ r
  value-found gs x name found named at_name r is = sym (is ∙ ap (passes (λ w. same_value (view_input shown x.1.item) w)) (at_name ∙ ap (field_at gs) named))

-- ## Objects

module _ {S : Type 0} (shown : S → Shown) where
  abbrev Field : Type 0
  Field = Spanning (String Global) Span × Spanning (InputValue S) Span

  abbrev view_own : List Field → InputFields
  view_own = view_named (λ n. string_bytes n) shown

  object-tested : (v : InputValue S) (others : Vec Field Global) (xs : List Field) → v ≡ Object others
      → same_value (inputs.object (view_fields shown xs)) (view_input shown v)
      ≡ (same_fields (view_own xs) (view_own others.items) && all_keyed (view_own others.items) (view_own xs))
  unfolding same_value
  object-tested v others xs is =
      ap (λ w. same_value (inputs.object (view_fields shown xs)) w) (ap (view_input shown) is ∙ view-Object shown others)
      ∙ ap₂ (λ fs gs. same_fields fs gs && all_keyed gs fs) (sym (named-fields shown xs)) (sym (named-fields shown others.items))

  -- each field is matched, so the keys decide
  pub both-keyed : (v : InputValue S) (others : Vec Field Global) (xs ys zs : List Field) → v ≡ Object others → ys ≡ others.items → zs ≡ others.items
      → (a b : Bool) → a ≡ same_fields (view_own xs) (view_own ys) → a ≡ true → b ≡ all_keyed (view_own zs) (view_own xs)
      → b ≡ same_value (inputs.object (view_fields shown xs)) (view_input shown v)
  both-keyed v others xs ys zs is one two a b first whole second =
      let matched : true ≡ same_fields (view_own xs) (view_own others.items) = sym whole ∙ (first ∙ ap (λ l. same_fields (view_own xs) (view_own l)) one) in
      second ∙ (ap (λ l. all_keyed (view_own l) (view_own xs)) two ∙ (ap (λ t. t && all_keyed (view_own others.items) (view_own xs)) matched
      ∙ sym (object-tested v others xs is)))

  -- one is not matched
  pub one-differs : (v : InputValue S) (others : Vec Field Global) (xs ys : List Field) → v ≡ Object others → ys ≡ others.items
      → (a : Bool) → a ≡ same_fields (view_own xs) (view_own ys) → a ≡ false → a ≡ same_value (inputs.object (view_fields shown xs)) (view_input shown v)
  one-differs v others xs ys is one a first fails =
      let differs : false ≡ same_fields (view_own xs) (view_own others.items) = sym fails ∙ (first ∙ ap (λ l. same_fields (view_own xs) (view_own l)) one) in
      fails ∙ (ap (λ t. t && all_keyed (view_own others.items) (view_own xs)) differs ∙ sym (object-tested v others xs is))
