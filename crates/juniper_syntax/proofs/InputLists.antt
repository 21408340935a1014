-- Items and fields that a loop over an input value makes: what is made, before what is left, stays the same.
use Rattle.std.proofs.Common.{◌≡◌, ℕ, ◌+◌, ◌<◌, ◌≤◌, List, [], ◌∷◌, ◌++◌, length, get_or, drop, String, Global, string_bytes, refl, sym, ap, ◌∙◌}
use Rattle.std.proofs.lemmas.List.{drop_more, drop_all}
use Rattle.graphql_spec.specs.Shown.{Shown}
use Rattle.graphql_spec.specs.Inputs.{InputItems, no_items, item, InputFields, no_fields, input_field}
use Rattle.juniper_syntax.specs.InputView.{view_input, view_items, view_fields}
use Rattle.juniper_syntax.specs.Positions.{view_span}
use Rattle.juniper_syntax.specs.declared.position.Span.{Span}
use Rattle.juniper_syntax.specs.declared.position.Spanning.{Spanning}
use Rattle.juniper_syntax.specs.declared.input.InputValue.{InputValue}

abbrev pub Item : Type 0 → Type 0
Item S = Spanning (InputValue S) Span

abbrev pub Field : Type 0 → Type 0
Field S = Spanning (String Global) Span × Spanning (InputValue S) Span

-- one list after another
abbrev pub append_items : InputItems → InputItems → InputItems
append_items no_items js = js
append_items (item v at is) js = item v at (append_items is js)

abbrev pub append_fields : InputFields → InputFields → InputFields
append_fields no_fields gs = gs
append_fields (input_field k k_at v v_at fs) gs = input_field k k_at v v_at (append_fields fs gs)

append_items-none : (is : InputItems) → append_items is no_items ≡ is
append_items-none no_items = refl
append_items-none (item v at is) = ap (item v at) (append_items-none is)

append_fields-none : (fs : InputFields) → append_fields fs no_fields ≡ fs
append_fields-none no_fields = refl
append_fields-none (input_field k k_at v v_at fs) = ap (input_field k k_at v v_at) (append_fields-none fs)

module _ {S : Type 0} (shown : S → Shown) where
  -- an item at the end of the front is one at the beginning of what is left
  items_push : (vs : List (Item S)) (v : Item S) (js : InputItems)
      → append_items (view_items shown (vs ++ v ∷ [])) js ≡ append_items (view_items shown vs) (item (view_input shown v.item) (view_span v.span) js)
  items_push [] v js = refl
  items_push (w ∷ vs) v js = ap (item (view_input shown w.item) (view_span w.span)) (items_push vs v js)

  fields_push : (vs : List (Field S)) (v : Field S) (gs : InputFields)
      → append_fields (view_fields shown (vs ++ v ∷ [])) gs
      ≡ append_fields (view_fields shown vs) (input_field (string_bytes v.0.item) (view_span v.0.span) (view_input shown v.1.item) (view_span v.1.span) gs)
  fields_push [] v gs = refl
  fields_push (w ∷ vs) v gs =
      ap (input_field (string_bytes w.0.item) (view_span w.0.span) (view_input shown w.1.item) (view_span w.1.span)) (fields_push vs v gs)

  -- a turn that makes an item (w at a) of the item (v at a) by f
  pub items_turn : (f : InputItems → InputItems) (xs made more : List (Item S)) (i : ℕ) (x : Item S) (w : InputValue S)
      → more ≡ made ++ record { item = w; span = x.span } ∷ [] → i < length xs → x ≡ get_or xs i x
      → f (view_items shown (x ∷ drop (i + 1) xs)) ≡ item (view_input shown w) (view_span x.span) (f (view_items shown (drop (i + 1) xs)))
      → append_items (view_items shown more) (f (view_items shown (drop (i + 1) xs))) ≡ append_items (view_items shown made) (f (view_items shown (drop i xs)))
  items_turn f xs made more i x w pushed below at_i one =
      let here : drop i xs ≡ x ∷ drop (i + 1) xs = drop_more xs i x below ∙ ap (λ y. y ∷ drop (i + 1) xs) (sym at_i) in
      rw (pushed, here, one) (items_push made (record { item = w; span = x.span }) (f (view_items shown (drop (i + 1) xs))))

  pub fields_turn : (f : InputFields → InputFields) (xs made more : List (Field S)) (i : ℕ) (x : Field S) (k : String Global) (w : InputValue S)
      → more ≡ made ++ (record { item = k; span = x.0.span }, record { item = w; span = x.1.span }) ∷ [] → i < length xs → x ≡ get_or xs i x
      → f (view_fields shown (x ∷ drop (i + 1) xs)) ≡ input_field (string_bytes k) (view_span x.0.span) (view_input shown w) (view_span x.1.span)
      (f (view_fields shown (drop (i + 1) xs)))
      → append_fields (view_fields shown more) (f (view_fields shown (drop (i + 1) xs)))
      ≡ append_fields (view_fields shown made) (f (view_fields shown (drop i xs)))
  fields_turn f xs made more i x k w pushed below at_i one =
      let here : drop i xs ≡ x ∷ drop (i + 1) xs = drop_more xs i x below ∙ ap (λ y. y ∷ drop (i + 1) xs) (sym at_i) in
      rw (pushed, here, one) (fields_push made (record { item = k; span = x.0.span }, record { item = w; span = x.1.span })
      (f (view_fields shown (drop (i + 1) xs))))

  -- a turn that leaves the field out
  pub fields_skip : (f : InputFields → InputFields) (xs made : List (Field S)) (i : ℕ) (x : Field S) → i < length xs → x ≡ get_or xs i x
      → f (view_fields shown (x ∷ drop (i + 1) xs)) ≡ f (view_fields shown (drop (i + 1) xs))
      → append_fields (view_fields shown made) (f (view_fields shown (drop (i + 1) xs)))
      ≡ append_fields (view_fields shown made) (f (view_fields shown (drop i xs)))
  fields_skip f xs made i x below at_i one =
      let here : drop i xs ≡ x ∷ drop (i + 1) xs = drop_more xs i x below ∙ ap (λ y. y ∷ drop (i + 1) xs) (sym at_i) in
      rw (here, one) refl

  -- after the loop
  pub items_end : (f : InputItems → InputItems) (xs made : List (Item S)) (i : ℕ) → length xs ≤ i → f no_items ≡ no_items
      → view_items shown made ≡ append_items (view_items shown made) (f (view_items shown (drop i xs)))
  items_end f xs made i past none =
      let empty : drop i xs ≡ [] = drop_all i xs past in
      rw (empty, none) (sym (append_items-none (view_items shown made)))

  pub fields_end : (f : InputFields → InputFields) (xs made : List (Field S)) (i : ℕ) → length xs ≤ i → f no_fields ≡ no_fields
      → view_fields shown made ≡ append_fields (view_fields shown made) (f (view_fields shown (drop i xs)))
  fields_end f xs made i past none =
      let empty : drop i xs ≡ [] = drop_all i xs past in
      rw (empty, none) (sym (append_fields-none (view_fields shown made)))
