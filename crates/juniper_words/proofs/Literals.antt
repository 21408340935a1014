-- Items and fields that a loop makes of data: what is made, before what is still to be made, is the whole.
use Rattle.std.proofs.Common.{◌≡◌, ℕ, ◌+◌, ◌<◌, ◌≤◌, List, [], ◌∷◌, ◌++◌, length, get_or, drop, string_bytes, refl, sym, ap, ap₂, ◌∙◌, Bor}
use Rattle.std.proofs.lemmas.List.{drop_more, drop_all}
use Rattle.graphql_spec.specs.Shown.{Name, Shown}
use Rattle.graphql_spec.specs.Inputs.{Input, InputItems, no_items, item, InputFields, no_fields, input_field}
use Rattle.graphql_spec.specs.Positions.{origin}
use Rattle.juniper_syntax.specs.Positions.{view_position, view_span}
use Rattle.juniper_syntax.specs.declared.position.Span.{Span}
use Rattle.juniper_syntax.specs.InputView.{view_input, view_items, view_fields}
use Rattle.juniper_syntax.proofs.InputLists.{Item, Field, append_items, append_fields}
use Rattle.juniper_words.specs.Data.{items_of, literal, members_of, unlocated}
use Rattle.juniper_words.specs.declared.data.Literal.{Literal}

-- a place that starts and ends at the beginning of a text
pub placed : (s : Span) → view_position s.start ≡ origin → view_position s.end ≡ origin → view_span s ≡ unlocated
placed s starts ends = ap₂ (λ p q. record { start = p; end = q }) starts ends

items_none : (is : InputItems) → is ≡ append_items is no_items
items_none no_items = refl
items_none (item v at is) = ap (item v at) (items_none is)

fields_none : (fs : InputFields) → fs ≡ append_fields fs no_fields
fields_none no_fields = refl
fields_none (input_field k k_at v v_at fs) = ap (input_field k k_at v v_at) (fields_none fs)

module _ {S : Type 0} (shown : S → Shown) where
  items_push : (vs : List (Item S)) (v : Item S) (x : Input) (js : InputItems) → view_input shown v.item ≡ x → view_span v.span ≡ unlocated →
      append_items (view_items shown (vs ++ v ∷ [])) js ≡ append_items (view_items shown vs) (item x unlocated js)
  items_push [] v x js is at = ap₂ (λ w p. item w p js) is at
  items_push (w ∷ vs) v x js is at = ap (item (view_input shown w.item) (view_span w.span)) (items_push vs v x js is at)

  -- an item is made, and is no longer to come
  pub items_put : (vs : List Literal) (i : ℕ) (x : Literal) (made more : List (Item S)) (v : Item S) (whole : InputItems) → more ≡ made ++ v ∷ [] →
      i < length vs → x ≡ get_or vs i x → view_input shown v.item ≡ literal x → view_span v.span ≡ unlocated →
      append_items (view_items shown made) (items_of (drop i vs)) ≡ whole → append_items (view_items shown more) (items_of (drop (i + 1) vs)) ≡ whole
  items_put vs i x made more v whole pushed below here is at so_far =
      let next : drop i vs ≡ x ∷ drop (i + 1) vs = drop_more vs i x below ∙ ap (λ y. y ∷ drop (i + 1) vs) (sym here) in
      ap (λ l. append_items (view_items shown l) (items_of (drop (i + 1) vs))) pushed
      ∙ (items_push made v (literal x) (items_of (drop (i + 1) vs)) is at
      ∙ (sym (ap (λ l. append_items (view_items shown made) (items_of l)) next) ∙ so_far))

  -- all are made
  pub items_end : (vs : List Literal) (i : ℕ) (made : List (Item S)) (whole : InputItems) → length vs ≤ i →
      append_items (view_items shown made) (items_of (drop i vs)) ≡ whole → view_items shown made ≡ whole
  items_end vs i made whole past so_far =
      items_none (view_items shown made)
      ∙ (sym (ap (λ l. append_items (view_items shown made) (items_of l)) (drop_all i vs past)) ∙ so_far)

  fields_push : (fs : List (Field S)) (f : Field S) (k : Name) (x : Input) (gs : InputFields) → string_bytes f.0.item ≡ k → view_span f.0.span ≡ unlocated →
      view_input shown f.1.item ≡ x → view_span f.1.span ≡ unlocated →
      append_fields (view_fields shown (fs ++ f ∷ [])) gs ≡ append_fields (view_fields shown fs) (input_field k unlocated x unlocated gs)
  fields_push [] f k x gs named at is x_at =
      ap₂ (λ n p. input_field n p (view_input shown f.1.item) (view_span f.1.span) gs) named at
      ∙ ap₂ (λ w p. input_field k unlocated w p gs) is x_at
  fields_push (g ∷ fs) f k x gs named at is x_at =
      ap (input_field (string_bytes g.0.item) (view_span g.0.span) (view_input shown g.1.item) (view_span g.1.span)) (fields_push fs f k x gs named at is x_at)

  -- a field is made, and is no longer to come
  pub fields_put : (ms : List (Bor (List ℕ) × Literal)) (i : ℕ) (d : Bor (List ℕ) × Literal) (made more : List (Field S)) (f : Field S) (whole : InputFields) →
      more ≡ made ++ f ∷ [] → i < length ms → string_bytes f.0.item ≡ (get_or ms i d).0.now → view_span f.0.span ≡ unlocated →
      view_input shown f.1.item ≡ literal (get_or ms i d).1 → view_span f.1.span ≡ unlocated →
      append_fields (view_fields shown made) (members_of (drop i ms)) ≡ whole → append_fields (view_fields shown more) (members_of (drop (i + 1) ms)) ≡ whole
  fields_put ms i d made more f whole pushed below named at is x_at so_far =
      let m = get_or ms i d in
      ap (λ l. append_fields (view_fields shown l) (members_of (drop (i + 1) ms))) pushed
      ∙ (fields_push made f m.0.now (literal m.1) (members_of (drop (i + 1) ms)) named at is x_at
      ∙ (sym (ap (λ l. append_fields (view_fields shown made) (members_of l)) (drop_more ms i d below)) ∙ so_far))

  -- all are made
  pub fields_end : (ms : List (Bor (List ℕ) × Literal)) (i : ℕ) (made : List (Field S)) (whole : InputFields) → length ms ≤ i →
      append_fields (view_fields shown made) (members_of (drop i ms)) ≡ whole → view_fields shown made ≡ whole
  fields_end ms i made whole past so_far =
      fields_none (view_fields shown made)
      ∙ (sym (ap (λ l. append_fields (view_fields shown made) (members_of l)) (drop_all i ms past)) ∙ so_far)
