-- Items and fields that a loop makes: what is made, and then what is left, are all.
use Rattle.std.proofs.Common.{◌≡◌, ℕ, ◌+◌, ◌<◌, ◌≤◌, List, [], ◌∷◌, ◌++◌, length, get_or, drop, string_bytes, refl, sym, ap}
use Rattle.std.proofs.lemmas.List.{drop_all}
use Rattle.graphql_spec.specs.Inputs.{Input, InputItems, no_items, item, InputFields, no_fields, input_field}
use Rattle.graphql_spec.specs.Positions.{origin}
use Rattle.juniper_syntax.specs.Positions.{view_position, view_span}
use Rattle.juniper_syntax.specs.declared.position.Span.{Span}
use Rattle.juniper_syntax.proofs.InputLists.{Item, Field, append_items, append_fields}
use Rattle.juniper_syntax.proofs.Lists.{left-is}
use Rattle.juniper_syntax.specs.InputView.{view_input, view_items, view_fields}
use Rattle.juniper_syntax.specs.Scalars.{default_shown}
use Rattle.juniper_syntax.specs.declared.scalar.DefaultScalarValue.{DefaultScalarValue}
use Rattle.serde_json.proofs.Views.{Entry}
use Rattle.serde_json.specs.View.{view, items_view, members_view}
use Rattle.serde_json.specs.declared.value.Value.{Value}
use Rattle.juniper_json.specs.Given.{input_of, items_of, fields_of, nowhere}

abbrev pub Made : Type 0
Made = Item DefaultScalarValue

abbrev pub MadeField : Type 0
MadeField = Field DefaultScalarValue

-- a place that is made of no text
pub unplaced : (s : Span) → view_position s.start ≡ origin → view_position s.end ≡ origin → view_span s ≡ nowhere
unplaced s start end = rw (start, end) refl

append_items-none : (is : InputItems) → append_items is no_items ≡ is
append_items-none no_items = refl
append_items-none (item v at is) = ap (item v at) (append_items-none is)

append_fields-none : (fs : InputFields) → append_fields fs no_fields ≡ fs
append_fields-none no_fields = refl
append_fields-none (input_field k k_at v v_at fs) = ap (input_field k k_at v v_at) (append_fields-none fs)

items_push : (vs : List Made) (v : Made) (w : Input) (js : InputItems) → view_input default_shown v.item ≡ w → view_span v.span ≡ nowhere
    → append_items (view_items default_shown (vs ++ v ∷ [])) js ≡ append_items (view_items default_shown vs) (item w nowhere js)
items_push [] v w js is at = rw (is, at) refl
items_push (x ∷ vs) v w js is at = ap (item (view_input default_shown x.item) (view_span x.span)) (items_push vs v w js is at)

fields_push : (vs : List MadeField) (v : MadeField) (k : List ℕ) (w : Input) (gs : InputFields) → string_bytes v.0.item ≡ k →
    view_input default_shown v.1.item ≡ w
    → view_span v.0.span ≡ nowhere → view_span v.1.span ≡ nowhere
    → append_fields (view_fields default_shown (vs ++ v ∷ [])) gs ≡ append_fields (view_fields default_shown vs) (input_field k nowhere w nowhere gs)
fields_push [] v k w gs named is at w_at = rw (named, is, at, w_at) refl
fields_push (x ∷ vs) v k w gs named is at w_at =
    ap (input_field (string_bytes x.0.item) (view_span x.0.span) (view_input default_shown x.1.item) (view_span x.1.span))
    (fields_push vs v k w gs named is at w_at)

-- a turn that makes an item
pub items_turn : (xs : List Value) (made more : List Made) (i : ℕ) (x : Value) (v : Made) → more ≡ made ++ v ∷ [] → i < length xs → x ≡ get_or xs i x
    → view_input default_shown v.item ≡ input_of (view x) → view_span v.span ≡ nowhere
    → append_items (view_items default_shown more) (items_of (items_view (drop (i + 1) xs)))
    ≡ append_items (view_items default_shown made) (items_of (items_view (drop i xs)))
unfolding items_of
items_turn xs made more i x v pushed below at_i is at =
    rw (pushed, left-is xs i x below at_i) (items_push made v (input_of (view x)) (items_of (items_view (drop (i + 1) xs))) is at)

-- after the loop
pub items_end : (xs : List Value) (made : List Made) (i : ℕ) → length xs ≤ i →
    view_items default_shown made ≡ append_items (view_items default_shown made) (items_of (items_view (drop i xs)))
unfolding items_of
items_end xs made i past = let empty : drop i xs ≡ [] = drop_all i xs past in rw empty (sym (append_items-none (view_items default_shown made)))

-- a turn that makes a field
pub fields_turn : (left rest : List Entry) (made more : List MadeField) (e : Entry) (v : MadeField) → left ≡ e ∷ rest → more ≡ made ++ v ∷ []
    → string_bytes v.0.item ≡ string_bytes e.0 → view_input default_shown v.1.item ≡ input_of (view e.1) → view_span v.0.span ≡ nowhere →
    view_span v.1.span ≡ nowhere
    → append_fields (view_fields default_shown more) (fields_of (members_view rest))
    ≡ append_fields (view_fields default_shown made) (fields_of (members_view left))
unfolding fields_of
fields_turn left rest made more e v steps pushed named is at v_at =
    rw (pushed, steps) (fields_push made v (string_bytes e.0) (input_of (view e.1)) (fields_of (members_view rest)) named is at v_at)

-- after the loop
pub fields_end : (left : List Entry) (made : List MadeField) → left ≡ [] →
    view_fields default_shown made ≡ append_fields (view_fields default_shown made) (fields_of (members_view left))
unfolding fields_of
fields_end left made empty = rw empty (sym (append_fields-none (view_fields default_shown made)))
