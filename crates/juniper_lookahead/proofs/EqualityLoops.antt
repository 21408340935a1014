-- A turn of the loop over two lists that are compared: what is left of both decides. And how much a value holds.
use Rattle.std.proofs.Common.{◌≡◌, ℕ, suc, ◌+◌, Bool, true, false, not, ◌&&◌, List, [], ◌∷◌, Option, Some, None, is_none, refl, sym, ap, ap₂, ◌∙◌}
use Rattle.std.specs.Option.{MatchOption}
use Rattle.graphql_spec.specs.Positions.{Spanned}
use Rattle.graphql_spec.specs.Inputs.{Input, InputItems, InputFields, null, scalar, enumerated, variable, list, object, no_items, item, no_fields, input_field}
use Rattle.graphql_spec.specs.Documents.{Word}
use Rattle.juniper_lookahead.specs.ShownValues.{listed, fields_listed}
use Rattle.juniper_lookahead.specs.InputEquality.{same_span, same_word, same_field_head, same_input, same_input_items, same_input_fields}

module _ {A : Type 0} (head value : A → A → Bool) (same : List A → List A → Bool)
    (cons : (x y : A) (xs ys : List A) → same (x ∷ xs) (y ∷ ys) ≡ (head x y && (value x y && same xs ys)))
    (nil : same [] [] ≡ true) (longer : (x : A) (xs : List A) → same (x ∷ xs) [] ≡ false) (shorter : (y : A) (ys : List A) → same [] (y ∷ ys) ≡ false) where
  here : {left right more others : List A} {all : Bool} (x y : A) → left ≡ x ∷ more → right ≡ y ∷ others → same left right ≡ all
      → (head x y && (value x y && same more others)) ≡ all
  here x y l r e = sym (cons x y _ _) ∙ sym (ap₂ same l r) ∙ e

  pub goes-on : {left right more others : List A} {all : Bool} (x y : A) → left ≡ x ∷ more → right ≡ y ∷ others → same left right ≡ all → head x y
      ≡ true → value x y ≡ true → same more others ≡ all
  goes-on {more = more} {others = others} x y l r e h v = sym (ap₂ (λ a b. a && (b && same more others)) h v) ∙ here x y l r e

  pub head-differs : {left right more others : List A} {all : Bool} (x y : A) → left ≡ x ∷ more → right ≡ y ∷ others → same left right ≡ all
      → head x y ≡ false → false ≡ all
  head-differs {more = more} {others = others} x y l r e h = sym (ap (λ a. a && (value x y && same more others)) h) ∙ here x y l r e

  pub value-differs : {left right more others : List A} {all : Bool} (x y : A) → left ≡ x ∷ more → right ≡ y ∷ others → same left right ≡ all
      → head x y ≡ true → value x y ≡ false → false ≡ all
  value-differs {more = more} {others = others} x y l r e h v = sym (ap₂ (λ a b. a && (b && same more others)) h v) ∙ here x y l r e

  pub right-ends : {left right more : List A} {all : Bool} (x : A) → left ≡ x ∷ more → right ≡ [] → same left right ≡ all → false ≡ all
  right-ends x l r e = sym (longer x _) ∙ sym (ap₂ same l r) ∙ e

  pub left-ends : {B : Type 0} (view : B → A) (left right others : List A) {all : Bool} (o : Option B) → left ≡ []
      → MatchOption o ((right ≡ []) × (others ≡ [])) (λ y. right ≡ view y ∷ others) → same left right ≡ all → is_none o ≡ all
  left-ends view left right others None l r e = sym nil ∙ sym (ap₂ same l r.0) ∙ e
  left-ends view left right others (Some y) l r e = sym (shorter (view y) _) ∙ sym (ap₂ same l r) ∙ e

abbrev pub same_listed : List (Spanned Input) → List (Spanned Input) → Bool
same_listed us vs = same_input_items (listed us) (listed vs)

abbrev pub item_head : Spanned Input → Spanned Input → Bool
item_head u v = same_span u.span v.span

abbrev pub item_value : Spanned Input → Spanned Input → Bool
item_value u v = same_input u.item v.item

items-cons : (x y : Spanned Input) (xs ys : List (Spanned Input)) → same_listed (x ∷ xs) (y ∷ ys) ≡ (item_head x y && (item_value x y && same_listed xs ys))
unfolding same_input listed
items-cons x y xs ys = refl

items-nil : same_listed [] [] ≡ true
unfolding same_input listed
items-nil = refl

items-longer : (x : Spanned Input) (xs : List (Spanned Input)) → same_listed (x ∷ xs) [] ≡ false
unfolding same_input listed
items-longer x xs = refl

items-shorter : (x : Spanned Input) (xs : List (Spanned Input)) → same_listed [] (x ∷ xs) ≡ false
unfolding same_input listed
items-shorter x xs = refl

abbrev pub same_fields : List (Word × Spanned Input) → List (Word × Spanned Input) → Bool
same_fields us vs = same_input_fields (fields_listed us) (fields_listed vs)

abbrev pub field_value : Word × Spanned Input → Word × Spanned Input → Bool
field_value f g = same_input f.1.item g.1.item

fields-cons : (x y : Word × Spanned Input) (xs ys : List (Word × Spanned Input)) → same_fields (x ∷ xs) (y ∷ ys)
    ≡ (same_field_head x y && (field_value x y && same_fields xs ys))
unfolding same_input same_field_head same_word fields_listed
fields-cons x y xs ys = refl

fields-nil : same_fields [] [] ≡ true
unfolding same_input fields_listed
fields-nil = refl

fields-longer : (x : Word × Spanned Input) (xs : List (Word × Spanned Input)) → same_fields (x ∷ xs) [] ≡ false
unfolding same_input fields_listed
fields-longer x xs = refl

fields-shorter : (x : Word × Spanned Input) (xs : List (Word × Spanned Input)) → same_fields [] (x ∷ xs) ≡ false
unfolding same_input fields_listed
fields-shorter x xs = refl

module _ {left right more : List (Spanned Input)} {all : Bool} (x : Spanned Input) (l : left ≡ x ∷ more) (e : same_listed left right ≡ all) where
  pub item-alone : right ≡ [] → false ≡ all
  item-alone r = right-ends item_head item_value same_listed items-cons items-nil items-longer items-shorter x l r e

  pub item-elsewhere : {others : List (Spanned Input)} (y : Spanned Input) → right ≡ y ∷ others → item_head x y ≡ false → false ≡ all
  item-elsewhere y r h = head-differs item_head item_value same_listed items-cons items-nil items-longer items-shorter x y l r e h

  pub item-differs : {others : List (Spanned Input)} (y : Spanned Input) → right ≡ y ∷ others → item_head x y ≡ true → item_value x y ≡ false → false ≡ all
  item-differs y r h v = value-differs item_head item_value same_listed items-cons items-nil items-longer items-shorter x y l r e h v

  pub item-same : {others : List (Spanned Input)} (y : Spanned Input) → right ≡ y ∷ others → item_head x y ≡ true → item_value x y ≡ true
      → same_listed more others ≡ all
  item-same y r h v = goes-on item_head item_value same_listed items-cons items-nil items-longer items-shorter x y l r e h v

pub items-end : {B : Type 0} (view : B → Spanned Input) (left right others : List (Spanned Input)) {all : Bool} (o : Option B) → left ≡ []
    → MatchOption o ((right ≡ []) × (others ≡ [])) (λ y. right ≡ view y ∷ others) → same_listed left right ≡ all → is_none o ≡ all
items-end view left right others o l r e =
    left-ends item_head item_value same_listed items-cons items-nil items-longer items-shorter view left right others o l r e

module _ {left right more : List (Word × Spanned Input)} {all : Bool} (x : Word × Spanned Input) (l : left ≡ x ∷ more) (e : same_fields left right ≡ all) where
  pub field-alone : right ≡ [] → false ≡ all
  field-alone r = right-ends same_field_head field_value same_fields fields-cons fields-nil fields-longer fields-shorter x l r e

  pub field-elsewhere : {others : List (Word × Spanned Input)} (y : Word × Spanned Input) → right ≡ y ∷ others → same_field_head x y ≡ false → false ≡ all
  field-elsewhere y r h = head-differs same_field_head field_value same_fields fields-cons fields-nil fields-longer fields-shorter x y l r e h

  pub field-differs : {others : List (Word × Spanned Input)} (y : Word × Spanned Input) → right ≡ y ∷ others → same_field_head x y ≡ true
      → field_value x y ≡ false → false ≡ all
  field-differs y r h v = value-differs same_field_head field_value same_fields fields-cons fields-nil fields-longer fields-shorter x y l r e h v

  pub field-same : {others : List (Word × Spanned Input)} (y : Word × Spanned Input) → right ≡ y ∷ others → same_field_head x y ≡ true
      → field_value x y ≡ true → same_fields more others ≡ all
  field-same y r h v = goes-on same_field_head field_value same_fields fields-cons fields-nil fields-longer fields-shorter x y l r e h v

pub fields-end : {B : Type 0} (view : B → Word × Spanned Input) (left right others : List (Word × Spanned Input)) {all : Bool} (o : Option B)
    → left ≡ [] → MatchOption o ((right ≡ []) × (others ≡ [])) (λ y. right ≡ view y ∷ others) → same_fields left right ≡ all → is_none o ≡ all
fields-end view left right others o l r e =
    left-ends same_field_head field_value same_fields fields-cons fields-nil fields-longer fields-shorter view left right others o l r e

-- how many values stand in a value, with itself
abbrev mutual
  pub weight : Input → ℕ
  weight null = 1
  weight (scalar s) = 1
  weight (enumerated e) = 1
  weight (variable x) = 1
  weight (list is) = suc (items_weight is)
  weight (object fs) = suc (fields_weight fs)

  pub items_weight : InputItems → ℕ
  items_weight no_items = 0
  items_weight (item v at is) = suc (weight v + items_weight is)

  pub fields_weight : InputFields → ℕ
  fields_weight no_fields = 0
  fields_weight (input_field k k_at v v_at fs) = suc (weight v + fields_weight fs)

pub item-weighs : {left more : List (Spanned Input)} (x : Spanned Input) → left ≡ x ∷ more → items_weight (listed left)
    ≡ suc (weight x.item + items_weight (listed more))
unfolding listed
item-weighs x l = ap (λ v. items_weight (listed v)) l

pub field-weighs : {left more : List (Word × Spanned Input)} (x : Word × Spanned Input) → left ≡ x ∷ more → fields_weight (fields_listed left)
    ≡ suc (weight x.1.item + fields_weight (fields_listed more))
unfolding fields_listed
field-weighs x l = ap (λ v. fields_weight (fields_listed v)) l

-- a test, and its negation
pub turned_over : {p : Bool} (b : Bool) → p ≡ not b → b ≡ not p
turned_over true e = sym (ap not e)
turned_over false e = sym (ap not e)
