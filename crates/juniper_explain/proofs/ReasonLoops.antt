-- Reasons that are found part by part: those that are found, and then those of the parts that are left.
use Rattle.std.proofs.Common.{arith, ◌≡◌, ℕ, ◌+◌, ◌<◌, ◌≤◌, true, false, cond, List, [], ◌∷◌, ◌++◌, Some, length, get_or, drop, map}
use Rattle.std.proofs.Common.{string_bytes, refl, sym, ap, ◌∙◌}
use Rattle.std.proofs.lemmas.List.{append_assoc, append-nil, drop_all}
use Rattle.std.specs.List.{flat_map}
use Rattle.graphql_spec.specs.Shown.{Name, Shown, Text}
use Rattle.graphql_spec.specs.Fields.{declaration_in}
use Rattle.graphql_spec.specs.Fits.{fits}
use Rattle.graphql_spec.specs.Inputs.{Input, null, scalar, enumerated, variable, list, object, InputItems, InputFields, count_items}
use Rattle.graphql_spec.specs.Executable.{values_of}
use Rattle.graphql_spec.specs.Schema.{InputDeclaration, Schema, Shape, scalar_type, enum_type, object_type, interface_type, union_type, input_object_type}
use Rattle.graphql_spec.specs.Schema.{list_type, nullable_type, placeholder}
use Rattle.graphql_spec.specs.Types.{TypeRef}
use Rattle.graphql_spec.specs.VariableUses.{item_type}
use Rattle.juniper_syntax.specs.InputView.{view_input, view_items, view_fields}
use Rattle.juniper_syntax.proofs.InputLists.{Item, Field}
use Rattle.juniper_syntax.proofs.Lists.{left-is}
use Rattle.juniper_explain.specs.Reasons.{at_declaration, declared_at, field_path, is_list, item_path, missing_at, reasons, reasons_in_fields, reasons_in_items}
use Rattle.juniper_explain.specs.Reasons.{repeated_at, repeated_names, size_of, takes_fields, texts_unless, undeclared_at, unfit_at, value_reasons}
use Rattle.juniper_explain.specs.Reasons.{value_names, wrong_size}

-- ## A value

module _ (s : Schema) where
  -- one that fits
  pub value-fits : (v : Input) (t : TypeRef) (p : Text) → fits s true v t ≡ true → value_reasons s v t p ≡ []
  unfolding value_reasons texts_unless
  value-fits v t p fit = ap (λ b. cond b [] (reasons s v t p)) fit

  -- one that does not
  pub value-unfit : (v : Input) (t : TypeRef) (p : Text) → fits s true v t ≡ false → value_reasons s v t p ≡ reasons s v t p
  unfolding value_reasons texts_unless
  value-unfit v t p unfit = ap (λ b. cond b [] (reasons s v t p)) unfit

  pub list-parts : (is : InputItems) (t : TypeRef) (p : Text) → is_list t ≡ true →
      reasons s (list is) t p ≡ wrong_size (size_of t) (count_items is) p ++ reasons_in_items s is (item_type t) p 0
  unfolding reasons
  list-parts is t p yes_list =
      ap (λ b. cond b (wrong_size (size_of t) (count_items is) p ++ reasons_in_items s is (item_type t) p 0) (unfit_at s (list is) t p ∷ [])) yes_list

  pub list-whole : (is : InputItems) (t : TypeRef) (p : Text) → is_list t ≡ false → reasons s (list is) t p ≡ unfit_at s (list is) t p ∷ []
  unfolding reasons
  list-whole is t p no_list =
      ap (λ b. cond b (wrong_size (size_of t) (count_items is) p ++ reasons_in_items s is (item_type t) p 0) (unfit_at s (list is) t p ∷ [])) no_list

  pub object-parts : (fs : InputFields) (t : TypeRef) (p : Text) → takes_fields s t ≡ true →
      reasons s (object fs) t p ≡ repeated_at s fs t p ++ (reasons_in_fields s fs t p ++ missing_at s fs t p)
  unfolding reasons
  object-parts fs t p takes =
      ap (λ b. cond b (repeated_at s fs t p ++ (reasons_in_fields s fs t p ++ missing_at s fs t p)) (unfit_at s (object fs) t p ∷ [])) takes

  pub object-whole : (fs : InputFields) (t : TypeRef) (p : Text) → takes_fields s t ≡ false → reasons s (object fs) t p ≡ unfit_at s (object fs) t p ∷ []
  unfolding reasons
  object-whole fs t p takes_none =
      ap (λ b. cond b (repeated_at s fs t p ++ (reasons_in_fields s fs t p ++ missing_at s fs t p)) (unfit_at s (object fs) t p ∷ [])) takes_none

-- the names of the values that a declaration has
pub names-of : (x : Shape) → map (λ v. v.name) (values_of x) ≡ value_names (Some x)
unfolding values_of value_names
names-of (enum_type vs) = refl
names-of (scalar_type k u) = refl
names-of (object_type fs is) = refl
names-of (interface_type fs is) = refl
names-of (union_type ms) = refl
names-of (input_object_type ds) = refl
names-of (list_type n t) = refl
names-of (nullable_type t) = refl
names-of placeholder = refl

-- steps that each add something
pub then-added : {A : Type 0} (old middle new x y : List A) → middle ≡ old ++ x → new ≡ middle ++ y → new ≡ old ++ (x ++ y)
then-added old middle new x y first second = second ∙ (ap (λ l. l ++ y) first ∙ append_assoc old x y)

-- what is said of a value that does not fit: of itself
leaf-whole : (s : Schema) (leaf v : Input) (t : TypeRef) (p : Text) → v ≡ leaf → reasons s leaf t p ≡ unfit_at s leaf t p ∷ [] →
    reasons s v t p ≡ unfit_at s v t p ∷ []
leaf-whole s leaf v t p is whole = rw (is) whole

module _ (s : Schema) (v : Input) (t : TypeRef) (p q : Text) (old new : List Text) where
  whole-told : p ≡ q → fits s true v t ≡ false → reasons s v t q ≡ unfit_at s v t q ∷ [] → new ≡ old ++ unfit_at s v t p ∷ [] →
      new ≡ old ++ value_reasons s v t q
  whole-told at unfit whole e =
      e ∙ (ap (λ r. old ++ unfit_at s v t r ∷ []) at ∙ ap (λ l. old ++ l) (sym (value-unfit s v t q unfit ∙ whole)))

  pub null-told : v ≡ null → p ≡ q → fits s true v t ≡ false → new ≡ old ++ unfit_at s v t p ∷ [] → new ≡ old ++ value_reasons s v t q
  unfolding reasons
  null-told is at unfit e = whole-told at unfit (leaf-whole s null v t q is refl) e

  pub scalar-told : (x : Shown) → v ≡ scalar x → p ≡ q → fits s true v t ≡ false → new ≡ old ++ unfit_at s v t p ∷ [] → new ≡ old ++ value_reasons s v t q
  unfolding reasons
  scalar-told x is at unfit e = whole-told at unfit (leaf-whole s (scalar x) v t q is refl) e

  pub enum-told : (n : Name) → v ≡ enumerated n → p ≡ q → fits s true v t ≡ false → new ≡ old ++ unfit_at s v t p ∷ [] →
      new ≡ old ++ value_reasons s v t q
  unfolding reasons
  enum-told n is at unfit e = whole-told at unfit (leaf-whole s (enumerated n) v t q is refl) e

  pub variable-told : (n : Name) → v ≡ variable n → p ≡ q → fits s true v t ≡ false → new ≡ old ++ unfit_at s v t p ∷ [] →
      new ≡ old ++ value_reasons s v t q
  unfolding reasons
  variable-told n is at unfit e = whole-told at unfit (leaf-whole s (variable n) v t q is refl) e

  pub whole-list-told : (is : InputItems) → v ≡ list is → is_list t ≡ false → p ≡ q → fits s true v t ≡ false → new ≡ old ++ unfit_at s v t p ∷ [] →
      new ≡ old ++ value_reasons s v t q
  whole-list-told is v_is no_list at unfit e = whole-told at unfit (leaf-whole s (list is) v t q v_is (list-whole s is t q no_list)) e

  pub whole-object-told : (fs : InputFields) → v ≡ object fs → takes_fields s t ≡ false → p ≡ q → fits s true v t ≡ false →
      new ≡ old ++ unfit_at s v t p ∷ [] → new ≡ old ++ value_reasons s v t q
  whole-object-told fs v_is takes_none at unfit e = whole-told at unfit (leaf-whole s (object fs) v t q v_is (object-whole s fs t q takes_none)) e

  -- and else of its parts
  pub list-told : (is : InputItems) (n : ℕ) (u : TypeRef) (middle : List Text) → v ≡ list is → is_list t ≡ true → p ≡ q → fits s true v t ≡ false →
      count_items is ≡ n → u ≡ item_type t → middle ≡ old ++ wrong_size (size_of t) n p → new ≡ middle ++ reasons_in_items s is u p 0 →
      new ≡ old ++ value_reasons s v t q
  list-told is n u middle v_is yes_list at unfit count inner first second =
      then-added old middle new (wrong_size (size_of t) n p) (reasons_in_items s is u p 0) first second
      ∙ ap (λ l. old ++ l) (ap (λ m. wrong_size (size_of t) m p ++ reasons_in_items s is u p 0) (sym count)
      ∙ (ap (λ w. wrong_size (size_of t) (count_items is) p ++ reasons_in_items s is w p 0) inner
      ∙ (ap (λ r. wrong_size (size_of t) (count_items is) r ++ reasons_in_items s is (item_type t) r 0) at
      ∙ sym (value-unfit s v t q unfit ∙ (ap (λ w. reasons s w t q) v_is ∙ list-parts s is t q yes_list)))))

  pub object-told : (fs : InputFields) (first second : List Text) → v ≡ object fs → takes_fields s t ≡ true → p ≡ q → fits s true v t ≡ false →
      first ≡ old ++ repeated_at s fs t p → second ≡ first ++ reasons_in_fields s fs t p → new ≡ second ++ missing_at s fs t p →
      new ≡ old ++ value_reasons s v t q
  object-told fs first second v_is takes at unfit one two three =
      then-added old first new (repeated_at s fs t p) (reasons_in_fields s fs t p ++ missing_at s fs t p) one
      (then-added first second new (reasons_in_fields s fs t p) (missing_at s fs t p) two three)
      ∙ ap (λ l. old ++ l) (ap (λ r. repeated_at s fs t r ++ (reasons_in_fields s fs t r ++ missing_at s fs t r)) at
      ∙ sym (value-unfit s v t q unfit ∙ (ap (λ w. reasons s w t q) v_is ∙ object-parts s fs t q takes)))

-- ## Loops

module _ {S : Type 0} (shown : S → Shown) (s : Schema) (t : TypeRef) (p : Text) where
  -- what is found, with the reasons of the items that are left, is the whole
  abbrev pub IsItemsSoFar : List (Item S) → List Text → ℕ → List Text → Type 0
  IsItemsSoFar xs old i ys = ys ++ reasons_in_items s (view_items shown (drop i xs)) t p i ≡ old ++ reasons_in_items s (view_items shown xs) t p 0

  pub items-next : (xs : List (Item S)) (old : List Text) (i : ℕ) (x : Item S) (ys made : List Text) → i < length xs → x ≡ get_or xs i x →
      IsItemsSoFar xs old i ys → made ≡ ys ++ value_reasons s (view_input shown x.item) t (item_path p i) → IsItemsSoFar xs old (i + 1) made
  unfolding reasons value_reasons
  items-next xs old i x ys made below is so_far e =
      let rest : List Text = reasons_in_items s (view_items shown (drop (i + 1) xs)) t p (i + 1) in
      ap (λ l. l ++ rest) e ∙ (append_assoc ys (value_reasons s (view_input shown x.item) t (item_path p i)) rest
      ∙ (ap (λ l. ys ++ reasons_in_items s (view_items shown l) t p i) (sym (left-is xs i x below is)) ∙ so_far))

  pub items-all : (xs : List (Item S)) (old : List Text) (i : ℕ) (ys : List Text) → length xs ≤ i → IsItemsSoFar xs old i ys →
      ys ≡ old ++ reasons_in_items s (view_items shown xs) t p 0
  unfolding reasons
  items-all xs old i ys past so_far =
      let none : ys ++ reasons_in_items s (view_items shown (drop i xs)) t p i ≡ ys = rw (drop_all i xs past) (append-nil ys) in
      sym none ∙ so_far

  -- the reasons of a field
  abbrev pub field_reasons : Field S → List Text
  field_reasons x = at_declaration (undeclared_at s (string_bytes x.0.item) t p)
      (λ u. value_reasons s (view_input shown x.1.item) u (field_path p (string_bytes x.0.item))) (declaration_in (declared_at s t) (string_bytes x.0.item))

  pub fields-are : (xs : List (Field S)) → flat_map field_reasons xs ≡ reasons_in_fields s (view_fields shown xs) t p
  unfolding reasons value_reasons
  fields-are [] = refl
  fields-are (x ∷ xs) = ap (λ l. field_reasons x ++ l) (fields-are xs)

-- no field is left
pub repeated-all : {S : Type 0} (shown : S → Shown) (ds : List InputDeclaration) (p : Text) (left : List (Field S)) (ys whole : List Text) → length left < 1 →
    ys ++ repeated_names (view_fields shown left) ds p ≡ whole → ys ≡ whole
unfolding repeated_names
repeated-all shown ds p [] ys whole none so_far = sym (append-nil ys) ∙ so_far
repeated-all shown ds p (x ∷ left) ys whole none so_far = absurd (omega (arith, none))
