-- What stands at a type through its lists.
use Rattle.std.proofs.Common.{◌≡◌, ℕ, suc, ◌+◌, ◌<◌, ◌≤◌, Bool, true, false, not, ◌&&◌, ◌||◌, List, [], ◌∷◌, length, get_or, drop, string_bytes, bytes_eq}
use Rattle.std.proofs.Common.{Option, Some, None, is_some, option_map, refl, sym, ap, ◌∙◌}
use Rattle.graphql_spec.specs.Shown.{Name, Shown}
use Rattle.graphql_spec.specs.Inputs.{InputFields, InputItems, no_fields, input_field, count_items}
use Rattle.graphql_spec.specs.Schema.{InputDeclaration, Schema, Shape, scalar_type, enum_type, object_type, interface_type, union_type, input_object_type}
use Rattle.graphql_spec.specs.Schema.{list_type, nullable_type, placeholder}
use Rattle.graphql_spec.specs.Executable.{values_of}
use Rattle.graphql_spec.specs.Fields.{declaration_in, declares_value, leaf_accepts}
use Rattle.graphql_spec.specs.Types.{TypeRef, named, list_of, innermost}
use Rattle.graphql_spec.specs.Fits.{all_fit, all_written, enum_fits, fields_fit, fits, fits_declared, has_field, input_object_fits, scalar_fits, size_met}
use Rattle.graphql_spec.specs.Fits.{through}
use Rattle.std.proofs.lemmas.List.{drop_all}
use Rattle.juniper_syntax.specs.InputView.{view_input, view_items, view_fields}
use Rattle.juniper_syntax.proofs.InputLists.{Item, Field}
use Rattle.juniper_syntax.proofs.Lists.{left-is}
use Rattle.juniper_syntax.specs.declared.input.InputValue.{InputValue}
use Rattle.juniper_syntax.specs.declared.position.Span.{Span}
use Rattle.juniper_syntax.specs.declared.position.Spanning.{Spanning}
use Rattle.juniper_meta.specs.MetaView.{kinds_of}
use Rattle.juniper_schema.specs.Fitting.{declared_fields, each_fits, fits_some, keys_differ, list_fits, object_by, takes_one}

-- a test of the innermost name, where each list may have one item
pub through_is : (f : Name → Bool) (t : TypeRef) → through f t ≡ (takes_one t && f (innermost t))
unfolding through takes_one innermost
through_is f (named r n) = refl
through_is f (list_of r size t) = go (size_met size 1) (through f t) (takes_one t) (f (innermost t)) (through_is f t)
  where
    go : (b x o y : Bool) → x ≡ (o && y) → (b && x) ≡ ((b && o) && y)
    go true x o y e = e
    go false x o y e = refl

-- what stands there, by the test of the innermost name
pub through_yes : (f : Name → Bool) (t : TypeRef) (n : Name) (r one : Bool) → one ≡ takes_one t → one ≡ true → n ≡ innermost t → r ≡ f n → r ≡ through f t
through_yes f t n r one is holds name e = e ∙ (ap f name ∙ (ap (λ b. b && f (innermost t)) (sym (sym is ∙ holds)) ∙ sym (through_is f t)))

-- what does not, since a list takes more
pub through_no : (f : Name → Bool) (t : TypeRef) (one : Bool) → one ≡ takes_one t → one ≡ false → false ≡ through f t
through_no f t one is fails = ap (λ b. b && f (innermost t)) (sym (sym is ∙ fails)) ∙ sym (through_is f t)

never : (b : Bool) → false ≡ (b && false)
never true = refl
never false = refl

-- a scalar that fits is one that is accepted, by a scalar type or by what was given for a variable
pub scalar_fits_is : (given : Bool) (x : Shown) (t : Shape) → scalar_fits given x (Some t) ≡ ((given || is_some (kinds_of t)) && leaf_accepts (Some t) x)
unfolding scalar_fits kinds_of leaf_accepts
scalar_fits_is true x (scalar_type k u) = refl
scalar_fits_is false x (scalar_type k u) = refl
scalar_fits_is true x (enum_type vs) = refl
scalar_fits_is false x (enum_type vs) = refl
scalar_fits_is given x (object_type fs is) = never (given || false)
scalar_fits_is given x (interface_type fs is) = never (given || false)
scalar_fits_is given x (union_type ms) = never (given || false)
scalar_fits_is given x (input_object_type ds) = never (given || false)
scalar_fits_is given x (list_type n t) = never (given || false)
scalar_fits_is given x (nullable_type t) = never (given || false)
scalar_fits_is given x placeholder = never (given || false)

-- an enum alone has values
pub enum_fits_is : (e : Name) (t : Shape) → enum_fits e (Some t) ≡ declares_value (values_of t) e
unfolding enum_fits declares_value values_of
enum_fits_is e (enum_type vs) = refl
enum_fits_is e (scalar_type k u) = refl
enum_fits_is e (object_type fs is) = refl
enum_fits_is e (interface_type fs is) = refl
enum_fits_is e (union_type ms) = refl
enum_fits_is e (input_object_type ds) = refl
enum_fits_is e (list_type n t) = refl
enum_fits_is e (nullable_type t) = refl
enum_fits_is e placeholder = refl

regroup : (n f k e : Bool) → ((n && f) && (k && e)) ≡ ((n && k) && (f && e))
regroup true true k e = refl
regroup true false true e = refl
regroup true false false e = refl
regroup false f k e = refl

declared_as : (f : TypeRef → Bool) (o : Option InputDeclaration) → fits_declared f o ≡ fits_some f (option_map (λ d. d.of_type) o)
unfolding fits_declared
declared_as f None = refl
declared_as f (Some d) = refl

-- fields that fit have different names, and each fits
pub fields_fit_are : (s : Schema) (given : Bool) (fs : InputFields) (ds : List InputDeclaration) →
    fields_fit s given fs ds ≡ (keys_differ fs && each_fits s given fs ds)
unfolding fits keys_differ each_fits
fields_fit_are s given no_fields ds = refl
fields_fit_are s given (input_field k k_at v v_at rest) ds =
    let a = not (has_field k rest) in let f = fits_some (fits s given v) (option_map (λ d. d.of_type) (declaration_in ds k)) in
    ap (λ b. (a && b) && fields_fit s given rest ds) (declared_as (λ t. fits s given v t) (declaration_in ds k))
    ∙ (ap (λ b. (a && f) && b) (fields_fit_are s given rest ds) ∙ regroup a f (keys_differ rest) (each_fits s given rest ds))

-- how many items a list has, as it is seen
pub count_is : {S : Type 0} (shown : S → Shown) (vs : List (Spanning (InputValue S) Span)) → count_items (view_items shown vs) ≡ length vs
unfolding count_items
count_is shown [] = refl
count_is shown (v ∷ vs) = ap suc (count_is shown vs)

-- a list at a list type, nullable or not
pub list_met : (s : Schema) (given : Bool) (is : InputItems) (r : Bool) (size : Option ℕ) (t : TypeRef) (met : Bool) → met ≡ size_met size (count_items is) →
    (x : Bool) → x ≡ (met && all_fit s given is t) → x ≡ list_fits s given is (list_of r size t)
unfolding list_fits
list_met s given is r size t met m x e = e ∙ ap (λ b. b && all_fit s given is t) m

-- one value at a list type
pub one_met : (u : TypeRef) (r : Bool) (size : Option ℕ) (t : TypeRef) → u ≡ list_of r size t → (met : Bool) → met ≡ size_met size 1 → (x : Bool) →
    x ≡ (met && takes_one t) → x ≡ takes_one u
unfolding takes_one
one_met u r size t is met m x e = e ∙ (ap (λ b. b && takes_one t) m ∙ sym (ap takes_one is))

-- an object at a type
pub object_is : (s : Schema) (given : Bool) (fs : InputFields) (x : Option Shape) →
    object_by s given fs (declared_fields x) ≡ input_object_fits (λ ds. all_written fs ds && fields_fit s given fs ds) x
unfolding object_by declared_fields input_object_fits
object_is s given fs None = refl
object_is s given fs (Some (input_object_type ds)) = ap (λ b. all_written fs ds && b) (sym (fields_fit_are s given fs ds))
object_is s given fs (Some (scalar_type k u)) = refl
object_is s given fs (Some (enum_type vs)) = refl
object_is s given fs (Some (object_type os is)) = refl
object_is s given fs (Some (interface_type os is)) = refl
object_is s given fs (Some (union_type ms)) = refl
object_is s given fs (Some (list_type n t)) = refl
object_is s given fs (Some (nullable_type t)) = refl
object_is s given fs (Some placeholder) = refl

-- ## Loops over items and fields: what is left decides

module _ {S : Type 0} (shown : S → Shown) where
  pub names_pass : (n : Name) (xs : List (Field S)) (i : ℕ) (x : Field S) → i < length xs → x ≡ get_or xs i x → bytes_eq n (string_bytes x.0.item) ≡ false
      → has_field n (view_fields shown (drop i xs)) ≡ has_field n (view_fields shown (drop (i + 1) xs))
  unfolding has_field
  names_pass n xs i x below at_i one = rw (left-is xs i x below at_i, one) refl

  pub names_stop : (n : Name) (xs : List (Field S)) (i : ℕ) (x : Field S) → i < length xs → x ≡ get_or xs i x → bytes_eq n (string_bytes x.0.item) ≡ true
      → has_field n (view_fields shown (drop i xs)) ≡ true
  unfolding has_field
  names_stop n xs i x below at_i one = rw (left-is xs i x below at_i, one) refl

  pub names_done : (n : Name) (xs : List (Field S)) (i : ℕ) → length xs ≤ i → has_field n (view_fields shown (drop i xs)) ≡ false
  unfolding has_field
  names_done n xs i past = let empty : drop i xs ≡ [] = drop_all i xs past in rw empty refl

module _ {S : Type 0} (shown : S → Shown) (s : Schema) (given : Bool) where
  pub items_pass : (xs : List (Item S)) (i : ℕ) (x : Item S) (t : TypeRef) → i < length xs → x ≡ get_or xs i x → fits s given (view_input shown x.item) t ≡ true
      → all_fit s given (view_items shown (drop (i + 1) xs)) t ≡ all_fit s given (view_items shown (drop i xs)) t
  unfolding fits
  items_pass xs i x t below at_i one = rw (left-is xs i x below at_i, one) refl

  pub items_stop : (xs : List (Item S)) (i : ℕ) (x : Item S) (t : TypeRef) → i < length xs → x ≡ get_or xs i x
      → fits s given (view_input shown x.item) t ≡ false
      → false ≡ all_fit s given (view_items shown (drop i xs)) t
  unfolding fits
  items_stop xs i x t below at_i one = rw (left-is xs i x below at_i, one) refl

  pub items_done : (xs : List (Item S)) (i : ℕ) (t : TypeRef) → length xs ≤ i → true ≡ all_fit s given (view_items shown (drop i xs)) t
  unfolding fits
  items_done xs i t past = let empty : drop i xs ≡ [] = drop_all i xs past in rw empty refl

  -- whether the value of a field fits what is declared at its name
  abbrev pub field_fits : Field S → List InputDeclaration → Bool
  field_fits x ds = fits_some (fits s given (view_input shown x.1.item)) (option_map (λ d. d.of_type) (declaration_in ds (string_bytes x.0.item)))

  pub fields_pass : (xs : List (Field S)) (i : ℕ) (x : Field S) (ds : List InputDeclaration) → i < length xs → x ≡ get_or xs i x → field_fits x ds ≡ true
      → each_fits s given (view_fields shown (drop (i + 1) xs)) ds ≡ each_fits s given (view_fields shown (drop i xs)) ds
  unfolding each_fits
  fields_pass xs i x ds below at_i one = rw (left-is xs i x below at_i, one) refl

  pub fields_stop : (xs : List (Field S)) (i : ℕ) (x : Field S) (ds : List InputDeclaration) → i < length xs → x ≡ get_or xs i x → field_fits x ds ≡ false
      → false ≡ each_fits s given (view_fields shown (drop i xs)) ds
  unfolding each_fits
  fields_stop xs i x ds below at_i one = rw (left-is xs i x below at_i, one) refl

  pub fields_done : (xs : List (Field S)) (i : ℕ) (ds : List InputDeclaration) → length xs ≤ i → true ≡ each_fits s given (view_fields shown (drop i xs)) ds
  unfolding each_fits
  fields_done xs i ds past = let empty : drop i xs ≡ [] = drop_all i xs past in rw empty refl
