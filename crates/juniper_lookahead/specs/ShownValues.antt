-- What look-ahead shows of input values and of arguments (this project's own, after 6.4.1).
use Rattle.std.specs.Prelude.{◌≡◌, true, cond, List, [], ◌∷◌, Option, Some, None}
use Rattle.std.specs.Str.{bytes_eq}
use Rattle.graphql_spec.specs.Shown.{Name}
use Rattle.graphql_spec.specs.Positions.{Spanned}
use Rattle.graphql_spec.specs.Inputs.{Input, InputItems, InputFields, null, scalar, enumerated, variable, list, object, no_items, item, no_fields}
use Rattle.graphql_spec.specs.Inputs.{input_field, Variables, is_const}
use Rattle.graphql_spec.specs.Documents.{Argument, Word}

-- a value with each variable replaced by what stands for it
unfoldable mutual
  pub replaced : (Name → Input) → Input → Input
  replaced stands null = null
  replaced stands (scalar s) = scalar s
  replaced stands (enumerated e) = enumerated e
  replaced stands (variable x) = stands x
  replaced stands (list is) = list (replaced_items stands is)
  replaced stands (object fs) = object (replaced_fields stands fs)

  -- item by item
  pub replaced_items : (Name → Input) → InputItems → InputItems
  replaced_items stands no_items = no_items
  replaced_items stands (item v at is) = item (replaced stands v) at (replaced_items stands is)

  -- field by field
  pub replaced_fields : (Name → Input) → InputFields → InputFields
  replaced_fields stands no_fields = no_fields
  replaced_fields stands (input_field k k_at v v_at fs) = input_field k k_at (replaced stands v) v_at (replaced_fields stands fs)

-- the value of a variable, in which no variable is looked up again; null where there is none
unfoldable pub constant_or_null : Option Input → Input
constant_or_null None = null
constant_or_null (Some v) = replaced (λ x. null) v

-- what look-ahead shows of a value: each variable is its value
unfoldable pub shown_value : Variables → Input → Input
shown_value vars v = replaced (λ x. constant_or_null (vars x)) v

-- a value without variables is shown as it is
abbrev pub ConstantsAreShown : Type 0
ConstantsAreShown = (vars : Variables) (v : Input) → is_const v ≡ true → shown_value vars v ≡ v

-- what is shown of a value that is no variable; a variable is null
unfoldable pub shown_unless_variable : Variables → Input → Input
shown_unless_variable vars (variable x) = null
shown_unless_variable vars v = shown_value vars v

-- what is shown of a value with its place
unfoldable pub shown_at : Variables → Spanned Input → Spanned Input
shown_at vars v = record { item = shown_value vars v.item; span = v.span }

-- the same of a field of an object, with the place of its name
unfoldable pub shown_field : Variables → Word × Spanned Input → Word × Spanned Input
shown_field vars f = (f.0, shown_at vars f.1)

-- the same of an argument (2.6)
unfoldable pub shown_argument : Variables → Argument → Argument
shown_argument vars a = record { name = a.name; value = shown_at vars a.value }

-- the first argument of a name
unfoldable pub first_named : Name → List Argument → Option Argument
first_named n [] = None
first_named n (a ∷ rest) = cond (bytes_eq a.name.item n) (Some a) (first_named n rest)

-- the items of a list, in order
unfoldable pub listed : List (Spanned Input) → InputItems
listed [] = no_items
listed (v ∷ vs) = item v.item v.span (listed vs)

-- the fields of an object, in order
unfoldable pub fields_listed : List (Word × Spanned Input) → InputFields
fields_listed [] = no_fields
fields_listed (f ∷ fs) = input_field f.0.item f.0.span f.1.item f.1.span (fields_listed fs)
