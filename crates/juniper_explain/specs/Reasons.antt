-- Why a given value does not fit the type of its variable (6.1.2): part by part, where the part itself does not fit its own type.
use Rattle.std.specs.Prelude.{ℕ, ◌+◌, ◌==◌, Bool, true, false, not, ◌&&◌, cond, codes, List, [], ◌∷◌, ◌++◌, Option, Some, None, map}
use Rattle.std.specs.Fmt.{decimal}
use Rattle.std.specs.List.{flat_map}
use Rattle.std.specs.Option.{is_some}
use Rattle.graphql_spec.specs.Shown.{Name, Text, shown_text}
use Rattle.graphql_spec.specs.Display.{display}
use Rattle.graphql_spec.specs.Fields.{declaration_in, type_named}
use Rattle.graphql_spec.specs.Fits.{fits, has_field, input_object_fits, through}
use Rattle.graphql_spec.specs.Inputs.{Input, null, scalar, enumerated, variable, list, object, InputItems, no_items, item, InputFields, no_fields, input_field}
use Rattle.graphql_spec.specs.Inputs.{count_items}
use Rattle.graphql_spec.specs.Rules.{must_be_written}
use Rattle.graphql_spec.specs.Schema.{InputDeclaration, Schema, Shape, enum_type}
use Rattle.graphql_spec.specs.Types.{TypeRef, named, list_of, innermost, type_text}
use Rattle.graphql_spec.specs.VariableUses.{input_fields, item_type}
use Rattle.juniper_explain.specs.Nearest.{suggested}
use Rattle.juniper_explain.specs.Nodes.{suggestion}

-- ## Where a part stands, from its variable on: `$f.filter[0].name`

-- the value of a variable
unfoldable pub variable_path : Name → Text
variable_path n = codes "$" ++ n

-- a field of the object at the path
unfoldable pub field_path : Text → Name → Text
field_path p k = p ++ (codes "." ++ k)

-- an item of the list at the path
unfoldable pub item_path : Text → ℕ → Text
item_path p i = p ++ (codes "[" ++ (decimal i ++ codes "]"))

-- ## What is said

-- a value that is none of the type, and one that may have been meant
unfoldable pub unfit_text : Input → TypeRef → Text → Option Name → Text
unfit_text v t p meant = codes "Value `" ++ (display v ++ (codes "` at `" ++ (p ++ (codes "` is no `" ++ (type_text t ++ (codes "`" ++ suggestion meant))))))

-- a list of n items, where m are expected
unfoldable pub size_text : ℕ → ℕ → Text → Text
size_text n m p = codes "List at `" ++ (p ++ (codes "` has length " ++ (decimal n ++ (codes ", not " ++ decimal m))))

-- a field of the input object T that is not written
unfoldable pub missing_text : InputDeclaration → Name → Text → Text
missing_text d T p = codes "Field `" ++ (d.name ++ (codes "` of `" ++ (T ++ (codes "` is missing at `" ++ (p ++ (codes "`; it is `"
    ++ (type_text d.of_type ++ codes "`")))))))

-- a field that the input object T does not declare, beside those that it does
unfoldable pub undeclared_text : Name → List Name → Name → Text → Text
undeclared_text k ks T p = codes "Unknown field `" ++ (k ++ (codes "` of `" ++ (T ++ (codes "` at `" ++ (p ++ (codes "`"
    ++ suggestion (suggested k ks)))))))

-- a field that is written twice
unfoldable pub repeated_text : Name → Text → Text
repeated_text k p = codes "Field `" ++ (k ++ (codes "` is not unique at `" ++ (p ++ codes "`")))

-- ## Values of enums that may have been meant

-- a text, or the name of an enum's value
unfoldable pub word_in : Input → Option Name
word_in (scalar x) = shown_text x
word_in (enumerated e) = Some e
word_in _ = None

-- the values of an enum; none of what is no enum
unfoldable pub value_names : Option Shape → List Name
value_names (Some (enum_type vs)) = map (λ v. v.name) vs
value_names _ = []

-- one that may have been meant by such a word
unfoldable pub meant_by : List Name → Option Name → Option Name
meant_by ks None = None
meant_by ks (Some w) = suggested w ks

-- ## Where it is said

-- a text, where the test fails
unfoldable pub text_unless : Bool → Text → List Text
text_unless b x = cond b [] (x ∷ [])

-- these texts, where the test fails
unfoldable pub texts_unless : Bool → List Text → List Text
texts_unless b xs = cond b [] xs

-- a list type
unfoldable pub is_list : TypeRef → Bool
is_list (named r n) = false
is_list (list_of r size t) = true

-- the number of items that a list type expects, where it expects one
unfoldable pub size_of : TypeRef → Option ℕ
size_of (named r n) = None
size_of (list_of r size t) = size

-- a list of n items, where another number is expected
unfoldable pub wrong_size : Option ℕ → ℕ → Text → List Text
wrong_size None n p = []
wrong_size (Some m) n p = text_unless (m == n) (size_text n m p)

-- a field of the input object T that must be written, and is not (3.10)
unfoldable pub missing_field : InputFields → Name → Text → InputDeclaration → List Text
missing_field fs T p d = text_unless (not (must_be_written d && not (has_field d.name fs))) (missing_text d T p)

-- the declared fields that are written more than once (5.6.3)
unfoldable pub repeated_names : InputFields → List InputDeclaration → Text → List Text
repeated_names no_fields ds p = []
repeated_names (input_field k k_at v v_at rest) ds p =
    text_unless (not (is_some (declaration_in ds k) && has_field k rest)) (repeated_text k p) ++ repeated_names rest ds p

-- what is said of a declared field's type, else this
unfoldable pub at_declaration : Text → (TypeRef → List Text) → Option InputDeclaration → List Text
at_declaration x f None = x ∷ []
at_declaration x f (Some d) = f d.of_type

module _ (s : Schema) where
  -- an input object, also for a list of itself alone (3.10, 3.11)
  unfoldable pub takes_fields : TypeRef → Bool
  takes_fields t = through (λ n. input_object_fits (λ ds. true) (type_named s n)) t

  -- the fields that it declares
  unfoldable pub declared_at : TypeRef → List InputDeclaration
  declared_at t = input_fields (type_named s (innermost t))

  -- those that are missing, and those that are repeated
  unfoldable pub missing_at : InputFields → TypeRef → Text → List Text
  missing_at fs t p = flat_map (missing_field fs (innermost t) p) (declared_at t)

  unfoldable pub repeated_at : InputFields → TypeRef → Text → List Text
  repeated_at fs t p = repeated_names fs (declared_at t) p

  -- one that is not declared
  unfoldable pub undeclared_at : Name → TypeRef → Text → Text
  undeclared_at k t p = undeclared_text k (map (λ d. d.name) (declared_at t)) (innermost t) p

  -- a value that is none of the type
  unfoldable pub unfit_at : Input → TypeRef → Text → Text
  unfit_at v t p = unfit_text v t p (meant_by (value_names (type_named s (innermost t))) (word_in v))

  unfoldable mutual
    -- what is wrong with a value at a path, which does not fit the type. Of a list at a list type, and of an object at an input
    -- object, it is what is wrong with the parts, and else that the value is none of the type
    pub reasons : Input → TypeRef → Text → List Text
    reasons null t p = unfit_at null t p ∷ []
    reasons (scalar x) t p = unfit_at (scalar x) t p ∷ []
    reasons (enumerated e) t p = unfit_at (enumerated e) t p ∷ []
    reasons (variable x) t p = unfit_at (variable x) t p ∷ []
    reasons (list is) t p = cond (is_list t) (wrong_size (size_of t) (count_items is) p ++ reasons_in_items is (item_type t) p 0)
        (unfit_at (list is) t p ∷ [])
    reasons (object fs) t p = cond (takes_fields t) (repeated_at fs t p ++ (reasons_in_fields fs t p ++ missing_at fs t p)) (unfit_at (object fs) t p ∷ [])

    -- item by item, from this position on: those that do not fit
    pub reasons_in_items : InputItems → TypeRef → Text → ℕ → List Text
    reasons_in_items no_items t p i = []
    reasons_in_items (item v at rest) t p i = texts_unless (fits s true v t) (reasons v t (item_path p i)) ++ reasons_in_items rest t p (i + 1)

    -- field by field of the input object: those that are not declared, and those that do not fit
    pub reasons_in_fields : InputFields → TypeRef → Text → List Text
    reasons_in_fields no_fields t p = []
    reasons_in_fields (input_field k k_at v v_at rest) t p =
        at_declaration (undeclared_at k t p) (λ u. texts_unless (fits s true v u) (reasons v u (field_path p k))) (declaration_in (declared_at t) k)
        ++ reasons_in_fields rest t p

  -- why a value at a path does not fit the type: nothing where it does
  unfoldable pub value_reasons : Input → TypeRef → Text → List Text
  value_reasons v t p = texts_unless (fits s true v t) (reasons v t p)
