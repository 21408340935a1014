-- What data declares (3).
use Rattle.std.specs.Prelude.{ℕ, ◌≡◌, ◌||◌, Bool, true, false, List, [], ◌∷◌, ◌++◌, map, Option, None, Some, option_map, Result, Ok, Err}
use Rattle.std.specs.Borrow.{Bor}
use Rattle.graphql_spec.specs.Shown.{Name, Text, int, text, boolean}
use Rattle.graphql_spec.specs.Inputs as inputs
use Rattle.graphql_spec.specs.Inputs.{Input, InputItems, InputFields, no_items, item, no_fields, input_field}
use Rattle.graphql_spec.specs.Positions.{Span, origin}
use Rattle.graphql_spec.specs.Types.{TypeRef, named, list_of}
use Rattle.graphql_spec.specs.BuiltIns.{value_named}
use Rattle.graphql_spec.specs.Schema as schema
use Rattle.graphql_spec.specs.Schema.{FieldDeclaration, InputDeclaration, EnumValue, Shape, scalar_type, object_type, interface_type}
use Rattle.graphql_spec.specs.Fields.{typename_field}
use Rattle.juniper_meta.specs.MetaView.{Meta, deprecated_value, described_value, view_kinds}
use Rattle.juniper_words.specs.Notes.{argument_text, deprecation, noted, part_text, reason, type_text}
use Rattle.juniper_registry.specs.Entries.{Table, awaiting_each, declaring, is_declared}
use Rattle.juniper_registry.specs.Referred.{referred}
use Rattle.juniper_registry.specs.declared.error.RegistryError.{RegistryError}
use Rattle.juniper_registry.specs.declared.error.RegistryError.TheVariants.{AlreadyRegistered, Memory}
use Rattle.juniper_words.specs.declared.data.DeclaredField.{DeclaredField}
use Rattle.juniper_words.specs.declared.data.DeclaredInput.{DeclaredInput}
use Rattle.juniper_words.specs.declared.data.DeclaredType.{DeclaredType}
use Rattle.juniper_words.specs.declared.data.DeclaredType.TheVariants as kind
use Rattle.juniper_words.specs.declared.data.Literal.{Literal, fold-Literal}
use Rattle.juniper_words.specs.declared.data.Literal.TheOpen.{Literal-F}
use Rattle.juniper_words.specs.declared.notes.Note.{Note}
use Rattle.juniper_words.specs.declared.data.Reference.{Reference, Nullable, NonNull, List', NonNullList'}

-- a reference to a type (2.11)
abbrev pub reference : Reference → TypeRef
reference (Nullable n) = named false n.now
reference (NonNull n) = named true n.now
reference (List' p t) = list_of false None (reference t)
reference (NonNullList' p t) = list_of true None (reference t)

-- the place of what was not read from a text
abbrev pub unlocated : Span
unlocated = record { start = origin; end = origin }

-- a list of these items
abbrev pub in_list : List Input → InputItems
in_list [] = no_items
in_list (v ∷ vs) = item v unlocated (in_list vs)

-- an object of these fields
abbrev pub in_object : List (Bor (List ℕ) × Input) → InputFields
in_object [] = no_fields
in_object (m ∷ ms) = input_field m.0.now unlocated m.1 unlocated (in_object ms)

-- one level of a value, with each value inside already seen
abbrev pub literal_step : Literal-F Input → Input
literal_step Literal-F.Null = inputs.null
literal_step (Literal-F.Int n) = inputs.scalar (int n)
literal_step (Literal-F.Text t) = inputs.scalar (text t.now)
literal_step (Literal-F.Boolean b) = inputs.scalar (boolean b)
literal_step (Literal-F.Enum e) = inputs.enumerated e.now
literal_step (Literal-F.List vs) = inputs.list (in_list vs.now)
literal_step (Literal-F.Object ms) = inputs.object (in_object ms.now)

-- the value of a default (2.9)
abbrev pub literal : Literal → Input
literal = fold-Literal Input literal_step

-- the items of a list
abbrev pub items_of : List Literal → InputItems
items_of vs = in_list (map literal vs)

-- the fields of an object
abbrev pub members_of : List (Bor (List ℕ) × Literal) → InputFields
members_of ms = in_object (map (λ m. (m.0, literal m.1)) ms)

-- an argument, or a field of an input object, with this description (3.6.1, 3.10)
abbrev pub input_of : Option Text → DeclaredInput → InputDeclaration
input_of t i = record { name = i.0.now; description = t; of_type = reference i.1; default = option_map literal i.2 }

-- ## Types, with what notes say of their parts

-- an argument of the field of this name (3.6.1)
abbrev pub argument_of : List Note → Name → DeclaredInput → InputDeclaration
argument_of ns f i = input_of (noted (argument_text f i.0.now) ns) i

-- a field of an input object (3.10)
abbrev pub input_field_of : List Note → DeclaredInput → InputDeclaration
input_field_of ns i = input_of (noted (part_text i.0.now) ns) i

-- a field (3.6)
abbrev pub field_of : List Note → DeclaredField → FieldDeclaration
field_of ns f = record {
  name = f.0.now;
  description = noted (part_text f.0.now) ns;
  arguments = map (argument_of ns f.0.now) f.1.now;
  of_type = reference f.2;
  deprecation = deprecation (noted (reason f.0.now) ns);
}

-- with this description, where there is one
abbrev pub described_if : Option Text → EnumValue → EnumValue
described_if None v = v
described_if (Some t) v = described_value v t

-- deprecated for this reason, where there is one
abbrev pub deprecated_if : Option Text → EnumValue → EnumValue
deprecated_if None v = v
deprecated_if (Some r) v = deprecated_value v (Some r)

-- a value of an enum (3.9)
abbrev pub value_of : List Note → Name → EnumValue
value_of ns n = deprecated_if (noted (reason n) ns) (described_if (noted (part_text n) ns) (value_named n))

-- fields, and `__typename` behind them (4.1)
abbrev pub with_typename : List Note → List DeclaredField → List FieldDeclaration
with_typename ns fs = map (field_of ns) fs ++ typename_field ∷ []

-- names, in order
abbrev pub names : List (Bor (List ℕ)) → List Name
names = map (λ n. n.now)

-- the name of a type
abbrev pub name_of : DeclaredType → Name
name_of (kind.Scalar n ks url) = n.now
name_of (kind.Object n is fs) = n.now
name_of (kind.Interface n fs) = n.now
name_of (kind.SubInterface n is fs) = n.now
name_of (kind.Union n ms) = n.now
name_of (kind.Enum n vs) = n.now
name_of (kind.InputObject n is) = n.now
name_of (kind.Noted' p d ns) = name_of d

-- the notes on a type, those next to it first
abbrev pub notes_on : DeclaredType → List Note
notes_on (kind.Scalar n ks url) = []
notes_on (kind.Object n is fs) = []
notes_on (kind.Interface n fs) = []
notes_on (kind.SubInterface n is fs) = []
notes_on (kind.Union n ms) = []
notes_on (kind.Enum n vs) = []
notes_on (kind.InputObject n is) = []
notes_on (kind.Noted' p d ns) = notes_on d ++ ns.now

-- what it is, with these notes (3.5 to 3.10)
abbrev pub shape_of : List Note → DeclaredType → Shape
shape_of ns (kind.Scalar n ks url) = scalar_type (view_kinds ks) (option_map (λ u. u.now) url)
shape_of ns (kind.Object n is fs) = object_type (with_typename ns fs.now) (names is.now)
shape_of ns (kind.Interface n fs) = interface_type (with_typename ns fs.now) []
shape_of ns (kind.SubInterface n is fs) = interface_type (with_typename ns fs.now) (names is.now)
shape_of ns (kind.Union n ms) = schema.union_type (names ms.now)
shape_of ns (kind.Enum n vs) = schema.enum_type (map (value_of ns) (names vs.now))
shape_of ns (kind.InputObject n is) = schema.input_object_type (map (input_field_of ns) is.now)
shape_of ns (kind.Noted' p d more) = shape_of ns d

-- a declaration of this name, with the description that notes give it
abbrev pub noted_meta : List Note → Name → Shape → Meta
noted_meta ns n x = record { name = Some n; description = noted type_text ns; shape = x }

-- its name, and its declaration at that name
abbrev pub declared : DeclaredType → Name × Meta
declared d = (name_of d, noted_meta (notes_on d) (name_of d) (shape_of (notes_on d) d))

-- ## Registries

-- declarations at their names
abbrev pub Declarations : Type 0
Declarations = List (Name × Meta)

-- nothing stands at any name
abbrev pub nowhere : Table
nowhere n = None

-- with a declaration at its name, behind placeholders of the names that it refers to
abbrev pub with_declared : Name × Meta → Table → Table
with_declared d old = declaring d.0 d.1 (awaiting_each (referred d.1.shape) old)

-- with these declarations, one after the other
abbrev pub with_all : Declarations → Table → Table
with_all [] old = old
with_all (d ∷ ds) old = with_all ds (with_declared d old)

-- the name of one of these declarations is taken, when its turn comes
abbrev pub collide : Declarations → Table → Bool
collide [] old = false
collide (d ∷ ds) old = is_declared (old d.0) || collide ds (with_declared d old)

-- all are registered, or the name of one is taken, or memory is refused
abbrev pub RegistersAll : Result (Unit {0}) RegistryError → Declarations → Table → Table → Type 0
RegistersAll (Ok x) ds old new = (collide ds old ≡ false) × ((n : Name) → new n ≡ with_all ds old n)
RegistersAll (Err AlreadyRegistered) ds old new = collide ds old ≡ true
RegistersAll (Err Memory) ds old new = Unit {0}

-- a registry of these declarations alone, or why there is none
abbrev pub Declares : {R : Type 0} → (R → Table) → Declarations → Result R RegistryError → Type 0
Declares view ds (Ok r) = RegistersAll (Ok tt) ds nowhere (view r)
Declares view ds (Err e) = RegistersAll (Err e) ds nowhere nowhere
