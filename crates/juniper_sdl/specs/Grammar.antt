-- The grammar of type systems (3), as far as schemas need it: which tokens stand for each part of a schema. The grammar also has types that list no
-- part, without braces or `=`; they are left out, since 3.6 to 3.10 ask for one part at least.
use Rattle.std.specs.Prelude.{◌≡◌, ℕ, Bool, true, false, codes, map, List, [], ◌∷◌, not, Option, Some, None, unwrap_or, ℤ}
use Rattle.std.specs.List.{filter}
use Rattle.graphql_spec.specs.Grammar.{IsEnumName, null_word, boolean_word}
use Rattle.graphql_spec.specs.Inputs.{Input, null, scalar, enumerated, variable, list, object, InputItems, no_items, item, InputFields, no_fields, input_field}
use Rattle.graphql_spec.specs.Positions.{beginning}
use Rattle.graphql_spec.specs.Schema.{Deprecation, current, deprecated, Entry, EnumValue, FieldDeclaration, InputDeclaration, Schema, Shape}
use Rattle.graphql_spec.specs.Schema.{scalar_type, enum_type, object_type, interface_type, union_type, input_object_type, list_type, nullable_type}
use Rattle.graphql_spec.specs.Schema.{placeholder}
use Rattle.graphql_spec.specs.Shown.{Name, Text, int, text, boolean}
use Rattle.graphql_spec.specs.Tokens as token
use Rattle.graphql_spec.specs.Tokens.{Lexeme, Token, IsText, decoded_int, decoded_string}
use Rattle.graphql_spec.specs.TypeList.{type_list}
use Rattle.graphql_spec.specs.Types.{TypeRef, named, list_of}
use Rattle.juniper_sdl.specs.Definitions.{is_left_out}
use Rattle.juniper_sdl.specs.Faults.{is_listed}

-- ## What every rule is made of

-- a part of a text: the tokens from where it begins, and those behind it
abbrev pub Part : Type 1
Part = List Lexeme → List Lexeme → Type 0

infixr 4 ◌then◌
-- one part, and then another
abbrev pub ◌then◌ : Part → Part → Part
◌then◌ P Q s t = (a : List Lexeme) × P s a × Q a t

-- nothing
abbrev pub Nothing : Part
Nothing s t = s ≡ t

-- a punctuator (2.1.8)
abbrev pub Mark : ℕ → Part
Mark m s t = s ≡ token.mark m ∷ t

-- a Name (2.1.9)
abbrev pub Word : Name → Part
Word n s t = s ≡ token.name n ∷ t

-- what may be left out
abbrev pub Opt : {A : Type 0} → (A → Part) → Option A → Part
Opt R None s t = Nothing s t
Opt R (Some x) s t = R x s t

-- each, one after the other
abbrev pub Each : {A : Type 0} → (A → Part) → List A → Part
Each R [] s t = Nothing s t
Each R (x ∷ xs) s t = (R x then Each R xs) s t

-- one or more
abbrev pub OneOrMore : {A : Type 0} → (A → Part) → List A → Part
OneOrMore R [] s t = ⊥
OneOrMore R (x ∷ xs) s t = Each R (x ∷ xs) s t

-- one or more names, with this mark between each two
abbrev pub Separated : ℕ → List Name → Part
Separated m [] s t = ⊥
Separated m (n ∷ ns) s t = (Word n then Each (λ k. Mark m then Word k) ns) s t

-- ## Values and types

-- StringValue (2.9.4)
abbrev pub IsString : Text → Part
IsString x s t = (raw : Text) × (s ≡ token.string raw ∷ t) × (decoded_string raw ≡ Some x)

-- IntValue (2.9.1)
abbrev pub IsInt : ℤ → Part
IsInt z s t = (word : Text) × (s ≡ token.int word ∷ t) × (decoded_int word ≡ Some z)

-- EnumValue: a Name but `true`, `false` and `null` (2.9.6)
abbrev pub EnumWord : Name → Part
EnumWord n s t = Word n s t × IsEnumName n

-- Value without variables (2.9)
abbrev mutual
  pub IsConstant : Input → Part
  IsConstant null s t = Word null_word s t
  IsConstant (scalar (int z)) s t = IsInt z s t
  IsConstant (scalar (text x)) s t = IsString x s t
  IsConstant (scalar (boolean b)) s t = Word (boolean_word b) s t
  IsConstant (enumerated w) s t = EnumWord w s t
  IsConstant (variable x) s t = ⊥
  IsConstant (list is) s t = (Mark 91 then AreItems is then Mark 93) s t
  IsConstant (object fs) s t = (Mark 123 then AreFields fs then Mark 125) s t

  pub AreItems : InputItems → Part
  AreItems no_items s t = Nothing s t
  AreItems (item v at rest) s t = (IsConstant v then AreItems rest) s t

  -- ObjectField: Name `:` Value (2.9.8)
  pub AreFields : InputFields → Part
  AreFields no_fields s t = Nothing s t
  AreFields (input_field k k_at v v_at rest) s t = (Word k then Mark 58 then IsConstant v then AreFields rest) s t

-- `!`, where the type is non-null
abbrev pub Bang : Bool → Part
Bang true s t = Mark 33 s t
Bang false s t = Nothing s t

-- Type: Name or `[` Type `]`, and perhaps `!` (2.11)
abbrev pub IsType : TypeRef → Part
IsType (named r n) s t = (Word n then Bang r) s t
IsType (list_of r size u) s t = ((Mark 91 then IsType u then Mark 93) then Bang r) s t

-- ## Directives (2.12)

-- a directive with one argument, a text: `@` Name `(` Name `:` Value `)`
abbrev pub IsDirective : Name → Name → Text → Part
IsDirective n argument x = Mark 64 then Word n then Mark 40 then Word argument then Mark 58 then IsString x then Mark 41

-- `@deprecated` (3.13.3), where it is needed
abbrev pub Deprecated : Deprecation → Part
Deprecated current s t = Nothing s t
Deprecated (deprecated None) s t = (Mark 64 then Word (codes "deprecated")) s t
Deprecated (deprecated (Some reason)) s t = IsDirective (codes "deprecated") (codes "reason") reason s t

-- `@specifiedBy` (3.13.4)
abbrev pub SpecifiedBy : Text → Part
SpecifiedBy url = IsDirective (codes "specifiedBy") (codes "url") url

-- ## Members

-- DefaultValue: `=` Value
abbrev pub IsDefault : Input → Part
IsDefault v = Mark 61 then IsConstant v

-- InputValueDefinition: Description? Name `:` Type DefaultValue? (3.6.1)
abbrev pub IsInput : InputDeclaration → Part
IsInput d = Opt IsString d.description then Word d.name then Mark 58 then IsType d.of_type then Opt IsDefault d.default

-- ArgumentsDefinition: `(` InputValueDefinition+ `)`, where there are arguments (3.6.1)
abbrev pub Arguments : List InputDeclaration → Part
Arguments [] s t = Nothing s t
Arguments (d ∷ ds) s t = (Mark 40 then Each IsInput (d ∷ ds) then Mark 41) s t

-- FieldDefinition: Description? Name ArgumentsDefinition? `:` Type Directives? (3.6)
abbrev pub IsField : FieldDeclaration → Part
IsField f = Opt IsString f.description then Word f.name then Arguments f.arguments then Mark 58 then IsType f.of_type then Deprecated f.deprecation

-- EnumValueDefinition: Description? EnumValue Directives? (3.9)
abbrev pub IsValue : EnumValue → Part
IsValue v = Opt IsString v.description then EnumWord v.name then Deprecated v.deprecation

-- one or more members in braces: FieldsDefinition, EnumValuesDefinition, InputFieldsDefinition
abbrev pub Block : {A : Type 0} → (A → Part) → List A → Part
Block R xs = Mark 123 then OneOrMore R xs then Mark 125

-- ImplementsInterfaces: `implements` NamedType, and each further one behind `&` (3.6)
abbrev pub Implements : List Name → Part
Implements [] s t = Nothing s t
Implements (i ∷ is) s t = (Word (codes "implements") then Separated 38 (i ∷ is)) s t

-- ## Definitions

-- the fields that are listed
abbrev pub listed_fields : List FieldDeclaration → List FieldDeclaration
listed_fields = filter is_listed

-- a definition of each kind, but for its description; the last three kinds have none
abbrev pub IsDefinition : Name → Shape → Part
IsDefinition n (scalar_type k url) s t = (Word (codes "scalar") then Word n then Opt SpecifiedBy url) s t
IsDefinition n (enum_type vs) s t = (Word (codes "enum") then Word n then Block IsValue vs) s t
IsDefinition n (object_type fs is) s t = (Word (codes "type") then Word n then Implements is then Block IsField (listed_fields fs)) s t
IsDefinition n (interface_type fs is) s t = (Word (codes "interface") then Word n then Implements is then Block IsField (listed_fields fs)) s t
IsDefinition n (union_type ms) s t = (Word (codes "union") then Word n then Mark 61 then Separated 124 ms) s t
IsDefinition n (input_object_type ds) s t = (Word (codes "input") then Word n then Block IsInput ds) s t
IsDefinition n (list_type size u) s t = ⊥
IsDefinition n (nullable_type u) s t = ⊥
IsDefinition n placeholder s t = ⊥

-- TypeDefinition: Description? and a definition (3.4)
abbrev pub IsTypeDefinition : Name → Option Text → Shape → Part
IsTypeDefinition n description x = Opt IsString description then IsDefinition n x

-- RootOperationTypeDefinition: OperationType `:` NamedType (3.3.1)
abbrev pub IsRoot : Text → Name → Part
IsRoot operation n = Word operation then Mark 58 then Word n

-- SchemaDefinition: `schema` `{` RootOperationTypeDefinition+ `}` (3.3)
abbrev pub IsSchemaDefinition : Name → Option Name → Part
IsSchemaDefinition query mutation =
    Word (codes "schema") then Mark 123 then IsRoot (codes "query") query then Opt (IsRoot (codes "mutation")) mutation then Mark 125

-- ## Schemas

-- the name of a type
abbrev pub own_name : Entry → Name
own_name e = unwrap_or e.name []

abbrev pub IsListedType : Entry → Part
IsListedType e = IsTypeDefinition (own_name e) e.description e.shape

-- the types that are written: those that a schema lists, but for built-in scalars (3.5) and the types of introspection (4)
abbrev pub written_types : List Entry → List Entry
written_types = filter (λ e. not (is_left_out (own_name e)))

-- TypeSystemDocument: a SchemaDefinition, and each type (3)
abbrev pub IsDocument : Schema → Part
IsDocument s = IsSchemaDefinition s.query s.mutation then Each IsListedType (written_types (type_list s))

-- the text is tokens of this part, and of nothing more
abbrev pub Spells : Part → List ℕ → Type 0
Spells P bytes = (ts : List Token) × IsText beginning ts bytes × P (map (λ t. t.lexeme) ts) []

-- the text spells the schema
abbrev pub SpellsSchema : List ℕ → Schema → Type 0
SpellsSchema bytes s = Spells (IsDocument s) bytes
