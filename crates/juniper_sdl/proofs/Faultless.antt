-- What the grammar derives has no fault.
use Rattle.std.proofs.Common.{◌≡◌, ◌≢◌, ℕ, ℤ, Bool, true, false, ◌&&◌, List, [], ◌∷◌, Option, Some, None, cond, codes, map, refl, ap, sym, ◌∙◌}
use Rattle.std.proofs.Common.{inl, inr, subst}
use Rattle.std.proofs.lemmas.Bool.{and_from, and_parts, cases_Bool}
use Rattle.std.proofs.lemmas.Option.{none-some, same_Some}
use Rattle.std.specs.List.{list_all, list_any}
use Rattle.std.specs.Option.{option_or}
use Rattle.std.specs.Str.{bytes_eq}
use Rattle.graphql_spec.specs.Grammar.{boolean_word, false_word, null_word, true_word}
use Rattle.graphql_spec.specs.Inputs.{Input, null, scalar, enumerated, variable, list, object, InputItems, no_items, item, InputFields, no_fields, input_field}
use Rattle.graphql_spec.specs.Positions.{Spot, beginning}
use Rattle.graphql_spec.specs.Schema.{Deprecation, Entry, EnumValue, FieldDeclaration, InputDeclaration, Schema, Shape, current, deprecated}
use Rattle.graphql_spec.specs.Schema.{scalar_type, enum_type, object_type, interface_type, union_type, input_object_type, list_type, nullable_type}
use Rattle.graphql_spec.specs.Schema.{placeholder}
use Rattle.graphql_spec.specs.Shown.{Name, Text, int, text, boolean}
use Rattle.graphql_spec.specs.Tokens as token
use Rattle.graphql_spec.specs.Tokens.{IsText, IsToken, Lexeme, Token, decoded_int, fits_int, int_value, is_int, is_name}
use Rattle.graphql_spec.specs.TypeList.{type_list}
use Rattle.graphql_spec.specs.Types.{TypeRef, innermost, list_of, named}
use Rattle.graphql_spec.specs.WellFormed.{is_enum_name}
use Rattle.graphql_spec.proofs.Lists.{same_true}
use Rattle.juniper_schema.specs.MadeTypes.{concrete}
use Rattle.juniper_schema.specs.SchemaView.{meta_of}
use Rattle.juniper_sdl.specs.Definitions.{is_left_out}
use Rattle.juniper_sdl.specs.Faults.{are_constants, default_is_constant, field_is_written, first_fault, has_parts, have_constants, input_is_written}
use Rattle.juniper_sdl.specs.Faults.{is_constant}
use Rattle.juniper_sdl.specs.Faults.{is_listed, is_some_list, listed_is_written, mutation_fault, name_fault, named_fault, names_are_written, sdl_fault}
use Rattle.juniper_sdl.specs.Faults.{type_fault, value_is_written}
use Rattle.juniper_sdl.specs.Grammar.{AreFields, AreItems, Arguments, Bang, Block, Deprecated, Each, EnumWord, Implements, IsConstant, IsDefault, IsDefinition}
use Rattle.juniper_sdl.specs.Grammar.{IsDirective, IsField, IsInput, IsInt, IsListedType, IsRoot, IsSchemaDefinition, IsString, IsType}
use Rattle.juniper_sdl.specs.Grammar.{IsValue, Mark, Nothing, OneOrMore, Opt, Part, Separated, SpecifiedBy, SpellsSchema, Word, listed_fields}
use Rattle.juniper_sdl.specs.Grammar.{own_name, written_types, ◌then◌}
use Rattle.juniper_sdl.proofs.Reading.{lexemes}

-- ## Tokens of a text

-- a name is a Name
unfoldable is_sound : Lexeme → Bool
is_sound (token.mark m) = true
is_sound (token.name w) = is_name w
is_sound (token.int w) = true
is_sound (token.string w) = true

abbrev Sound : List Lexeme → Type 0
Sound ls = list_all is_sound ls ≡ true

token_sound : (l : Lexeme) (word rest : List ℕ) → IsToken l word rest → is_sound l ≡ true
unfolding is_sound
token_sound (token.mark m) word rest is = refl
token_sound (token.name w) word rest is = is.1
token_sound (token.int w) word rest is = refl
token_sound (token.string w) word rest is = refl

text_sound : (ts : List Token) (at : Spot) (bytes : List ℕ) → IsText at ts bytes → Sound (lexemes ts)
text_sound [] at bytes is = refl
text_sound (t ∷ ts) at bytes (gap, word, rest, same, ignored, is, start, end, next) =
    and_from (is_sound t.lexeme) (list_all is_sound (lexemes ts)) (token_sound t.lexeme word rest is) (text_sound ts _ rest next)

-- ## What a part tells of what it is of

record Tells (P : Part) (F : Type 0) : Type 0 where
  by : (s t : List Lexeme) → P s t → Sound s → F × Sound t

-- anything
abbrev Any : Type 0
Any = Unit {0}

more : {P : Part} {F G : Type 0} → Tells P F → (F → G) → Tells P G
more tells f = record { by = λ s t part sound. let x = tells.by s t part sound in (f x.0, x.1) }

both : {P Q : Part} {F G : Type 0} → Tells P F → Tells Q G → Tells (P then Q) (F × G)
both first second = record {
  by = λ s t parts sound.
      let x = first.by s parts.0 parts.1 sound in
      let y = second.by parts.0 t parts.2 x.1 in
      ((x.0, y.0), y.1);
}

past : {P Q : Part} {F G : Type 0} → Tells P F → Tells Q G → Tells (P then Q) G
past first second = more (both first second) (λ x. x.1)

front : {P Q : Part} {F G : Type 0} → Tells P F → Tells Q G → Tells (P then Q) F
front first second = more (both first second) (λ x. x.0)

nothing : Tells Nothing Any
nothing = record { by = λ s t same sound. (tt, subst Sound same sound) }

takes : (l : Lexeme) → Tells (λ s t. s ≡ l ∷ t) (is_sound l ≡ true)
takes l = record { by = λ s t same sound. and_parts (is_sound l) (list_all is_sound t) (subst Sound same sound) }

mark : (m : ℕ) → Tells (Mark m) Any
mark m = more (takes (token.mark m)) (λ e. tt)

word : (w : Name) → Tells (Word w) (is_name w ≡ true)
unfolding is_sound
word w = takes (token.name w)

string : (x : Text) → Tells (IsString x) Any
string x = record { by = λ s t part sound. (tt, ((takes (token.string part.0)).by s t part.1 sound).1) }

description : (d : Option Text) → Tells (Opt IsString d) Any
description None = nothing
description (Some x) = string x

each : {A : Type 0} (R : A → Part) (test : A → Bool) (xs : List A) → ((x : A) → Tells (R x) (test x ≡ true)) → Tells (Each R xs) (list_all test xs ≡ true)
each R test [] tell = record { by = λ s t same sound. (refl, subst Sound same sound) }
each R test (x ∷ xs) tell = more (both (tell x) (each R test xs tell)) (λ f. and_from (test x) (list_all test xs) f.0 f.1)

-- what a list of one or more tells
abbrev SomeAll : {A : Type 0} → (A → Bool) → List A → Type 0
SomeAll test xs = (is_some_list xs ≡ true) × (list_all test xs ≡ true)

some : {A : Type 0} (R : A → Part) (test : A → Bool) (xs : List A) → ((x : A) → Tells (R x) (test x ≡ true)) → Tells (OneOrMore R xs) (SomeAll test xs)
unfolding is_some_list
some R test [] tell = record { by = λ s t part sound. absurd part }
some R test (x ∷ xs) tell = more (each R test (x ∷ xs) tell) (λ all. (refl, all))

block : {A : Type 0} (R : A → Part) (test : A → Bool) (xs : List A) → ((x : A) → Tells (R x) (test x ≡ true)) → Tells (Block R xs) (SomeAll test xs)
block R test xs tell = past (mark 123) (front (some R test xs tell) (mark 125))

separated : (m : ℕ) (ns : List Name) → Tells (Separated m ns) (SomeAll is_name ns)
unfolding is_some_list
separated m [] = record { by = λ s t part sound. absurd part }
separated m (n ∷ ns) =
    more (both (word n) (each (λ k. Mark m then Word k) is_name ns (λ k. past (mark m) (word k))))
    (λ f. (refl, and_from (is_name n) (list_all is_name ns) f.0 f.1))

-- ## Values and types

decoded : (w : Text) (z : ℤ) → decoded_int w ≡ Some z → fits_int z ≡ true
unfolding decoded_int
decoded w z is = go (is_int w && fits_int (int_value w)) refl
  where
    go : (b : Bool) → (is_int w && fits_int (int_value w)) ≡ b → fits_int z ≡ true
    go true e =
        let same : Some (int_value w) ≡ Some z = sym (ap (λ b. cond b (Some (int_value w)) None) e) ∙ is in
        subst (λ x. fits_int x ≡ true) (same_Some _ _ same) (and_parts (is_int w) (fits_int (int_value w)) e).1
    go false e = absurd (none-some z (sym (ap (λ b. cond b (Some (int_value w)) None) e) ∙ is))

number : (z : ℤ) → Tells (IsInt z) (fits_int z ≡ true)
number z = record { by = λ s t part sound. (decoded part.0 z part.2, ((takes (token.int part.0)).by s t part.1 sound).1) }

apart : (w v : Name) → w ≢ v → bytes_eq w v ≡ false
apart w v differ = elim (cases_Bool (bytes_eq w v)) [ inl e ↦ absurd (differ (same_true w v e)) | inr e ↦ e ]

enum_word : (w : Name) → Tells (EnumWord w) (is_enum_name w ≡ true)
unfolding is_enum_name
enum_word w = record {
  by = λ s t part sound.
      let x = (word w).by s t part.0 sound in (
        rw (x.0, apart w true_word part.1.not_true, apart w false_word part.1.not_false, apart w null_word part.1.not_null) refl,
        x.1,
      );
}

mutual
  unfolding is_constant

  constant : (v : Input) → Tells (IsConstant v) (is_constant v ≡ true)
  constant null = more (word null_word) (λ e. refl)
  constant (scalar (int z)) = number z
  constant (scalar (text x)) = more (string x) (λ e. refl)
  constant (scalar (boolean b)) = more (word (boolean_word b)) (λ e. refl)
  constant (enumerated w) = enum_word w
  constant (variable x) = record { by = λ s t part sound. absurd part }
  constant (list is) = past (mark 91) (front (constants is) (mark 93))
  constant (object fs) = past (mark 123) (front (constant_fields fs) (mark 125))

  constants : (is : InputItems) → Tells (AreItems is) (are_constants is ≡ true)
  constants no_items = more nothing (λ e. refl)
  constants (item v place rest) = more (both (constant v) (constants rest)) (λ f. and_from (is_constant v) (are_constants rest) f.0 f.1)

  constant_fields : (fs : InputFields) → Tells (AreFields fs) (have_constants fs ≡ true)
  constant_fields no_fields = more nothing (λ e. refl)
  constant_fields (input_field k k_at v v_at rest) =
      more (both (word k) (past (mark 58) (both (constant v) (constant_fields rest))))
      (λ f. and_from (is_name k) (is_constant v && have_constants rest) f.0 (and_from (is_constant v) (have_constants rest) f.1.0 f.1.1))

bang : (r : Bool) → Tells (Bang r) Any
bang true = mark 33
bang false = nothing

reference : (t : TypeRef) → Tells (IsType t) (is_name (innermost t) ≡ true)
unfolding innermost
reference (named r n) = front (word n) (bang r)
reference (list_of r size t) = front (past (mark 91) (front (reference t) (mark 93))) (bang r)

-- ## Directives and members

directive : (n argument : Name) (x : Text) → Tells (IsDirective n argument x) Any
directive n argument x = past (mark 64) (past (word n) (past (mark 40) (past (word argument) (past (mark 58) (past (string x) (mark 41))))))

deprecation : (d : Deprecation) → Tells (Deprecated d) Any
deprecation current = nothing
deprecation (deprecated None) = past (mark 64) (more (word _) (λ e. tt))
deprecation (deprecated (Some reason)) = directive _ _ reason

specified : (url : Option Text) → Tells (Opt SpecifiedBy url) Any
specified None = nothing
specified (Some url) = directive _ _ url

default : (v : Option Input) → Tells (Opt IsDefault v) (default_is_constant v ≡ true)
unfolding default_is_constant
default None = more nothing (λ e. refl)
default (Some v) = past (mark 61) (constant v)

input : (d : InputDeclaration) → Tells (IsInput d) (input_is_written d ≡ true)
unfolding input_is_written
input d =
    past (description d.description) (more (both (word d.name) (past (mark 58) (both (reference d.of_type) (default d.default))))
    (λ f. and_from (is_name d.name) (is_name (innermost d.of_type) && default_is_constant d.default) f.0
    (and_from (is_name (innermost d.of_type)) (default_is_constant d.default) f.1.0 f.1.1)))

arguments : (ds : List InputDeclaration) → Tells (Arguments ds) (list_all input_is_written ds ≡ true)
arguments [] = more nothing (λ e. refl)
arguments (d ∷ ds) = past (mark 40) (front (each IsInput input_is_written (d ∷ ds) input) (mark 41))

field : (f : FieldDeclaration) → Tells (IsField f) (field_is_written f ≡ true)
unfolding field_is_written
field f =
    past (description f.description) (more (both (word f.name) (both (arguments f.arguments) (past (mark 58) (front (reference f.of_type)
    (deprecation f.deprecation)))))
    (λ x. and_from (is_name f.name) (is_name (innermost f.of_type) && list_all input_is_written f.arguments) x.0
    (and_from (is_name (innermost f.of_type)) (list_all input_is_written f.arguments) x.1.1 x.1.0)))

value : (v : EnumValue) → Tells (IsValue v) (value_is_written v ≡ true)
unfolding value_is_written
value v = past (description v.description) (front (enum_word v.name) (deprecation v.deprecation))

implements : (is : List Name) → Tells (Implements is) (list_all is_name is ≡ true)
implements [] = more nothing (λ e. refl)
implements (i ∷ is) = past (word _) (more (separated 38 (i ∷ is)) (λ f. f.1))

-- ## Definitions

-- the same of all fields, and of those that are listed
listed_first : (f : FieldDeclaration) (fs : List FieldDeclaration) (b : Bool) → is_listed f ≡ b →
    listed_fields (f ∷ fs) ≡ cond b (f ∷ listed_fields fs) (listed_fields fs)
listed_first f fs b e = ap (λ c. cond c (f ∷ listed_fields fs) (listed_fields fs)) e

listed_back : (fs : List FieldDeclaration) → list_all field_is_written (listed_fields fs) ≡ true → list_all listed_is_written fs ≡ true
unfolding listed_is_written
listed_back [] all = refl
listed_back (f ∷ fs) all = elim (cases_Bool (is_listed f)) [
  | inl e ↦
      let shown = sym (ap (list_all field_is_written) (listed_first f fs true e)) ∙ all in
      let parts = and_parts (field_is_written f) (list_all field_is_written (listed_fields fs)) shown in
      rw (e, parts.0) (listed_back fs parts.1)
  | inr e ↦ rw e (listed_back fs (sym (ap (list_all field_is_written) (listed_first f fs false e)) ∙ all))
]

any_listed : (fs : List FieldDeclaration) → is_some_list (listed_fields fs) ≡ true → list_any is_listed fs ≡ true
unfolding is_some_list
any_listed [] e = e
any_listed (f ∷ fs) is = elim (cases_Bool (is_listed f)) [
  | inl e ↦ rw e refl
  | inr e ↦ rw e (any_listed fs (sym (ap is_some_list (listed_first f fs false e)) ∙ is))
]

-- what a definition tells of a type of this name
abbrev IsFaultless : Name → Shape → Type 0
IsFaultless n x = (is_name n ≡ true) × (has_parts x ≡ true) × (names_are_written x ≡ true)

headed : (w : Text) (n : Name) (x : Shape) {P : Part} → Tells P ((has_parts x ≡ true) × (names_are_written x ≡ true)) →
    Tells (Word w then Word n then P) (IsFaultless n x)
headed w n x tells = past (word w) (more (both (word n) tells) (λ f. (f.0, f.1.0, f.1.1)))

composite : (fs : List FieldDeclaration) (is : List Name) → Tells (Implements is then Block IsField (listed_fields fs))
    ((list_any is_listed fs ≡ true) × ((list_all listed_is_written fs && list_all is_name is) ≡ true))
composite fs is =
    more (both (implements is) (block IsField field_is_written (listed_fields fs) field))
    (λ f. (any_listed fs f.1.0, and_from (list_all listed_is_written fs) (list_all is_name is) (listed_back fs f.1.1) f.0))

definition : (n : Name) (x : Shape) → Tells (IsDefinition n x) (IsFaultless n x)
unfolding has_parts names_are_written
definition n (scalar_type k url) = headed _ n (scalar_type k url) (more (specified url) (λ e. (refl, refl)))
definition n (enum_type vs) = headed _ n (enum_type vs) (block IsValue value_is_written vs value)
definition n (object_type fs is) = headed _ n (object_type fs is) (composite fs is)
definition n (interface_type fs is) = headed _ n (interface_type fs is) (composite fs is)
definition n (union_type ms) = headed _ n (union_type ms) (past (mark 61) (separated 124 ms))
definition n (input_object_type ds) = headed _ n (input_object_type ds) (block IsInput input_is_written ds input)
definition n (list_type size t) = record { by = λ s t part sound. absurd part }
definition n (nullable_type t) = record { by = λ s t part sound. absurd part }
definition n placeholder = record { by = λ s t part sound. absurd part }

-- ## Schemas

no_type_fault : (n : Name) (x : Shape) → IsFaultless n x → type_fault n x ≡ None
unfolding type_fault
no_type_fault n x f = rw (f.0, f.1, f.2) refl

no_name_fault : (n : Name) → is_name n ≡ true → name_fault n ≡ None
unfolding name_fault
no_name_fault n is = rw is refl

listed_type : (e : Entry) → Tells (IsListedType e) (type_fault (own_name e) e.shape ≡ None)
listed_type e = past (description e.description) (more (definition (own_name e) e.shape) (no_type_fault (own_name e) e.shape))

types : (es : List Entry) → Tells (Each IsListedType (written_types es)) (first_fault (map (λ e. concrete (meta_of e)) es) ≡ None)
unfolding named_fault
types [] = more nothing (λ e. refl)
types (e ∷ es) = elim (cases_Bool (is_left_out (own_name e))) [
  | inl out ↦ rw out (types es)
  | inr in_it ↦ rw in_it (more (both (listed_type e) (types es)) (λ f. rw (f.0, f.1) refl))
]

root : (operation : Text) (n : Name) → Tells (IsRoot operation n) (name_fault n ≡ None)
root operation n = past (word operation) (past (mark 58) (more (word n) (no_name_fault n)))

mutation : (m : Option Name) → Tells (Opt (IsRoot (codes "mutation")) m) (mutation_fault m ≡ None)
unfolding mutation_fault
mutation None = more nothing (λ e. refl)
mutation (Some n) = root _ n

roots : (q : Name) (m : Option Name) → Tells (IsSchemaDefinition q m) (option_or (name_fault q) (mutation_fault m) ≡ None)
roots q m =
    past (word _) (past (mark 123) (more (both (root _ q) (front (mutation m) (mark 125))) (λ f. rw (f.0, f.1) refl)))

pub spelled_is_faultless : (s : Schema) (bytes : List ℕ) → SpellsSchema bytes s → sdl_fault s ≡ None
unfolding sdl_fault
spelled_is_faultless s bytes (ts, is, derived) =
    let told = more (both (roots s.query s.mutation) (types (type_list s))) (λ f. rw (f.0, f.1) refl) in
    (told.by (lexemes ts) [] derived (text_sound ts beginning bytes is)).0
