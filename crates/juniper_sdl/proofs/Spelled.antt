-- The texts of declarations and definitions are of the grammar.
use Rattle.std.proofs.Common.{◌≡◌, ℕ, Bool, true, false, not, ◌&&◌, ◌||◌, List, [], ◌∷◌, ◌++◌, Option, Some, None, codes, refl, ap, sym, ◌∙◌, inl, inr}
use Rattle.std.proofs.Common.{subst}
use Rattle.std.proofs.lemmas.Bool.{and_parts, cases_Bool, false≢true}
use Rattle.std.specs.List.{flat_map, join_by, list_all, list_any}
use Rattle.graphql_spec.specs.Display.{quoted}
use Rattle.graphql_spec.specs.Executable.{is_reserved}
use Rattle.graphql_spec.specs.Inputs.{Input}
use Rattle.graphql_spec.specs.Schema.{Deprecation, current, deprecated, EnumValue, FieldDeclaration, InputDeclaration, Shape}
use Rattle.graphql_spec.specs.Schema.{scalar_type, enum_type, object_type, interface_type, union_type, input_object_type, list_type, nullable_type}
use Rattle.graphql_spec.specs.Schema.{placeholder}
use Rattle.graphql_spec.specs.Shown.{Name, Text}
use Rattle.graphql_spec.specs.Tokens.{continues_int, continues_name, is_blank, is_mark, is_name, is_quote, mark_text, starts_name}
use Rattle.graphql_spec.specs.Types.{innermost}
use Rattle.juniper_sdl.specs.Definitions.{argument_text, arguments_text, block_text, default_text, definition_text, deprecation_text, description_text}
use Rattle.juniper_sdl.specs.Definitions.{field_text}
use Rattle.juniper_sdl.specs.Definitions.{implements_text, input_field_text, input_text, listed_field, member_text, specified_text, value_text}
use Rattle.juniper_sdl.specs.Faults.{default_is_constant, field_is_written, has_parts, input_is_written, is_listed, is_some_list, listed_is_written}
use Rattle.juniper_sdl.specs.Faults.{names_are_written, value_is_written}
use Rattle.juniper_sdl.specs.Grammar.{listed_fields}
use Rattle.juniper_sdl.specs.Grammar.{Arguments, Block, Deprecated, Each, Implements, IsDefault, IsDefinition, IsDirective, IsField, IsInput}
use Rattle.juniper_sdl.specs.Grammar.{IsString}
use Rattle.juniper_sdl.specs.Grammar.{IsType, IsTypeDefinition, IsValue, Mark, Nothing, OneOrMore, Opt, Part, Separated, SpecifiedBy, Word, ◌then◌}
use Rattle.juniper_sdl.proofs.Reading.{Follows, IsStop, Reads, always, as_part, before, blank, both, each, follow_both, follow_each, follows, follows_nothing}
use Rattle.juniper_sdl.proofs.Reading.{mark}
use Rattle.juniper_sdl.proofs.Reading.{nothing, stops, then_blanks, word}
use Rattle.juniper_sdl.proofs.ReadValues.{constant_reads, enum_reads, string_reads, type_reads}

-- ## Bytes that stand in the texts

pub line_stops : IsStop 10
unfolding stops continues_name starts_name continues_int is_quote
line_stops = refl

pub space_stops : IsStop 32
unfolding stops continues_name starts_name continues_int is_quote
space_stops = refl

comma_stops : IsStop 44
unfolding stops continues_name starts_name continues_int is_quote
comma_stops = refl

open_stops : IsStop 40
unfolding stops continues_name starts_name continues_int is_quote
open_stops = refl

close_stops : IsStop 41
unfolding stops continues_name starts_name continues_int is_quote
close_stops = refl

pub colon_stops : IsStop 58
unfolding stops continues_name starts_name continues_int is_quote
colon_stops = refl

pub brace_stops : IsStop 125
unfolding stops continues_name starts_name continues_int is_quote
brace_stops = refl

-- a space, and then a part
pub spaced : {P : Part} {bytes : List ℕ} → Reads P bytes → Reads P (32 ∷ bytes)
unfolding is_blank
spaced reads = blank 32 refl reads

-- a new line, and then a part
pub below : {P : Part} {bytes : List ℕ} → Reads P bytes → Reads P (10 ∷ bytes)
unfolding is_blank
below reads = blank 10 refl reads

-- a part, and then the end of its line
pub in_line : {P : Part} {bytes : List ℕ} → Reads P bytes → Reads P (bytes ++ 10 ∷ [])
unfolding is_blank
in_line reads = always (then_blanks 10 [] refl line_stops reads)

-- a colon, a space and a part
pub behind_colon : {P : Part} {bytes : List ℕ} → Reads P bytes → Reads (Mark 58 then P) (58 ∷ 32 ∷ bytes)
unfolding is_mark mark_text
behind_colon reads = before (mark 58 refl refl) (spaced reads)

-- nothing, and then a part
pub behind_nothing : {P : Part} {bytes : List ℕ} → Reads P bytes → Reads (Nothing then P) bytes
behind_nothing reads = as_part (λ s t part. (s, refl, part)) reads

-- ## Descriptions and directives

described : (b : ℕ) (bs : List ℕ) → list_all is_blank (b ∷ bs) ≡ true → IsStop b → (d : Option Text) → {P : Part} {bytes : List ℕ} → Reads P bytes →
    Reads (Opt IsString d then P) (description_text (b ∷ bs) d ++ bytes)
described b bs blanks stop None reads = behind_nothing reads
described b bs blanks stop (Some d) reads = before (then_blanks b bs blanks stop (string_reads d)) reads

-- a member in its line
member : (d : Option Text) → {P : Part} {text : List ℕ} → Reads P text → Reads (Opt IsString d then P) (member_text d text)
unfolding is_blank
member d reads = spaced (spaced (described 10 (32 ∷ 32 ∷ []) refl line_stops d (in_line reads)))

directive : (n argument : Name) (x : Text) → is_name n ≡ true → is_name argument ≡ true →
    Reads (IsDirective n argument x) (64 ∷ (n ++ 40 ∷ (argument ++ 58 ∷ 32 ∷ (quoted x ++ 41 ∷ []))))
unfolding is_mark mark_text
directive n argument x is argument_is =
    before (mark 64 refl refl) (both (word n is) (before (mark 40 refl refl) (both (word argument argument_is)
    (behind_colon (both (string_reads x) (always (mark 41 refl refl)) (follows 41 close_stops))) (follows 58 colon_stops))) (follows 40 open_stops))

deprecation : (d : Deprecation) → Reads (Deprecated d) (deprecation_text d)
unfolding is_mark mark_text is_name starts_name continues_name
deprecation current = always nothing
deprecation (deprecated None) = spaced (before (mark 64 refl refl) (word (codes "deprecated") refl))
deprecation (deprecated (Some reason)) = spaced (directive (codes "deprecated") (codes "reason") reason refl refl)

follow_deprecation : (d : Deprecation) → Follows (deprecation_text d)
follow_deprecation current = follows_nothing
follow_deprecation (deprecated None) = follows 32 space_stops
follow_deprecation (deprecated (Some reason)) = follows 32 space_stops

specified : (url : Option Text) → Reads (Opt SpecifiedBy url) (specified_text url)
unfolding is_name starts_name continues_name
specified None = always nothing
specified (Some url) = spaced (directive (codes "specifiedBy") (codes "url") url refl refl)

follow_specified : (url : Option Text) → Follows (specified_text url)
follow_specified None = follows_nothing
follow_specified (Some url) = follows 32 space_stops

-- ## Members

default : (v : Option Input) → default_is_constant v ≡ true → Reads (Opt IsDefault v) (default_text v)
unfolding is_mark mark_text default_is_constant
default None fit = always nothing
default (Some v) fit = spaced (before (mark 61 refl refl) (spaced (constant_reads v fit)))

follow_default : (v : Option Input) → Follows (default_text v)
follow_default None = follows_nothing
follow_default (Some v) = follows 32 space_stops

input : (d : InputDeclaration) → input_is_written d ≡ true → Reads (Word d.name then Mark 58 then IsType d.of_type then Opt IsDefault d.default) (input_text d)
unfolding input_is_written
input d is =
    let first = and_parts (is_name d.name) (is_name (innermost d.of_type) && default_is_constant d.default) is in
    let second = and_parts (is_name (innermost d.of_type)) (default_is_constant d.default) first.1 in
    both (word d.name first.0) (behind_colon (both (type_reads d.of_type second.0) (default d.default second.1) (follow_default d.default)))
    (follows 58 colon_stops)

argument : (d : InputDeclaration) → input_is_written d ≡ true → Reads (IsInput d) (argument_text d)
unfolding is_blank
argument d is = described 32 [] refl space_stops d.description (input d is)

further_argument : (d : InputDeclaration) → input_is_written d ≡ true → Reads (IsInput d) (codes ", " ++ argument_text d)
unfolding is_blank
further_argument d is = blank 44 refl (spaced (argument d is))

arguments : (ds : List InputDeclaration) → list_all input_is_written ds ≡ true → Reads (Arguments ds) (arguments_text ds)
unfolding is_mark mark_text
arguments [] all = always nothing
arguments (d ∷ ds) all =
    let parts = and_parts (input_is_written d) (list_all input_is_written ds) all in
    let text : InputDeclaration → List ℕ = λ x. codes ", " ++ argument_text x in
    let ends : (x : InputDeclaration) → Follows (text x) = λ x. follows 44 comma_stops in
    let others : Reads (Each IsInput ds) (flat_map text ds) = each IsInput text input_is_written ds parts.1 ends further_argument in
    before (mark 40 refl refl) (both (both (argument d parts.0) others (follow_each text ds ends)) (always (mark 41 refl refl)) (follows 41 close_stops))

follow_arguments : (ds : List InputDeclaration) → Follows (arguments_text ds)
follow_arguments [] = follows_nothing
follow_arguments (d ∷ ds) = follows 40 open_stops

field : (f : FieldDeclaration) → field_is_written f ≡ true → Reads (IsField f) (field_text f)
unfolding field_is_written
field f is =
    let first = and_parts (is_name f.name) (is_name (innermost f.of_type) && list_all input_is_written f.arguments) is in
    let second = and_parts (is_name (innermost f.of_type)) (list_all input_is_written f.arguments) first.1 in
    let typed = behind_colon (both (type_reads f.of_type second.0) (deprecation f.deprecation) (follow_deprecation f.deprecation)) in
    member f.description (both (word f.name first.0) (both (arguments f.arguments second.1) typed (follows 58 colon_stops))
    (follow_both (follow_arguments f.arguments) (follows 58 colon_stops)))

value : (v : EnumValue) → value_is_written v ≡ true → Reads (IsValue v) (value_text v)
unfolding value_is_written
value v is = member v.description (both (enum_reads v.name is) (deprecation v.deprecation) (follow_deprecation v.deprecation))

input_field : (d : InputDeclaration) → input_is_written d ≡ true → Reads (IsInput d) (input_field_text d)
input_field d is = member d.description (input d is)

follow_member : (d : Option Text) (text : Text) → Follows (member_text d text)
follow_member d text = follows 32 space_stops

-- ## Members in braces

some : {A : Type 0} (R : A → Part) (xs : List A) → is_some_list xs ≡ true → {bytes : List ℕ} → Reads (Each R xs) bytes → Reads (OneOrMore R xs) bytes
unfolding is_some_list
some R [] is reads = absurd (false≢true is)
some R (x ∷ xs) is reads = reads

block : {A : Type 0} (R : A → Part) (f : A → Text) (test : A → Bool) (xs : List A) → is_some_list xs ≡ true → list_all test xs ≡ true →
    ((x : A) → Follows (f x)) → ((x : A) → test x ≡ true → Reads (R x) (f x)) → Reads (Block R xs) (block_text (flat_map f xs))
unfolding is_mark mark_text
block R f test xs is all ends reads =
    let members = some R xs is (each R f test xs all ends reads) in
    spaced (before (mark 123 refl refl) (below (both members (in_line (always (mark 125 refl refl))) (follows 125 brace_stops))))

-- ## Fields that are listed

listed_texts : (fs : List FieldDeclaration) → flat_map listed_field fs ≡ flat_map field_text (listed_fields fs)
unfolding is_listed
listed_texts [] = refl
listed_texts (f ∷ fs) = elim (cases_Bool (is_reserved f.name)) [
  | inl e ↦ rw e (listed_texts fs)
  | inr e ↦ rw e (ap (λ t. field_text f ++ t) (listed_texts fs))
]

listed_are_written : (fs : List FieldDeclaration) → list_all listed_is_written fs ≡ true → list_all field_is_written (listed_fields fs) ≡ true
unfolding listed_is_written
listed_are_written [] all = refl
listed_are_written (f ∷ fs) all =
    let parts = and_parts (not (is_listed f) || field_is_written f) (list_all listed_is_written fs) all in
    elim (cases_Bool (is_listed f)) [
      | inl e ↦ let is : field_is_written f ≡ true = sym (ap (λ b. not b || field_is_written f) e) ∙ parts.0 in rw (e, is) (listed_are_written fs parts.1)
      | inr e ↦ rw e (listed_are_written fs parts.1)
    ]

some_listed : (fs : List FieldDeclaration) → list_any is_listed fs ≡ true → is_some_list (listed_fields fs) ≡ true
unfolding is_some_list
some_listed [] any = absurd (false≢true any)
some_listed (f ∷ fs) any = elim (cases_Bool (is_listed f)) [
  | inl e ↦ rw e refl
  | inr e ↦ let later : list_any is_listed fs ≡ true = sym (ap (λ b. b || list_any is_listed fs) e) ∙ any in rw e (some_listed fs later)
]

fields : (fs : List FieldDeclaration) → list_any is_listed fs ≡ true → list_all listed_is_written fs ≡ true →
    Reads (Block IsField (listed_fields fs)) (block_text (flat_map listed_field fs))
fields fs any all =
    subst (λ t. Reads (Block IsField (listed_fields fs)) (block_text t)) (sym (listed_texts fs))
    (block IsField field_text field_is_written (listed_fields fs) (some_listed fs any) (listed_are_written fs all) (λ f. follow_member f.description _) field)

-- ## Names between marks

separated : (m : ℕ) → m ∷ [] ≡ mark_text m → is_mark m ≡ true → (n : Name) (ns : List Name) → list_all is_name (n ∷ ns) ≡ true →
    Reads (Separated m (n ∷ ns)) (join_by (λ k. k) (32 ∷ m ∷ 32 ∷ []) (n ∷ ns))
separated m plain is n ns all =
    let parts = and_parts (is_name n) (list_all is_name ns) all in
    let text : Name → List ℕ = λ k. 32 ∷ m ∷ 32 ∷ k in
    let ends : (k : Name) → Follows (text k) = λ k. follows 32 space_stops in
    both (word n parts.0) (each (λ k. Mark m then Word k) text is_name ns parts.1 ends (λ k e. spaced (before (mark m plain is) (spaced (word k e)))))
    (follow_each text ns ends)

implements : (is : List Name) → list_all is_name is ≡ true → Reads (Implements is) (implements_text is)
unfolding is_mark mark_text is_name starts_name continues_name
implements [] all = always nothing
implements (i ∷ is) all = spaced (both (word (codes "implements") refl) (spaced (separated 38 refl refl i is all)) (follows 32 space_stops))

follow_implements : (is : List Name) → Follows (implements_text is)
follow_implements [] = follows_nothing
follow_implements (i ∷ is) = follows 32 space_stops

members : (ms : List Name) → is_some_list ms ≡ true → list_all is_name ms ≡ true → Reads (Separated 124 ms) (join_by (λ m. m) (codes " | ") ms)
unfolding is_some_list is_mark mark_text
members [] is all = absurd (false≢true is)
members (m ∷ ms) is all = separated 124 refl refl m ms all

-- ## Definitions

-- a word, a name and what is behind them
headed : (w : Text) → is_name w ≡ true → (n : Name) → is_name n ≡ true → {P : Part} {bytes : List ℕ} → Reads P bytes → Follows bytes →
    Reads (Word w then Word n then P) (w ++ 32 ∷ (n ++ bytes))
headed w w_is n n_is reads ends = both (word w w_is) (spaced (both (word n n_is) reads ends)) (follows 32 space_stops)

composite : (fs : List FieldDeclaration) (is : List Name) → list_any is_listed fs ≡ true → (list_all listed_is_written fs && list_all is_name is) ≡ true →
    Reads (Implements is then Block IsField (listed_fields fs)) (implements_text is ++ block_text (flat_map listed_field fs))
composite fs is some all =
    let parts = and_parts (list_all listed_is_written fs) (list_all is_name is) all in
    both (implements is parts.1) (fields fs some parts.0) (follows 32 space_stops)

follow_composite : (fs : List FieldDeclaration) (is : List Name) → Follows (implements_text is ++ block_text (flat_map listed_field fs))
follow_composite fs is = follow_both (follow_implements is) (follows 32 space_stops)

pub definition : (n : Name) (x : Shape) → is_name n ≡ true → has_parts x ≡ true → names_are_written x ≡ true → Reads (IsDefinition n x) (definition_text n x)
unfolding has_parts names_are_written is_name starts_name continues_name is_mark mark_text
definition n (scalar_type k url) is parts names =
    headed (codes "scalar") refl n is (in_line (specified url)) (follow_both (follow_specified url) (follows 10 line_stops))
definition n (enum_type vs) is parts names =
    headed (codes "enum") refl n is (block IsValue value_text value_is_written vs parts names (λ v. follow_member v.description _) value)
    (follows 32 space_stops)
definition n (object_type fs is') is parts names = headed (codes "type") refl n is (composite fs is' parts names) (follow_composite fs is')
definition n (interface_type fs is') is parts names = headed (codes "interface") refl n is (composite fs is' parts names) (follow_composite fs is')
definition n (union_type ms) is parts names =
    headed (codes "union") refl n is (spaced (before (mark 61 refl refl) (spaced (in_line (members ms parts names))))) (follows 32 space_stops)
definition n (input_object_type ds) is parts names =
    headed (codes "input") refl n is (block IsInput input_field_text input_is_written ds parts names (λ d. follow_member d.description _) input_field)
    (follows 32 space_stops)
definition n (list_type size t) is parts names = absurd (false≢true parts)
definition n (nullable_type t) is parts names = absurd (false≢true parts)
definition n placeholder is parts names = absurd (false≢true parts)

-- behind a blank line and its description
pub type_definition : (n : Name) (d : Option Text) (x : Shape) → is_name n ≡ true → has_parts x ≡ true → names_are_written x ≡ true →
    Reads (IsTypeDefinition n d x) (codes "\n" ++ (description_text (codes "\n") d ++ definition_text n x))
unfolding is_blank
type_definition n d x is parts names = below (described 10 [] refl line_stops d (definition n x is parts names))
