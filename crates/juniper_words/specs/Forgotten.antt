-- Fields that are declared, and that a resolver does not answer (3.6, 6.4.2).
use Rattle.std.specs.Prelude.{Bool, true, false, not, List, [], ◌∷◌, ◌++◌, map, codes, Result, Ok, Err, string_bytes}
use Rattle.std.specs.Str.{bytes_eq}
use Rattle.graphql_spec.specs.Shown.{Name, Text}
use Rattle.graphql_spec.specs.Resolvers.{Reply}
use Rattle.juniper_words.specs.declared.data.DeclaredType.{DeclaredType}
use Rattle.juniper_words.specs.declared.data.DeclaredType.TheVariants as kind
use Rattle.juniper_conversions.specs.declared.field_error.ResolveError.{ResolveError}
use Rattle.juniper_conversions.specs.declared.field_error.ResolveError.TheVariants.{Field, Memory}
use Rattle.juniper_values.specs.Answered.{fails_with}
use Rattle.juniper_words.specs.declared.forgotten.FieldOf.{FieldOf}

-- the message of a field that no arm answers
abbrev pub unanswered_text : Text
unanswered_text = codes "No resolver answers the field"

-- the reply to a field that no arm answers
abbrev pub unanswered_reply : {N : Type 0} → Reply N
unanswered_reply = fails_with unanswered_text

-- it is another answer than that, and memory was not refused
abbrev pub is_answered : {A S : Type 0} → Result A (ResolveError S) → Bool
is_answered (Ok x) = true
is_answered (Err (Field e)) = not (bytes_eq (string_bytes e.message) unanswered_text)
is_answered (Err Memory) = false

-- a field, by the name of its type and its own
abbrev pub view_field_of : FieldOf → Name × Name
view_field_of f = (f.type_name.now, f.field_name.now)

-- the fields that a type declares, if it is an object (3.6)
abbrev pub fields_in : DeclaredType → List (Name × Name)
fields_in (kind.Scalar n ks url) = []
fields_in (kind.Object n is fs) = map (λ f. (n.now, f.0.now)) fs.now
fields_in (kind.Interface n fs) = []
fields_in (kind.SubInterface n is fs) = []
fields_in (kind.Union n ms) = []
fields_in (kind.Enum n vs) = []
fields_in (kind.InputObject n is) = []
fields_in (kind.Noted' p d ns) = fields_in d

-- the fields of all objects, in order
abbrev pub object_fields : List DeclaredType → List (Name × Name)
object_fields [] = []
object_fields (d ∷ ds) = fields_in d ++ object_fields ds
