-- What notes on a type say (3.3 to 3.10, 3.13.3).
use Rattle.std.specs.Prelude.{◌&&◌, cond, List, [], ◌∷◌, Option, Some, None}
use Rattle.std.specs.Option.{option_or}
use Rattle.std.specs.Str.{bytes_eq}
use Rattle.graphql_spec.specs.Shown.{Name, Text}
use Rattle.graphql_spec.specs.Schema.{Deprecation, current, deprecated}
use Rattle.juniper_words.specs.declared.notes.Note.{Note}
use Rattle.juniper_words.specs.declared.notes.Note.TheVariants as note
use Rattle.juniper_words.specs.declared.notes.Subject.{Subject}
use Rattle.juniper_words.specs.declared.notes.Subject.TheVariants as subject

-- the description that a note gives the type
abbrev pub type_text : Note → Option Text
type_text (note.About t) = Some t.now
type_text (note.AboutPart n t) = None
type_text (note.AboutArgument f n t) = None
type_text (note.Deprecated n t) = None

-- the description that a note gives the field or value of this name
abbrev pub part_text : Name → Note → Option Text
part_text k (note.About t) = None
part_text k (note.AboutPart n t) = cond (bytes_eq n.now k) (Some t.now) None
part_text k (note.AboutArgument f n t) = None
part_text k (note.Deprecated n t) = None

-- the description that a note gives the argument of this name (the second) of this field (3.6.1)
abbrev pub argument_text : Name → Name → Note → Option Text
argument_text f k (note.About t) = None
argument_text f k (note.AboutPart n t) = None
argument_text f k (note.AboutArgument of n t) = cond (bytes_eq of.now f && bytes_eq n.now k) (Some t.now) None
argument_text f k (note.Deprecated n t) = None

-- why a note deprecates the field or value of this name (3.13.3)
abbrev pub reason : Name → Note → Option Text
reason k (note.About t) = None
reason k (note.AboutPart n t) = None
reason k (note.AboutArgument f n t) = None
reason k (note.Deprecated n t) = cond (bytes_eq n.now k) (Some t.now) None

-- what a note says of what is asked for
abbrev pub said : Subject → Note → Option Text
said subject.Type = type_text
said (subject.Part k) = part_text k.now
said (subject.Argument f k) = argument_text f.now k.now
said (subject.Reason k) = reason k.now

-- what the first of the notes says that says something
abbrev pub noted : (Note → Option Text) → List Note → Option Text
noted says [] = None
noted says (n ∷ ns) = option_or (says n) (noted says ns)

-- deprecated for this reason, where there is one
abbrev pub deprecation : Option Text → Deprecation
deprecation None = current
deprecation (Some r) = deprecated (Some r)
