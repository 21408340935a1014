-- The document that the text of the demo's stored request spells: { id again: id name @skip(if: true) fail id }
use Rattle.std.specs.Prelude.{◌≢◌, true, false, codes, List, [], ◌∷◌, None, Some}
use Rattle.std.proofs.Common.{refl, inl}
use Rattle.graphql_spec.specs.Shown.{boolean}
use Rattle.graphql_spec.specs.Positions.{Position, beginning, next_line, continues_character, past_byte, walk}
use Rattle.graphql_spec.specs.Inputs.{scalar}
use Rattle.graphql_spec.specs.Documents.{Argument, Directive, Head, query, Document, Operation, operation, Selections, field, end}
use Rattle.graphql_spec.specs.Tokens.{Token, mark, name, IsText, starts_name, continues_name, is_name, ends_before, is_mark, mark_text, is_nil, is_blank}
use Rattle.graphql_spec.specs.Tokens.{is_line_end, is_source_byte, ignore_byte, is_ignored}
use Rattle.graphql_spec.specs.Grammar.{At, IsArgument, IsDirective, IsField, AreSelections, Spells, IsDerived, begin_of, span_of, boolean_word, is_end}
use Rattle.graphql_spec.proofs.Demo.{at, span, word}
use Rattle.juniper_demo.specs.DemoLine.{the_request}

abbrev pub the_argument : Argument
the_argument = record { name = word (codes "if") 26; value = record { item = scalar (boolean true); span = span 30 34 } }

abbrev pub the_directive : Directive
the_directive = record { name = word (codes "skip") 21; arguments = Some (record { item = the_argument ∷ []; span = span 25 35 }); span = span 20 35 }

abbrev pub first_id : Head
first_id = record { alias = None; name = word (codes "id") 2; arguments = None; directives = []; has_set = false; span = span 2 4 }

abbrev pub again : Head
again = record { alias = Some (word (codes "again") 5); name = word (codes "id") 12; arguments = None; directives = []; has_set = false; span = span 5 14 }

abbrev pub skipped : Head
skipped =
    record { alias = None; name = word (codes "name") 15; arguments = None; directives = the_directive ∷ []; has_set = false; span = span 15 35 }

abbrev pub failing : Head
failing = record { alias = None; name = word (codes "fail") 36; arguments = None; directives = []; has_set = false; span = span 36 40 }

abbrev pub last_id : Head
last_id = record { alias = None; name = word (codes "id") 41; arguments = None; directives = []; has_set = false; span = span 41 43 }

abbrev pub the_selections : Selections
the_selections = field first_id end (field again end (field skipped end (field failing end (field last_id end end))))

abbrev pub the_operation : Operation
the_operation = record { kind = query; name = None; variables = None; directives = []; selections = the_selections; span = span 0 45 }

abbrev pub the_document : Document
the_document = operation the_operation ∷ []

-- the tokens from each one on
abbrev from16 : List Token
from16 = []

abbrev from15 : List Token
from15 = record { lexeme = mark 125; span = span 44 45 } ∷ from16

abbrev from14 : List Token
from14 = record { lexeme = name (codes "id"); span = span 41 43 } ∷ from15

abbrev from13 : List Token
from13 = record { lexeme = name (codes "fail"); span = span 36 40 } ∷ from14

abbrev from12 : List Token
from12 = record { lexeme = mark 41; span = span 34 35 } ∷ from13

abbrev from11 : List Token
from11 = record { lexeme = name (codes "true"); span = span 30 34 } ∷ from12

abbrev from10 : List Token
from10 = record { lexeme = mark 58; span = span 28 29 } ∷ from11

abbrev from9 : List Token
from9 = record { lexeme = name (codes "if"); span = span 26 28 } ∷ from10

abbrev from8 : List Token
from8 = record { lexeme = mark 40; span = span 25 26 } ∷ from9

abbrev from7 : List Token
from7 = record { lexeme = name (codes "skip"); span = span 21 25 } ∷ from8

abbrev from6 : List Token
from6 = record { lexeme = mark 64; span = span 20 21 } ∷ from7

abbrev from5 : List Token
from5 = record { lexeme = name (codes "name"); span = span 15 19 } ∷ from6

abbrev from4 : List Token
from4 = record { lexeme = name (codes "id"); span = span 12 14 } ∷ from5

abbrev from3 : List Token
from3 = record { lexeme = mark 58; span = span 10 11 } ∷ from4

abbrev from2 : List Token
from2 = record { lexeme = name (codes "again"); span = span 5 10 } ∷ from3

abbrev from1 : List Token
from1 = record { lexeme = name (codes "id"); span = span 2 4 } ∷ from2

abbrev from0 : List Token
from0 = record { lexeme = mark 123; span = span 0 1 } ∷ from1

-- where a reader stands that took the tokens before
abbrev standing : Position → List Token → At
standing p ts = record { last = p; ahead = ts }

abbrev at1 : At
at1 = standing (at 1) from1

abbrev at2 : At
at2 = standing (at 4) from2

abbrev at3 : At
at3 = standing (at 10) from3

abbrev at4 : At
at4 = standing (at 11) from4

abbrev at5 : At
at5 = standing (at 14) from5

abbrev at6 : At
at6 = standing (at 19) from6

abbrev at7 : At
at7 = standing (at 21) from7

abbrev at8 : At
at8 = standing (at 25) from8

abbrev at9 : At
at9 = standing (at 26) from9

abbrev at10 : At
at10 = standing (at 28) from10

abbrev at11 : At
at11 = standing (at 29) from11

abbrev at12 : At
at12 = standing (at 34) from12

abbrev at13 : At
at13 = standing (at 35) from13

abbrev at14 : At
at14 = standing (at 40) from14

abbrev at15 : At
at15 = standing (at 43) from15

abbrev at16 : At
at16 = standing (at 45) from16

text16 : IsText (record { position = at 45; after_return = false }) from16 []
unfolding starts_name continues_name is_name ends_before is_mark mark_text is_nil is_blank is_line_end is_source_byte ignore_byte is_ignored next_line
    continues_character past_byte walk
text16 = refl

text15 : IsText (record { position = at 43; after_return = false }) from15 (codes " }")
unfolding starts_name continues_name is_name ends_before is_mark mark_text is_nil is_blank is_line_end is_source_byte ignore_byte is_ignored next_line
    continues_character past_byte walk
text15 = (codes " ", codes "}", [], refl, refl, (refl, refl), refl, refl, text16)

text14 : IsText (record { position = at 40; after_return = false }) from14 (codes " id }")
unfolding starts_name continues_name is_name ends_before is_mark mark_text is_nil is_blank is_line_end is_source_byte ignore_byte is_ignored next_line
    continues_character past_byte walk
text14 = (codes " ", codes "id", codes " }", refl, refl, (refl, refl, refl), refl, refl, text15)

text13 : IsText (record { position = at 35; after_return = false }) from13 (codes " fail id }")
unfolding starts_name continues_name is_name ends_before is_mark mark_text is_nil is_blank is_line_end is_source_byte ignore_byte is_ignored next_line
    continues_character past_byte walk
text13 = (codes " ", codes "fail", codes " id }", refl, refl, (refl, refl, refl), refl, refl, text14)

text12 : IsText (record { position = at 34; after_return = false }) from12 (codes ") fail id }")
unfolding starts_name continues_name is_name ends_before is_mark mark_text is_nil is_blank is_line_end is_source_byte ignore_byte is_ignored next_line
    continues_character past_byte walk
text12 = ([], codes ")", codes " fail id }", refl, refl, (refl, refl), refl, refl, text13)

text11 : IsText (record { position = at 29; after_return = false }) from11 (codes " true) fail id }")
unfolding starts_name continues_name is_name ends_before is_mark mark_text is_nil is_blank is_line_end is_source_byte ignore_byte is_ignored next_line
    continues_character past_byte walk
text11 = (codes " ", codes "true", codes ") fail id }", refl, refl, (refl, refl, refl), refl, refl, text12)

text10 : IsText (record { position = at 28; after_return = false }) from10 (codes ": true) fail id }")
unfolding starts_name continues_name is_name ends_before is_mark mark_text is_nil is_blank is_line_end is_source_byte ignore_byte is_ignored next_line
    continues_character past_byte walk
text10 = ([], codes ":", codes " true) fail id }", refl, refl, (refl, refl), refl, refl, text11)

text9 : IsText (record { position = at 26; after_return = false }) from9 (codes "if: true) fail id }")
unfolding starts_name continues_name is_name ends_before is_mark mark_text is_nil is_blank is_line_end is_source_byte ignore_byte is_ignored next_line
    continues_character past_byte walk
text9 = ([], codes "if", codes ": true) fail id }", refl, refl, (refl, refl, refl), refl, refl, text10)

text8 : IsText (record { position = at 25; after_return = false }) from8 (codes "(if: true) fail id }")
unfolding starts_name continues_name is_name ends_before is_mark mark_text is_nil is_blank is_line_end is_source_byte ignore_byte is_ignored next_line
    continues_character past_byte walk
text8 = ([], codes "(", codes "if: true) fail id }", refl, refl, (refl, refl), refl, refl, text9)

text7 : IsText (record { position = at 21; after_return = false }) from7 (codes "skip(if: true) fail id }")
unfolding starts_name continues_name is_name ends_before is_mark mark_text is_nil is_blank is_line_end is_source_byte ignore_byte is_ignored next_line
    continues_character past_byte walk
text7 = ([], codes "skip", codes "(if: true) fail id }", refl, refl, (refl, refl, refl), refl, refl, text8)

text6 : IsText (record { position = at 19; after_return = false }) from6 (codes " @skip(if: true) fail id }")
unfolding starts_name continues_name is_name ends_before is_mark mark_text is_nil is_blank is_line_end is_source_byte ignore_byte is_ignored next_line
    continues_character past_byte walk
text6 = (codes " ", codes "@", codes "skip(if: true) fail id }", refl, refl, (refl, refl), refl, refl, text7)

text5 : IsText (record { position = at 14; after_return = false }) from5 (codes " name @skip(if: true) fail id }")
unfolding starts_name continues_name is_name ends_before is_mark mark_text is_nil is_blank is_line_end is_source_byte ignore_byte is_ignored next_line
    continues_character past_byte walk
text5 = (codes " ", codes "name", codes " @skip(if: true) fail id }", refl, refl, (refl, refl, refl), refl, refl, text6)

text4 : IsText (record { position = at 11; after_return = false }) from4 (codes " id name @skip(if: true) fail id }")
unfolding starts_name continues_name is_name ends_before is_mark mark_text is_nil is_blank is_line_end is_source_byte ignore_byte is_ignored next_line
    continues_character past_byte walk
text4 = (codes " ", codes "id", codes " name @skip(if: true) fail id }", refl, refl, (refl, refl, refl), refl, refl, text5)

text3 : IsText (record { position = at 10; after_return = false }) from3 (codes ": id name @skip(if: true) fail id }")
unfolding starts_name continues_name is_name ends_before is_mark mark_text is_nil is_blank is_line_end is_source_byte ignore_byte is_ignored next_line
    continues_character past_byte walk
text3 = ([], codes ":", codes " id name @skip(if: true) fail id }", refl, refl, (refl, refl), refl, refl, text4)

text2 : IsText (record { position = at 4; after_return = false }) from2 (codes " again: id name @skip(if: true) fail id }")
unfolding starts_name continues_name is_name ends_before is_mark mark_text is_nil is_blank is_line_end is_source_byte ignore_byte is_ignored next_line
    continues_character past_byte walk
text2 = (codes " ", codes "again", codes ": id name @skip(if: true) fail id }", refl, refl, (refl, refl, refl), refl, refl, text3)

text1 : IsText (record { position = at 1; after_return = false }) from1 (codes " id again: id name @skip(if: true) fail id }")
unfolding starts_name continues_name is_name ends_before is_mark mark_text is_nil is_blank is_line_end is_source_byte ignore_byte is_ignored next_line
    continues_character past_byte walk
text1 = (codes " ", codes "id", codes " again: id name @skip(if: true) fail id }", refl, refl, (refl, refl, refl), refl, refl, text2)

text0 : IsText beginning from0 (codes "{ id again: id name @skip(if: true) fail id }")
unfolding starts_name continues_name is_name ends_before is_mark mark_text is_nil is_blank is_line_end is_source_byte ignore_byte is_ignored next_line
    continues_character past_byte walk
text0 = ([], codes "{", codes " id again: id name @skip(if: true) fail id }", refl, refl, (refl, refl), refl, refl, text1)

some_document : the_document ≢ []
some_document e = cc

-- below 2 of the 256 brackets
is_argument : IsArgument false 254 the_argument at9 at12
unfolding begin_of span_of boolean_word
is_argument = (
  at10,
  at11,
  record { token = refl; last = refl },
  (span 28 29, record { token = refl; last = refl }),
  (span 30 34, record { token = refl; last = refl }),
  refl,
)

is_directive : IsDirective false 255 the_directive at6 at13
unfolding begin_of span_of
is_directive = (
  at7,
  at8,
  (span 20 21, record { token = refl; last = refl }),
  record { token = refl; last = refl },
  ((at9, at12, (span 25 26, record { token = refl; last = refl }), (at12, is_argument, refl), (span 34 35, record { token = refl; last = refl })), refl),
  refl,
)

is_first_id : IsField first_id end (AreSelections end) 255 at1 at2
unfolding begin_of span_of
is_first_id = (at1, at2, at2, at2, refl, record { token = refl; last = refl }, refl, refl, (refl, refl), refl)

is_again : IsField again end (AreSelections end) 255 at2 at5
unfolding begin_of span_of
is_again = (
  at4,
  at5,
  at5,
  at5,
  (at3, record { token = refl; last = refl }, (span 10 11, record { token = refl; last = refl })),
  record { token = refl; last = refl },
  refl,
  refl,
  (refl, refl),
  refl,
)

is_skipped : IsField skipped end (AreSelections end) 255 at5 at13
unfolding begin_of span_of
is_skipped = (at5, at6, at6, at13, refl, record { token = refl; last = refl }, refl, (at13, is_directive, refl), (refl, refl), refl)

is_failing : IsField failing end (AreSelections end) 255 at13 at14
unfolding begin_of span_of
is_failing = (at13, at14, at14, at14, refl, record { token = refl; last = refl }, refl, refl, (refl, refl), refl)

is_last_id : IsField last_id end (AreSelections end) 255 at14 at15
unfolding begin_of span_of
is_last_id = (at14, at15, at15, at15, refl, record { token = refl; last = refl }, refl, refl, (refl, refl), refl)

are_selections : AreSelections the_selections 255 at1 at15
are_selections = (at2, is_first_id, (at5, is_again, (at13, is_skipped, (at14, is_failing, (at15, is_last_id, refl)))))

is_derived : IsDerived from0 the_document
unfolding begin_of span_of is_end
is_derived = (
  some_document,
  at16,
  (
    at16,
    (
      inl (
        refl,
        refl,
        refl,
        refl,
        (refl, at1, at15, (span 0 1, record { token = refl; last = refl }), are_selections, (span 44 45, record { token = refl; last = refl })),
      ),
      refl,
    ),
    refl,
  ),
  refl,
)

pub the_text_spells : Spells the_request the_document
the_text_spells = (from0, text0, is_derived)
