-- a worked row: a text with an alias and a directive, and the document that it spells
use Rattle.std.specs.Prelude.{false, true, codes, List, [], ◌∷◌, ◌≢◌, None, Some}
use Rattle.std.proofs.Common.{refl, inl}
use Rattle.graphql_spec.specs.Shown.{boolean}
use Rattle.graphql_spec.specs.Positions.{Position, beginning, next_line, continues_character, past_byte, walk}
use Rattle.graphql_spec.specs.Inputs.{scalar}
use Rattle.graphql_spec.specs.Documents.{Argument, Directive, Head, query, Document, operation, field, end}
use Rattle.graphql_spec.specs.Tokens.{Token, mark, name, IsText, starts_name, continues_name, is_name, ends_before, is_mark, mark_text, is_nil, is_blank}
use Rattle.graphql_spec.specs.Tokens.{is_line_end, is_source_byte, ignore_byte, is_ignored}
use Rattle.graphql_spec.specs.Grammar.{At, IsArgument, IsDirective, IsField, AreSelections, Spells, IsDerived, begin_of, span_of, boolean_word, is_end}
use Rattle.graphql_spec.proofs.Demo.{at, span, word}

-- { a: id @skip(if: true) }
abbrev the_argument : Argument
the_argument = record { name = word (codes "if") 14; value = record { item = scalar (boolean true); span = span 18 22 } }

abbrev the_directive : Directive
the_directive = record { name = word (codes "skip") 9; arguments = Some (record { item = the_argument ∷ []; span = span 13 23 }); span = span 8 23 }

abbrev the_field : Head
the_field = record {
  alias = Some (word (codes "a") 2);
  name = word (codes "id") 5;
  arguments = None;
  directives = the_directive ∷ [];
  has_set = false;
  span = span 2 23;
}

document : Document
document = operation (record { kind = query; name = None; variables = None; directives = []; selections = field the_field end end; span = span 0 25 }) ∷ []

-- the tokens from each one on
abbrev from12 : List Token
from12 = []

abbrev from11 : List Token
from11 = record { lexeme = mark 125; span = span 24 25 } ∷ from12

abbrev from10 : List Token
from10 = record { lexeme = mark 41; span = span 22 23 } ∷ from11

abbrev from9 : List Token
from9 = record { lexeme = name (codes "true"); span = span 18 22 } ∷ from10

abbrev from8 : List Token
from8 = record { lexeme = mark 58; span = span 16 17 } ∷ from9

abbrev from7 : List Token
from7 = record { lexeme = name (codes "if"); span = span 14 16 } ∷ from8

abbrev from6 : List Token
from6 = record { lexeme = mark 40; span = span 13 14 } ∷ from7

abbrev from5 : List Token
from5 = record { lexeme = name (codes "skip"); span = span 9 13 } ∷ from6

abbrev from4 : List Token
from4 = record { lexeme = mark 64; span = span 8 9 } ∷ from5

abbrev from3 : List Token
from3 = record { lexeme = name (codes "id"); span = span 5 7 } ∷ from4

abbrev from2 : List Token
from2 = record { lexeme = mark 58; span = span 3 4 } ∷ from3

abbrev from1 : List Token
from1 = record { lexeme = name (codes "a"); span = span 2 3 } ∷ from2

abbrev from0 : List Token
from0 = record { lexeme = mark 123; span = span 0 1 } ∷ from1

-- where a reader stands that took the tokens before
abbrev standing : Position → List Token → At
standing p ts = record { last = p; ahead = ts }

abbrev at1 : At
at1 = standing (at 1) from1

abbrev at2 : At
at2 = standing (at 3) from2

abbrev at3 : At
at3 = standing (at 4) from3

abbrev at4 : At
at4 = standing (at 7) from4

abbrev at5 : At
at5 = standing (at 9) from5

abbrev at6 : At
at6 = standing (at 13) from6

abbrev at7 : At
at7 = standing (at 14) from7

abbrev at8 : At
at8 = standing (at 16) from8

abbrev at9 : At
at9 = standing (at 17) from9

abbrev at10 : At
at10 = standing (at 22) from10

abbrev at11 : At
at11 = standing (at 23) from11

abbrev at12 : At
at12 = standing (at 25) from12

is_text : IsText beginning from0 (codes "{ a: id @skip(if: true) }")
unfolding starts_name continues_name is_name ends_before is_mark mark_text is_nil is_blank is_line_end is_source_byte ignore_byte is_ignored next_line
    continues_character past_byte walk
is_text = (
  [],
  codes "{",
  codes " a: id @skip(if: true) }",
  refl,
  refl,
  (refl, refl),
  refl,
  refl,
  (
    codes " ",
    codes "a",
    codes ": id @skip(if: true) }",
    refl,
    refl,
    (refl, refl, refl),
    refl,
    refl,
    (
      [],
      codes ":",
      codes " id @skip(if: true) }",
      refl,
      refl,
      (refl, refl),
      refl,
      refl,
      (
        codes " ",
        codes "id",
        codes " @skip(if: true) }",
        refl,
        refl,
        (refl, refl, refl),
        refl,
        refl,
        (
          codes " ",
          codes "@",
          codes "skip(if: true) }",
          refl,
          refl,
          (refl, refl),
          refl,
          refl,
          (
            [],
            codes "skip",
            codes "(if: true) }",
            refl,
            refl,
            (refl, refl, refl),
            refl,
            refl,
            (
              [],
              codes "(",
              codes "if: true) }",
              refl,
              refl,
              (refl, refl),
              refl,
              refl,
              (
                [],
                codes "if",
                codes ": true) }",
                refl,
                refl,
                (refl, refl, refl),
                refl,
                refl,
                (
                  [],
                  codes ":",
                  codes " true) }",
                  refl,
                  refl,
                  (refl, refl),
                  refl,
                  refl,
                  (
                    codes " ",
                    codes "true",
                    codes ") }",
                    refl,
                    refl,
                    (refl, refl, refl),
                    refl,
                    refl,
                    ([], codes ")", codes " }", refl, refl, (refl, refl), refl, refl, (codes " ", codes "}", [], refl, refl, (refl, refl), refl, refl, refl)),
                  ),
                ),
              ),
            ),
          ),
        ),
      ),
    ),
  ),
)

some_document : document ≢ []
unfolding document
some_document e = cc

-- below 2 of the 256 brackets
is_argument : IsArgument false 254 the_argument at7 at10
unfolding begin_of span_of boolean_word
is_argument = (
  at8,
  at9,
  record { token = refl; last = refl },
  (span 16 17, record { token = refl; last = refl }),
  (span 18 22, record { token = refl; last = refl }),
  refl,
)

is_directive : IsDirective false 255 the_directive at4 at11
unfolding begin_of span_of
is_directive = (
  at5,
  at6,
  (span 8 9, record { token = refl; last = refl }),
  record { token = refl; last = refl },
  ((at7, at10, (span 13 14, record { token = refl; last = refl }), (at10, is_argument, refl), (span 22 23, record { token = refl; last = refl })), refl),
  refl,
)

is_field : IsField the_field end (AreSelections end) 255 at1 at11
unfolding begin_of span_of
is_field = (
  at3,
  at4,
  at4,
  at11,
  (at2, record { token = refl; last = refl }, (span 3 4, record { token = refl; last = refl })),
  record { token = refl; last = refl },
  refl,
  (at11, is_directive, refl),
  (refl, refl),
  refl,
)

is_derived : IsDerived from0 document
unfolding document begin_of span_of is_end
is_derived = (
  some_document,
  at12,
  (
    at12,
    (
      inl (
        refl,
        refl,
        refl,
        refl,
        (refl, at1, at11, (span 0 1, record { token = refl; last = refl }), (at11, is_field, refl), (span 24 25, record { token = refl; last = refl })),
      ),
      refl,
    ),
    refl,
  ),
  refl,
)

spells : Spells (codes "{ a: id @skip(if: true) }") document
spells = (from0, is_text, is_derived)
