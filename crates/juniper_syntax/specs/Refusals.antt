-- What an error of the parser says.
use Rattle.std.specs.Prelude.{codes, ◌++◌, string_bytes}
use Rattle.graphql_spec.specs.Shown.{Text}
use Rattle.juniper_syntax.specs.declared.error.LexerError.{LexerError}
use Rattle.juniper_syntax.specs.declared.error.LexerError.TheVariants as lexer
use Rattle.juniper_syntax.specs.declared.error.ParseError.{ParseError}
use Rattle.juniper_syntax.specs.declared.error.ParseError.TheVariants as parser

-- what no token begins with or goes on with
pub data Fault : Type 0 where
  unknown_escape : Text → Fault
  unterminated_string : Fault
  unknown_character : Fault
  invalid_number : Fault

pub data Refusal : Type 0 where
  lexical : Fault → Refusal
  unexpected_token : Refusal
  unexpected_end : Refusal
  float_literal : Refusal
  block_string : Refusal
  too_deep : Refusal
  out_of_memory : Refusal

abbrev pub view_fault : LexerError → Fault
view_fault (lexer.UnknownEscapeSequence s) = unknown_escape (string_bytes s)
view_fault lexer.UnterminatedString = unterminated_string
view_fault lexer.UnknownCharacter = unknown_character
view_fault lexer.InvalidNumber = invalid_number

abbrev pub view_refusal : ParseError → Refusal
view_refusal (parser.LexerError e) = lexical (view_fault e)
view_refusal parser.UnexpectedToken = unexpected_token
view_refusal parser.UnexpectedEndOfFile = unexpected_end
view_refusal parser.FloatLiteral = float_literal
view_refusal parser.BlockString = block_string
view_refusal parser.TooDeep = too_deep
view_refusal parser.Memory = out_of_memory

-- the texts that are shown
abbrev pub fault_text : Fault → Text
fault_text (unknown_escape s) = codes "Unknown escape sequence \"" ++ s ++ codes "\" in string"
fault_text unterminated_string = codes "Unterminated string literal"
fault_text unknown_character = codes "Unknown character"
fault_text invalid_number = codes "Invalid number literal"

abbrev pub refusal_text : Refusal → Text
refusal_text (lexical f) = fault_text f
refusal_text unexpected_token = codes "Unexpected token"
refusal_text unexpected_end = codes "Unexpected end of input"
refusal_text float_literal = codes "Float literals are not supported"
refusal_text block_string = codes "Block strings are not supported"
refusal_text too_deep = codes "Brackets are nested too deeply"
refusal_text out_of_memory = codes "Out of memory"
