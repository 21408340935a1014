use Rattle.std.proofs.Common.{◌≡◌, ◌-◌, map, length}
use Rattle.juniper_language.specs.Readers as read
use Rattle.juniper_language.specs.Reading.{variable_definition}
use Rattle.juniper_syntax.specs.DocumentView.{view_variable}
use Rattle.juniper_language.proofs.definitions.some_variables.Given as goal

abbrev pub invariant-loop-turn : goal.invariant-loop-turn
invariant-loop-turn g l =
    read.prepend (map (view_variable g.S.ScalarValue.shown) l.found.items) (read.until 41 (variable_definition l.depth) (l._turn-end - l._turn) l.parser)
    ≡ read.until 41 (variable_definition l.depth) (length l.fn.parser.ahead) l.fn.parser
