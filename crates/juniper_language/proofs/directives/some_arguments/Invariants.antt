use Rattle.std.proofs.Common.{◌≡◌, ◌-◌, map, length}
use Rattle.juniper_language.specs.Readers as read
use Rattle.juniper_language.specs.Reading.{argument}
use Rattle.juniper_syntax.specs.DocumentView.{view_argument}
use Rattle.juniper_language.proofs.directives.some_arguments.Given as goal

abbrev pub invariant-loop-turn : goal.invariant-loop-turn
invariant-loop-turn g l =
    read.prepend (map (view_argument g.S.ScalarValue.shown) l.found.items) (read.until 41 (argument l.constant l.depth) (l._turn-end - l._turn) l.parser)
    ≡ read.until 41 (argument l.constant l.depth) (length l.fn.parser.ahead) l.fn.parser
