use Rattle.std.proofs.Common.{◌≡◌, ◌-◌, map, length}
use Rattle.juniper_language.specs.Readers as read
use Rattle.juniper_language.specs.Reading.{directive}
use Rattle.juniper_syntax.specs.DocumentView.{view_directive}
use Rattle.juniper_language.proofs.directives.directives.Given as goal

abbrev pub invariant-loop-turn : goal.invariant-loop-turn
invariant-loop-turn g l =
    read.prepend (map (view_directive g.S.ScalarValue.shown) l.found.items) (read.while_sees 64 (directive l.constant l.depth) (l._turn-end - l._turn) l.parser)
    ≡ read.while_sees 64 (directive l.constant l.depth) (length l.fn.parser.ahead) l.fn.parser
