use Rattle.std.proofs.Common.{◌≡◌, ◌-◌, map, length}
use Rattle.juniper_language.specs.Readers as read
use Rattle.juniper_language.specs.Reading.{definitions}
use Rattle.juniper_syntax.specs.DocumentView.{view_definition}
use Rattle.juniper_language.proofs.definitions.document.Given as goal

abbrev pub invariant-loop-turn : goal.invariant-loop-turn
invariant-loop-turn g l =
    read.prepend (map (view_definition g.S.ScalarValue.shown) l.found.items) (definitions (l._turn-end - l._turn) l.parser)
    ≡ definitions (length l.fn.parser.ahead) l.fn.parser
