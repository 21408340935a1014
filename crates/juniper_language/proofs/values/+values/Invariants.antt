use Rattle.std.proofs.Common.{◌≡◌, ◌+◌, ◌*◌, ◌-◌, map, length}
use Rattle.juniper_language.specs.Readers as read
use Rattle.juniper_language.specs.Reading.{value, argument}
use Rattle.juniper_language.specs.ParserViews.{view_member}
use Rattle.juniper_syntax.specs.InputView.{view_input}
use Rattle.juniper_syntax.specs.Positions.{view_spanning}
use Rattle.juniper_language.proofs.values.+values.Given as goal

abbrev pub decreases-bracketed : goal.decreases-bracketed
decreases-bracketed g l = 5 * l.depth

abbrev pub decreases-value : goal.decreases-value
decreases-value g l = 5 * l.depth + 1

abbrev pub decreases-placed_value : goal.decreases-placed_value
decreases-placed_value g l = 5 * l.depth + 2

abbrev pub decreases-argument : goal.decreases-argument
decreases-argument g l = 5 * l.depth + 3

abbrev pub decreases-items : goal.decreases-items
decreases-items g l = 5 * l.depth + 4

abbrev pub decreases-fields : goal.decreases-fields
decreases-fields g l = 5 * l.depth + 4

abbrev pub invariant-items-loop-turn : goal.invariant-items-loop-turn
invariant-items-loop-turn g l =
    read.prepend (map (view_spanning (view_input g.S.ScalarValue.shown)) l.found.items)
    (read.until 93 (read.spanned (value l.constant l.depth)) (l._turn-end - l._turn) l.parser)
    ≡ read.until 93 (read.spanned (value l.constant l.depth)) (length l.fn.parser.ahead) l.fn.parser

abbrev pub invariant-fields-loop-turn : goal.invariant-fields-loop-turn
invariant-fields-loop-turn g l =
    read.prepend (map (view_member g.S.ScalarValue.shown) l.found.items) (read.until 125 (argument l.constant l.depth) (l._turn-end - l._turn) l.parser)
    ≡ read.until 125 (argument l.constant l.depth) (length l.fn.parser.ahead) l.fn.parser
