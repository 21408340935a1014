use Rattle.std.proofs.Common.{◌≡◌, ◌+◌, ◌*◌, ◌-◌, map, length}
use Rattle.juniper_language.specs.Readers as read
use Rattle.juniper_language.specs.Reading as rule
use Rattle.juniper_syntax.specs.DocumentView.{put_selection, chain}
use Rattle.juniper_language.proofs.selections.+selections.Given as goal

abbrev pub decreases-selection_set : goal.decreases-selection_set
decreases-selection_set g l = 6 * l.depth

abbrev pub decreases-optional_set : goal.decreases-optional_set
decreases-optional_set g l = 6 * l.depth + 1

abbrev pub decreases-inline_fragment : goal.decreases-inline_fragment
decreases-inline_fragment g l = 6 * l.depth + 2

abbrev pub decreases-field : goal.decreases-field
decreases-field g l = 6 * l.depth + 3

abbrev pub decreases-fragment : goal.decreases-fragment
decreases-fragment g l = 6 * l.depth + 3

abbrev pub decreases-selection : goal.decreases-selection
decreases-selection g l = 6 * l.depth + 4

abbrev pub decreases-selections : goal.decreases-selections
decreases-selections g l = 6 * l.depth + 5

abbrev pub invariant-selections-loop-turn : goal.invariant-selections-loop-turn
invariant-selections-loop-turn g l =
    rule.put_first (chain (map (put_selection g.S.ScalarValue.shown) l.found.items))
    (read.until 125 (rule.selection l.depth (rule.inside_of l.depth)) (l._turn-end - l._turn) l.parser)
    ≡ read.and_then (read.until 125 (rule.selection l.depth (rule.inside_of l.depth)) (length l.fn.parser.ahead) l.fn.parser)
    (λ xs. read.pure (rule.selections_of xs))
