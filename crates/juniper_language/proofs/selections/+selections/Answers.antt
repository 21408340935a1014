use Rattle.std.proofs.Common.{◌∙◌, length, map}
use Rattle.juniper_syntax.specs.DocumentView.{put_selection, chain}
use Rattle.juniper_language.specs.Readers.{and_then, pure, until}
use Rattle.juniper_language.specs.Reading.{selection, selections_of, inside_of}
use Rattle.juniper_language.proofs.Loops.{turn_on, map_pushed, selections_refused, selections_begun, put_begun, put_closed, put_open}
use Rattle.juniper_language.proofs.selections.+selections.Goals as goal

pub selections-loop-turn-preserved : goal.selections-loop-turn-preserved
selections-loop-turn-preserved g t c =
    let put = put_selection g.S.ScalarValue.shown in
    let x = c.in_ok-selection.field-0 in
    let found = c.loop-turn.found.items in
    turn_on 125 (selection c.args.depth (inside_of c.args.depth)) c.left-turn-end.result c.loop-turn._turn (map put found) (map put c.push.new.self.items)
    (put x) c.loop-turn.parser c.selection.new.parser (and_then (until 125 (selection c.args.depth (inside_of c.args.depth))
    (length c.args.parser.now.ahead) c.args.parser.now) (λ xs. pure (selections_of xs)))
    c.loop-turn-test.true c.if-sees-2.ensures c.in_ok-selection.ensures
    (map_pushed put found c.push.new.self.items x c.in_ok-push.ensures.items) c.loop-turn.invariant

pub selections-returns-then-sees : goal.selections-returns-then-sees
selections-returns-then-sees g t c known = selections_refused c.args.depth c.args.parser.now c.if-sees.ensures

pub selections-loop-turn-init : goal.selections-loop-turn-init
selections-loop-turn-init g t c =
    put_begun 125 (selection c.args.depth (inside_of c.args.depth))
    (put_selection g.S.ScalarValue.shown) c.in_ok-found.found.items c.left-turn-end.result c.args.parser.now c.in_ok-found.ensures.items
    c.left-turn-end.ensures

pub selections-returns-then-sees-2 : goal.selections-returns-then-sees-2
selections-returns-then-sees-2 g t c =
    selections_begun c.args.depth c.args.parser.now c.if-sees.ensures
    ∙ put_closed 125 (selection c.args.depth (inside_of c.args.depth)) c.left-turn-end.result c.loop-turn._turn
    (chain (map (put_selection g.S.ScalarValue.shown) c.loop-turn.found.items)) c.loop-turn.parser c.next.new.self _ _
    c.loop-turn-test.true c.if-sees-2.ensures c.in_ok-next.ensures c.loop-turn.invariant

pub selections-returns : goal.selections-returns
selections-returns g t c known =
    selections_begun c.args.depth c.args.parser.now c.if-sees.ensures
    ∙ put_open 125 (selection c.args.depth (inside_of c.args.depth)) c.left-turn-end.result c.loop-turn._turn
    (chain (map (put_selection g.S.ScalarValue.shown) c.loop-turn.found.items)) c.loop-turn.parser _ c.loop-turn-test.false c.loop-turn.invariant
