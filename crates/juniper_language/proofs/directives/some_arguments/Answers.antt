use Rattle.std.proofs.Common.{◌∙◌, length, map}
use Rattle.juniper_syntax.specs.DocumentView.{view_argument}
use Rattle.juniper_language.specs.Readers.{until}
use Rattle.juniper_language.specs.Reading.{argument}
use Rattle.juniper_language.proofs.Loops.{part_on, map_pushed, some_refused, some_begun, until_begun, until_closed, until_open}
use Rattle.juniper_language.proofs.directives.some_arguments.Goals as goal

pub loop-turn-preserved : goal.loop-turn-preserved
loop-turn-preserved g c =
    let view = view_argument g.S.ScalarValue.shown in
    let x = c.in_ok-argument.field-0 in
    let found = c.loop-turn.found.items in
    part_on 41 (argument c.args.constant c.args.depth) c.left-turn-end.result c.loop-turn._turn (map view found) (map view c.push.new.self.items)
    (view x) c.loop-turn.parser c.argument.new.parser (until 41 (argument c.args.constant c.args.depth) (length c.args.parser.now.ahead) c.args.parser.now)
    c.loop-turn-test.true c.if-sees-2.ensures c.in_ok-argument.ensures
    (map_pushed view found c.push.new.self.items x c.in_ok-push.ensures.items) c.loop-turn.invariant

pub returns-then-sees : goal.returns-then-sees
returns-then-sees g c known = some_refused 41 (argument c.args.constant c.args.depth) c.args.parser.now c.if-sees.ensures

pub loop-turn-init : goal.loop-turn-init
loop-turn-init g c =
    until_begun 41 (argument c.args.constant c.args.depth) (view_argument g.S.ScalarValue.shown) c.in_ok-found.found.items c.left-turn-end.result
    c.args.parser.now c.in_ok-found.ensures.items c.left-turn-end.ensures

pub returns-then-sees-2 : goal.returns-then-sees-2
returns-then-sees-2 g c =
    let read = argument c.args.constant c.args.depth in
    some_begun 41 read c.args.parser.now c.if-sees.ensures
    ∙ until_closed 41 read c.left-turn-end.result c.loop-turn._turn
    (map (view_argument g.S.ScalarValue.shown) c.loop-turn.found.items) c.loop-turn.parser c.next.new.self _ _
    c.loop-turn-test.true c.if-sees-2.ensures c.in_ok-next.ensures c.loop-turn.invariant

pub returns : goal.returns
returns g c known =
    let read = argument c.args.constant c.args.depth in
    some_begun 41 read c.args.parser.now c.if-sees.ensures
    ∙ until_open 41 read c.left-turn-end.result c.loop-turn._turn (map (view_argument g.S.ScalarValue.shown) c.loop-turn.found.items) c.loop-turn.parser _
    c.loop-turn-test.false c.loop-turn.invariant
