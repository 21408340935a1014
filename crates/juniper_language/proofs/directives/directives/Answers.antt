use Rattle.std.proofs.Common.{length, map}
use Rattle.juniper_syntax.specs.DocumentView.{view_directive}
use Rattle.juniper_language.specs.Readers.{while_sees}
use Rattle.juniper_language.specs.Reading.{directive}
use Rattle.juniper_language.proofs.Loops.{part_after, map_pushed}
use Rattle.juniper_language.proofs.directives.directives.Goals as goal

pub loop-turn-preserved : goal.loop-turn-preserved
loop-turn-preserved g c =
    let view = view_directive g.S.ScalarValue.shown in
    let x = c.in_ok-directive.field-0 in
    let found = c.loop-turn.found.items in
    part_after 64 (directive c.args.constant c.args.depth) c.left-turn-end.result c.loop-turn._turn (map view found) (map view c.push.new.self.items)
    (view x) c.loop-turn.parser c.directive.new.parser (while_sees 64 (directive c.args.constant c.args.depth)
    (length c.args.parser.now.ahead) c.args.parser.now)
    c.loop-turn-test.true c.if-not-sees-2.ensures c.in_ok-directive.ensures
    (map_pushed view found c.push.new.self.items x c.in_ok-push.ensures.items) c.loop-turn.invariant
