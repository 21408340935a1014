use Rattle.std.proofs.Common.{length, map, ◌∙◌}
use Rattle.juniper_syntax.specs.DocumentView.{view_definition}
use Rattle.juniper_language.specs.Reading.{definitions}
use Rattle.juniper_language.proofs.Loops.{definition_on, map_pushed}
use Rattle.juniper_language.proofs.definitions.document.Goals as goal

pub loop-turn-preserved : goal.loop-turn-preserved
loop-turn-preserved g c =
    let view = view_definition g.S.ScalarValue.shown in
    let x = c.in_ok-definition.field-0 in
    let found = c.loop-turn.found.items in
    definition_on c.left-turn-end.result c.loop-turn._turn (map view found) (map view c.push.new.self.items) (view x) c.loop-turn.parser c.definition.new.parser
    (definitions (length c.args.parser.now.ahead) c.args.parser.now)
    c.loop-turn-test.true (λ e. c.if-left-eq0-2.false (c.left-in-loop-turn.ensures ∙ e)) c.in_ok-definition.ensures
    (map_pushed view found c.push.new.self.items x c.in_ok-push.ensures.items) c.loop-turn.invariant
