use Rattle.std.proofs.Common.{length, map, Some, ap, sym, ◌∙◌}
use Rattle.graphql_spec.specs.Documents.{Argument, Word}
use Rattle.juniper_syntax.specs.InputView.{view_input}
use Rattle.juniper_syntax.specs.Positions.{view_spanning}
use Rattle.juniper_language.specs.ParserViews.{view_member, view_owned}
use Rattle.juniper_language.specs.Readers.{spanned, until}
use Rattle.juniper_language.specs.Reading.{value, argument}
use Rattle.juniper_language.proofs.Loops.{part_on, map_pushed, until_begun, until_closed, until_open}
use Rattle.juniper_language.proofs.RuleSteps.{list_found}
use Rattle.juniper_language.proofs.PartViews.{view_list}
use Rattle.juniper_language.proofs.values.+values.Goals as goal

pub bracketed-returns-in_ok-items-clause-value : goal.bracketed-returns-in_ok-items-clause-value
bracketed-returns-in_ok-items-clause-value g t c =
    let shown = g.S.ScalarValue.shown in
    let found = c.in_ok-items.items in
    list_found c.args.constant c.args.depth c.args.mark c.args.parser.now c.items.new.parser
    (map (view_spanning (view_input shown)) found.items) _ c.if-mark-eq91.true c.if-depth-eq0.false c.in_ok-items.ensures (view_list shown found)

pub items-loop-turn-preserved : goal.items-loop-turn-preserved
items-loop-turn-preserved g t c =
    let view = view_spanning (view_input g.S.ScalarValue.shown) in
    let x = c.in_ok-placed_value.field-0 in
    let found = c.loop-turn.found.items in
    part_on 93 (spanned (value c.args.constant c.args.depth)) c.left-turn-end.result c.loop-turn._turn (map view found) (map view c.push.new.self.items)
    (view x) c.loop-turn.parser c.placed_value.new.parser (until 93 (spanned (value c.args.constant c.args.depth))
    (length c.args.parser.now.ahead) c.args.parser.now)
    c.loop-turn-test.true c.if-sees.ensures c.in_ok-placed_value.ensures
    (map_pushed view found c.push.new.self.items x c.in_ok-push.ensures.items) c.loop-turn.invariant

pub fields-loop-turn-preserved : goal.fields-loop-turn-preserved
fields-loop-turn-preserved g t c =
    let view = view_member g.S.ScalarValue.shown in
    let found = c.loop-turn.found.items in
    let value_seen = view_spanning (view_input g.S.ScalarValue.shown) c.in_ok-name.value in
    let seen : Argument = record { name = view_owned c.in_ok-owned.field-0; value = value_seen } in
    let one = c.in_ok-name.ensures ∙ ap (λ (n : Word). Some (record { name = n; value = value_seen }, c.argument.new.parser)) (sym c.in_ok-owned.ensures) in
    part_on 125 (argument c.args.constant c.args.depth) c.left-turn-end.result c.loop-turn._turn (map view found)
    (map view c.push.new.self.items) seen c.loop-turn.parser c.argument.new.parser
    (until 125 (argument c.args.constant c.args.depth) (length c.args.parser.now.ahead) c.args.parser.now)
    c.loop-turn-test.true c.if-sees.ensures one (map_pushed view found c.push.new.self.items _ c.in_ok-push.ensures.items) c.loop-turn.invariant

pub items-loop-turn-init : goal.items-loop-turn-init
items-loop-turn-init g t c =
    until_begun 93 (spanned (value c.args.constant c.args.depth)) (view_spanning (view_input g.S.ScalarValue.shown)) c.in_ok-found.found.items
    c.left-turn-end.result c.args.parser.now c.in_ok-found.ensures.items c.left-turn-end.ensures

pub items-returns-then-sees : goal.items-returns-then-sees
items-returns-then-sees g t c =
    until_closed 93 (spanned (value c.args.constant c.args.depth)) c.left-turn-end.result c.loop-turn._turn
    (map (view_spanning (view_input g.S.ScalarValue.shown)) c.loop-turn.found.items) c.loop-turn.parser c.next.new.self _ _
    c.loop-turn-test.true c.if-sees.ensures c.in_ok-next.ensures c.loop-turn.invariant

pub items-returns : goal.items-returns
items-returns g t c known =
    until_open 93 (spanned (value c.args.constant c.args.depth)) c.left-turn-end.result c.loop-turn._turn
    (map (view_spanning (view_input g.S.ScalarValue.shown)) c.loop-turn.found.items) c.loop-turn.parser _ c.loop-turn-test.false c.loop-turn.invariant

pub fields-loop-turn-init : goal.fields-loop-turn-init
fields-loop-turn-init g t c =
    until_begun 125 (argument c.args.constant c.args.depth) (view_member g.S.ScalarValue.shown) c.in_ok-found.found.items c.left-turn-end.result
    c.args.parser.now c.in_ok-found.ensures.items c.left-turn-end.ensures

pub fields-returns-then-sees : goal.fields-returns-then-sees
fields-returns-then-sees g t c =
    until_closed 125 (argument c.args.constant c.args.depth) c.left-turn-end.result c.loop-turn._turn
    (map (view_member g.S.ScalarValue.shown) c.loop-turn.found.items) c.loop-turn.parser c.next.new.self _ _
    c.loop-turn-test.true c.if-sees.ensures c.in_ok-next.ensures c.loop-turn.invariant

pub fields-returns : goal.fields-returns
fields-returns g t c known =
    until_open 125 (argument c.args.constant c.args.depth) c.left-turn-end.result c.loop-turn._turn
    (map (view_member g.S.ScalarValue.shown) c.loop-turn.found.items) c.loop-turn.parser _ c.loop-turn-test.false c.loop-turn.invariant
