use Rattle.std.proofs.Common.{map, ap, ◌∙◌}
use Rattle.juniper_syntax.specs.DocumentView.{view_argument}
use Rattle.juniper_syntax.specs.Positions.{view_position, view_span}
use Rattle.juniper_language.specs.ParserViews.{view_given}
use Rattle.juniper_language.specs.Reading.{argument}
use Rattle.juniper_language.proofs.RuleSteps.{brackets_found, brackets_deep}
use Rattle.juniper_language.proofs.directives.arguments.Goals as goal

pub returns : goal.returns
returns g c =
    let shown = g.S.ScalarValue.shown in
    brackets_found (argument c.args.constant) c.args.depth c.args.parser.now c.expect.new.self c.some_arguments.new.parser c.in_ok-expect.field-0
    (map (view_argument shown) c.in_ok-items.items.items) (view_given shown c.new.result)
    (view_position c.begin-start.result) c.if-depth-eq0.false c.in_ok-expect.ensures c.in_ok-items.ensures
    (ap (λ x. map (view_argument shown) x.items.items) c.new.ensures.item) (ap view_span c.new.ensures.span ∙ c.since-span.ensures) c.begin-start.ensures

pub returns-then-depth-eq0 : goal.returns-then-depth-eq0
returns-then-depth-eq0 g c known = brackets_deep (argument c.args.constant) c.args.depth c.args.parser.now c.if-depth-eq0.true
