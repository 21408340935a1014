use Rattle.std.proofs.Common.{cond, option_map, sym, ap, ◌∙◌}
use Rattle.graphql_spec.specs.Requests.{chosen}
use Rattle.juniper_syntax.specs.DocumentView.{view_definition, view_operation}
use Rattle.juniper.specs.Choices.{choice_of}
use Rattle.juniper.proofs.Choosing.{later-some, later-none}
use Rattle.juniper.proofs.operation.later_named.Goals as goal

pub returns-then-has_name : goal.returns-then-has_name
returns-then-has_name g c =
    let shown = g.S.ScalarValue.shown in
    let o = view_operation shown c.in-Some.operation.now in
    let before = choice_of (option_map (λ p. view_operation shown p.now) c.args.found) in
    sym (later-some c.args.name.now (view_definition shown c.args.definition.now) o before c.in-Some.ensures
    ∙ ap (λ b. cond b (chosen o) before) (sym c.has_name.ensures ∙ c.if-has_name.true))

pub returns-else-has_name : goal.returns-else-has_name
returns-else-has_name g c =
    let shown = g.S.ScalarValue.shown in
    let o = view_operation shown c.in-Some.operation.now in
    let before = choice_of (option_map (λ p. view_operation shown p.now) c.args.found) in
    sym (later-some c.args.name.now (view_definition shown c.args.definition.now) o before c.in-Some.ensures
    ∙ ap (λ b. cond b (chosen o) before) (sym c.has_name.ensures ∙ c.if-has_name.false))

pub returns-in-None : goal.returns-in-None
returns-in-None g c =
    let shown = g.S.ScalarValue.shown in
    sym (later-none c.args.name.now (view_definition shown c.args.definition.now)
    (choice_of (option_map (λ p. view_operation shown p.now) c.args.found)) c.in-None.ensures)
