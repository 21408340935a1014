use Rattle.std.proofs.Common.{ap, sym, ◌∙◌, ◌&&◌, nat_lt, length}
use Rattle.graphql_spec.specs.Documents.{operations}
use Rattle.graphql_spec.specs.Rules.{is_not_alone}
use Rattle.juniper_syntax.specs.DocumentView.{view_definition, view_word}
use Rattle.juniper_written.proofs.Counted.{nameless, has-name}
use Rattle.juniper_written.proofs.lone_anonymous_operation.is_not_alone.Goals as goal

pub returns-then-is_none : goal.returns-then-is_none
unfolding is_not_alone
returns-then-is_none g c d is =
    let shown = g.S.ScalarValue.shown in
    ap (nat_lt 1) is
    ∙ (ap (λ b. b && nat_lt 1 (length (operations d))) (sym (nameless view_word c.in-Operation.operation.item.name c.if-is_none.ensures))
    ∙ ap (λ x. is_not_alone d (view_definition shown x)) (sym c.in-Operation.is))

pub returns-else-is_none : goal.returns-else-is_none
unfolding is_not_alone
returns-else-is_none g c d is =
    let shown = g.S.ScalarValue.shown in
    c.if-is_none.false
    ∙ (ap (λ b. b && nat_lt 1 (length (operations d))) (sym (has-name view_word c.in-Operation.operation.item.name c.if-is_none.ensures))
    ∙ ap (λ x. is_not_alone d (view_definition shown x)) (sym c.in-Operation.is))

pub returns-in-Fragment : goal.returns-in-Fragment
unfolding is_not_alone
returns-in-Fragment g c d is = ap (λ x. is_not_alone d (view_definition g.S.ScalarValue.shown x)) (sym c.in-Fragment.is)
