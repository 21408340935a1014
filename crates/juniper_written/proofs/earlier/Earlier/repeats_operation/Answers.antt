use Rattle.std.proofs.Common.{option_map, ap, sym, ◌∙◌}
use Rattle.graphql_spec.specs.Documents.{word_name}
use Rattle.graphql_spec.specs.Rules.{repeats_operation}
use Rattle.juniper_syntax.specs.DocumentView.{view_definition, view_operation, view_word}
use Rattle.juniper_written.proofs.NamesBefore.{repeats-named, repeats-nameless}
use Rattle.juniper_written.proofs.earlier.Earlier.repeats_operation.Goals as goal

pub returns-in-Some : goal.returns-in-Some
unfolding word_name
returns-in-Some g c = λ ds e.
    let shown = g.S.ScalarValue.shown in
    c.contains.ensures ∙ (e.0 c.in-Some.name.item.now
    ∙ (repeats-named ds (view_operation shown c.in-Operation.operation) c.in-Some.name.item.now (ap (λ w. word_name (option_map view_word w)) c.in-Some.is)
    ∙ ap (λ x. repeats_operation ds (view_definition shown x)) (sym c.in-Operation.is)))

pub returns-in-None : goal.returns-in-None
unfolding word_name
returns-in-None g c = λ ds e.
    let shown = g.S.ScalarValue.shown in
    repeats-nameless ds (view_operation shown c.in-Operation.operation) (ap (λ w. word_name (option_map view_word w)) c.in-None.is)
    ∙ ap (λ x. repeats_operation ds (view_definition shown x)) (sym c.in-Operation.is)

pub returns-in-Fragment : goal.returns-in-Fragment
unfolding repeats_operation
returns-in-Fragment g c = λ ds e. ap (λ x. repeats_operation ds (view_definition g.S.ScalarValue.shown x)) (sym c.in-Fragment.is)
