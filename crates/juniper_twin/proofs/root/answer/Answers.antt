use Rattle.std.proofs.Common.{sym, ap, ◌∙◌, subst}
use Rattle.graphql_spec.specs.Selections.{occurrences}
use Rattle.juniper_syntax.specs.DocumentView.{view_selections}
use Rattle.juniper_lookahead.specs.Collected.{expansion}
use Rattle.juniper_lookahead.specs.Singles.{AreAlone, view_singles}
use Rattle.juniper_twin.proofs.Answering.{root-agrees, walk-is-answer}
use Rattle.juniper_twin.proofs.root.answer.Goals as goal

pub execute_selection_set-requires-clause-agree : goal.execute_selection_set-requires-clause-agree
execute_selection_set-requires-clause-agree g c =
    let shown = g.S.ScalarValue.shown in
    let W = g.R.Completer.world c.args.walk.now.collector.possible in
    let s = expansion shown c.args.walk.now.collector (view_selections shown c.args.selections.now) in
    let T = c.args.concrete.now in
    let fields = ap (view_singles shown c.args.walk.now.collector) c.deref.ensures.value
    ∙ (c.in_ok-fields.ensures.fields ∙ ap (λ p. occurrences p T s) c.requires.ready.same) in
    root-agrees W s c.args.root.now T _ fields c.requires.agree

pub execute_selection_set-requires-clause-alone : goal.execute_selection_set-requires-clause-alone
execute_selection_set-requires-clause-alone g c =
    subst (λ fs. AreAlone g.S.ScalarValue.shown c.args.walk.now.collector (g.R.Conditions.possible c.args.walk.now.collector.possible) c.args.concrete.now fs)
    (sym c.deref.ensures.value) c.in_ok-fields.ensures.alone

pub returns : goal.returns
returns g c =
    let shown = g.S.ScalarValue.shown in
    let W = g.R.Completer.world c.args.walk.now.collector.possible in
    let s = expansion shown c.args.walk.now.collector (view_selections shown c.args.selections.now) in
    let T = c.args.concrete.now in
    let fields = ap (view_singles shown c.args.walk.now.collector) c.deref.ensures.value
    ∙ (c.in_ok-fields.ensures.fields ∙ ap (λ p. occurrences p T s) c.requires.ready.same) in
    walk-is-answer W s c.args.root.now T _ _ _ _ _ c.in_ok-path.ensures fields c.in_ok-walked.ensures c.in_ok-sort_errors.ensures.counted
    c.in_ok-sort_errors.ensures.sorted
