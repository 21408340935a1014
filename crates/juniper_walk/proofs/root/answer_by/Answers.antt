use Rattle.std.proofs.Common.{◌∙◌, ap, arith}
use Rattle.juniper_lookahead.specs.Collected.{expansion}
use Rattle.juniper_syntax.specs.DocumentView.{view_selections}
use Rattle.juniper_walk.specs.Budget.{most_fields}
use Rattle.juniper_walk.specs.Entered.{entered_below, own_fields}
use Rattle.juniper_walk.proofs.Entering.{entered-parts, through-spends}
use Rattle.juniper_walk.proofs.Sorted.{bare-stands, one-enclosing, walk-is-exact, walk-is-of-firsts}
use Rattle.juniper_walk.proofs.root.answer_by.Goals as goal

pub enter_root-requires-clause-standing : goal.enter_root-requires-clause-standing
enter_root-requires-clause-standing g c =
    bare-stands g.S.ScalarValue.shown c.args.walk.now.collector (g.R.Resolver.asks c.args.walk.now.collector.possible)
    (g.R.Conditions.possible c.args.walk.now.collector.possible) (most_fields c.args.fields) c.args.plan.now
    c.requires.bare

pub execute_selection_set-requires-clause-standing : goal.execute_selection_set-requires-clause-standing
execute_selection_set-requires-clause-standing g c = c.in_ok-groups.ensures.made.standing

pub execute_selection_set-requires-clause-groups : goal.execute_selection_set-requires-clause-groups
execute_selection_set-requires-clause-groups g c = c.in_ok-groups.ensures.made.stands

pub returns-clause-exact : goal.returns-clause-exact
returns-clause-exact g c =
    walk-is-exact (g.R.Completer.world c.args.walk.now.collector.possible) c.args.concrete.now c.args.root.now _ _
    (one-enclosing g.S.ScalarValue.shown c.args.walk.now.collector (record { selections = c.args.selections })) _ c.in_ok-path.ensures _ _ _
    c.in_ok-walked.ensures.walked c.in_ok-sort_errors.ensures.counted c.in_ok-sort_errors.ensures.sorted

pub returns-clause-firsts : goal.returns-clause-firsts
returns-clause-firsts g c =
    walk-is-of-firsts (g.R.Completer.world c.args.walk.now.collector.possible) c.args.concrete.now c.args.root.now _ _
    (one-enclosing g.S.ScalarValue.shown c.args.walk.now.collector (record { selections = c.args.selections })) _ c.in_ok-path.ensures _ _ _
    c.in_ok-walked.ensures.walked c.in_ok-sort_errors.ensures.counted

pub returns-clause-counted : goal.returns-clause-counted
returns-clause-counted g c = omega (arith, c.in_ok-walked.ensures.counted, c.in_ok-groups.ensures.counted, c.requires.bare.left)

pub returns-clause-entered : goal.returns-clause-entered
returns-clause-entered g c =
    let shown = g.S.ScalarValue.shown in
    let collector = c.args.walk.now.collector in
    let possible = g.R.Conditions.possible collector.possible in
    let W = g.R.Completer.world collector.possible in
    let T = c.args.concrete.now in
    let s = expansion shown collector (view_selections shown c.args.selections.now) in
    let is = one-enclosing shown collector (record { selections = c.args.selections }) in
    let own = ap (own_fields possible T) is ∙ ap (λ f. own_fields f T s) c.requires.ready.same in
    let whole = entered-parts W T c.args.root.now s in
    let below = ap (entered_below W T c.args.root.now) is in
    omega (arith, own, whole, below, c.in_ok-groups.ensures.entered, c.in_ok-walked.ensures.entered)

pub returns-in_err-groups-clause-entered : goal.returns-in_err-groups-clause-entered
returns-in_err-groups-clause-entered g c =
    let shown = g.S.ScalarValue.shown in
    let collector = c.args.walk.now.collector in
    let possible = g.R.Conditions.possible collector.possible in
    let W = g.R.Completer.world collector.possible in
    let T = c.args.concrete.now in
    let s = expansion shown collector (view_selections shown c.args.selections.now) in
    let is = one-enclosing shown collector (record { selections = c.args.selections }) in
    let own = ap (own_fields possible T) is ∙ ap (λ f. own_fields f T s) c.requires.ready.same in
    let whole = entered-parts W T c.args.root.now s in
    through-spends (Unit {0}) _ _ 0 _ _ _ _ _ c.from_residual.result c.from_residual.ensures.1 c.in_err-groups.ensures.entered
    (λ less. omega (arith, own, whole, less))

pub returns-in_err-walked-clause-entered : goal.returns-in_err-walked-clause-entered
returns-in_err-walked-clause-entered g c =
    let shown = g.S.ScalarValue.shown in
    let collector = c.args.walk.now.collector in
    let possible = g.R.Conditions.possible collector.possible in
    let W = g.R.Completer.world collector.possible in
    let T = c.args.concrete.now in
    let s = expansion shown collector (view_selections shown c.args.selections.now) in
    let is = one-enclosing shown collector (record { selections = c.args.selections }) in
    let own = ap (own_fields possible T) is ∙ ap (λ f. own_fields f T s) c.requires.ready.same in
    let whole = entered-parts W T c.args.root.now s in
    let below = ap (entered_below W T c.args.root.now) is in
    through-spends (Unit {0}) _ _ 0 _ _ _ _ _ c.from_residual-in_err-walked.result c.from_residual-in_err-walked.ensures.1 c.in_err-walked.ensures.entered
    (λ less. omega (arith, own, whole, below, c.in_ok-groups.ensures.entered, less))
