use Rattle.std.proofs.Common.{length, option_map, sym, ap, ◌∙◌, subst, arith}
use Rattle.juniper_assemble.specs.SpotView.{view_nodes, view_spot}
use Rattle.juniper_lookahead.specs.Collected.{view_all}
use Rattle.juniper_walk.specs.Lists.{first_in}
use Rattle.juniper_walk.specs.Rows.{AreIn, spots_standing}
use Rattle.juniper_walk.specs.Plans.{all_expanded, fields_at, key_at}
use Rattle.juniper_walk.proofs.Columns.{none-waits}
use Rattle.juniper_walk.proofs.rows.ask_column.Goals as goal

pub ask_standing-requires-clause-first : goal.ask_standing-requires-clause-first
ask_standing-requires-clause-first g c =
    ap (λ l. first_in (spots_standing l (view_nodes c.args.spots.now))) (sym c.deref.ensures.value)
    ∙ (sym c.first_standing.ensures ∙ ap (option_map (λ x. view_spot (λ n. n) x.now)) c.in-Some.is)

pub returns-in-None-clause-within : goal.returns-in-None-clause-within
returns-in-None-clause-within g c = subst (AreIn (length c.args.spots.now)) (sym c.no_answers.ensures.opened) tt

pub returns-in-None-clause-pending : goal.returns-in-None-clause-pending
returns-in-None-clause-pending g c = λ ks next begun.
    let shown = g.S.ScalarValue.shown in
    let W = g.R.Completer.world c.args.walk.now.collector.possible in
    let s = all_expanded shown c.args.walk.now.collector c.args.enclosing.now in
    let os = view_all shown c.args.walk.now.collector (fields_at c.args.plan.now c.args.group.0) in
    let none = ap (λ l. first_in (spots_standing l (view_nodes c.args.spots.now))) (sym c.deref.ensures.value)
    ∙ (sym c.first_standing.ensures ∙ ap (option_map (λ x. view_spot (λ n. n) x.now)) c.in-None.is) in
    none-waits W s c.args.concrete.now shown ks (key_at c.args.plan.now c.args.group.0) os 0 (view_nodes c.args.spots.now) c.args.rows.now.items none begun
    c.no_answers.result.opened.items c.no_answers.ensures.opened (view_nodes c.no_answers.result.nodes.items) (ap view_nodes c.no_answers.ensures.nodes)

pub returns-in-None-clause-fields : goal.returns-in-None-clause-fields
returns-in-None-clause-fields g c = let none = ap length c.no_answers.ensures.opened in omega (arith, none)

pub returns-in_ok-column-in-Some-clause-pending : goal.returns-in_ok-column-in-Some-clause-pending
returns-in_ok-column-in-Some-clause-pending g c = λ ks next begun. c.in_ok-column-in-Some.ensures.pending ks next begun
