use Rattle.std.proofs.Common.{◌+◌, drop, map, refl, ap, sym, ◌∙◌}
use Rattle.std.proofs.lemmas.List.{drop_all}
use Rattle.graphql_spec.specs.VariableUses.{definition_of}
use Rattle.juniper_syntax.specs.DocumentView.{view_variable}
use Rattle.juniper_syntax.proofs.Lists.{left-is}
use Rattle.juniper_explain.proofs.Misusing.{definition-here, definition-next}
use Rattle.juniper_explain.proofs.misused.first_of.Goals as goal

pub loop-variable-init : goal.loop-variable-init
loop-variable-init g c = refl

pub loop-variable-preserved : goal.loop-variable-preserved
loop-variable-preserved g c =
    let view = view_variable g.S.ScalarValue.shown in
    let l = c.loop-variable in
    let n = c.args.name.now in
    let x = c.variable-item.result in
    sym (definition-next n (view x) (map view (drop (l.variable-index + 1) c.args.variables.now)) (sym c.if-eq.ensures))
    ∙ (ap (λ xs. definition_of (map view xs) n) (sym (left-is c.args.variables.now l.variable-index x c.loop-variable-test.true c.variable-item.is))
    ∙ l.invariant)

pub returns-then-eq : goal.returns-then-eq
returns-then-eq g c =
    let view = view_variable g.S.ScalarValue.shown in
    let l = c.loop-variable in
    let n = c.args.name.now in
    let x = c.variable-item.result in
    sym (definition-here n (view x) (map view (drop (l.variable-index + 1) c.args.variables.now)) (sym c.if-eq.ensures))
    ∙ (ap (λ xs. definition_of (map view xs) n) (sym (left-is c.args.variables.now l.variable-index x c.loop-variable-test.true c.variable-item.is))
    ∙ l.invariant)

pub returns : goal.returns
unfolding definition_of
returns g c =
    let view = view_variable g.S.ScalarValue.shown in
    let l = c.loop-variable in
    ap (λ xs. definition_of (map view xs) c.args.name.now) (sym (drop_all l.variable-index c.args.variables.now c.loop-variable-test.false)) ∙ l.invariant
