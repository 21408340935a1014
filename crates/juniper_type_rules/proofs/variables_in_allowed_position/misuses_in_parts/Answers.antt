use Rattle.std.proofs.Common.{◌<◌, ◌≤◌, length, ap, arith, sym, ◌∙◌}
use Rattle.std.specs.List.{list_any}
use Rattle.juniper_written.proofs.Deciding.{open-first, open-next, one-passes, none-passes}
use Rattle.juniper_type_rules.specs.UsesView.{definition_at, is_misused, uses_misused, view_used, view_uses}
use Rattle.juniper_type_rules.proofs.variables_in_allowed_position.misuses_in_parts.Goals as goal

pub loop-index-init : goal.loop-index-init
loop-index-init g c = open-first (λ u. view_used u.now) (uses_misused (definition_at g.S.ScalarValue.shown c.args.defined.now)) c.args.parts.now.items

pub loop-index-preserved : goal.loop-index-preserved
loop-index-preserved g c =
    let us = c.args.parts.now in
    let below : c.loop-index.index < length us.items = omega (arith, c.loop-index-test.true, c.len-index-end.ensures, us.ok.0) in
    open-next (λ u. view_used u.now) (uses_misused (definition_at g.S.ScalarValue.shown c.args.defined.now)) us.items c.loop-index.index
    c.index.result.now below c.index.ensures (sym (c.misuses_one.ensures
    ∙ ap (λ l. list_any (is_misused (definition_at g.S.ScalarValue.shown c.args.defined.now)) (view_uses l)) c.deref.ensures.value)
    ∙ c.if-misuses_one.false) c.loop-index.invariant

pub returns-then-misuses_one : goal.returns-then-misuses_one
returns-then-misuses_one g c =
    let us = c.args.parts.now in
    let below : c.loop-index.index < length us.items = omega (arith, c.loop-index-test.true, c.len-index-end.ensures, us.ok.0) in
    one-passes (λ u. view_used u.now) (uses_misused (definition_at g.S.ScalarValue.shown c.args.defined.now)) us.items c.loop-index.index
    c.index.result.now below c.index.ensures (sym (c.misuses_one.ensures
    ∙ ap (λ l. list_any (is_misused (definition_at g.S.ScalarValue.shown c.args.defined.now)) (view_uses l)) c.deref.ensures.value)
    ∙ c.if-misuses_one.true) c.loop-index.invariant

pub returns : goal.returns
returns g c =
    let us = c.args.parts.now in
    let past : length us.items ≤ c.loop-index.index = omega (arith, c.loop-index-test.false, c.len-index-end.ensures, us.ok.0) in
    none-passes (λ u. view_used u.now) (uses_misused (definition_at g.S.ScalarValue.shown c.args.defined.now)) us.items c.loop-index.index past
    c.loop-index.invariant
