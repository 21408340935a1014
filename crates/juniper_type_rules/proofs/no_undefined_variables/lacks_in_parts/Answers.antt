use Rattle.std.proofs.Common.{◌<◌, ◌≤◌, length, arith, sym, ◌∙◌}
use Rattle.juniper_written.proofs.Deciding.{open-first, open-next, one-passes, none-passes}
use Rattle.juniper_type_rules.specs.UsesView.{definition_at, uses_unknown, view_used}
use Rattle.juniper_type_rules.proofs.no_undefined_variables.lacks_in_parts.Goals as goal

pub loop-index-init : goal.loop-index-init
loop-index-init g c = open-first (λ u. view_used u.now) (uses_unknown (definition_at g.S.ScalarValue.shown c.args.defined.now)) c.args.parts.now.items

pub loop-index-preserved : goal.loop-index-preserved
loop-index-preserved g c =
    let us = c.args.parts.now in
    let below : c.loop-index.index < length us.items = omega (arith, c.loop-index-test.true, c.len-index-end.ensures, us.ok.0) in
    open-next (λ u. view_used u.now) (uses_unknown (definition_at g.S.ScalarValue.shown c.args.defined.now)) us.items c.loop-index.index
    c.index.result.now below c.index.ensures (sym c.lacks_one.ensures ∙ c.if-lacks_one.false) c.loop-index.invariant

pub returns-then-lacks_one : goal.returns-then-lacks_one
returns-then-lacks_one g c =
    let us = c.args.parts.now in
    let below : c.loop-index.index < length us.items = omega (arith, c.loop-index-test.true, c.len-index-end.ensures, us.ok.0) in
    one-passes (λ u. view_used u.now) (uses_unknown (definition_at g.S.ScalarValue.shown c.args.defined.now)) us.items c.loop-index.index
    c.index.result.now below c.index.ensures (sym c.lacks_one.ensures ∙ c.if-lacks_one.true) c.loop-index.invariant

pub returns : goal.returns
returns g c =
    let us = c.args.parts.now in
    let past : length us.items ≤ c.loop-index.index = omega (arith, c.loop-index-test.false, c.len-index-end.ensures, us.ok.0) in
    none-passes (λ u. view_used u.now) (uses_unknown (definition_at g.S.ScalarValue.shown c.args.defined.now)) us.items c.loop-index.index past
    c.loop-index.invariant
