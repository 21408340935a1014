use Rattle.std.proofs.Common.{ap, arith, length, not, sym, ◌<◌, ◌≤◌}
use Rattle.graphql_spec.specs.Fields.{is_composite, type_named}
use Rattle.juniper_schema.specs.SchemaView.{view_schema}
use Rattle.juniper_written.proofs.Deciding.{open-first, open-next, one-passes, none-passes}
use Rattle.juniper_type_rules.proofs.fragments_on_composite_types.has_other_condition.Goals as goal

pub loop-index-init : goal.loop-index-init
loop-index-init g c =
    let shown = g.S.ScalarValue.shown in
    open-first (λ n. n.now) (λ n. not (is_composite (type_named (view_schema shown c.args.schema.now) n))) c.args.written.now.conditions.items

pub loop-index-preserved : goal.loop-index-preserved
loop-index-preserved g c =
    let shown = g.S.ScalarValue.shown in
    let below : c.loop-index.index < length c.args.written.now.conditions.items = omega
    (arith, c.loop-index-test.true, c.len-index-end.ensures, c.args.written.now.conditions.ok.0) in
    open-next (λ n. n.now) (λ n. not (is_composite (type_named (view_schema shown c.args.schema.now) n))) c.args.written.now.conditions.items c.loop-index.index
    c.index-condition.result.now below c.index-condition.ensures
    (ap not (sym c.if-not-is_composite.ensures)) c.loop-index.invariant

pub returns : goal.returns
returns g c =
    let shown = g.S.ScalarValue.shown in
    let past : length c.args.written.now.conditions.items ≤ c.loop-index.index = omega
    (arith, c.loop-index-test.false, c.len-index-end.ensures, c.args.written.now.conditions.ok.0) in
    none-passes (λ n. n.now) (λ n. not (is_composite (type_named (view_schema shown c.args.schema.now) n))) c.args.written.now.conditions.items
    c.loop-index.index past c.loop-index.invariant

pub returns-then-not-is_composite : goal.returns-then-not-is_composite
returns-then-not-is_composite g c =
    let shown = g.S.ScalarValue.shown in
    let below : c.loop-index.index < length c.args.written.now.conditions.items = omega
    (arith, c.loop-index-test.true, c.len-index-end.ensures, c.args.written.now.conditions.ok.0) in
    one-passes (λ n. n.now) (λ n. not (is_composite (type_named (view_schema shown c.args.schema.now) n))) c.args.written.now.conditions.items
    c.loop-index.index c.index-condition.result.now below c.index-condition.ensures
    (ap not (sym c.if-not-is_composite.ensures)) c.loop-index.invariant
