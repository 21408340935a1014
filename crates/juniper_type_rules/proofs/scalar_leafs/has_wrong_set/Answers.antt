use Rattle.std.proofs.Common.{ap, map, sym, ◌∙◌}
use Rattle.juniper_type_rules.specs.PlacedView.{view_placed}
use Rattle.juniper_schema.specs.SchemaView.{view_schema}
use Rattle.juniper_type_rules.specs.SetTests.{has_wrong_set}
use Rattle.std.specs.List.{list_any}
use Rattle.juniper_written.proofs.Deciding.{open-first, open-next, one-passes, none-passes}
use Rattle.juniper_type_rules.proofs.scalar_leafs.has_wrong_set.Goals as goal

pub loop-placed-init : goal.loop-placed-init
loop-placed-init g c =
    let shown = g.S.ScalarValue.shown in
    open-first (view_placed shown) (has_wrong_set (view_schema shown c.args.schema.now)) c.deref-placed-items.result.now

pub loop-placed-preserved : goal.loop-placed-preserved
loop-placed-preserved g c =
    let shown = g.S.ScalarValue.shown in
    open-next (view_placed shown) (has_wrong_set (view_schema shown c.args.schema.now)) c.deref-placed-items.result.now c.loop-placed.placed-index
    c.placed-item.result c.loop-placed-test.true c.placed-item.is
    (sym c.if-is_wrong_at.ensures) c.loop-placed.invariant

pub returns : goal.returns
returns g c =
    let shown = g.S.ScalarValue.shown in
    none-passes (view_placed shown) (has_wrong_set (view_schema shown c.args.schema.now)) c.deref-placed-items.result.now c.loop-placed.placed-index
    c.loop-placed-test.false c.loop-placed.invariant
    ∙ ap (λ l. list_any (has_wrong_set (view_schema shown c.args.schema.now)) (map (view_placed shown) l)) c.deref-placed-items.ensures.value

pub returns-then-is_wrong_at : goal.returns-then-is_wrong_at
returns-then-is_wrong_at g c =
    let shown = g.S.ScalarValue.shown in
    one-passes (view_placed shown) (has_wrong_set (view_schema shown c.args.schema.now)) c.deref-placed-items.result.now c.loop-placed.placed-index
    c.placed-item.result c.loop-placed-test.true c.placed-item.is
    (sym c.if-is_wrong_at.ensures) c.loop-placed.invariant
    ∙ ap (λ l. list_any (has_wrong_set (view_schema shown c.args.schema.now)) (map (view_placed shown) l)) c.deref-placed-items.ensures.value
