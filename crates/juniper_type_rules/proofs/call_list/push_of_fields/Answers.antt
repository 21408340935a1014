use Rattle.std.proofs.Common.{refl, ap, ◌∙◌, ◌++◌, map}
use Rattle.std.specs.List.{flat_map}
use Rattle.juniper_type_rules.specs.CallView.{view_calls}
use Rattle.juniper_type_rules.specs.PlacedView.{view_placed}
use Rattle.juniper_type_rules.specs.Placing.{call_of_field}
use Rattle.juniper_written.proofs.Lists.{flat-next, flat-all, flat-seen}
use Rattle.juniper_type_rules.proofs.call_list.push_of_fields.Goals as goal

pub loop-placed-init : goal.loop-placed-init
loop-placed-init g c = refl

pub loop-placed-preserved : goal.loop-placed-preserved
loop-placed-preserved g c =
    let shown = g.S.ScalarValue.shown in
    flat-next (λ p. call_of_field (view_placed shown p)) c.deref-placed-items.result.now
    (view_calls shown c.args.calls.now.items) c.loop-placed.placed-index c.placed-item.result
    (view_calls shown c.loop-placed.calls.items) (view_calls shown c.push_of_field.new.calls.items) c.loop-placed-test.true c.placed-item.is
    c.loop-placed.invariant c.in_ok-push_of_field.ensures

pub returns : goal.returns
returns g c =
    let shown = g.S.ScalarValue.shown in
    let old = view_calls shown c.args.calls.now.items in
    flat-all (λ p. call_of_field (view_placed shown p)) c.deref-placed-items.result.now old c.loop-placed.placed-index
    (view_calls shown c.loop-placed.calls.items) c.loop-placed-test.false c.loop-placed.invariant
    ∙ ap (λ l. old ++ l) (flat-seen (view_placed shown) call_of_field c.deref-placed-items.result.now
    ∙ ap (λ l. flat_map call_of_field (map (view_placed shown) l)) c.deref-placed-items.ensures.value)
