use Rattle.std.proofs.Common.{[], ◌++◌, ap, ◌∙◌}
use Rattle.std.specs.List.{flat_map}
use Rattle.juniper_type_rules.specs.Positions.{places_in_call}
use Rattle.juniper_schema.specs.SchemaView.{view_schema}
use Rattle.juniper_written.proofs.Lists.{flat-next, flat-all, flat-seen}
use Rattle.juniper_type_rules.specs.CallView.{view_call}
use Rattle.juniper_type_rules.specs.UsesView.{view_places}
use Rattle.juniper_type_rules.proofs.places.places_in_calls.Goals as goal

pub loop-call-init : goal.loop-call-init
loop-call-init g c =
    let shown = g.S.ScalarValue.shown in
    ap (λ l. view_places l ++ flat_map (λ x. places_in_call (view_schema shown c.args.schema.now) (view_call shown x)) c.args.calls.now)
    c.new-places.ensures.items

pub loop-call-preserved : goal.loop-call-preserved
loop-call-preserved g c =
    let shown = g.S.ScalarValue.shown in
    let l = c.loop-call in
    flat-next (λ x. places_in_call (view_schema shown c.args.schema.now) (view_call shown x)) c.args.calls.now [] l.call-index c.call-item.result
    (view_places l.places.items) (view_places c.push_of_call.new.places.items) c.loop-call-test.true c.call-item.is l.invariant c.in_ok-push_of_call.ensures

pub returns : goal.returns
returns g c =
    let shown = g.S.ScalarValue.shown in
    let s = view_schema shown c.args.schema.now in
    flat-all (λ x. places_in_call s (view_call shown x)) c.args.calls.now [] c.loop-call.call-index
    (view_places c.loop-call.places.items) c.loop-call-test.false c.loop-call.invariant
    ∙ flat-seen (view_call shown) (places_in_call s) c.args.calls.now
