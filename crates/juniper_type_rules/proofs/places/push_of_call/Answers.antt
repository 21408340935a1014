use Rattle.std.proofs.Common.{map, refl, ap, sym, ◌∙◌, ◌++◌}
use Rattle.std.proofs.lemmas.List.{append-nil}
use Rattle.std.specs.List.{flat_map}
use Rattle.graphql_spec.specs.Documents.{written}
use Rattle.graphql_spec.specs.VariableUses.{at_declared}
use Rattle.juniper_type_rules.specs.Positions.{places_at, places_in_call}
use Rattle.juniper_syntax.specs.Positions.{view_span}
use Rattle.juniper_syntax.specs.DocumentView as code
use Rattle.juniper_syntax.specs.DocumentView.{view_arguments}
use Rattle.juniper_syntax.specs.InputView.{view_input}
use Rattle.juniper_meta.specs.MetaView.{view_argument}
use Rattle.juniper_schema.specs.SchemaView.{view_schema}
use Rattle.juniper_written.proofs.Lists.{flat-next, flat-all, flat-seen}
use Rattle.juniper_type_rules.specs.UsesView.{view_places}
use Rattle.juniper_type_rules.proofs.PlacesIn.{places_given}
use Rattle.juniper_type_rules.proofs.places.push_of_call.Goals as goal

pub loop-argument-init : goal.loop-argument-init
loop-argument-init g c = refl

pub loop-argument-preserved : goal.loop-argument-preserved
loop-argument-preserved g c =
    let shown = g.S.ScalarValue.shown in
    let s = view_schema shown c.args.schema.now in
    let ds = map (view_argument shown) c.args.call.now.declared.now in
    let l = c.loop-argument in
    let x = c.argument-item.result in
    let before = view_places l.places.items in
    flat-next (λ a. places_given s ds (code.view_argument shown a)) c.deref-argument-items.result.now (view_places c.args.places.now.items) l.argument-index x
    before (view_places c.push_declared.new.places.items) c.loop-argument-test.true c.argument-item.is l.invariant
    (c.in_ok-push_declared-in-Some.ensures
    ∙ ap (λ o. before ++ at_declared o (λ p b. places_at s (view_input shown x.1.item) (view_span x.1.span) p b)) c.find_argument-found.ensures)

pub returns-after-loop-argument : goal.returns-after-loop-argument
unfolding written places_in_call
returns-after-loop-argument g c =
    let shown = g.S.ScalarValue.shown in
    let s = view_schema shown c.args.schema.now in
    let ds = map (view_argument shown) c.args.call.now.declared.now in
    let old = view_places c.args.places.now.items in
    flat-all (λ a. places_given s ds (code.view_argument shown a)) c.deref-argument-items.result.now old c.loop-argument.argument-index
    (view_places c.loop-argument.places.items) c.loop-argument-test.false c.loop-argument.invariant
    ∙ ap (λ l. old ++ l) (flat-seen (code.view_argument shown) (places_given s ds) c.deref-argument-items.result.now
    ∙ (ap (λ l. flat_map (places_given s ds) (map (code.view_argument shown) l)) c.deref-argument-items.ensures.value
    ∙ ap (λ o. flat_map (places_given s ds) (written (view_arguments shown o))) (sym c.in-Some.is)))

pub returns-in-None : goal.returns-in-None
unfolding written places_in_call
returns-in-None g c =
    let shown = g.S.ScalarValue.shown in
    let s = view_schema shown c.args.schema.now in
    let ds = map (view_argument shown) c.args.call.now.declared.now in
    let old = view_places c.args.places.now.items in
    sym (append-nil old) ∙ ap (λ o. old ++ flat_map (places_given s ds) (written (view_arguments shown o))) (sym c.in-None.is)
