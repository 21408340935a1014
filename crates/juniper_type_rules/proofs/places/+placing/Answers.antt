use denote.Param.Weighed.{at_most}
use Rattle.std.proofs.Common.{◌≡◌, [], ◌∷◌, ◌++◌, get_or, map, option_map, refl, sym, ap, ◌∙◌, arith, rules}
use Rattle.std.proofs.lemmas.List.{append-nil}
use Rattle.graphql_spec.specs.Fields.{declaration_in}
use Rattle.juniper_syntax.specs.Positions.{view_span}
use Rattle.graphql_spec.specs.VariableUses.{at_declared, item_type}
use Rattle.juniper_type_rules.specs.Positions.{places_at, places_in_fields, places_in_items}
use Rattle.juniper_syntax.specs.InputView.{view_input, view_items, view_fields}
use Rattle.juniper_syntax.proofs.Inputs.{view-Null, view-Scalar, view-Enum, view-Variable, view-List, view-Object}
use Rattle.juniper_syntax.proofs.input.InputValue.TheLaws.{the_size}
use Rattle.juniper_syntax.specs.declared.input.InputValue.TheShapes.{weighed-InputValue-Object-0-at-4}
use Rattle.juniper_meta.specs.MetaView.{view_argument, view_type}
use Rattle.juniper_schema.specs.SchemaView.{view_schema}
use Rattle.juniper_written.proofs.Lists.{flat-next, flat-all}
use Rattle.juniper_type_rules.specs.UsesView.{place_at, view_places}
use Rattle.juniper_type_rules.proofs.PlacesIn.{places_of_item, places_of_field, items-are, fields-are}
use Rattle.juniper_type_rules.proofs.Tests.{some-map}
use Rattle.juniper_type_rules.proofs.places.+placing.Goals as goal

pub push_declared-returns-in_ok-push_of_value-in-Some : goal.push_declared-returns-in_ok-push_of_value-in-Some
unfolding at_declared
push_declared-returns-in_ok-push_of_value-in-Some g t c =
    let shown = g.S.ScalarValue.shown in
    let s = view_schema shown c.args.schema.now in
    let v = view_input shown c.args.value.now in
    let old = view_places c.args.places.now.items in
    let place = view_type c.in-Some.argument.now.arg_type in
    c.in_ok-push_of_value-in-Some.ensures
    ∙ (ap (λ b. old ++ places_at s v (view_span c.args.span) place b) (c.is_some-has_default.ensures
    ∙ sym (some-map (view_input shown) c.in-Some.argument.now.default_value))
    ∙ ap (λ o. old ++ at_declared (option_map (λ a. view_argument shown a.now) o) (λ p b. places_at s v (view_span c.args.span) p b)) (sym c.in-Some.is))

pub push_declared-returns-in-None : goal.push_declared-returns-in-None
unfolding at_declared
push_declared-returns-in-None g t c =
    let shown = g.S.ScalarValue.shown in
    let s = view_schema shown c.args.schema.now in
    let v = view_input shown c.args.value.now in
    let old = view_places c.args.places.now.items in
    sym (append-nil old) ∙ ap (λ o. old ++ at_declared (option_map (λ a. view_argument shown a.now) o) (λ p b. places_at s v (view_span c.args.span) p b))
    (sym c.in-None.is)

pub push_of_value-returns-in-Null : goal.push_of_value-returns-in-Null
unfolding places_at
push_of_value-returns-in-Null g t c =
    let shown = g.S.ScalarValue.shown in
    let s = view_schema shown c.args.schema.now in
    let old = view_places c.args.places.now.items in
    sym (append-nil old) ∙ ap (λ v. old ++ places_at s v (view_span c.args.span) (view_type c.args.expected.now) c.args.has_default)
    (sym (ap (view_input shown) c.in-Null.is ∙ view-Null shown))

pub push_of_value-returns-in-Scalar : goal.push_of_value-returns-in-Scalar
unfolding places_at
push_of_value-returns-in-Scalar g t c =
    let shown = g.S.ScalarValue.shown in
    let s = view_schema shown c.args.schema.now in
    let old = view_places c.args.places.now.items in
    sym (append-nil old) ∙ ap (λ v. old ++ places_at s v (view_span c.args.span) (view_type c.args.expected.now) c.args.has_default)
    (sym (ap (view_input shown) c.in-Scalar.is ∙ view-Scalar shown c.in-Scalar.field-0))

pub push_of_value-returns-in-Enum : goal.push_of_value-returns-in-Enum
unfolding places_at
push_of_value-returns-in-Enum g t c =
    let shown = g.S.ScalarValue.shown in
    let s = view_schema shown c.args.schema.now in
    let old = view_places c.args.places.now.items in
    sym (append-nil old) ∙ ap (λ v. old ++ places_at s v (view_span c.args.span) (view_type c.args.expected.now) c.args.has_default)
    (sym (ap (view_input shown) c.in-Enum.is ∙ view-Enum shown c.in-Enum.field-0))

pub push_of_value-returns-in_ok-push_place-in-Variable : goal.push_of_value-returns-in_ok-push_place-in-Variable
unfolding places_at
push_of_value-returns-in_ok-push_place-in-Variable g t c =
    let shown = g.S.ScalarValue.shown in
    let s = view_schema shown c.args.schema.now in
    let old = view_places c.args.places.now.items in
    let place = view_type c.args.expected.now in
    let at = view_span c.args.span in
    c.in_ok-push_place-in-Variable.ensures
    ∙ (ap (λ n. old ++ place_at n at place c.args.has_default ∷ []) c.as_str.ensures.value
    ∙ ap (λ v. old ++ places_at s v at place c.args.has_default) (sym (ap (view_input shown) c.in-Variable.is ∙ view-Variable shown c.in-Variable.name)))

pub push_of_value-returns-in_ok-push_of_items-in-List : goal.push_of_value-returns-in_ok-push_of_items-in-List
unfolding places_at
push_of_value-returns-in_ok-push_of_items-in-List g t c =
    let shown = g.S.ScalarValue.shown in
    let s = view_schema shown c.args.schema.now in
    let old = view_places c.args.places.now.items in
    let place = view_type c.args.expected.now in
    c.in_ok-push_of_items-in-List.ensures
    ∙ (ap (λ p. old ++ places_in_items s (view_items shown c.as_slice.result.now) p) c.item_type.ensures
    ∙ (ap (λ vs. old ++ places_in_items s (view_items shown vs) (item_type place)) c.as_slice.ensures.value
    ∙ ap (λ v. old ++ places_at s v (view_span c.args.span) place c.args.has_default)
    (sym (ap (view_input shown) c.in-List.is ∙ view-List shown c.in-List.items))))

pub push_of_value-returns-in_ok-push_of_fields-in-Object : goal.push_of_value-returns-in_ok-push_of_fields-in-Object
unfolding places_at
push_of_value-returns-in_ok-push_of_fields-in-Object g t c =
    let shown = g.S.ScalarValue.shown in
    let s = view_schema shown c.args.schema.now in
    let old = view_places c.args.places.now.items in
    let place = view_type c.args.expected.now in
    c.in_ok-push_of_fields-in-Object.ensures
    ∙ (ap (λ vs. old ++ places_in_fields s (view_fields shown vs) (map (view_argument shown) c.input_fields.result.now)) c.as_slice-in-Object.ensures.value
    ∙ (ap (λ ds. old ++ places_in_fields s (view_fields shown c.in-Object.fields.items) ds) c.input_fields.ensures
    ∙ ap (λ v. old ++ places_at s v (view_span c.args.span) place c.args.has_default)
    (sym (ap (view_input shown) c.in-Object.is ∙ view-Object shown c.in-Object.fields))))

pub push_of_items-loop-item-init : goal.push_of_items-loop-item-init
push_of_items-loop-item-init g t c = refl

pub push_of_items-loop-item-preserved : goal.push_of_items-loop-item-preserved
push_of_items-loop-item-preserved g t c =
    let shown = g.S.ScalarValue.shown in
    let l = c.loop-item in
    flat-next (places_of_item shown (view_schema shown c.args.schema.now) (view_type c.args.expected.now)) c.args.items.now
    (view_places c.args.places.now.items) l.item-index c.item-item.result
    (view_places l.places.items) (view_places c.push_of_value.new.places.items) c.loop-item-test.true c.item-item.is l.invariant c.in_ok-push_of_value.ensures

pub push_of_items-returns : goal.push_of_items-returns
push_of_items-returns g t c =
    let shown = g.S.ScalarValue.shown in
    let s = view_schema shown c.args.schema.now in
    let place = view_type c.args.expected.now in
    let old = view_places c.args.places.now.items in
    flat-all (places_of_item shown s place) c.args.items.now old c.loop-item.item-index
    (view_places c.loop-item.places.items) c.loop-item-test.false c.loop-item.invariant
    ∙ ap (λ l. old ++ l) (items-are shown s place c.args.items.now)

pub push_of_fields-loop-field-init : goal.push_of_fields-loop-field-init
push_of_fields-loop-field-init g t c = refl

pub push_of_fields-loop-field-preserved : goal.push_of_fields-loop-field-preserved
push_of_fields-loop-field-preserved g t c =
    let shown = g.S.ScalarValue.shown in
    let s = view_schema shown c.args.schema.now in
    let ds = map (view_argument shown) c.args.declared.now in
    let l = c.loop-field in
    let x = c.field-item.result in
    let before = view_places l.places.items in
    flat-next (places_of_field shown s ds) c.args.fields.now (view_places c.args.places.now.items) l.field-index x before
    (view_places c.push_declared.new.places.items) c.loop-field-test.true c.field-item.is l.invariant
    (c.in_ok-push_declared.ensures
    ∙ ap (λ o. before ++ at_declared o (λ p b. places_at s (view_input shown x.1.item) (view_span x.1.span) p b))
    (c.find_argument-found.ensures ∙ ap (declaration_in ds) c.as_str.ensures.value))

pub push_of_fields-returns : goal.push_of_fields-returns
push_of_fields-returns g t c =
    let shown = g.S.ScalarValue.shown in
    let s = view_schema shown c.args.schema.now in
    let ds = map (view_argument shown) c.args.declared.now in
    let old = view_places c.args.places.now.items in
    flat-all (places_of_field shown s ds) c.args.fields.now old c.loop-field.field-index
    (view_places c.loop-field.places.items) c.loop-field-test.false c.loop-field.invariant
    ∙ ap (λ l. old ++ l) (fields-are shown s ds c.args.fields.now)

pub push_of_fields-push_declared-requires : goal.push_of_fields-push_declared-requires
push_of_fields-push_declared-requires g t c κs within = (
  let size = the_size g.row.S g.S.laws in
      let most_of = (weighed-InputValue-Object-0-at-4 g.row.S.Denot).weight _ size in
      let at = at_most most_of c.args.fields.now c.loop-field.field-index c.field-item.result (omega arith) in
      let same : most_of c.field-item.result ≡ most_of (get_or c.args.fields.now c.loop-field.field-index c.field-item.result) = ap most_of c.field-item.is in
      omega (arith, c.decreases, at, same),
  search rules,
)
