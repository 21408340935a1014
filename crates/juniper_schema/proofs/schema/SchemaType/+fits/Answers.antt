use Rattle.std.proofs.Common.{◌≡◌, get_or, refl, Bool, not, ◌&&◌, true, false, List, Option, option_map, sym, ap, ◌∙◌, arith, rules}
use denote.Param.Weighed.{at_most}
use Rattle.juniper_syntax.proofs.input.InputValue.TheLaws.{the_size}
use Rattle.juniper_syntax.specs.declared.input.InputValue.TheShapes.{weighed-InputValue-List-0-at-2, weighed-InputValue-Object-0-at-4}
use Rattle.graphql_spec.specs.Shown.{Name}
use Rattle.graphql_spec.specs.Schema.{InputDeclaration}
use Rattle.graphql_spec.specs.Types.{TypeRef}
use Rattle.graphql_spec.specs.Inputs.{object}
use Rattle.graphql_spec.specs.Fields.{declaration_in, type_named}
use Rattle.graphql_spec.specs.Fits.{all_fit, all_written, fields_fit, fits, input_object_fits, size_met}
use Rattle.juniper_meta.specs.MetaView.{view_type}
use Rattle.juniper_syntax.specs.InputView.{view_fields, view_input, view_items}
use Rattle.juniper_syntax.proofs.Inputs.{view-Null, view-Object}
use Rattle.juniper_schema.specs.Fitting.{declared_of, fits_some, list_fits}
use Rattle.juniper_schema.specs.SchemaView.{view_schema}
use Rattle.juniper_schema.proofs.Fitting.{count_is, fields_done, fields_pass, fields_stop, items_done, items_pass, items_stop, list_met, object_is, through_no}
use Rattle.juniper_schema.proofs.Fitting.{through_yes}
use Rattle.juniper_schema.proofs.TypeLevels.{view-List, view-NonNullList}
use Rattle.juniper_schema.proofs.schema.SchemaType.+fits.Goals as goal

pub object_stands-returns-then-not-takes_one : goal.object_stands-returns-then-not-takes_one
object_stands-returns-then-not-takes_one g t c =
    let shown = g.S.ScalarValue.shown in let s = view_schema shown c.args.self.now in let fs = view_fields shown c.args.fields.now in
    through_no (λ n. input_object_fits (λ ds. all_written fs ds && fields_fit s c.args.given fs ds) (type_named s n))
    (view_type c.args.reference.now) c.takes_one.result c.takes_one.ensures c.if-not-takes_one.true

pub object_stands-returns : goal.object_stands-returns
object_stands-returns g t c =
    let shown = g.S.ScalarValue.shown in let s = view_schema shown c.args.self.now in let fs = view_fields shown c.args.fields.now in
    through_yes (λ n. input_object_fits (λ ds. all_written fs ds && fields_fit s c.args.given fs ds) (type_named s n))
    (view_type c.args.reference.now) c.innermost_name.result.now c.object_fits.result
    c.takes_one.result c.takes_one.ensures c.if-not-takes_one.false c.innermost_name.ensures
    (c.object_fits.ensures ∙ object_is s c.args.given fs (type_named s c.innermost_name.result.now))

pub fits-returns-in-Object : goal.fits-returns-in-Object
unfolding fits
fits-returns-in-Object g t c =
    let shown = g.S.ScalarValue.shown in let s = view_schema shown c.args.self.now in let r = view_type c.args.reference.now in
    let seen = ap (view_input shown) c.in-Object.is ∙ view-Object shown c.in-Object.fields in
    c.object_stands.ensures ∙ (ap (λ fs. fits s c.args.given (object (view_fields shown fs)) r) c.as_slice-in-Object.ensures.value
    ∙ sym (ap (λ v. fits s c.args.given v r) seen))

pub list_fits-returns-then-is_met : goal.list_fits-returns-then-is_met
list_fits-returns-then-is_met g t c =
    let shown = g.S.ScalarValue.shown in let s = view_schema shown c.args.self.now in let is = view_items shown c.args.items.now in
    list_met s c.args.given is false c.in-List.size (view_type c.in-List.inner.value) c.is_met.result
    (c.is_met.ensures ∙ ap (size_met c.in-List.size) (sym (count_is shown c.args.items.now))) c.all_fit.result
    (c.all_fit.ensures ∙ (ap (λ u. all_fit s c.args.given is (view_type u)) c.deref.ensures
    ∙ sym (ap (λ b. b && all_fit s c.args.given is (view_type c.in-List.inner.value)) c.if-is_met.true)))
    ∙ sym (ap (list_fits s c.args.given is) (ap view_type c.in-List.is ∙ view-List c.in-List.inner c.in-List.size))

pub list_fits-returns-else-is_met : goal.list_fits-returns-else-is_met
list_fits-returns-else-is_met g t c =
    let shown = g.S.ScalarValue.shown in let s = view_schema shown c.args.self.now in let is = view_items shown c.args.items.now in
    list_met s c.args.given is false c.in-List.size (view_type c.in-List.inner.value) c.is_met.result
    (c.is_met.ensures ∙ ap (size_met c.in-List.size) (sym (count_is shown c.args.items.now))) c.is_met.result
    (c.if-is_met.false ∙ sym (ap (λ b. b && all_fit s c.args.given is (view_type c.in-List.inner.value)) c.if-is_met.false))
    ∙ sym (ap (list_fits s c.args.given is) (ap view_type c.in-List.is ∙ view-List c.in-List.inner c.in-List.size))

pub list_fits-returns-then-is_met-2 : goal.list_fits-returns-then-is_met-2
list_fits-returns-then-is_met-2 g t c =
    let shown = g.S.ScalarValue.shown in let s = view_schema shown c.args.self.now in let is = view_items shown c.args.items.now in
    list_met s c.args.given is true c.in-NonNullList.size (view_type c.in-NonNullList.inner.value) c.is_met-in-NonNullList.result
    (c.is_met-in-NonNullList.ensures ∙ ap (size_met c.in-NonNullList.size) (sym (count_is shown c.args.items.now)))
    c.all_fit-then-is_met-2.result (c.all_fit-then-is_met-2.ensures ∙ (ap (λ u. all_fit s c.args.given is (view_type u)) c.deref-then-is_met-2.ensures
    ∙ sym (ap (λ b. b && all_fit s c.args.given is (view_type c.in-NonNullList.inner.value)) c.if-is_met-2.true)))
    ∙ sym (ap (list_fits s c.args.given is) (ap view_type c.in-NonNullList.is ∙ view-NonNullList c.in-NonNullList.inner c.in-NonNullList.size))

pub list_fits-returns-else-is_met-2 : goal.list_fits-returns-else-is_met-2
list_fits-returns-else-is_met-2 g t c =
    let shown = g.S.ScalarValue.shown in let s = view_schema shown c.args.self.now in let is = view_items shown c.args.items.now in
    list_met s c.args.given is true c.in-NonNullList.size (view_type c.in-NonNullList.inner.value) c.is_met-in-NonNullList.result
    (c.is_met-in-NonNullList.ensures ∙ ap (size_met c.in-NonNullList.size) (sym (count_is shown c.args.items.now)))
    c.is_met-in-NonNullList.result (c.if-is_met-2.false ∙ sym (ap (λ b. b && all_fit s c.args.given is (view_type c.in-NonNullList.inner.value))
    c.if-is_met-2.false))
    ∙ sym (ap (list_fits s c.args.given is) (ap view_type c.in-NonNullList.is ∙ view-NonNullList c.in-NonNullList.inner c.in-NonNullList.size))

pub fits-returns-in-Null : goal.fits-returns-in-Null
unfolding fits
fits-returns-in-Null g t c =
    let shown = g.S.ScalarValue.shown in
    ap not c.is_non_null.ensures ∙ sym (ap (λ v. fits (view_schema shown c.args.self.now) c.args.given v (view_type c.args.reference.now))
    (ap (view_input shown) c.in-Null.is ∙ view-Null shown))

pub all_fit-loop-item-init : goal.all_fit-loop-item-init
all_fit-loop-item-init g t c = refl

pub all_fit-fits-requires : goal.all_fit-fits-requires
all_fit-fits-requires g t c κs within = (
  let size = the_size g.row.S g.S.laws in
      let most_of = (weighed-InputValue-List-0-at-2 g.row.S.Denot).weight _ size in
      let at = at_most most_of c.args.items.now c.loop-item.item-index c.item-item.result (omega arith) in
      let same : most_of c.item-item.result ≡ most_of (get_or c.args.items.now c.loop-item.item-index c.item-item.result) = ap most_of c.item-item.is in
      omega (arith, c.decreases, at, same),
  search rules,
)

pub all_fit-returns-then-not-fits : goal.all_fit-returns-then-not-fits
all_fit-returns-then-not-fits g t c =
    let shown = g.S.ScalarValue.shown in let l = c.loop-item in
    items_stop shown (view_schema shown c.args.self.now) c.args.given c.args.items.now l.item-index c.item-item.result (view_type c.args.reference.now)
    c.loop-item-test.true c.item-item.is (sym c.fits.ensures ∙ c.if-not-fits.true) ∙ l.invariant

pub all_fit-loop-item-preserved : goal.all_fit-loop-item-preserved
all_fit-loop-item-preserved g t c =
    let shown = g.S.ScalarValue.shown in let l = c.loop-item in
    items_pass shown (view_schema shown c.args.self.now) c.args.given c.args.items.now l.item-index c.item-item.result (view_type c.args.reference.now)
    c.loop-item-test.true c.item-item.is (sym c.fits.ensures ∙ c.if-not-fits.false) ∙ l.invariant

pub all_fit-returns : goal.all_fit-returns
all_fit-returns g t c =
    let shown = g.S.ScalarValue.shown in let l = c.loop-item in
    items_done shown (view_schema shown c.args.self.now) c.args.given c.args.items.now l.item-index (view_type c.args.reference.now) c.loop-item-test.false
    ∙ l.invariant

pub each_fits-loop-name-init : goal.each_fits-loop-name-init
each_fits-loop-name-init g t c = refl

pub each_fits-fits_some-requires : goal.each_fits-fits_some-requires
each_fits-fits_some-requires g t c κs within = (
  let size = the_size g.row.S g.S.laws in
      let most_of = (weighed-InputValue-Object-0-at-4 g.row.S.Denot).weight _ size in
      let at = at_most most_of c.args.fields.now c.loop-name.name-index c.loop-name-item.result (omega arith) in
      let same : most_of c.loop-name-item.result ≡ most_of (get_or c.args.fields.now c.loop-name.name-index c.loop-name-item.result) =
      ap most_of c.loop-name-item.is in
      omega (arith, at, same),
  search rules,
)

-- what the test of a field answers
field_as : {b : Bool} (f : TypeRef → Bool) (ds : List InputDeclaration) (n m : Name) (o : Option TypeRef) (r : Bool) → r ≡ fits_some f o →
    o ≡ option_map (λ d. d.of_type) (declaration_in ds n) → n ≡ m → r ≡ b → fits_some f (option_map (λ d. d.of_type) (declaration_in ds m)) ≡ b
field_as f ds n m o r tested found named is =
    sym (tested ∙ (ap (fits_some f) found ∙ ap (λ k. fits_some f (option_map (λ d. d.of_type) (declaration_in ds k))) named)) ∙ is

pub each_fits-returns-then-not-fits_some : goal.each_fits-returns-then-not-fits_some
each_fits-returns-then-not-fits_some g t c =
    let shown = g.S.ScalarValue.shown in let l = c.loop-name in let s = view_schema shown c.args.self.now in
    let ds = declared_of (type_named s c.args.type_name.now) in
    fields_stop shown s c.args.given c.args.fields.now l.name-index c.loop-name-item.result ds c.loop-name-test.true c.loop-name-item.is
    (field_as _ ds _ _ _ _ c.fits_some.ensures c.declared_type-reference.ensures c.as_str.ensures.value c.if-not-fits_some.true) ∙ l.invariant

pub each_fits-loop-name-preserved : goal.each_fits-loop-name-preserved
each_fits-loop-name-preserved g t c =
    let shown = g.S.ScalarValue.shown in let l = c.loop-name in let s = view_schema shown c.args.self.now in
    let ds = declared_of (type_named s c.args.type_name.now) in
    fields_pass shown s c.args.given c.args.fields.now l.name-index c.loop-name-item.result ds c.loop-name-test.true c.loop-name-item.is
    (field_as _ ds _ _ _ _ c.fits_some.ensures c.declared_type-reference.ensures c.as_str.ensures.value c.if-not-fits_some.false) ∙ l.invariant

pub each_fits-returns : goal.each_fits-returns
each_fits-returns g t c =
    let shown = g.S.ScalarValue.shown in let l = c.loop-name in let s = view_schema shown c.args.self.now in
    fields_done shown s c.args.given c.args.fields.now l.name-index (declared_of (type_named s c.args.type_name.now)) c.loop-name-test.false ∙ l.invariant
