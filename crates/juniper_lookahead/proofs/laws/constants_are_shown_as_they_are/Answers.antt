use Rattle.std.proofs.Common.{◌≡◌, true, refl, sym, ap, ap₂}
use Rattle.std.proofs.lemmas.Bool.{and_parts, true≢false}
use Rattle.graphql_spec.specs.Shown.{Name}
use Rattle.graphql_spec.specs.Inputs.{Input, InputItems, InputFields, null, scalar, enumerated, variable, list, object, no_items, item, no_fields}
use Rattle.graphql_spec.specs.Inputs.{input_field, is_const, items_are_const, fields_are_const}
use Rattle.juniper_lookahead.specs.ShownValues.{replaced, replaced_items, replaced_fields, shown_value}
use Rattle.juniper_lookahead.proofs.laws.constants_are_shown_as_they_are.Goals as goal

module _ (stands : Name → Input) where
  mutual
    unfolding replaced is_const

    value-stays : (v : Input) → is_const v ≡ true → replaced stands v ≡ v
    value-stays null e = refl
    value-stays (scalar s) e = refl
    value-stays (enumerated n) e = refl
    value-stays (variable x) e = absurd (true≢false (sym e))
    value-stays (list is) e = ap list (items-stay is e)
    value-stays (object fs) e = ap object (fields-stay fs e)

    items-stay : (is : InputItems) → items_are_const is ≡ true → replaced_items stands is ≡ is
    items-stay no_items e = refl
    items-stay (item v at is) e =
        let both = and_parts (is_const v) (items_are_const is) e in
        ap₂ (λ w js. item w at js) (value-stays v both.0) (items-stay is both.1)

    fields-stay : (fs : InputFields) → fields_are_const fs ≡ true → replaced_fields stands fs ≡ fs
    fields-stay no_fields e = refl
    fields-stay (input_field k k_at v v_at fs) e =
        let both = and_parts (is_const v) (fields_are_const fs) e in
        ap₂ (λ w gs. input_field k k_at w v_at gs) (value-stays v both.0) (fields-stay fs both.1)

pub returns : goal.returns
unfolding shown_value
returns c vars v constant = value-stays _ v constant
