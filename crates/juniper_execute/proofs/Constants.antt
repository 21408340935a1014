-- A value without variables is itself, whatever values variables have (6.4.1).
use Rattle.std.proofs.Common.{◌≡◌, true, Some, ap, refl}
use Rattle.graphql_spec.specs.Inputs.{Input, InputItems, InputFields, Variables, const, const_fields, const_items, field_if, fields_are_const, is_const, items_are_const}
use Rattle.graphql_spec.specs.Inputs as inputs
use Rattle.std.proofs.lemmas.Bool.{and_parts}

mutual
  unfolding const const_items const_fields is_const items_are_const fields_are_const field_if

  pub const-same : (vars : Variables) (v : Input) → is_const v ≡ true → const vars v ≡ Some v
  const-same vars inputs.null e = refl
  const-same vars (inputs.scalar s) e = refl
  const-same vars (inputs.enumerated n) e = refl
  const-same vars (inputs.variable x) e = cc
  const-same vars (inputs.list is) e = ap (λ z. Some (inputs.list z)) (items-same vars is e)
  const-same vars (inputs.object fs) e = ap (λ z. Some (inputs.object z)) (fields-same vars fs e)

  items-same : (vars : Variables) (is : InputItems) → items_are_const is ≡ true → const_items vars is ≡ is
  items-same vars inputs.no_items e = refl
  items-same vars (inputs.item v at is) e =
      let p = and_parts (is_const v) (items_are_const is) e in
      rw (const-same vars v p.0, items-same vars is p.1) refl

  fields-same : (vars : Variables) (fs : InputFields) → fields_are_const fs ≡ true → const_fields vars fs ≡ fs
  fields-same vars inputs.no_fields e = refl
  fields-same vars (inputs.input_field k k_at v v_at fs) e =
      let p = and_parts (is_const v) (fields_are_const fs) e in
      rw (const-same vars v p.0, fields-same vars fs p.1) refl
