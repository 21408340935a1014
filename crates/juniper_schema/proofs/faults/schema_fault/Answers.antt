use Rattle.std.proofs.Common.{map, sym, ap, subst, ◌∙◌}
use Rattle.juniper_schema.specs.SchemaView.{view_schema}
use Rattle.juniper_schema.specs.Faults.{IsFirstFault, view_fault}
use Rattle.juniper_schema.specs.Searching.{view_named}
use Rattle.juniper_schema.proofs.Listing.{none_is_apart}
use Rattle.juniper_schema.proofs.Searched.{moved, searched, taken_first}
use Rattle.juniper_schema.proofs.faults.schema_fault.Goals as goal

pub returns-in-Some : goal.returns-in-Some
returns-in-Some g c differ =
    let s = view_schema g.S.ScalarValue.shown c.args.schema.now in
    subst (IsFirstFault s) (sym c.of_type.ensures)
    (taken_first s (map (λ n. n.now) c.in_ok-names.names.items) c.in-Some.name.now c.in_ok-names.ensures c.in-Some.ensures)

pub entries-requires : goal.entries-requires
entries-requires g c =
    none_is_apart (view_schema g.S.ScalarValue.shown c.args.schema.now) (map (λ n. n.now) c.in_ok-names.names.items) c.in_ok-names.ensures c.in-None.ensures

pub returns : goal.returns
returns g c differ =
    let shown = g.S.ScalarValue.shown in let s = view_schema shown c.args.schema.now in
    let ns = map (λ n. n.now) c.in_ok-names.names.items in
    moved view_fault c.fault_among.result _ _ (IsFirstFault s) c.fault_among.ensures
    (searched s ns (map (view_named shown) c.deref.result.now) c.in_ok-names.ensures (none_is_apart s ns c.in_ok-names.ensures c.in-None.ensures) differ
    (ap (map (view_named shown)) c.deref.ensures.value ∙ c.in_ok-entries-in-None.ensures))
