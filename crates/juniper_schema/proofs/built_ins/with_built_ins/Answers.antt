use Rattle.std.proofs.Common.{codes, Option, string_bytes, ap}
use Rattle.graphql_spec.specs.Shown.{Name}
use Rattle.graphql_spec.specs.Schema.{Entry}
use Rattle.graphql_spec.specs.Fields.{entry_in}
use Rattle.juniper_meta.specs.MetaView.{entry_at, view_meta}
use Rattle.juniper_schema.specs.SchemaView.{view_entries}
use Rattle.juniper_schema.proofs.BuiltIns.{all_put, keys_differ, put_as, String', Boolean', Int', ID'}
use Rattle.juniper_schema.proofs.built_ins.with_built_ins.Goals as goal

pub returns : goal.returns
returns g c =
    let shown = g.S.ScalarValue.shown in
    let at0 : Name → Option Entry = entry_in (view_entries shown c.args.types) in
    let at1 : Name → Option Entry = entry_in (view_entries shown c.put_if.new.types) in
    let at2 : Name → Option Entry = entry_in (view_entries shown c.put_if-2.new.types) in
    let at3 : Name → Option Entry = entry_in (view_entries shown c.put_if-3.new.types) in
    let at4 : Name → Option Entry = entry_in (view_entries shown c.put_if-4.new.types) in
    record {
      held = all_put at0 at1 at2 at3 at4
          (put_as at0 at1 (codes "String") c.lacks-is_wanted.result _ _ String' c.lacks-is_wanted.ensures
          (ap (entry_at (codes "String")) c.in_ok-string_scalar.ensures) c.in_ok-put_if.ensures)
          (put_as at1 at2 (codes "Boolean") c.lacks-is_wanted-2.result _ _ Boolean' c.lacks-is_wanted-2.ensures
          (ap (entry_at (codes "Boolean")) c.in_ok-boolean_scalar.ensures) c.in_ok-put_if-2.ensures)
          (put_as at2 at3 (codes "Int") c.awaits-is_wanted.result _ _ Int' c.awaits-is_wanted.ensures
          (ap (entry_at (codes "Int")) c.in_ok-int_scalar.ensures) c.in_ok-put_if-3.ensures)
          (put_as at3 at4 (codes "ID") c.awaits-is_wanted-2.result _ _ ID' c.awaits-is_wanted-2.ensures
          (ap (entry_at (codes "ID")) c.in_ok-id_scalar.ensures) c.in_ok-put_if-4.ensures);
      distinct = keys_differ (λ k. string_bytes k) (view_meta shown) c.put_if-4.new.types.entries c.len-count.ensures.unique;
    }
