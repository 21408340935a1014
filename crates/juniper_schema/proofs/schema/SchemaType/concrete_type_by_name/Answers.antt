use Rattle.std.proofs.Common.{Option, map, option_map, ap, sym, ◌∙◌}
use Rattle.graphql_spec.specs.Schema.{Entry}
use Rattle.graphql_spec.specs.BuiltIns.{introspection_types}
use Rattle.graphql_spec.specs.Fields.{entry_in, or_else, type_named}
use Rattle.juniper_meta.specs.MetaView.{own_entry, view_meta}
use Rattle.juniper_schema.specs.SchemaView.{meta_of, view_entries}
use Rattle.juniper_schema.proofs.Lookups.{found_first, found_then, shape_found}
use Rattle.juniper_schema.proofs.schema.SchemaType.concrete_type_by_name.Goals as goal

pub returns-in-Some-clause-meta : goal.returns-in-Some-clause-meta
returns-in-Some-clause-meta g c =
    let shown = g.S.ScalarValue.shown in
    (found_first (entry_in (view_entries shown c.args.self.now.types) c.args.name.now) (entry_in introspection_types c.args.name.now)
    (view_meta shown c.in-Some.meta.now) c.in-Some.ensures.meta).0

pub returns-in-Some-clause-shape : goal.returns-in-Some-clause-shape
unfolding type_named
returns-in-Some-clause-shape g c =
    let shown = g.S.ScalarValue.shown in
    (found_first (entry_in (view_entries shown c.args.self.now.types) c.args.name.now) (entry_in introspection_types c.args.name.now)
    (view_meta shown c.in-Some.meta.now) c.in-Some.ensures.meta).1

pub returns-in-None-clause-meta : goal.returns-in-None-clause-meta
returns-in-None-clause-meta g c =
    let shown = g.S.ScalarValue.shown in let n = c.args.name.now in
    let o : Option Entry = entry_in (view_entries shown c.args.self.now.types) n in
    c.find_meta.ensures ∙ (ap (λ es. option_map meta_of (entry_in es n)) (ap (map (own_entry shown)) c.deref.ensures.value ∙ c.args.self.now.introspected)
    ∙ sym (ap (option_map meta_of) (found_then o (entry_in introspection_types n) c.in-None.ensures.meta)))

pub returns-in-None-clause-shape : goal.returns-in-None-clause-shape
unfolding type_named
returns-in-None-clause-shape g c =
    let shown = g.S.ScalarValue.shown in let n = c.args.name.now in
    let o : Option Entry = entry_in (view_entries shown c.args.self.now.types) n in
    shape_found (view_meta shown) c.find_meta.result (or_else o (entry_in introspection_types n)) (returns-in-None-clause-meta g c)
