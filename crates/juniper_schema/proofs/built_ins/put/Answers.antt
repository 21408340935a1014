use Rattle.std.proofs.Common.{◌≡◌, cond, Some, bytes_eq, string_bytes, subst}
use Rattle.std.proofs.lemmas.Map.Text.{hash_map_updates_text}
use Rattle.graphql_spec.specs.Shown.{Name}
use Rattle.graphql_spec.specs.Fields.{entry_in}
use Rattle.juniper_meta.specs.MetaView.{entry_at, view_meta}
use Rattle.juniper_schema.specs.SchemaView.{view_entries}
use Rattle.juniper_schema.proofs.BuiltIns.{put_entry}
use Rattle.juniper_schema.proofs.built_ins.put.Goals as goal

pub returns : goal.returns
returns g c =
    let view = view_meta g.S.ScalarValue.shown in let old = c.args.types.now in let new = c.insert.new.self in let key = c.in_ok-key.key in
    subst (λ b. (n : Name) → entry_in (view_entries g.S.ScalarValue.shown new) n
    ≡ cond (bytes_eq n b) (Some (entry_at b (view c.args.meta))) (entry_in (view_entries g.S.ScalarValue.shown old) n)) c.in_ok-key.ensures.ok
    (put_entry (λ k. string_bytes k) view old.entries new.entries (string_bytes key) c.args.meta
    (hash_map_updates_text (string_bytes key) old new (Some c.args.meta) c.in_ok-insert.ensures.updates))
