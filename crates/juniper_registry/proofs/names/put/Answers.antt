use Rattle.std.proofs.Common.{Some, string_bytes}
use Rattle.std.proofs.lemmas.Map.Text.{hash_map_updates_text}
use Rattle.juniper_meta.specs.MetaView.{view_meta}
use Rattle.juniper_registry.proofs.Tables.{put_entry}
use Rattle.juniper_registry.proofs.names.put.Goals as goal

pub returns-clause-put : goal.returns-clause-put
returns-clause-put g c =
    let old = c.args.types.now in let new = c.insert.new.self in let key = c.args.name in
    put_entry (λ k. string_bytes k) (view_meta g.S.ScalarValue.shown) old.entries new.entries (string_bytes key) c.args.meta
    (hash_map_updates_text (string_bytes key) old new (Some c.args.meta) c.in_ok-insert.ensures.updates)
