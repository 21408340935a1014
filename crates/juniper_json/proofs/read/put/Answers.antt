use Rattle.std.proofs.Common.{Some, string_bytes}
use Rattle.std.proofs.lemmas.Map.Text.{hash_map_updates_text}
use Rattle.serde_json.specs.View.{view}
use Rattle.juniper_json.proofs.Put.{put_text}
use Rattle.juniper_json.proofs.read.put.Goals as goal

pub returns : goal.returns
returns c =
    let old = c.args.made.now in let new = c.insert.new.self in let key = string_bytes c.in_ok-key.key in
    put_text old new key c.args.name.now c.in_ok-value.value (view c.args.value.now) c.in_ok-key.ensures.ok c.in_ok-value.ensures
    (hash_map_updates_text key old new (Some c.in_ok-value.value) c.in_ok-insert.ensures.updates)
