use Rattle.juniper_field_graph.proofs.Holding.{set-put}
use Rattle.juniper_field_graph.proofs.overlapping_fields_can_be_merged.put_set_at.Goals as goal

pub returns : goal.returns
returns c = set-put c.args.held.now c.insert.new.self c.args.name.now _ c.in_ok-insert.ensures.updates
