use Rattle.juniper_field_graph.proofs.Holding.{list-put}
use Rattle.juniper_field_graph.proofs.overlapping_fields_can_be_merged.put_list_at.Goals as goal

pub returns : goal.returns
returns c = list-put c.args.listed.now c.insert.new.self c.args.name.now c.args.sets c.in_ok-insert.ensures.updates
