use Rattle.juniper_merging.proofs.uniting.Uniting.begin_alone.Goals as goal

pub returns-in_ok-single_node-in-None : goal.returns-in_ok-single_node-in-None
returns-in_ok-single_node-in-None c vs t H is = let r = c.in_ok-single_node-in-None.ensures vs t H is in (r.0, r.3)
