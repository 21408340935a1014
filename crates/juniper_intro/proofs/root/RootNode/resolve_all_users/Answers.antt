use Rattle.juniper_intro.proofs.root.RootNode.resolve_all_users.Goals as goal

pub returns : goal.returns
returns g c = c.in_ok-made.ensures _ _ c.in_ok-answered.ensures
