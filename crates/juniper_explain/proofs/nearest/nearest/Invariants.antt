use Rattle.std.proofs.Common.{◌≡◌, drop}
use Rattle.juniper_written.specs.WrittenView.{view_names}
use Rattle.juniper_explain.specs.NearView.{chosen}
use Rattle.juniper_explain.specs.Nearest.{nearest}
use Rattle.juniper_explain.proofs.nearest.nearest.Given as goal

-- the names that are left decide
abbrev pub invariant-loop-index : goal.invariant-loop-index
invariant-loop-index l = chosen l.near l.name (view_names (drop l.index l.names.items)) ≡ nearest l.name l.bound (view_names l.names.items)
