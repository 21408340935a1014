use Rattle.std.proofs.Common.{[], ◌∷◌}
use Rattle.juniper_rules.specs.Listing.{view_listed_on_types}
use Rattle.juniper_written.proofs.Lists.{IsFlatSoFar}
use Rattle.juniper_written.specs.WrittenView.{has_name}
use Rattle.juniper_explain.specs.Parts.{view_each}
use Rattle.juniper_explain.proofs.Reached.{reached_part}
use Rattle.juniper_explain.proofs.parts.parts_of.Given as goal

abbrev pub invariant-loop-part : goal.invariant-loop-part
invariant-loop-part g l =
    let shown = g.S.ScalarValue.shown in
    IsFlatSoFar (reached_part shown (has_name l.reached)) l.document (view_listed_on_types shown l.operation ∷ []) l.part-index
    (view_each shown l.parts.items)
