use Rattle.std.proofs.Common.{map}
use Rattle.std.specs.Vec.Iter.{into_iter_items}
use Rattle.juniper_json.specs.RefusalText.{view_refusal}
use Rattle.juniper_explain.proofs.Moved.{AreMoved}
use Rattle.juniper_endpoint.proofs.Explaining.{node_told}
use Rattle.juniper_endpoint.proofs.explained.refusals_of.Given as goal

-- what is written goes before what is left
abbrev pub invariant-loop-explanation : goal.invariant-loop-explanation
invariant-loop-explanation l =
    AreMoved node_told view_refusal (map node_told (into_iter_items l.initial.explanation-iterator)) l.refusals.items (into_iter_items l.explanation-iterator)
